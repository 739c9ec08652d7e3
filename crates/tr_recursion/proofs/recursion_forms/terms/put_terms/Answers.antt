use Rattle.std.proofs.Common.{ap, ◌∙◌, arith}
use Rattle.std.proofs.lemmas.Result.{IfOk-weaker}
use Rattle.trees.specs.Binding.{instantiating_many}
use Rattle.trees.specs.Node.{tree_at, trees_at}
use Rattle.trees.specs.Sorts.{sort_of}
use Rattle.trees.proofs.Sizes.{sorted_fits}
use Rattle.trees.specs.laws.Sorts.{sort_of-change}
use Rattle.trees.specs.binders.Visits.{sorts_many}
use Rattle.tr_recursion.proofs.recursion_forms.Room.{many_fits}
use Rattle.tr_recursion.proofs.recursion_forms.terms.put_terms.Goals as goal

pub inst_many-requires-clause-fits : goal.inst_many-requires-clause-fits
inst_many-requires-clause-fits c =
    let s = c.args.store.now in
    let e = tree_at s c.args.e in
    let room = c.room_of-room.result in
    many_fits e (trees_at s c.args.terms.now) room (c.room_of-room.ensures (omega arith)) (sorted_fits e (c.laws.ensures.sorted c.args.e c.requires.e)) (omega arith)

pub returns-clause-sort : goal.returns-clause-sort
returns-clause-sort c =
    let s = c.args.store.now in
    let ts = c.args.terms.now in
    IfOk-weaker c.inst_many.result _ _ (λ id h. ap sort_of h ∙ sort_of-change (instantiating_many (trees_at s ts)) (sorts_many s ts c.requires.terms) 0 (tree_at s c.args.e)) c.inst_many.ensures.tree
