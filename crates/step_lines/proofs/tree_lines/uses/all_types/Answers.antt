use Rattle.std.proofs.Common.{◌++◌, List, IfSome, Option, sym, ap, subst, ◌∙◌}
use Rattle.trees.specs.declared.TermId.{TermId}
use Rattle.trees.specs.binders.Visits.{HoldTypes}
use Rattle.step_lines.specs.tree_lines.Words.{texts}
use Rattle.step_lines.proofs.tree_lines.Growing.{types_held, types_joined}
use Rattle.step_lines.proofs.tree_lines.Making.{types_made, types_missing, each_types}
use Rattle.step_lines.proofs.tree_lines.uses.all_types.Goals as goal

pub things_at-requires : goal.things_at-requires
things_at-requires c = types_held c.args.store.now c.args.x.now.types.now c.requires.known.types

pub returns-in_default-clause-trees : goal.returns-in_default-clause-trees
returns-in_default-clause-trees c =
    let e = rw c.in_default.is at c.in_ok-more.ensures in
    types_missing c.args.store.now c.args.x.now.types.now (texts c.args.words.now) c.args.named.types.items e

pub returns-clause-trees : goal.returns-clause-trees
returns-clause-trees c =
    let e = rw c.in-Some.is at c.in_ok-more.ensures in
    let all = c.in_ok-extend_from_slice.ensures.items ∙ ap (λ (l : List TermId). c.args.named.types.items ++ l) c.deref.ensures.value in
    types_made c.args.store.now c.args.x.now.types.now (texts c.args.words.now) c.args.named.types.items c.in-Some.more.items c.extend_from_slice.new.self.items e all

pub returns-clause-held : goal.returns-clause-held
returns-clause-held c =
    let s = c.args.store.now in
    let e = rw c.in-Some.is at c.in_ok-more.ensures in
    let all = c.in_ok-extend_from_slice.ensures.items ∙ ap (λ (l : List TermId). c.args.named.types.items ++ l) c.deref.ensures.value in
    let more : HoldTypes s c.in-Some.more.items = subst (λ (o : Option (List TermId)). IfSome o (HoldTypes s)) (sym e) (each_types s c.args.x.now.types.now (texts c.args.words.now) c.requires.known.types) in
    subst (HoldTypes s) (sym all) (types_joined s c.args.named.types.items c.in-Some.more.items c.requires.named more)
