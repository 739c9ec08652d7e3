use Rattle.std.proofs.Common.{◌≡◌, min, sym, ap, ◌∙◌}
use Rattle.trees.specs.declared.Sort.TheVariants.{Kind}
use Rattle.trees.specs.Tree.{above_ty_vars}
use Rattle.trees.specs.Binding.{change, typing}
use Rattle.trees.specs.declared.TermId.{TermId}
use Rattle.trees.specs.Node.{tree_at}
use Rattle.trees.specs.binders.Visits.{trees_at}
use Rattle.trees.proofs.binders.Lists.{held_at, type_at}
use Rattle.trees.proofs.binders.Telling.{left_is}
use Rattle.trees.proofs.binders.Reading.{typing_left}
use Rattle.trees.proofs.binders.TypingVisit.visit.Goals as goal

pub returns-then-above_type_variables-eq0-clause-visited :
    goal.returns-then-above_type_variables-eq0-clause-visited
returns-then-above_type_variables-eq0-clause-visited g c =
    let s = g.G.Grow.trees c.args.g.now in
    let e = tree_at s c.args.e in
    let tys = trees_at s c.args.self.now.types.now in
    let n : c.above_type_variables.result ≡ min (above_ty_vars e) 18446744073709551615 = rw c.store.ensures at c.above_type_variables.ensures in
    (c.requires.held, left_is (typing tys) e c.args.depth (λ d k. typing_left tys e (sym n ∙ c.if-above_type_variables-eq0.true) d))

pub returns-then-number-self-clause-visited : goal.returns-then-number-self-clause-visited
returns-then-number-self-clause-visited g c =
    let s = g.G.Grow.trees c.args.g.now in
    let ids = c.args.self.now.types.now in
    let j = c.in-TyVar.number in
    let t : TermId = record { 0 = 0 } in (
      held_at Kind s ids j t c.if-number-self.true c.requires.ready,
      record { is = λ d k. sym (ap (change (typing (trees_at s ids)) d) c.in-TyVar.ensures.tree ∙ type_at s ids j t c.if-number-self.true) },
    )
