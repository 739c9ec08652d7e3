use Rattle.std.proofs.Common.{sym, ◌∙◌, arith}
use Rattle.trees.specs.declared.Sort.TheVariants.{Kind}
use Rattle.trees.specs.Binding.{typing}
use Rattle.trees.specs.Node.{tree_at}
use Rattle.trees.specs.binders.Visits.{trees_at}
use Rattle.trees.proofs.binders.Lists.{held_at}
use Rattle.trees.proofs.binders.Telling.{left_told}
use Rattle.trees.proofs.binders.Reading.{typing_left}
use Rattle.trees.proofs.binders.instances.TypedPut.is_put.Goals as goal

pub returns-then-above_type_variables-eq0 : goal.returns-then-above_type_variables-eq0
returns-then-above_type_variables-eq0 c =
    let s = c.args.s.now in
    let e = tree_at s c.args.e in
    let tys = trees_at s c.args.self.now.types.now in
    left_told (typing tys) e c.args.depth (λ d k. typing_left tys e (sym c.above_type_variables.ensures ∙ c.if-above_type_variables-eq0.true) d) (tree_at s c.args.made) c.same.result c.same.ensures.trees

pub same-requires-then-number-self-clause-b_held :
    goal.same-requires-then-number-self-clause-b_held
same-requires-then-number-self-clause-b_held c = held_at Kind c.args.s.now c.args.self.now.types.now c.in-TyVar.number (record { 0 = 0 }) (omega arith) c.requires.ready
