use Rattle.std.proofs.Common.{sym, ◌∙◌}
use Rattle.trees.specs.Binding.{typing}
use Rattle.trees.specs.Node.{tree_at}
use Rattle.trees.proofs.binders.Reading.{typing_left}
use Rattle.tasks.specs.typed_trees.Types.{listed_types_at}
use Rattle.tasks.proofs.typed_trees.Putting.{told_by, variable_put, variable_left}
use Rattle.tasks.proofs.typed_trees.types.TypesPut.is_put.Goals as goal

pub returns-then-above_type_variables-eq0 : goal.returns-then-above_type_variables-eq0
returns-then-above_type_variables-eq0 c =
    let s = c.args.s.now in
    let e = tree_at s c.args.e in
    let tys = listed_types_at s c.args.self.now in
    told_by (typing tys) e c.args.depth e (λ d. typing_left tys e (sym c.above_type_variables.ensures ∙ c.if-above_type_variables-eq0.true) d) (tree_at s c.args.made) c.same.result c.same.ensures.trees

pub returns-in-Some : goal.returns-in-Some
returns-in-Some c =
    let s = c.args.s.now in
    let e = tree_at s c.args.e in
    let tys = listed_types_at s c.args.self.now in
    let x = tree_at s c.in-Some.known in
    told_by (typing tys) e c.args.depth x (variable_put tys e x c.in-TyVar.number c.in-TyVar.ensures.tree (sym c.in-Some.ensures.tree)) (tree_at s c.args.made) c.same-in-Some.result c.same-in-Some.ensures.trees

pub returns-in-None : goal.returns-in-None
returns-in-None c =
    let s = c.args.s.now in
    let e = tree_at s c.args.e in
    let tys = listed_types_at s c.args.self.now in
    told_by (typing tys) e c.args.depth e (variable_left tys e c.in-TyVar.number c.in-TyVar.ensures.tree (sym c.in-None.ensures.tree)) (tree_at s c.args.made) c.same-in-None.result c.same-in-None.ensures.trees
