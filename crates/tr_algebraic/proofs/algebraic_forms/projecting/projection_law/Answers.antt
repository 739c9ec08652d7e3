use Rattle.std.proofs.Common.{◌≡◌, ◌+◌, List, ap, ◌∙◌}
use Rattle.trees.specs.Tree.{Tree, Two, HEq}
use Rattle.trees.specs.Binding.{Bound}
use Rattle.trees.specs.Node.{tree_at, trees_at}
use Rattle.trees.specs.Sorts.{sort_of}
use Rattle.trees.proofs.Nodes.{Grows_trans}
use Rattle.tasks.specs.Equations.{for_all}
use Rattle.tasks.specs.Meaning.{con_at}
use Rattle.tasks.proofs.Growth.{tree_later}
use Rattle.declarations.proofs.spelled_groups.Making.{kind_later, kinds_later, kind_trees}
use Rattle.tr_algebraic.specs.algebraic_forms.Formulas.{con_on, field_of, variables_under}
use Rattle.tr_algebraic.proofs.algebraic_forms.Making.{own_later, term_later}
use Rattle.tr_algebraic.proofs.algebraic_forms.projecting.projection_law.Goals as goal

pub field_of-requires-clause-own : goal.field_of-requires-clause-own
field_of-requires-clause-own c = own_later c.args.store.now c.con_on_variables.new.store c.in_ok-whole.ensures.grows c.args.own.symbol c.args.own.vars c.args.own c.requires.own

pub field_of-requires-clause-ty : goal.field_of-requires-clause-ty
field_of-requires-clause-ty c = kind_later c.args.store.now c.con_on_variables.new.store c.in_ok-whole.ensures.grows c.args.ty c.requires.ty

pub variable-requires : goal.variable-requires
variable-requires c =
    kind_later c.args.store.now c.field_of.new.store (Grows_trans c.args.store.now c.con_on_variables.new.store c.field_of.new.store c.in_ok-whole.ensures.grows c.in_ok-field.ensures.grows) c.args.ty c.requires.ty

pub add-requires-clause-fits : goal.add-requires-clause-fits
add-requires-clause-fits c = (((term_later c.field_of.new.store c.variable.new.store c.in_ok-value.ensures.grows c.in_ok-field.field c.in_ok-field.ensures.term).term, c.in_ok-value.ensures.term.term), tt)

pub quantify-requires-clause-types : goal.quantify-requires-clause-types
quantify-requires-clause-types c =
    let s = c.args.store.now in
    let s2 = c.field_of.new.store in
    let s3 = c.variable.new.store in
    let g2 = Grows_trans s c.con_on_variables.new.store s2 c.in_ok-whole.ensures.grows c.in_ok-field.ensures.grows in
    rw c.as_slice.ensures (kinds_later s c.add.new.self (Grows_trans s s3 c.add.new.self (Grows_trans s s2 s3 g2 c.in_ok-value.ensures.grows) c.in_ok-equation.ensures.grows) c.args.con.now.fields c.requires.con)

pub quantify-requires-clause-formula : goal.quantify-requires-clause-formula
quantify-requires-clause-formula c = record { held = c.in_ok-equation.ensures.held; formula = ap sort_of c.in_ok-equation.ensures.tree }

pub returns-clause-tree : goal.returns-clause-tree
returns-clause-tree c =
    let s = c.args.store.now in
    let s1 = c.con_on_variables.new.store in
    let s2 = c.field_of.new.store in
    let s3 = c.variable.new.store in
    let s4 = c.add.new.self in
    let g1 = c.in_ok-whole.ensures.grows in
    let g2 = Grows_trans s s1 s2 g1 c.in_ok-field.ensures.grows in
    let g4 = Grows_trans s s3 s4 (Grows_trans s s2 s3 g2 c.in_ok-value.ensures.grows) c.in_ok-equation.ensures.grows in
    let con = c.args.con.now in
    let ty = c.args.ty in
    let vars = c.args.own.vars in
    let p = c.args.projection in
    let whole : Tree = con_on c.args.own.symbol vars (con_at s con) (variables_under 0 (trees_at s con.fields)) in
    let x : Tree = Bound (0 + c.args.inner) (tree_at s ty) in
    let field : tree_at s3 c.in_ok-field.field ≡ field_of vars p (tree_at s ty) whole =
    tree_later s2 s3 c.in_ok-value.ensures.grows c.in_ok-field.field c.in_ok-field.ensures.term.held ∙ c.in_ok-field.ensures.tree ∙ ap (λ (z : Tree). field_of vars p z (tree_at s1 c.in_ok-whole.whole)) (tree_later s s1 g1 ty c.requires.ty.held)
    ∙ ap (field_of vars p (tree_at s ty)) c.in_ok-whole.ensures.tree in
    let is : tree_at s3 c.in_ok-value.value ≡ x = c.in_ok-value.ensures.tree ∙ ap (Bound (0 + c.args.inner)) (tree_later s s2 g2 ty c.requires.ty.held) in
    let equation : tree_at s4 c.in_ok-equation.equation ≡ Two HEq (field_of vars p (tree_at s ty) whole) x =
    c.in_ok-equation.ensures.tree ∙ ap (λ (z : Tree). Two HEq z (tree_at s3 c.in_ok-value.value)) field ∙ ap (Two HEq (field_of vars p (tree_at s ty) whole)) is in
    (rw c.as_slice.ensures at c.in_ok-made.ensures.tree) ∙ ap (λ (z : List Tree). for_all z (tree_at s4 c.in_ok-equation.equation)) (kind_trees s s4 g4 con.fields c.requires.con) ∙ ap (for_all (trees_at s con.fields)) equation
