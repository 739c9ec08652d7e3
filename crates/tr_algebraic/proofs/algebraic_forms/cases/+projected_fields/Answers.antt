use Rattle.std.proofs.Common.{◌≡◌, ◌∷◌, length, ap, ◌∙◌, arith}
use Rattle.trees.specs.Tree.{Tree, Two, HCell}
use Rattle.trees.specs.Node.{tree_at, trees_at}
use Rattle.tasks.specs.Equations.{cells}
use Rattle.tasks.proofs.Growth.{tree_later}
use Rattle.declarations.proofs.spelled_groups.Making.{kind_later, first_kind, rest_kinds}
use Rattle.tr_algebraic.specs.algebraic_forms.Formulas.{field_of, projected_fields}
use Rattle.tr_algebraic.proofs.algebraic_forms.Making.{own_later, term_later}
use Rattle.tr_algebraic.proofs.algebraic_forms.cases.+projected_fields.Goals as goal

pub projected_fields-requires : goal.projected_fields-requires
projected_fields-requires t c = (
  omega (arith, ap length c.in-Some.ensures.cases.0),
  (c.requires.own, (rest_kinds c.args.store.now c.args.types.now c.in-Some-split_first.ty.now c.in-Some-split_first.rest.now c.in-Some-split_first.ensures.cases.0 c.requires.types, c.requires.term)),
)

pub field_of-requires-clause-own : goal.field_of-requires-clause-own
field_of-requires-clause-own t c = own_later c.args.store.now c.projected_fields.new.store c.in_ok-list.ensures.grows c.args.own.symbol c.args.own.vars c.args.own c.requires.own

pub field_of-requires-clause-term : goal.field_of-requires-clause-term
field_of-requires-clause-term t c = term_later c.args.store.now c.projected_fields.new.store c.in_ok-list.ensures.grows c.args.term c.requires.term

pub field_of-requires-clause-ty : goal.field_of-requires-clause-ty
field_of-requires-clause-ty t c =
    kind_later c.args.store.now c.projected_fields.new.store c.in_ok-list.ensures.grows c.in-Some-split_first.ty.now (first_kind c.args.store.now c.args.types.now c.in-Some-split_first.ty.now c.in-Some-split_first.rest.now c.in-Some-split_first.ensures.cases.0 c.requires.types)

pub returns-clause-tree : goal.returns-clause-tree
returns-clause-tree t c =
    let s = c.args.store.now in
    let s1 = c.projected_fields.new.store in
    let s2 = c.field_of.new.store in
    let g = c.in_ok-list.ensures.grows in
    let ty = c.in-Some-split_first.ty.now in
    let rest = c.in-Some-split_first.rest.now in
    let p = c.in-Some.projection.now in
    let vars = c.args.own.vars in
    let x = tree_at s c.args.term in
    let k = first_kind s c.args.types.now ty rest c.in-Some-split_first.ensures.cases.0 c.requires.types in
    let field : tree_at s2 c.in_ok-field.field ≡ field_of vars p (tree_at s ty) x =
    c.in_ok-field.ensures.tree ∙ ap (λ (z : Tree). field_of vars p z (tree_at s1 c.args.term)) (tree_later s s1 g ty k.held) ∙ ap (field_of vars p (tree_at s ty)) (tree_later s s1 g c.args.term c.requires.term.held) in
    let list : tree_at s2 c.in_ok-list.list ≡ cells (projected_fields vars c.in-Some.others.now (trees_at s rest) x) = tree_later s1 s2 c.in_ok-field.ensures.grows c.in_ok-list.list c.in_ok-list.ensures.terms.held ∙ c.in_ok-list.ensures.tree in
    let both : Two HCell (tree_at s2 c.in_ok-field.field) (tree_at s2 c.in_ok-list.list) ≡ cells (projected_fields vars (p ∷ c.in-Some.others.now) (tree_at s ty ∷ trees_at s rest) x) =
    ap (λ (e : Tree). Two HCell e (tree_at s2 c.in_ok-list.list)) field ∙ ap (Two HCell (field_of vars p (tree_at s ty) x)) list in
    rw (c.in-Some.ensures.cases.0, c.in-Some-split_first.ensures.cases.0) (c.in_ok-made.ensures.tree ∙ both)
