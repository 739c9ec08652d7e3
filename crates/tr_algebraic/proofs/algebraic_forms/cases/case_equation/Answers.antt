use Rattle.std.proofs.Common.{◌≡◌, ap, ◌∙◌}
use Rattle.trees.specs.Tree.{Tree, Two, Three, HEq, HFun}
use Rattle.trees.specs.Node.{tree_at, trees_at}
use Rattle.trees.specs.Sorts.{sort_of}
use Rattle.trees.proofs.Nodes.{Grows_trans}
use Rattle.tasks.specs.Equations.{cells}
use Rattle.tasks.specs.Meaning.{con_at}
use Rattle.tasks.proofs.Growth.{tree_later}
use Rattle.tr_algebraic.specs.algebraic_forms.Formulas.{own_type_list, con_on, projected_fields}
use Rattle.tr_algebraic.proofs.algebraic_forms.Making.{own_later, term_later}
use Rattle.tr_algebraic.proofs.algebraic_forms.cases.case_equation.Goals as goal

pub projected_fields-requires-clause-types : goal.projected_fields-requires-clause-types
projected_fields-requires-clause-types c = rw c.as_slice.ensures c.requires.con

pub apply-requires-clause-own : goal.apply-requires-clause-own
apply-requires-clause-own c = own_later c.args.store.now c.projected_fields.new.store c.in_ok-args.ensures.grows c.args.own.symbol c.args.own.vars c.args.own c.requires.own

pub apply-requires-clause-ty : goal.apply-requires-clause-ty
apply-requires-clause-ty c = (own_later c.args.store.now c.projected_fields.new.store c.in_ok-args.ensures.grows c.args.own.symbol c.args.own.vars c.args.own c.requires.own).type

pub add-requires-clause-fits : goal.add-requires-clause-fits
add-requires-clause-fits c =
    let s = c.args.store.now in
    let s2 = c.apply.new.store in
    (((term_later s s2 (Grows_trans s c.projected_fields.new.store s2 c.in_ok-args.ensures.grows c.in_ok-whole.ensures.grows) c.args.term c.requires.term).term, c.in_ok-whole.ensures.term.term), tt)

pub returns-clause-formula : goal.returns-clause-formula
returns-clause-formula c = record { held = c.in_ok-made.ensures.held; formula = ap sort_of c.in_ok-made.ensures.tree }

pub returns-clause-tree : goal.returns-clause-tree
returns-clause-tree c =
    let s = c.args.store.now in
    let s1 = c.projected_fields.new.store in
    let s2 = c.apply.new.store in
    let g1 = c.in_ok-args.ensures.grows in
    let vars = c.args.own.vars in
    let con = c.args.con.now in
    let x = tree_at s c.args.term in
    let own = own_later s s1 g1 c.args.own.symbol vars c.args.own c.requires.own in
    let args : Tree = cells (projected_fields vars con.projections (trees_at s con.fields) x) in
    let whole : tree_at s2 c.in_ok-whole.whole ≡ con_on c.args.own.symbol vars (con_at s con) (projected_fields vars con.projections (trees_at s con.fields) x) =
    c.in_ok-whole.ensures.tree ∙ ap (λ (z : Tree). Three (HFun con.symbol) (own_type_list vars) z (tree_at s1 c.args.own.ty)) (rw (c.as_slice.ensures, c.as_slice-projections.ensures) at c.in_ok-args.ensures.tree) ∙ ap (Three (HFun con.symbol) (own_type_list vars) args) own.type_is in
    c.in_ok-made.ensures.tree ∙ ap (λ (z : Tree). Two HEq z (tree_at s2 c.in_ok-whole.whole)) (tree_later s s2 (Grows_trans s s1 s2 g1 c.in_ok-whole.ensures.grows) c.args.term c.requires.term.held) ∙ ap (Two HEq x) whole
