use Rattle.std.proofs.Common.{◌≡◌, List, ap, ◌∙◌}
use Rattle.std.proofs.lemmas.Result.{IfOk-weaker}
use Rattle.std.proofs.lemmas.List.Elements.{All-weaker}
use Rattle.trees.specs.Tree.{Tree}
use Rattle.trees.specs.Node.{tree_at, trees_at, Holds}
use Rattle.trees.proofs.Nodes.{Grows_trans}
use Rattle.tasks.specs.Equations.{cells, bound_variables, for_all}
use Rattle.tasks.specs.Inversion.{given_by_any}
use Rattle.tasks.proofs.Growth.{tree_later, trees_later}
use Rattle.declarations.specs.spelled_groups.Making.{IsFormulaId}
use Rattle.declarations.proofs.spelled_groups.Making.{kind_trees, inversion_is}
use Rattle.declarations.proofs.spelled_groups.inversions.inversion.Goals as goal

pub returns-clause-tree : goal.returns-clause-tree
returns-clause-tree c =
    let s = c.args.store.now in
    let s1 = c.own_types.new.store in
    let s2 = c.parameters_list.new.store in
    let s3 = c.add.new.self in
    let s4 = c.given_by_any.new.store in
    let s5 = c.add-2.new.self in
    let g1 = c.in_ok-types.ensures.grows in
    let g2 = c.in_ok-variables.ensures.grows in
    let g3 = c.in_ok-atom.ensures.grows in
    let g4 = c.in_ok-given.ensures.grows in
    let g5 = c.in_ok-inner.ensures.grows in
    let g13 = Grows_trans s s2 s3 (Grows_trans s s1 s2 g1 g2) g3 in
    let g15 = Grows_trans s s4 s5 (Grows_trans s s3 s4 g13 g4) g5 in
    let args = c.args.info.now.args in
    let clauses = c.args.clauses.now in
    let a1 = kind_trees s s1 g1 args c.requires.args in
    let a3 = kind_trees s s3 g13 args c.requires.args in
    let a5 = kind_trees s s5 g15 args c.requires.args in
    let c3 : trees_at s3 clauses ≡ trees_at s clauses = trees_later s s3 g13 clauses (All-weaker (IsFormulaId s) (Holds s) (λ id k. k.held) clauses c.requires.clauses) in
    let types = tree_later s1 s2 g2 c.in_ok-types.types c.in_ok-types.ensures.held ∙ c.in_ok-types.ensures.tree in
    let variables : tree_at s2 c.in_ok-variables.variables ≡ cells (bound_variables (trees_at s args)) =
    rw c.as_slice-args.ensures at c.in_ok-variables.ensures.tree ∙ ap (λ (z : List Tree). cells (bound_variables z)) a1 in
    let atom = tree_later s3 s4 g4 c.in_ok-atom.atom c.in_ok-atom.ensures.held ∙ c.in_ok-atom.ensures.tree in
    let given : tree_at s4 c.in_ok-given.given ≡ given_by_any (bound_variables (trees_at s args)) (trees_at s clauses) =
    rw c.as_slice-args.ensures at c.in_ok-given.ensures.tree ∙ ap (λ (z : List Tree). given_by_any (bound_variables z) (trees_at s3 clauses)) a3 ∙ ap (given_by_any (bound_variables (trees_at s args))) c3 in
    IfOk-weaker c.quantify_formula.result _ _ (λ id h.
    inversion_is c.args.symbol c.args.info.now.vars (trees_at s args) (trees_at s clauses) (tree_at s2 c.in_ok-types.types) (tree_at s2 c.in_ok-variables.variables) (tree_at s4 c.in_ok-atom.atom) (tree_at s4 c.in_ok-given.given) (tree_at s5 c.in_ok-inner.inner) _
    types variables atom given c.in_ok-inner.ensures.tree (rw c.as_slice-args.ensures at h ∙ ap (λ (z : List Tree). for_all z (tree_at s5 c.in_ok-inner.inner)) a5)) c.quantify_formula.ensures.tree
