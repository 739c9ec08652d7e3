use Rattle.std.proofs.Common.{◌≡◌, ◌<◌, ◌+◌, length, option_map, sym, ap, ◌∙◌, arith}
use Rattle.std.proofs.Math.ListN.{length-map}
use Rattle.trees.specs.Tree.{Tree, One, Two, HBound, HEq}
use Rattle.trees.specs.Node.{tree_at, trees_at}
use Rattle.trees.proofs.Nodes.{Grows_trans}
use Rattle.tasks.specs.Equations.{bound_variables}
use Rattle.tasks.specs.Inversion.{argument_equations}
use Rattle.tasks.proofs.Growth.{tree_later}
use Rattle.declarations.specs.spelled_groups.Making.{conjoined}
use Rattle.declarations.proofs.spelled_groups.Making.{first_kind, rest_kinds, kind_later, cell_terms, option_trees, equations_step}
use Rattle.declarations.proofs.spelled_groups.inversions.+argument_equations.Goals as goal

pub argument_equations-requires : goal.argument_equations-requires
argument_equations-requires t c =
    let s = c.args.store.now in
    let list = rw c.in-Cell.ensures.tree at c.requires.list in
    let fits = rw c.in-Cell.ensures.tree at c.in-Cell.ensures.fits in
    let terms = cell_terms (tree_at s c.in-Cell.term) (tree_at s c.in-Cell.others) list fits in
    let b : c.in-Cell.others.0 < c.args.args.0 = c.in-Cell.ensures.below.1 in
    (omega (arith, ap length c.in-Some.ensures.cases.0), (rest_kinds s c.args.types.now c.in-Some.first.now c.in-Some.rest.now c.in-Some.ensures.cases.0 c.requires.types, (omega (arith, b, c.requires.args), terms.1)))

pub variable-requires : goal.variable-requires
variable-requires t c =
    let s = c.args.store.now in
    kind_later s c.argument_equations.new.store c.argument_equations.ensures.grows c.in-Some.first.now (first_kind s c.args.types.now c.in-Some.first.now c.in-Some.rest.now c.in-Some.ensures.cases.0 c.requires.types)

pub returns-in_ok-conjunction_with-in-Cell-clause-tree : goal.returns-in_ok-conjunction_with-in-Cell-clause-tree
returns-in_ok-conjunction_with-in-Cell-clause-tree t c =
    let s = c.args.store.now in
    let s1 = c.argument_equations.new.store in
    let s2 = c.variable.new.store in
    let s3 = c.add.new.self in
    let g1 = c.in_ok-more-in-Cell.ensures.grows in
    let g2 = c.in_ok-variable-in-Cell.ensures.grows in
    let g3 = c.in_ok-equation-in-Cell.ensures.grows in
    let ty = c.in-Some.first.now in
    let rest = c.in-Some.rest.now in
    let k = first_kind s c.args.types.now ty rest c.in-Some.ensures.cases.0 c.requires.types in
    let b : c.in-Cell.term.0 < c.args.args.0 = c.in-Cell.ensures.below.0 in
    let held : c.in-Cell.term.0 < length s = omega (arith, b, c.requires.args) in
    let x : tree_at s2 c.in_ok-variable-in-Cell.variable ≡ One (HBound (c.args.depth + length rest)) (tree_at s ty) = c.in_ok-variable-in-Cell.ensures.tree ∙ ap (One (HBound (c.args.depth + length rest))) (tree_later s s1 g1 ty k.held) in
    let y : tree_at s2 c.in-Cell.term ≡ tree_at s c.in-Cell.term = tree_later s s2 (Grows_trans s s1 s2 g1 g2) c.in-Cell.term held in
    let e : tree_at s3 c.in_ok-equation-in-Cell.equation ≡ Two HEq (One (HBound (c.args.depth + length rest)) (tree_at s ty)) (tree_at s c.in-Cell.term) =
    c.in_ok-equation-in-Cell.ensures.tree ∙ ap (λ (z : Tree). Two HEq z (tree_at s2 c.in-Cell.term)) x ∙ ap (Two HEq (One (HBound (c.args.depth + length rest)) (tree_at s ty))) y in
    let m : option_map (tree_at s3) c.in_ok-more-in-Cell.more ≡ conjoined (argument_equations c.args.depth (bound_variables (trees_at s rest)) (tree_at s c.in-Cell.others)) =
    option_trees s1 s3 (Grows_trans s1 s2 s3 g2 g3) c.in_ok-more-in-Cell.more c.in_ok-more-in-Cell.ensures.formula ∙ c.in_ok-more-in-Cell.ensures.tree in
    rw (c.in-Some.ensures.cases.0, c.in-Cell.ensures.tree) (equations_step c.args.depth (length rest) (tree_at s ty) (tree_at s c.in-Cell.term) (tree_at s c.in-Cell.others) (tree_at s3 c.in_ok-equation-in-Cell.equation) (trees_at s rest) (option_map (tree_at s3) c.in_ok-more-in-Cell.more) _ c.in_ok-conjunction_with-in-Cell.ensures.tree e (sym (length-map rest (tree_at s))) m)
