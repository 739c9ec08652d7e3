use Rattle.std.proofs.Common.{◌≡◌, List, [], length, sym, ap, ◌∙◌, arith}
use Rattle.std.proofs.lemmas.Result.{IfOk-weaker}
use Rattle.trees.specs.Tree.{Tree}
use Rattle.trees.specs.Node.{tree_at, trees_at}
use Rattle.tasks.specs.Equations.{bound_variables}
use Rattle.tasks.specs.Inversion.{given_by_any}
use Rattle.tasks.proofs.Growth.{trees_later}
use Rattle.tasks.proofs.Lists.{split_all}
use Rattle.std.proofs.lemmas.List.Elements.{All-weaker}
use Rattle.trees.specs.Node.{Holds}
use Rattle.declarations.specs.spelled_groups.Making.{IsFormulaId}
use Rattle.declarations.proofs.spelled_groups.Making.{kinds_later, formulas_later, kind_trees, any_step, any_is, not_empty}
use Rattle.declarations.proofs.spelled_groups.inversions.+given_by_any.Goals as goal

pub given_by_any-requires : goal.given_by_any-requires
given_by_any-requires t c =
    let s = c.args.store.now in
    let s1 = c.given_by.new.store in
    let g = c.given_by.ensures.grows in
    let both = split_all (IsFormulaId s) c.args.clauses.now c.in-Some.first.now c.in-Some.rest.now c.in-Some.ensures.cases.0 c.requires.clauses in
    (omega (arith, ap length c.in-Some.ensures.cases.0), (kinds_later s s1 g c.args.types.now c.requires.types, formulas_later s s1 g c.in-Some.rest.now both.1))

pub returns-clause-tree : goal.returns-clause-tree
returns-clause-tree t c =
    let s = c.args.store.now in
    let s1 = c.given_by.new.store in
    let s2 = c.given_by_any.new.store in
    let g = c.given_by.ensures.grows in
    let rest = c.in-Some.rest.now in
    let xs = bound_variables (trees_at s c.args.types.now) in
    let both = split_all (IsFormulaId s) c.args.clauses.now c.in-Some.first.now rest c.in-Some.ensures.cases.0 c.requires.clauses in
    let some : rest ≡ [] → ⊥ = not_empty rest _ c.is_empty.ensures c.if-is_empty.false in
    let same : trees_at s1 rest ≡ trees_at s rest = trees_later s s1 g rest (All-weaker (IsFormulaId s) (Holds s) (λ id k. k.held) rest both.1) in
    let more : tree_at s2 c.in_ok-others.others ≡ given_by_any xs (trees_at s rest) =
    c.in_ok-others.ensures.tree ∙ ap (λ (z : List Tree). given_by_any (bound_variables z) (trees_at s1 rest)) (kind_trees s s1 g c.args.types.now c.requires.types) ∙ ap (given_by_any xs) same in
    rw c.in-Some.ensures.cases.0 (IfOk-weaker c.add-2.result _ _ (λ id h.
    any_is s1 s2 c.add-2.new.self c.in_ok-others.ensures.grows xs (tree_at s c.in-Some.first.now) c.in_ok-given.given c.in_ok-others.others (given_by_any xs (trees_at s rest)) _ c.in_ok-given.ensures.formula.held c.in_ok-given.ensures.tree more h
    ∙ sym (any_step s xs (tree_at s c.in-Some.first.now) rest some)) c.add-2.ensures.tree)
