use Rattle.std.proofs.Common.{◌≡◌, List, refl, sym, subst, ◌∙◌}
use Rattle.trees.specs.Tree.{Tree, Two, HCase}
use Rattle.trees.specs.Node.{tree_at}
use Rattle.tr_recursion.proofs.constructor_matches.FirstBranches.{chosen_moved}
use Rattle.tr_recursion.proofs.constructor_matches.matches.alike_chosen.Goals as goal

pub alike_branches-requires-clause-chosen : goal.alike_branches-requires-clause-chosen
alike_branches-requires-clause-chosen c =
    let d = c.args.draft.now in
    let q = c.requires.chosen in
    let e : Two HCase (tree_at d.trees c.in-Case.scrutinee) (tree_at d.trees c.in-Case.arms) ≡ Two HCase q.scrutinee q.arms = sym (subst (λ (s : List Tree). tree_at s c.args.whole ≡ Two HCase (tree_at s c.in-Case.scrutinee) (tree_at s c.in-Case.arms)) c.store.ensures c.in-Case.ensures.tree) ∙ q.is in
    let s : tree_at d.trees c.in-Case.scrutinee ≡ q.scrutinee = cc in
    let a : tree_at d.trees c.in-Case.arms ≡ q.arms = cc in
    chosen_moved q.scrutinee (tree_at d.trees c.in-Case.scrutinee) q.arms (tree_at d.trees c.in-Case.arms) (tree_at d.trees c.args.right) (tree_at d.trees c.args.right) s a refl q.chosen
