use Rattle.std.proofs.Common.{◌≡◌, List, subst, arith}
use Rattle.trees.specs.Tree.{Tree, Two, HCase}
use Rattle.trees.specs.Node.{tree_at, Holds}
use Rattle.agreement.specs.Questions.{links_at}
use Rattle.agreement.proofs.BranchPairs.{case_paired}
use Rattle.agreement.proofs.branches.answer_case.Goals as goal

pub alike_branches-requires : goal.alike_branches-requires
alike_branches-requires c =
    let d = c.args.draft.now in
    let q = c.args.q in
    let p = c.requires.linked.asked.pair in
    let b = c.in-Case.other_by in
    let o = c.in-Case.other_arms in
    let e : tree_at d.trees q.right ≡ Two HCase (tree_at d.trees b) (tree_at d.trees o) = subst (λ (s : List Tree). tree_at s q.right ≡ Two HCase (tree_at s b) (tree_at s o)) c.store.ensures c.in-Case.ensures.tree in
    let hb : Holds d.trees b = omega (arith, c.in-Case.ensures.below.0, p.right.held) in
    let ho : Holds d.trees o = omega (arith, c.in-Case.ensures.below.1, p.right.held) in
    record {
      cases = record {
        pair = p;
        left_case = record { closed = p.left; by_held = c.requires.by_held; arms_held = c.requires.arms_held; is = c.requires.left };
        right_case = record { closed = p.right; by_held = hb; arms_held = ho; is = e };
        linked = c.requires.linked.linked;
        paired = case_paired d.task q.number (tree_at d.trees q.left) (tree_at d.trees q.right) (tree_at d.trees c.args.by) (tree_at d.trees c.args.arms) (tree_at d.trees b) (tree_at d.trees o) (links_at d.trees c.args.links.now) c.requires.left e c.requires.linked.parts;
      };
    }
