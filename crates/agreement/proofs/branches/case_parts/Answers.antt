use Rattle.std.proofs.Common.{◌≡◌, List, subst, arith}
use Rattle.trees.specs.Tree.{Tree, Two, HCase}
use Rattle.trees.specs.Node.{tree_at, Holds}
use Rattle.evidence.specs.Laws.{AddsTrees_extends}
use Rattle.agreement.specs.declared.branches.Cases.{Cases}
use Rattle.agreement.proofs.BranchParts.{case_branches, case_questions}
use Rattle.agreement.proofs.branches.case_parts.Goals as goal

pub push_branches-requires : goal.push_branches-requires
push_branches-requires c =
    let d = c.args.draft.now in
    let q = c.args.q in
    let p = c.requires.asked.pair in
    let b = c.in-Case.other_by in
    let o = c.in-Case.other_arms in
    let s : Cases = record { by = c.args.by; arms = c.args.arms; other_by = b; other_arms = o } in
    let e : tree_at d.trees q.right ≡ Two HCase (tree_at d.trees b) (tree_at d.trees o) = subst (λ (z : List Tree). tree_at z q.right ≡ Two HCase (tree_at z b) (tree_at z o)) c.store.ensures c.in-Case.ensures.tree in
    let hl : Holds d.trees c.args.by = omega (arith, c.requires.by_below, p.left.held) in
    let ha : Holds d.trees c.args.arms = omega (arith, c.requires.arms_below, p.left.held) in
    let hb : Holds d.trees b = omega (arith, c.in-Case.ensures.below.0, p.right.held) in
    let ho : Holds d.trees o = omega (arith, c.in-Case.ensures.below.1, p.right.held) in
    record { branches = case_branches d q c.requires.asked s c.requires.left e (record { by = hl; arms = ha; other_by = hb; other_arms = ho }) c.requires.parts.0 c.requires.parts.1 }

pub returns-clause-parts : goal.returns-clause-parts
returns-clause-parts c =
    let d = c.args.draft.now in
    let d1 = c.push_branches.new.draft in
    let q = c.args.q in
    let p = c.requires.asked.pair in
    let b = c.in-Case.other_by in
    let o = c.in-Case.other_arms in
    let s : Cases = record { by = c.args.by; arms = c.args.arms; other_by = b; other_arms = o } in
    let e : tree_at d.trees q.right ≡ Two HCase (tree_at d.trees b) (tree_at d.trees o) = subst (λ (z : List Tree). tree_at z q.right ≡ Two HCase (tree_at z b) (tree_at z o)) c.store.ensures c.in-Case.ensures.tree in
    let hl : Holds d.trees c.args.by = omega (arith, c.requires.by_below, p.left.held) in
    let ha : Holds d.trees c.args.arms = omega (arith, c.requires.arms_below, p.left.held) in
    let hb : Holds d.trees b = omega (arith, c.in-Case.ensures.below.0, p.right.held) in
    let ho : Holds d.trees o = omega (arith, c.in-Case.ensures.below.1, p.right.held) in
    case_questions d q c.requires.asked s c.requires.left e (record { by = hl; arms = ha; other_by = hb; other_arms = ho }) d1 (AddsTrees_extends d d1 c.in_ok-push_branches-in-Case.ensures.grows) c.push_branches.new.questions.items (rw c.new-made.ensures.items at c.in_ok-push_branches-in-Case.ensures.adds)
