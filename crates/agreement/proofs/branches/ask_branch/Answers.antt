use Rattle.std.proofs.Common.{◌≡◌, sym, subst}
use Rattle.trees.specs.Node.{tree_at}
use Rattle.trees.specs.Binding.{inst_many}
use Rattle.tasks.specs.MatchTests.{test, bind}
use Rattle.tasks.specs.Valid.{IsValid}
use Rattle.evidence.specs.Laws.{Extends_trans, AddsTrees_extends}
use Rattle.congruence.proofs.Later.{held_later, tree_later}
use Rattle.agreement.proofs.BranchParts.{left_branch, right_branch, case_later, arms_later, branches_later, asked_branch}
use Rattle.agreement.proofs.branches.ask_branch.Goals as goal

pub first_branch-one-requires-clause-branches : goal.first_branch-one-requires-clause-branches
first_branch-one-requires-clause-branches c = left_branch c.args.draft.now c.args.q c.args.cases c.requires.branches

pub first_branch-two-requires-clause-branches : goal.first_branch-two-requires-clause-branches
first_branch-two-requires-clause-branches c = right_branch c.args.draft.now c.args.q c.args.cases c.requires.branches

pub open_branch-requires-clause-closed : goal.open_branch-requires-clause-closed
open_branch-requires-clause-closed c = c.requires.branches.left

pub open_branch-requires-2-clause-closed : goal.open_branch-requires-2-clause-closed
open_branch-requires-2-clause-closed c =
    let d = c.args.draft.now in
    let d1 = c.open_branch.new.draft in
    let k = c.requires.branches in
    case_later d d1 (AddsTrees_extends d d1 c.in_ok-left.ensures.grows) c.args.cases.other_by c.args.cases.other_arms k.held.other_by k.held.other_arms k.right

pub open_branch-requires-2-clause-arms : goal.open_branch-requires-2-clause-arms
open_branch-requires-2-clause-arms c =
    let d = c.args.draft.now in
    let d1 = c.open_branch.new.draft in
    let w = c.first_branch-two.result in
    let e = c.first_branch-two.ensures in
    arms_later d d1 (AddsTrees_extends d d1 c.in_ok-left.ensures.grows) c.args.cases.other_arms w.pattern w.body w.others c.requires.branches.held.other_arms e.pattern_held e.body_held e.others_held e.tree

pub returns-clause-asked : goal.returns-clause-asked
returns-clause-asked c =
    let d = c.args.draft.now in
    let d1 = c.open_branch.new.draft in
    let d2 = c.open_branch-2.new.draft in
    let x = AddsTrees_extends d d1 c.in_ok-left.ensures.grows in
    let y = AddsTrees_extends d1 d2 c.in_ok-right.ensures.grows in
    let z = Extends_trans d d1 d2 x y in
    let k = c.requires.branches in
    let s = c.args.cases in
    let one = c.first_branch-one.result in
    let e = c.first_branch-one.ensures in
    let two = c.first_branch-two.result in
    let f = c.first_branch-two.ensures in
    let l = c.in_ok-left.left in
    let le = c.in_ok-left.ensures in
    let r = c.in_ok-right.right in
    let re = c.in_ok-right.ensures in
    let sl = tree_later d d2 z s.by k.held.by in
    let ol = tree_later d d2 z one.pattern e.pattern_held in
    let bl = tree_later d d2 z one.body e.body_held in
    let sr : tree_at d2.trees s.other_by ≡ tree_at d1.trees s.other_by = tree_later d1 d2 y s.other_by (held_later d d1 x s.other_by k.held.other_by) in
    let tr = tree_later d1 d2 y two.pattern (held_later d d1 x two.pattern f.pattern_held) in
    let br = tree_later d1 d2 y two.body (held_later d d1 x two.body f.body_held) in
    let lt : tree_at d2.trees l.test ≡ tree_at d1.trees l.test = tree_later d1 d2 y l.test le.test_held in
    let li : tree_at d2.trees l.inner ≡ tree_at d1.trees l.inner = tree_later d1 d2 y l.inner le.inner_held in
    let et : tree_at d2.trees l.test ≡ test d2.task (tree_at d2.trees one.pattern) (tree_at d2.trees s.by) = rw (lt, z.task, ol, sl) le.test in
    let ei : tree_at d2.trees l.inner ≡ inst_many (tree_at d2.trees one.body) (bind d2.task (tree_at d2.trees one.pattern) (tree_at d2.trees s.by)) = rw (li, z.task, ol, sl, bl) le.inner in
    let ft : tree_at d2.trees r.test ≡ test d2.task (tree_at d2.trees two.pattern) (tree_at d2.trees s.other_by) = rw (y.task, tr, sr) re.test in
    let fi : tree_at d2.trees r.inner ≡ inst_many (tree_at d2.trees two.body) (bind d2.task (tree_at d2.trees two.pattern) (tree_at d2.trees s.other_by)) = rw (y.task, tr, sr, br) re.inner in
    asked_branch d2 (subst IsValid (sym z.task) c.task-task.ensures.valid) c.args.q s (branches_later d d2 z c.args.q s k) one two
    (arms_later d d2 z s.arms one.pattern one.body one.others k.held.arms e.pattern_held e.body_held e.others_held e.tree) (arms_later d d2 z s.other_arms two.pattern two.body two.others k.held.other_arms f.pattern_held f.body_held f.others_held f.tree)
    l r (held_later d1 d2 y l.test le.test_held) (held_later d1 d2 y l.inner le.inner_held) re.test_held re.inner_held et ei ft fi (held_later d d2 z one.others e.others_held) (held_later d d2 z two.others f.others_held) e.others_below
