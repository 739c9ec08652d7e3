use Rattle.trees.specs.Tree.{Two, HCell, HArm}
use Rattle.trees.specs.Node.{tree_at}
use Rattle.evidence.specs.Laws.{AddsTrees_extends}
use Rattle.agreement.proofs.BranchAnswers.{others_ground, others_rest, next_branches}
use Rattle.agreement.proofs.branches.rest_case.Goals as goal

pub first_branch-branch-requires-clause-held : goal.first_branch-branch-requires-clause-held
first_branch-branch-requires-clause-held c = c.requires.case.arms_held

pub first_branch-branch-requires-clause-branches : goal.first_branch-branch-requires-clause-branches
first_branch-branch-requires-clause-branches c =
    let h = c.requires.more in
    (h.pattern, (h.body, (Two HCell (Two HArm h.next_pattern h.next_body) h.rest, h.is)))

pub add-requires-clause-fits : goal.add-requires-clause-fits
add-requires-clause-fits c =
    let s = c.args.draft.now.trees in
    let k = c.args.case in
    let b = c.first_branch-branch.result in
    (others_ground c.args.draft.now c.task-task.ensures.valid k c.requires.case b.others (next_branches s k.arms b.others (tree_at s b.pattern) (tree_at s b.body) c.requires.more c.first_branch-branch.ensures.tree)).typed.0

pub returns-clause-rest : goal.returns-clause-rest
returns-clause-rest c =
    let d = c.args.draft.now in
    let k = c.args.case in
    let b = c.first_branch-branch.result in
    let f = c.first_branch-branch.ensures in
    let e = c.in_ok-whole.ensures in
    others_rest d c.task-task.ensures.valid k c.requires.case b.others (next_branches d.trees k.arms b.others (tree_at d.trees b.pattern) (tree_at d.trees b.body) c.requires.more f.tree) c.add.new.self (AddsTrees_extends d c.add.new.self e.grows) c.in_ok-whole.whole e.held f.others_held e.tree
