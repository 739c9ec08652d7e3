use Rattle.evidence.specs.Laws.{AddsTrees_extends, AddsTrees_trans}
use Rattle.agreement.proofs.BranchAnswers.{case_at_later, two_later, rest_later}
use Rattle.agreement.proofs.branches.rest_cases.Goals as goal

pub rest_case-requires-2-clause-case : goal.rest_case-requires-2-clause-case
rest_case-requires-2-clause-case c = case_at_later c.args.draft.now c.rest_case.new.draft (AddsTrees_extends _ _ c.in_ok-one.ensures.grows) c.args.right c.requires.right

pub rest_case-requires-2-clause-more : goal.rest_case-requires-2-clause-more
rest_case-requires-2-clause-more c = two_later c.args.draft.now c.rest_case.new.draft (AddsTrees_extends _ _ c.in_ok-one.ensures.grows) c.args.right.arms c.requires.right.arms_held c.requires.right_more

pub returns-clause-left : goal.returns-clause-left
returns-clause-left c =
    let d1 = c.rest_case.new.draft in
    let k = case_at_later c.args.draft.now d1 (AddsTrees_extends _ _ c.in_ok-one.ensures.grows) c.args.left c.requires.left in
    rest_later d1 c.rest_case-2.new.draft (AddsTrees_extends _ _ c.in_ok-two.ensures.grows) c.args.left c.in_ok-one.one k.arms_held c.in_ok-one.ensures.rest

pub returns-clause-grows : goal.returns-clause-grows
returns-clause-grows c = AddsTrees_trans _ _ _ c.in_ok-one.ensures.grows c.in_ok-two.ensures.grows

pub returns-in_err-two-clause-grows : goal.returns-in_err-two-clause-grows
returns-in_err-two-clause-grows c = AddsTrees_trans _ _ _ c.in_ok-one.ensures.grows c.in_err-two.ensures.grows
