use Rattle.std.proofs.Common.{ap, refl, arith}
use Rattle.std.proofs.lemmas.Result.{IfOk-weaker}
use Rattle.trees.specs.Tree.{head_of}
use Rattle.evidence.specs.Laws.{AddsTrees_extends, AddsTrees_trans}
use Rattle.agreement.proofs.BranchParts.{more_branches, last_branch}
use Rattle.agreement.proofs.branches.+push_branches.Goals as goal

pub cells_of-requires-clause-held : goal.cells_of-requires-clause-held
cells_of-requires-clause-held t c = c.in_ok-first.ensures.asked.arms_held

pub cells_of-requires-clause-sort : goal.cells_of-requires-clause-sort
cells_of-requires-clause-sort t c = c.in_ok-first.ensures.asked.list

pub push_branches-requires : goal.push_branches-requires
push_branches-requires t c =
    let k = c.in_ok-first.ensures.asked in
    (omega (arith, k.below), k.rest (ap head_of c.in-Some.ensures.some))

pub returns-in_ok-push-in-Some-2-clause-adds : goal.returns-in_ok-push-in-Some-2-clause-adds
returns-in_ok-push-in-Some-2-clause-adds t c =
    let d = c.args.draft.now in
    let d1 = c.ask_branch.new.draft in
    let d2 = c.push_branches.new.draft in
    let x = AddsTrees_extends d d1 c.in_ok-first.ensures.grows in
    let y = AddsTrees_extends d1 d2 c.push_branches.ensures.grows in
    IfOk-weaker c.push_branches.result _ _
    (λ u a. more_branches d d1 d2 x y c.args.q c.args.cases c.in_ok-first.first c.requires.branches c.in_ok-first.ensures.asked _ _ c.in-Some.ensures.some c.args.questions.now.items c.push.new.self.items c.push-in-Some.new.self.items c.push_branches.new.questions.items
    c.in_ok-push-in-Some.ensures.items c.in_ok-push-in-Some-2.ensures.items a)
    c.push_branches.ensures.adds

pub returns-in_ok-push-in-Some-2-clause-grows : goal.returns-in_ok-push-in-Some-2-clause-grows
returns-in_ok-push-in-Some-2-clause-grows t c = AddsTrees_trans _ _ _ c.in_ok-first.ensures.grows c.push_branches.ensures.grows

pub returns-in_ok-push-in-None-clause-adds : goal.returns-in_ok-push-in-None-clause-adds
returns-in_ok-push-in-None-clause-adds t c =
    let d = c.args.draft.now in
    let d1 = c.ask_branch.new.draft in
    last_branch d d1 (AddsTrees_extends d d1 c.in_ok-first.ensures.grows) c.args.q c.args.cases c.in_ok-first.first c.requires.branches c.in_ok-first.ensures.asked (c.in-None.ensures.none refl) c.args.questions.now.items c.push-in-None.new.self.items c.in_ok-push-in-None.ensures.items

pub returns-in_ok-push-in-None-clause-grows : goal.returns-in_ok-push-in-None-clause-grows
returns-in_ok-push-in-None-clause-grows t c = c.in_ok-first.ensures.grows
