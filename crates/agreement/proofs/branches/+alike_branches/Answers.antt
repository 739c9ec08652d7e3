use Rattle.std.proofs.Common.{◌≡◌, List, ◌∷◌, length, ap, ◌∙◌, arith}
use Rattle.evidence.specs.Laws.{Extends_trans, AddsTrees_extends}
use Rattle.agreement.specs.declared.questions.Link.{Link}
use Rattle.agreement.proofs.LinkCounts.{no_links}
use Rattle.agreement.proofs.BranchAnswers.{left_two, right_two, go_on, joined, has_last, some_branch}
use Rattle.agreement.proofs.ShownSince.{shown_since}
use Rattle.agreement.proofs.branches.+alike_branches.Goals as goal

pub rest_cases-requires-clause-left_more : goal.rest_cases-requires-clause-left_more
rest_cases-requires-clause-left_more t c =
    let w = c.in-Some.first.now in
    let q : c.args.links.now ≡ w ∷ c.in-Some-split_first.body.now ∷ c.in-Some-split_first.more.now = c.in-Some.ensures.cases.0 ∙ ap (λ (z : List Link). w ∷ z) c.in-Some-split_first.ensures.cases.0 in
    left_two c.args.draft.now c.args.left c.args.right c.args.links.now c.requires.cases c.task-task.ensures.valid w c.in-Some-split_first.body.now c.in-Some-split_first.more.now q

pub rest_cases-requires-clause-right_more : goal.rest_cases-requires-clause-right_more
rest_cases-requires-clause-right_more t c =
    let w = c.in-Some.first.now in
    let q : c.args.links.now ≡ w ∷ c.in-Some-split_first.body.now ∷ c.in-Some-split_first.more.now = c.in-Some.ensures.cases.0 ∙ ap (λ (z : List Link). w ∷ z) c.in-Some-split_first.ensures.cases.0 in
    right_two c.args.draft.now c.args.left c.args.right c.args.links.now c.requires.cases c.task-task.ensures.valid w c.in-Some-split_first.body.now c.in-Some-split_first.more.now q

pub alike_branches-requires : goal.alike_branches-requires
alike_branches-requires t c =
    let d = c.args.draft.now in
    let d2 = c.rest_cases.new.draft in
    let w = c.in-Some.first.now in
    let b = c.in-Some-split_first.body.now in
    let ws = c.in-Some-split_first.more.now in
    let q : c.args.links.now ≡ w ∷ b ∷ ws = c.in-Some.ensures.cases.0 ∙ ap (λ (z : List Link). w ∷ z) c.in-Some-split_first.ensures.cases.0 in
    let r = c.in_ok-rest-in-Some-split_first.rest in
    let e = c.in_ok-rest-in-Some-split_first.ensures in
    let less = ap length q in
    (omega (arith, less), go_on d c.args.left c.args.right c.args.links.now c.requires.cases c.task-task.ensures.valid w b ws q d2 (AddsTrees_extends d d2 e.grows) r.left r.right e.left e.right)

pub alike_firsts-requires : goal.alike_firsts-requires
alike_firsts-requires t c =
    let d = c.args.draft.now in
    let d2 = c.rest_cases.new.draft in
    let d3 = c.alike_branches.new.draft in
    let w = c.in-Some.first.now in
    let b = c.in-Some-split_first.body.now in
    let ws = c.in-Some-split_first.more.now in
    let q : c.args.links.now ≡ w ∷ b ∷ ws = c.in-Some.ensures.cases.0 ∙ ap (λ (z : List Link). w ∷ z) c.in-Some-split_first.ensures.cases.0 in
    let r = c.in_ok-rest-in-Some-split_first.rest in
    let e = c.in_ok-rest-in-Some-split_first.ensures in
    let x = AddsTrees_extends d d2 e.grows in
    let y = c.in_ok-alike-in-Some-split_first.ensures.grows in
    record {
      more = joined d c.args.left c.args.right c.args.links.now c.requires.cases c.task-task.ensures.valid w b ws q d2 x r.left r.right e.left e.right d3 y (Extends_trans d d2 d3 x y) c.in_ok-alike-in-Some-split_first.alike c.in_ok-alike-in-Some-split_first.ensures.shows;
    }

pub returns-in_ok-alike-in-Some-split_first-clause-shows : goal.returns-in_ok-alike-in-Some-split_first-clause-shows
returns-in_ok-alike-in-Some-split_first-clause-shows t c =
    let d = c.args.draft.now in
    let d2 = c.rest_cases.new.draft in
    let d3 = c.alike_branches.new.draft in
    let z = Extends_trans d d2 d3 (AddsTrees_extends d d2 c.in_ok-rest-in-Some-split_first.ensures.grows) c.in_ok-alike-in-Some-split_first.ensures.grows in
    shown_since c.alike_firsts.result d d3 c.alike_firsts.new.draft z c.args.left.whole c.args.right.whole c.requires.cases.pair c.alike_firsts.ensures.shows

pub returns-in_ok-alike-in-Some-split_first-clause-grows : goal.returns-in_ok-alike-in-Some-split_first-clause-grows
returns-in_ok-alike-in-Some-split_first-clause-grows t c =
    Extends_trans _ _ _ (Extends_trans _ _ _ (AddsTrees_extends _ _ c.in_ok-rest-in-Some-split_first.ensures.grows) c.in_ok-alike-in-Some-split_first.ensures.grows) c.alike_firsts.ensures.grows

pub returns-in_err-alike-in-Some-split_first-clause-grows : goal.returns-in_err-alike-in-Some-split_first-clause-grows
returns-in_err-alike-in-Some-split_first-clause-grows t c =
    Extends_trans _ _ _ (AddsTrees_extends _ _ c.in_ok-rest-in-Some-split_first.ensures.grows) c.in_err-alike-in-Some-split_first.ensures.grows

pub returns-in_err-rest-in-Some-split_first-clause-grows : goal.returns-in_err-rest-in-Some-split_first-clause-grows
returns-in_err-rest-in-Some-split_first-clause-grows t c = AddsTrees_extends _ _ c.in_err-rest-in-Some-split_first.ensures.grows

pub alike_lasts-requires : goal.alike_lasts-requires
alike_lasts-requires t c =
    let d = c.args.draft.now in
    let left = c.args.left in
    let right = c.args.right in
    let ls = c.args.links.now in
    let k = c.requires.cases in
    let w = c.in-Some.first.now in
    record { last = has_last d left right ls k c.task-task.ensures.valid w (c.in-Some.ensures.cases.0 ∙ ap (λ (z : List Link). w ∷ z) (no_links c.in-Some.others.now c.in-None-split_first.ensures.cases)) }

pub unreachable-requires : goal.unreachable-requires
unreachable-requires t c =
    let d = c.args.draft.now in
    let left = c.args.left in
    let right = c.args.right in
    let ls = c.args.links.now in
    let k = c.requires.cases in
    some_branch d left right ls k (no_links ls c.in-None.ensures.cases)
