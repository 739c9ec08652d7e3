use Rattle.std.proofs.Common.{arith}
use Rattle.evidence.specs.Laws.{Extends_trans}
use Rattle.evidence.proofs.Formulas.{formula_later}
use Rattle.tr_algebraic.proofs.law_evidence.CaseLists.{rest_part, part_later, cases_one, cases_more}
use Rattle.tr_algebraic.proofs.law_evidence.cases.+refute_cases.Goals as goal

pub refute_cases-requires : goal.refute_cases-requires
refute_cases-requires t c =
    let d = c.args.draft.now in
    let d1 = c.refute_case.new.draft in
    let x = c.in_ok-step-in-Parts.ensures.grows in
    let p = rw c.store.ensures at c.in-Parts.ensures in
    (omega (arith, p.below, c.decreases), (formula_later d d1 x c.args.whole c.requires.whole, part_later d d1 x c.args.whole c.in-Parts.rest c.requires.whole (rest_part d c.args.whole c.args.part c.in-Parts.first c.in-Parts.rest c.requires.part p)))

pub returns-in_err-refute_cases-in-Parts-clause-grows : goal.returns-in_err-refute_cases-in-Parts-clause-grows
returns-in_err-refute_cases-in-Parts-clause-grows t c =
    Extends_trans c.args.draft.now c.refute_case.new.draft c.refute_cases.new.draft c.in_ok-step-in-Parts.ensures.grows c.in_err-refute_cases-in-Parts.ensures.grows

pub returns-in_ok-refute_cases-in-Parts-clause-steps : goal.returns-in_ok-refute_cases-in-Parts-clause-steps
returns-in_ok-refute_cases-in-Parts-clause-steps t c =
    let p = rw c.store.ensures at c.in-Parts.ensures in
    let k = c.in_ok-step-in-Parts in
    cases_more c.args.draft.now c.refute_case.new.draft c.refute_cases.new.draft k.ensures.grows c.args.whole c.args.part c.in-Parts.first c.in-Parts.rest c.args.steps.now.items c.push.new.self.items c.refute_cases.new.steps.items k.step
    c.in_ok-push-in-Parts.ensures.items c.requires.whole p k.ensures.refutes c.in_ok-refute_cases-in-Parts.ensures.steps

pub returns-in_ok-refute_cases-in-Parts-clause-grows : goal.returns-in_ok-refute_cases-in-Parts-clause-grows
returns-in_ok-refute_cases-in-Parts-clause-grows t c =
    Extends_trans c.args.draft.now c.refute_case.new.draft c.refute_cases.new.draft c.in_ok-step-in-Parts.ensures.grows c.in_ok-refute_cases-in-Parts.ensures.grows

pub returns-in_ok-push-in-Alone-clause-steps : goal.returns-in_ok-push-in-Alone-clause-steps
returns-in_ok-push-in-Alone-clause-steps t c =
    let k = c.in_ok-step-in-Alone in
    cases_one c.args.draft.now c.refute_case-in-Alone.new.draft k.ensures.grows c.args.whole c.args.part c.args.steps.now.items c.push-in-Alone.new.self.items k.step
    c.in_ok-push-in-Alone.ensures.items (rw c.store.ensures at c.in-Alone.ensures) k.ensures.refutes
