use Rattle.evidence.specs.Laws.{AddsTrees_extends, Extends_trans}
use Rattle.tr_algebraic.proofs.law_evidence.cases.refute_exhaustion.Goals as goal

pub returns-in_err-made-in-Forall-clause-grows : goal.returns-in_err-made-in-Forall-clause-grows
returns-in_err-made-in-Forall-clause-grows c =
    let d = c.args.draft.now in
    let d1 = c.open_body.new.draft in
    let d2 = c.parameter.new.g in
    let d3 = c.refute_by_cases.new.draft in
    Extends_trans d d3 c.by_new_parameter.new.draft
    (Extends_trans d d2 d3 (Extends_trans d d1 d2 (AddsTrees_extends d d1 c.in_ok-inner-in-Forall.ensures.grows) (AddsTrees_extends d1 d2 c.in_ok-term-in-Forall.ensures.grows)) c.in_ok-step-in-Forall.ensures.grows)
    c.in_err-made-in-Forall.ensures.grows

pub returns-clause-grows : goal.returns-clause-grows
returns-clause-grows c =
    let d = c.args.draft.now in
    let d1 = c.open_body.new.draft in
    let d2 = c.parameter.new.g in
    let d3 = c.refute_by_cases.new.draft in
    Extends_trans d d3 c.by_new_parameter.new.draft
    (Extends_trans d d2 d3 (Extends_trans d d1 d2 (AddsTrees_extends d d1 c.in_ok-inner-in-Forall.ensures.grows) (AddsTrees_extends d1 d2 c.in_ok-term-in-Forall.ensures.grows)) c.in_ok-step-in-Forall.ensures.grows)
    c.in_ok-made-in-Forall.ensures.grows
