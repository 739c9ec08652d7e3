use Rattle.evidence.specs.Laws.{Extends_trans}
use Rattle.evidence.proofs.Rules.{refutes_later}
use Rattle.congruence.proofs.CaseParts.{values_made}
use Rattle.tr_if.proofs.Implications.{implied_later}
use Rattle.tr_if.proofs.implying.implied_values.Goals as goal

pub implied_else-requires : goal.implied_else-requires
implied_else-requires c = implied_later c.args.draft.now c.args.k c.requires c.implied_then.new.draft c.in_ok-then_value.ensures.grows

pub returns-in_err-else_value-clause-grows : goal.returns-in_err-else_value-clause-grows
returns-in_err-else_value-clause-grows c = Extends_trans _ _ _ c.in_ok-then_value.ensures.grows c.in_err-else_value.ensures.grows

pub returns-clause-values : goal.returns-clause-values
returns-clause-values c =
    let d = c.args.draft.now in
    let d1 = c.implied_then.new.draft in
    let d2 = c.implied_else.new.draft in
    let y = c.in_ok-else_value.ensures.grows in
    values_made d d1 d2 c.in_ok-then_value.ensures.grows y c.args.k c.in_ok-then_value.then_value c.in_ok-else_value.else_value c.requires.parts (refutes_later d1 d2 y c.in_ok-then_value.then_value _ c.in_ok-then_value.ensures.refutes) c.in_ok-else_value.ensures.refutes

pub returns-clause-grows : goal.returns-clause-grows
returns-clause-grows c = Extends_trans _ _ _ c.in_ok-then_value.ensures.grows c.in_ok-else_value.ensures.grows
