use Rattle.evidence.specs.Laws.{Extends_trans}
use Rattle.evidence.proofs.Rules.{refutes_later}
use Rattle.congruence.proofs.CaseParts.{parts_later, cases_later, values_made}
use Rattle.congruence.proofs.conditionals.match_values.Goals as goal

pub match_else-requires : goal.match_else-requires
match_else-requires c =
    let d = c.args.draft.now in
    let d1 = c.match_then.new.draft in
    let x = c.in_ok-then_value.ensures.grows in
    record { parts = parts_later d d1 x c.args.k c.requires.parts; is = cases_later d d1 x c.args.k c.requires.parts c.requires.is }

pub returns-in_err-else_value-clause-grows : goal.returns-in_err-else_value-clause-grows
returns-in_err-else_value-clause-grows c = Extends_trans _ _ _ c.in_ok-then_value.ensures.grows c.in_err-else_value.ensures.grows

pub returns-clause-values : goal.returns-clause-values
returns-clause-values c =
    let d = c.args.draft.now in
    let d1 = c.match_then.new.draft in
    let d2 = c.match_else.new.draft in
    let y = c.in_ok-else_value.ensures.grows in
    values_made d d1 d2 c.in_ok-then_value.ensures.grows y c.args.k c.in_ok-then_value.then_value c.in_ok-else_value.else_value c.requires.parts (refutes_later d1 d2 y c.in_ok-then_value.then_value _ c.in_ok-then_value.ensures.refutes) c.in_ok-else_value.ensures.refutes

pub returns-clause-grows : goal.returns-clause-grows
returns-clause-grows c = Extends_trans _ _ _ c.in_ok-then_value.ensures.grows c.in_ok-else_value.ensures.grows
