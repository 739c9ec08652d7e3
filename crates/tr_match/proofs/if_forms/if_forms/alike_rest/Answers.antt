use Rattle.std.proofs.Common.{ap}
use Rattle.tasks.specs.trees.Node.{tree_at}
use Rattle.evidence.specs.Laws.{Extends_trans}
use Rattle.congruence.proofs.Later.{shows_at}
use Rattle.congruence.proofs.CaseParts.{parts_later, values_later}
use Rattle.tr_match.proofs.if_forms.if_forms.alike_rest.Goals as goal

pub returns-in_err-two-clause-grows : goal.returns-in_err-two-clause-grows
returns-in_err-two-clause-grows c = Extends_trans _ _ _ c.in_ok-one.ensures.grows c.in_err-two.ensures.grows

pub returns-in_err-made-clause-grows : goal.returns-in_err-made-clause-grows
returns-in_err-made-clause-grows c = Extends_trans _ _ _ (Extends_trans _ _ _ c.in_ok-one.ensures.grows c.in_ok-two.ensures.grows) c.in_err-made.ensures.grows

pub returns-clause-grows : goal.returns-clause-grows
returns-clause-grows c = Extends_trans _ _ _ (Extends_trans _ _ _ c.in_ok-one.ensures.grows c.in_ok-two.ensures.grows) c.in_ok-made.ensures.grows

pub alike_cases-requires-clause-left_values : goal.alike_cases-requires-clause-left_values
alike_cases-requires-clause-left_values c =
    let d = c.args.draft.now in
    let d1 = c.match_values.new.draft in
    values_later d1 c.if_values.new.draft c.in_ok-two.ensures.grows c.args.left c.in_ok-one.one (parts_later d d1 c.in_ok-one.ensures.grows c.args.left c.requires.left) c.in_ok-one.ensures.values

pub alike_cases-requires-clause-links : goal.alike_cases-requires-clause-links
alike_cases-requires-clause-links c =
    let d = c.args.draft.now in
    let d2 = c.if_values.new.draft in
    let x = Extends_trans _ _ _ c.in_ok-one.ensures.grows c.in_ok-two.ensures.grows in
    record {
      condition = ap (tree_at d2.trees) c.requires.condition;
      then_part = ap (tree_at d2.trees) c.requires.then_part;
      else_part = shows_at d d2 x c.args.rest c.args.left.else_part c.args.right.else_part c.requires.left.else_part.right.held c.requires.right.else_part.right.held c.requires.rest;
    }
