use Rattle.std.proofs.lemmas.Result.{IfOk-weaker}
use Rattle.evidence.specs.Laws.{Extends_trans}
use Rattle.congruence.proofs.Later.{pair_later, shows_before}
use Rattle.congruence.proofs.CaseParts.{parts_later, cases_later, values_later, linked_later}
use Rattle.congruence.proofs.cases.alike_matches.Goals as goal

pub match_values-requires : goal.match_values-requires
match_values-requires c = record { parts = c.requires.left; is = c.requires.left_is }

pub match_values-requires-2 : goal.match_values-requires-2
match_values-requires-2 c =
    let d = c.args.draft.now in
    let d1 = c.match_values.new.draft in
    let x = c.in_ok-one.ensures.grows in
    record { parts = parts_later d d1 x c.args.right c.requires.right; is = cases_later d d1 x c.args.right c.requires.right c.requires.right_is }

pub alike_cases-requires : goal.alike_cases-requires
alike_cases-requires c =
    let d = c.args.draft.now in
    let d1 = c.match_values.new.draft in
    let d2 = c.match_values-2.new.draft in
    let n = c.in_ok-one in
    let m = c.in_ok-two in
    let x = Extends_trans d d1 d2 n.ensures.grows m.ensures.grows in
    let a = c.args.left in
    let b = c.args.right in
    let r = c.requires in
    record {
      left = parts_later d d2 x a r.left;
      right = parts_later d d2 x b r.right;
      sides = pair_later d d2 x a.whole b.whole r.sides;
      left_values = values_later d1 d2 m.ensures.grows a n.one (parts_later d d1 n.ensures.grows a r.left) n.ensures.values;
      right_values = m.ensures.values;
      links = linked_later d d2 x a b c.args.links r.left r.right r.links;
    }

pub returns-in_err-two-clause-grows : goal.returns-in_err-two-clause-grows
returns-in_err-two-clause-grows c = Extends_trans _ _ _ c.in_ok-one.ensures.grows c.in_err-two.ensures.grows

pub returns : goal.returns
returns c =
    let d = c.args.draft.now in
    let d1 = c.match_values.new.draft in
    let d2 = c.match_values-2.new.draft in
    let d3 = c.alike_cases.new.draft in
    let x = Extends_trans d d1 d2 c.in_ok-one.ensures.grows c.in_ok-two.ensures.grows in
    let p = c.requires.sides in
    record {
      shows = IfOk-weaker c.alike_cases.result _ _ (λ w h. shows_before d d2 x d3 w c.args.left.whole c.args.right.whole p.left.held p.right.held h) c.alike_cases.ensures.shows;
      grows = Extends_trans d d2 d3 x c.alike_cases.ensures.grows;
    }
