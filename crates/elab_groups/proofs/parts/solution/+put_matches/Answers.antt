use Rattle.std.proofs.Common.{length, ap, arith}
use Rattle.std.proofs.lemmas.Result.{on_ok_weaker}
use Rattle.open_types.specs.Drafts.{MatchHeld}
use Rattle.open_types.proofs.Growing.{types_grow}
use Rattle.elab_groups.proofs.parts.Putting.{all_first, all_rest, matches_grow, matches_more, match_step}
use Rattle.elab_groups.proofs.parts.solution.+put_matches.Goals as goal

pub put_match-requires-clause-one : goal.put_match-requires-clause-one
put_match-requires-clause-one t c = all_first (MatchHeld c.args.store.now) c.args.matches.now c.in-Some.first.now c.in-Some.rest.now c.in-Some.ensures.cases.0 c.requires.matches

pub put_matches-requires : goal.put_matches-requires
put_matches-requires t c =
    let s = c.args.store.now in
    let s1 = c.put_match.new.store in
    let rest = all_rest (MatchHeld s) c.args.matches.now c.in-Some.first.now c.in-Some.rest.now c.in-Some.ensures.cases.0 c.requires.matches in (
      omega (arith, ap length c.in-Some.ensures.cases.0),
      (
        rw c.in_ok-push.ensures.items (matches_more s s1 c.put_match.ensures.grows c.args.them.now.items c.in_ok-one.one c.requires.them c.in_ok-one.ensures.held),
        (matches_grow s s1 c.put_match.ensures.grows c.in-Some.rest.now rest, types_grow s s1 c.put_match.ensures.grows c.args.types.now c.requires.types),
      ),
    )

pub returns-clause-patterns : goal.returns-clause-patterns
returns-clause-patterns t c =
    let s = c.args.store.now in
    let s1 = c.put_match.new.store in
    let rest = all_rest (MatchHeld s) c.args.matches.now c.in-Some.first.now c.in-Some.rest.now c.in-Some.ensures.cases.0 c.requires.matches in
    rw c.in-Some.ensures.cases.0 (on_ok_weaker c.put_matches.result (λ h. match_step s s1 c.put_matches.new.store c.put_match.ensures.grows c.args.them.now.items c.in-Some.first.now c.in_ok-one.one c.in-Some.rest.now c.put_matches.new.them.items c.args.types.now c.requires.them rest c.requires.types c.in_ok-one.ensures.patterns h)
    (rw c.in_ok-push.ensures.items at c.put_matches.ensures.patterns))
