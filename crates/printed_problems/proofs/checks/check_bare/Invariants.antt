use Rattle.std.proofs.Common.{◌≡◌, drop}
use Rattle.name_tables.specs.Seen.{seen_occurrences}
use Rattle.printed_problems.specs.Checks.{is_seen, first_where}
use Rattle.printed_problems.proofs.checks.check_bare.Given as goal

abbrev pub invariant-loop-place : goal.invariant-loop-place
invariant-loop-place l =
    first_where (is_seen l.c.store.now l.c.things.now (seen_occurrences l.c.store.now l.seen)) (drop l.place-index l.place-items) ≡ first_where (is_seen l.c.store.now l.c.things.now (seen_occurrences l.c.store.now l.seen)) l.place-items
