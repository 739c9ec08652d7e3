use Rattle.std.proofs.Common.{◌≡◌, ◌+◌, drop}
use Rattle.printed_problems.specs.printed_terms.Ranks.{place_for}
use Rattle.printed_problems.proofs.printed_terms.ranks.place_for.Given as goal

abbrev pub invariant-loop-place : goal.invariant-loop-place
invariant-loop-place l = l.place + place_for (drop l.place l.names) l.symbol l.types ≡ place_for l.names l.symbol l.types
