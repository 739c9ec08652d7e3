use Rattle.std.proofs.Common.{◌≡◌, drop}
use Rattle.name_resolution.specs.Abstract.{alternatives_of}
use Rattle.name_resolution.specs.variables.Seen.{alternatives_seen}
use Rattle.name_resolution.specs.variables.Entered.{seen_at}
use Rattle.name_resolution.proofs.variables.variables.enter_alternatives.Given as goal

abbrev pub invariant-loop-patterns : goal.invariant-loop-patterns
invariant-loop-patterns l = alternatives_seen (seen_at l.seen) (alternatives_of (drop l.patterns-index l.list)) ≡ alternatives_seen (seen_at l.fn.seen) (alternatives_of l.list)
