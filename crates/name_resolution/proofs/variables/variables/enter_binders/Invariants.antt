use Rattle.std.proofs.Common.{◌≡◌, drop}
use Rattle.name_resolution.specs.Abstract.{binders_of}
use Rattle.name_resolution.specs.variables.Seen.{binders_seen}
use Rattle.name_resolution.specs.variables.Entered.{seen_at}
use Rattle.name_resolution.proofs.variables.variables.enter_binders.Given as goal

abbrev pub invariant-loop-binder : goal.invariant-loop-binder
invariant-loop-binder l = binders_seen (seen_at l.seen) (binders_of (drop l.binder-index l.binders)) ≡ binders_seen (seen_at l.fn.seen) (binders_of l.binders)
