use Rattle.std.proofs.Common.{ℕ, ◌<◌, ◌↔◌, Contains}
use Rattle.tasks.specs.Meaning.{symbols_at}
use Rattle.checks.specs.match_cover.Shapes.{IsConstructorEntryOf}
use Rattle.checks.proofs.match_cover.constructors.constructors_of.Given as goal

abbrev pub invariant-loop-entry : goal.invariant-loop-entry
invariant-loop-entry l = (k : ℕ) → Contains l.found.items k ↔ ((k < l.entry) × IsConstructorEntryOf (symbols_at l.store l.sig.symbols) l.symbol k)
