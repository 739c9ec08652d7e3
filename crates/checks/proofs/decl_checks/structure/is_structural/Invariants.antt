use Rattle.std.proofs.Common.{ℕ, ◌<◌}
use Rattle.tasks.specs.Meaning.{symbols_at, definitions_at}
use Rattle.checks.specs.decl_checks.Structure.{PassesAt}
use Rattle.checks.proofs.decl_checks.structure.is_structural.Given as goal

abbrev pub invariant-loop-number : goal.invariant-loop-number
invariant-loop-number l = (j : ℕ) → j < l.number → PassesAt (symbols_at l.store l.sig.symbols) (definitions_at l.store l.defs) j → ⊥
