use Rattle.std.proofs.Common.{take}
use Rattle.std.specs.List.{flat_map}
use Rattle.tasks.specs.Meaning.{trees_at}
use Rattle.name_tables.specs.Occurrences.{occurrences}
use Rattle.name_tables.specs.Seen.{WalksTerms}
use Rattle.name_tables.proofs.walk.note_formulas.Given as goal

abbrev pub invariant-loop-formula : goal.invariant-loop-formula
invariant-loop-formula l = WalksTerms l.store l.initial.seen.keys (flat_map occurrences (trees_at l.store (take l.formula-index l.formulas))) l.seen.keys l.done.keys
