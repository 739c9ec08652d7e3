use Rattle.std.proofs.Common.{take}
use Rattle.std.specs.List.{flat_map}
use Rattle.tasks.specs.Meaning.{trees_at}
use Rattle.name_tables.specs.Occurrences.{in_type}
use Rattle.name_tables.specs.Seen.{Sees}
use Rattle.name_tables.proofs.walk.note_types.Given as goal

abbrev pub invariant-loop-ty : goal.invariant-loop-ty
invariant-loop-ty l = Sees l.store l.initial.seen.keys (flat_map in_type (trees_at l.store (take l.ty-index l.types))) l.seen.keys
