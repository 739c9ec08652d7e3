use Rattle.std.proofs.Common.{◌≡◌, ◌++◌, drop}
use Rattle.std.specs.List.{flat_map}
use Rattle.part_texts.specs.Names.{type_words}
use Rattle.part_texts.proofs.names.push_types.Given as goal

abbrev pub invariant-loop-place : goal.invariant-loop-place
invariant-loop-place l = l.out.items ++ flat_map (type_words l.names) (drop l.place-index l.types) ≡ l.initial.out.items ++ flat_map (type_words l.names) l.types
