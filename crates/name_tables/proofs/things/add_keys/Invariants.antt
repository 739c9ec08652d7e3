use Rattle.std.proofs.Common.{take}
use Rattle.name_tables.specs.Seen.{seen_occurrences, GainsKeys}
use Rattle.name_tables.proofs.things.add_keys.Given as goal

abbrev pub invariant-loop-key : goal.invariant-loop-key
invariant-loop-key l = GainsKeys l.store l.initial.keys.keys (seen_occurrences l.store (take l.key-index l.more)) l.keys.keys
