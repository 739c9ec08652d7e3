use Rattle.std.proofs.Common.{[], take}
use Rattle.std.specs.List.{flat_map}
use Rattle.name_tables.specs.Seen.{seen_occurrences, GainsKeys}
use Rattle.tr_discriminate.specs.wanted_instances.Instances.{instance_types}
use Rattle.tr_discriminate.proofs.instance_search.gathering.types_in_order.Given as goal

abbrev pub invariant-loop-key : goal.invariant-loop-key
invariant-loop-key l = GainsKeys l.store [] (flat_map instance_types (seen_occurrences l.store (take l.key-index l.set))) l.types.keys
