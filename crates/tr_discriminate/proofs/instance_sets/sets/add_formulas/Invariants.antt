use Rattle.std.proofs.Common.{take}
use Rattle.std.specs.List.{flat_map}
use Rattle.tasks.specs.Meaning.{trees_at}
use Rattle.name_tables.specs.Seen.{GainsKeys}
use Rattle.tr_discriminate.specs.wanted_instances.Instances.{inner_instances}
use Rattle.tr_discriminate.proofs.instance_sets.sets.add_formulas.Given as goal

abbrev pub invariant-loop-formula : goal.invariant-loop-formula
invariant-loop-formula l = GainsKeys l.store l.fn.keys.keys (flat_map inner_instances (trees_at l.store (take l.formula-index l.formulas))) l.keys.keys
