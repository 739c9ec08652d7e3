use Rattle.std.proofs.Common.{take}
use Rattle.tasks.specs.Meaning.{declarations_at}
use Rattle.name_tables.specs.Seen.{GainsKeys}
use Rattle.tr_discriminate.specs.instance_sets.Made.{said_instances}
use Rattle.tr_discriminate.proofs.instance_sets.sets.add_said.Given as goal

abbrev pub invariant-loop-decl : goal.invariant-loop-decl
invariant-loop-decl l = GainsKeys l.store l.fn.keys.keys (said_instances (declarations_at l.store (take l.decl-index l.decls))) l.keys.keys
