use Rattle.std.proofs.Common.{take}
use Rattle.name_tables.specs.Groups.{AreGroups}
use Rattle.name_tables.proofs.things.groups_of.Given as goal

abbrev pub invariant-loop-key : goal.invariant-loop-key
invariant-loop-key l = AreGroups l.store (take l.key-index l.seen) l.groups.items
