use Rattle.std.proofs.Common.{[], take}
use Rattle.std.specs.List.{flat_map}
use Rattle.tasks.specs.trees.Node.{Grows}
use Rattle.name_tables.specs.Seen.{seen_occurrences}
use Rattle.tr_discriminate.specs.instance_sets.Made.{PutsDeclarations}
use Rattle.tr_discriminate.proofs.instance_sets.Puts.{placed_of}
use Rattle.tr_discriminate.proofs.instance_sets.instances.declarations_at_set.Given as goal

abbrev pub invariant-loop-decl : goal.invariant-loop-decl
invariant-loop-decl l = record {
  grows : Grows l.fn.store l.store;
  puts : PutsDeclarations l.fn.store [] 1048576 (flat_map (placed_of l.fn.store (seen_occurrences l.fn.store l.set)) (take l.decl-index l.task.decls)) l.store l.decls l.left;
}
