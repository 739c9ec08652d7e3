use Rattle.std.proofs.Common.{take}
use Rattle.std.specs.List.{flat_map}
use Rattle.tasks.specs.trees.Node.{Grows}
use Rattle.tr_discriminate.specs.instance_sets.Made.{PutsDeclarations}
use Rattle.tr_discriminate.proofs.instance_sets.Puts.{instance_of}
use Rattle.tr_discriminate.proofs.instance_sets.instances.push_instances.Given as goal

abbrev pub invariant-loop-types : goal.invariant-loop-types
invariant-loop-types l = record {
  grows : Grows l.fn.store l.store;
  puts : PutsDeclarations l.fn.store l.fn.decls l.allowed (flat_map (instance_of l.fn.store l.saying.decl.now l.saying.formula) (take l.types-index l.assignments)) l.store l.decls l.left;
}
