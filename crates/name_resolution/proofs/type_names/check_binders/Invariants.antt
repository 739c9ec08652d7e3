use Rattle.std.proofs.Common.{◌≡◌, List, drop}
use Rattle.tasks.specs.trees.Tree.{Tree}
use Rattle.name_resolution.specs.Abstract.{binders_of}
use Rattle.name_resolution.specs.Faults.{binders_fault}
use Rattle.name_resolution.specs.Naming.{where_at}
use Rattle.name_resolution.proofs.type_names.check_binders.Given as goal

abbrev pub invariant-loop-binder : goal.invariant-loop-binder
invariant-loop-binder l = (s : List Tree) → binders_fault (where_at s l.world) l.world.new_vars (binders_of (drop l.binder-index l.binders)) ≡ binders_fault (where_at s l.world) l.world.new_vars (binders_of l.binders)
