use Rattle.std.proofs.Common.{◌≡◌, List, drop}
use Rattle.tasks.specs.trees.Tree.{Tree}
use Rattle.name_resolution.specs.Abstract.{forms_of}
use Rattle.name_resolution.specs.Faults.{forms_fault}
use Rattle.name_resolution.specs.Naming.{where_at}
use Rattle.name_resolution.proofs.type_names.+form_naming.Given as goal

abbrev pub invariant-check_forms-loop-ty : goal.invariant-check_forms-loop-ty
invariant-check_forms-loop-ty l = (s : List Tree) → forms_fault (where_at s l.world) l.world.new_vars (forms_of (drop l.ty-index l.list)) ≡ forms_fault (where_at s l.world) l.world.new_vars (forms_of l.list)
