use Rattle.std.proofs.Common.{◌≡◌, List, drop}
use Rattle.tasks.specs.trees.Tree.{Tree}
use Rattle.name_resolution.specs.Abstract.{expressions_of, field_values_of, branches_of}
use Rattle.name_resolution.specs.Faults.{faults, triggers_fault, branches_fault}
use Rattle.name_resolution.specs.Naming.{where_at, names_at}
use Rattle.name_resolution.proofs.names.+naming.Given as goal

abbrev pub invariant-check_all-loop-e : goal.invariant-check_all-loop-e
invariant-check_all-loop-e l = (s : List Tree) → faults (where_at s l.world) l.world.new_vars (names_at l.names) (expressions_of (drop l.e-index l.list)) ≡ faults (where_at s l.world) l.world.new_vars (names_at l.names) (expressions_of l.list)

abbrev pub invariant-check_terms-loop-e : goal.invariant-check_terms-loop-e
invariant-check_terms-loop-e l = (s : List Tree) → triggers_fault (where_at s l.world) l.world.new_vars (names_at l.names) (expressions_of (drop l.e-index l.list)) ≡ triggers_fault (where_at s l.world) l.world.new_vars (names_at l.names) (expressions_of l.list)

abbrev pub invariant-check_branches-loop-branch : goal.invariant-check_branches-loop-branch
invariant-check_branches-loop-branch l = (s : List Tree) → branches_fault (where_at s l.world) l.world.new_vars (names_at l.names) l.due (branches_of (drop l.branch-index l.list)) ≡ branches_fault (where_at s l.world) l.world.new_vars (names_at l.names) l.due (branches_of l.list)

abbrev pub invariant-check_values-loop-field : goal.invariant-check_values-loop-field
invariant-check_values-loop-field l = (s : List Tree) → faults (where_at s l.world) l.world.new_vars (names_at l.names) (field_values_of (drop l.field-index l.fields)) ≡ faults (where_at s l.world) l.world.new_vars (names_at l.names) (field_values_of l.fields)
