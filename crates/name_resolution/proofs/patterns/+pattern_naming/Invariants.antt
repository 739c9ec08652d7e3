use Rattle.std.proofs.Common.{◌≡◌, ◌++◌, List, drop}
use Rattle.tasks.specs.trees.Tree.{Tree}
use Rattle.name_resolution.specs.Abstract.{patterns_of, field_patterns_of}
use Rattle.name_resolution.specs.Faults.{patterns_fault, patterns_names}
use Rattle.name_resolution.specs.Naming.{where_at}
use Rattle.name_resolution.proofs.patterns.+pattern_naming.Given as goal

abbrev pub invariant-check_patterns-loop-p : goal.invariant-check_patterns-loop-p
invariant-check_patterns-loop-p l = (l.names ++ patterns_names (patterns_of (drop l.p-index l.list)) ≡ l.fn.names ++ patterns_names (patterns_of l.list))
    × ((s : List Tree) → patterns_fault (where_at s l.world) l.names (patterns_of (drop l.p-index l.list)) ≡ patterns_fault (where_at s l.world) l.fn.names (patterns_of l.list))

abbrev pub invariant-check_field_patterns-loop-field : goal.invariant-check_field_patterns-loop-field
invariant-check_field_patterns-loop-field l = (l.names ++ patterns_names (field_patterns_of (drop l.field-index l.fields)) ≡ l.fn.names ++ patterns_names (field_patterns_of l.fields))
    × ((s : List Tree) → patterns_fault (where_at s l.world) l.names (field_patterns_of (drop l.field-index l.fields)) ≡ patterns_fault (where_at s l.world) l.fn.names (field_patterns_of l.fields))
