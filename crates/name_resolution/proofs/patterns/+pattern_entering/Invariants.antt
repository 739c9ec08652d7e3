use Rattle.std.proofs.Common.{◌≡◌, ◌++◌, drop}
use Rattle.name_resolution.specs.Abstract.{patterns_of, field_patterns_of}
use Rattle.name_resolution.specs.Faults.{patterns_names}
use Rattle.name_resolution.proofs.patterns.+pattern_entering.Given as goal

abbrev pub invariant-enter_all_names-loop-p : goal.invariant-enter_all_names-loop-p
invariant-enter_all_names-loop-p l = l.names ++ patterns_names (patterns_of (drop l.p-index l.list)) ≡ l.fn.names ++ patterns_names (patterns_of l.list)

abbrev pub invariant-enter_field_names-loop-field : goal.invariant-enter_field_names-loop-field
invariant-enter_field_names-loop-field l = l.names ++ patterns_names (field_patterns_of (drop l.field-index l.fields)) ≡ l.fn.names ++ patterns_names (field_patterns_of l.fields)
