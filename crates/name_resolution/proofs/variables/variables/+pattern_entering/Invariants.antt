use Rattle.std.proofs.Common.{◌≡◌, drop}
use Rattle.name_resolution.specs.Abstract.{patterns_of, field_patterns_of}
use Rattle.name_resolution.specs.variables.Seen.{patterns_seen}
use Rattle.name_resolution.specs.variables.Entered.{seen_at}
use Rattle.name_resolution.proofs.variables.variables.+pattern_entering.Given as goal

abbrev pub invariant-enter_all_patterns-loop-p : goal.invariant-enter_all_patterns-loop-p
invariant-enter_all_patterns-loop-p l = patterns_seen (seen_at l.seen) (patterns_of (drop l.p-index l.list)) ≡ patterns_seen (seen_at l.fn.seen) (patterns_of l.list)

abbrev pub invariant-enter_field_patterns-loop-field : goal.invariant-enter_field_patterns-loop-field
invariant-enter_field_patterns-loop-field l = patterns_seen (seen_at l.seen) (field_patterns_of (drop l.field-index l.fields)) ≡ patterns_seen (seen_at l.fn.seen) (field_patterns_of l.fields)
