use Rattle.std.proofs.Common.{◌≡◌, drop}
use Rattle.name_resolution.specs.Abstract.{expressions_of, field_values_of, branches_of}
use Rattle.name_resolution.specs.variables.Seen.{all_seen, branches_seen}
use Rattle.name_resolution.specs.variables.Entered.{seen_at}
use Rattle.name_resolution.proofs.variables.variables.+entering.Given as goal

abbrev pub invariant-enter_all-loop-e : goal.invariant-enter_all-loop-e
invariant-enter_all-loop-e l = all_seen (seen_at l.seen) (expressions_of (drop l.e-index l.list)) ≡ all_seen (seen_at l.fn.seen) (expressions_of l.list)

abbrev pub invariant-enter_branches-loop-branch : goal.invariant-enter_branches-loop-branch
invariant-enter_branches-loop-branch l = branches_seen (seen_at l.seen) (branches_of (drop l.branch-index l.list)) ≡ branches_seen (seen_at l.fn.seen) (branches_of l.list)

abbrev pub invariant-enter_values-loop-field : goal.invariant-enter_values-loop-field
invariant-enter_values-loop-field l = all_seen (seen_at l.seen) (field_values_of (drop l.field-index l.fields)) ≡ all_seen (seen_at l.fn.seen) (field_values_of l.fields)
