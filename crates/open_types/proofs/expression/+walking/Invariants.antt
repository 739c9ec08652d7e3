use Rattle.std.proofs.Common.{◌+◌, ◌*◌}
use Rattle.open_types.specs.Drafts.{operands_size}
use Rattle.open_types.specs.Sizes.{size_of, sizes_of, values_size, branches_size, triggers_size}
use Rattle.open_types.proofs.expression.+walking.Given as goal

abbrev pub decreases-walk : goal.decreases-walk
decreases-walk l = 5 * size_of l.e.now

abbrev pub decreases-walk_use : goal.decreases-walk_use
decreases-walk_use l = 5 * operands_size l.operands + 3

abbrev pub decreases-walk_symbol : goal.decreases-walk_symbol
decreases-walk_symbol l = 5 * operands_size l.operands + 2

abbrev pub decreases-walk_all : goal.decreases-walk_all
decreases-walk_all l = 5 * operands_size l.operands + 1

abbrev pub decreases-walk_group : goal.decreases-walk_group
decreases-walk_group l = 5 * sizes_of l.list.now + 3

abbrev pub decreases-walk_quantified : goal.decreases-walk_quantified
decreases-walk_quantified l = 5 * (triggers_size l.triggers.now + size_of l.body.now) + 3

abbrev pub decreases-walk_triggers : goal.decreases-walk_triggers
decreases-walk_triggers l = 5 * triggers_size l.triggers.now + 2

abbrev pub decreases-walk_terms : goal.decreases-walk_terms
decreases-walk_terms l = 5 * sizes_of l.list.now + 1

abbrev pub decreases-walk_match : goal.decreases-walk_match
decreases-walk_match l = 5 * (sizes_of l.values.now + branches_size l.branches.now) + 4

abbrev pub decreases-walk_matched : goal.decreases-walk_matched
decreases-walk_matched l = 5 * (size_of l.value.now + size_of l.body.now) + 4

abbrev pub decreases-walk_branches : goal.decreases-walk_branches
decreases-walk_branches l = 5 * branches_size l.list.now + 2

abbrev pub decreases-walk_branch : goal.decreases-walk_branch
decreases-walk_branch l = 5 * (size_of l.body.now + branches_size l.others.now) + 1

abbrev pub decreases-walk_record : goal.decreases-walk_record
decreases-walk_record l = 5 * values_size l.fields.now + 2
