use Rattle.std.proofs.Common.{◌+◌, ◌*◌}
use Rattle.open_types.proofs.PatternSizes.{pattern_size, patterns_size, fields_size}
use Rattle.open_types.proofs.patterns.+matching.Given as goal

abbrev pub decreases-walk_pattern : goal.decreases-walk_pattern
decreases-walk_pattern l = 4 * pattern_size l.p.now

abbrev pub decreases-walk_constructor : goal.decreases-walk_constructor
decreases-walk_constructor l = 4 * patterns_size l.parts.now + 2

abbrev pub decreases-walk_patterns : goal.decreases-walk_patterns
decreases-walk_patterns l = 4 * patterns_size l.list.now + 1

abbrev pub decreases-walk_grouped : goal.decreases-walk_grouped
decreases-walk_grouped l = 4 * patterns_size l.list.now + 3

abbrev pub decreases-walk_record : goal.decreases-walk_record
decreases-walk_record l = 4 * fields_size l.fields.now + 2

abbrev pub decreases-walk_fields : goal.decreases-walk_fields
decreases-walk_fields l = 4 * fields_size l.fields.now + 1
