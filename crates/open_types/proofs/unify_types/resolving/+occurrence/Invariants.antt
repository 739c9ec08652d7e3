use Rattle.std.proofs.Common.{◌+◌, ◌*◌}
use Rattle.open_types.proofs.unify_types.resolving.+occurrence.Given as goal

abbrev pub decreases-has_sought : goal.decreases-has_sought
decreases-has_sought l = 2 * l.e.0 + 1

abbrev pub decreases-has_sought_inside : goal.decreases-has_sought_inside
decreases-has_sought_inside l = 2 * l.e.0
