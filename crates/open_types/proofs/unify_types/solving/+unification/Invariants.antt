use Rattle.std.proofs.Common.{◌+◌, ◌*◌}
use Rattle.open_types.proofs.unify_types.solving.+unification.Given as goal

abbrev pub decreases-unify_sides : goal.decreases-unify_sides
decreases-unify_sides l = 2 * l.steps

abbrev pub decreases-unify_roots : goal.decreases-unify_roots
decreases-unify_roots l = 2 * l.steps + 1

abbrev pub decreases-unify_lists : goal.decreases-unify_lists
decreases-unify_lists l = 2 * l.steps
