use Rattle.std.proofs.Common.{◌+◌, ◌*◌}
use Rattle.printed_problems.proofs.forms.+forms.Given as goal

abbrev pub decreases-has_forms : goal.decreases-has_forms
decreases-has_forms l = 2 * l.e.0 + 1

abbrev pub decreases-parts_have_forms : goal.decreases-parts_have_forms
decreases-parts_have_forms l = 2 * l.e.0
