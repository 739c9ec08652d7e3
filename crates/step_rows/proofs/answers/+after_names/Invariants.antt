use Rattle.std.proofs.Common.{length}
use Rattle.step_rows.proofs.answers.+after_names.Given as goal

abbrev pub decreases-after_names : goal.decreases-after_names
decreases-after_names l = length l.lines.now
