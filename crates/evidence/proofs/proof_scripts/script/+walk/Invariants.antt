use Rattle.std.proofs.Common.{◌+◌, ◌*◌, length}
use Rattle.evidence.proofs.proof_scripts.script.+walk.Given as goal

abbrev pub decreases-walk : goal.decreases-walk
decreases-walk l = 3 * length l.lines.now

abbrev pub decreases-by_word : goal.decreases-by_word
decreases-by_word l = 3 * length l.lines.now + 2

abbrev pub decreases-premises : goal.decreases-premises
decreases-premises l = 3 * length l.lines.now + 1
