use Rattle.std.proofs.Common.{length}
use Rattle.checks.proofs.decl_checks.structure.+all_pass.Given as goal

abbrev pub decreases-all_pass : goal.decreases-all_pass
decreases-all_pass l = length l.defs.now
