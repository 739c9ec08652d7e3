use Rattle.std.proofs.Common.{length}
use Rattle.declarations.proofs.spelled_groups.inversions.+parameters_list.Given as goal

abbrev pub decreases-parameters_list : goal.decreases-parameters_list
decreases-parameters_list l = length l.args.now
