use Rattle.std.proofs.Common.{length}
use Rattle.elab_groups.proofs.equations.+parameters_list.Given as goal

abbrev pub decreases-parameters_list : goal.decreases-parameters_list
decreases-parameters_list l = length l.args.now
