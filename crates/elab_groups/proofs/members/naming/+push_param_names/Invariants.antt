use Rattle.std.proofs.Common.{length}
use Rattle.elab_groups.proofs.members.naming.+push_param_names.Given as goal

abbrev pub decreases-push_param_names : goal.decreases-push_param_names
decreases-push_param_names l = length l.params.now
