use Rattle.std.proofs.Common.{sym, arith}
use Rattle.trees.specs.Node.{tree_at}
use Rattle.trees.proofs.Above.{no_param_above}
use Rattle.trees.proofs.binders.+has_param.Goals as goal

pub returns-then-above_parameters-param : goal.returns-then-above_parameters-param
returns-then-above_parameters-param t c = sym (no_param_above (tree_at c.args.s.now c.args.e) c.args.param (omega arith))
