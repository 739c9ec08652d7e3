use Rattle.std.proofs.Common.{sym, arith}
use Rattle.tasks.specs.trees.Node.{tree_at}
use Rattle.tasks.proofs.trees.Above.{no_param_above}
use Rattle.step_reading.proofs.quick_steps.parameters.+occurrence.Goals as goal

pub has_param-returns-then-above_parameters-param-clause-answer : goal.has_param-returns-then-above_parameters-param-clause-answer
has_param-returns-then-above_parameters-param-clause-answer t c = sym (no_param_above (tree_at c.args.store.now c.args.e) c.args.param (omega arith))
