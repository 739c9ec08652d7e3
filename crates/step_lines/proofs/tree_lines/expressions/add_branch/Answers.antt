use Rattle.step_lines.proofs.tree_lines.Growing.{branch_refused}
use Rattle.step_lines.proofs.tree_lines.expressions.add_branch.Goals as goal

pub returns-in-None-clause-made : goal.returns-in-None-clause-made
returns-in-None-clause-made c = branch_refused c.args.store.now c.add_node.new.store c.args.branch c.args.list c.in_ok-arm.field-0 c.in-None.is c.in_ok-arm.ensures.made
