use Rattle.trees.specs.Node.{tree_at}
use Rattle.checks.proofs.decl_checks.Nodes.{free_each}
use Rattle.checks.proofs.decl_checks.clauses.is_free.Goals as goal

pub returns : goal.returns
returns c = free_each c.args.group.now (tree_at c.args.store.now c.args.e) c.each_passes.result c.each_passes.ensures
