use Rattle.std.proofs.Common.{◌≤◌, arith}
use Rattle.tasks.specs.trees.Tree.{size}
use Rattle.tasks.specs.trees.Node.{tree_at}
use Rattle.tasks.specs.trees.Binding.{inst_types}
use Rattle.tasks.specs.Meaning.{trees_at}
use Rattle.tr_discriminate.proofs.instance_sets.Puts.{pushed}
use Rattle.tr_discriminate.proofs.instance_sets.instances.push_instance.Goals as goal

pub returns-clause-puts : goal.returns-clause-puts
returns-clause-puts c =
    let s = c.args.store.now in
    let s1 = c.inst_types.new.g in
    let e = inst_types (tree_at s c.args.saying.now.formula) (trees_at s c.args.types.now) in
    let few : c.size-nodes.result ≤ size (tree_at s1 c.in_ok-formula.formula) = omega (arith, c.size-nodes.ensures) in
    pushed s s1 c.in_ok-formula.ensures.grows c.args.decls.now c.requires.held c.args.saying.now.decl.now c.in_ok-formula.formula c.in_ok-formula.ensures.held c.in_ok-made.made c.in_ok-made.ensures c.push.new.self c.in_ok-push.ensures.ok e c.in_ok-formula.ensures.tree c.args.allowed c.size-nodes.result c.if-allowed-nodes.false few
