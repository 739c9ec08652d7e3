use Rattle.std.proofs.Common.{ap, ◌∙◌}
use Rattle.std.proofs.lemmas.Result.{IfOk-weaker}
use Rattle.trees.proofs.Laws.{inst_close}
use Rattle.trees.specs.Binding.{inst, Param}
use Rattle.trees.specs.Node.{tree_at}
use Rattle.trees.proofs.binders.close_param.Goals as goal

pub returns-clause-back : goal.returns-clause-back
returns-clause-back g c =
    let s = g.G.Grow.trees c.args.g.now in
    let n = c.args.param in
    IfOk-weaker c.change_tree.result _ _ (λ id k ty l m t. ap (λ x. inst x (Param n ty)) k ∙ inst_close (tree_at s c.args.e) n ty l m t) c.change_tree.ensures.tree
