use Rattle.std.proofs.Common.{◌≡◌, ap, subst, ◌∙◌, arith}
use Rattle.std.proofs.lemmas.Result.{IfOk-weaker}
use Rattle.trees.specs.Tree.{Tree}
use Rattle.trees.specs.Node.{tree_at, Grows}
use Rattle.trees.specs.Binding.{inst, Param}
use Rattle.tasks.specs.typed_trees.instances.Instances.{IsInstance}
use Rattle.tr_introduce.proofs.introduction.open_body.Goals as goal
use Rattle.outside.proofs.Passed.{no_value}

pub returns-in_err-made : goal.returns-in_err-made
returns-in_err-made g c = record {
  held = no_value _ _ c.from_residual.result c.from_residual.ensures.1;
  tree = no_value _ _ c.from_residual.result c.from_residual.ensures.1;
  keeps = no_value _ _ c.from_residual.result c.from_residual.ensures.1;
  grows = c.parameter.ensures.grows;
}

pub parameter-requires-clause-held : goal.parameter-requires-clause-held
parameter-requires-clause-held g c = c.requires.ty_held

pub parameter-requires-clause-kind : goal.parameter-requires-clause-kind
parameter-requires-clause-kind g c = c.requires.kind

pub instance-requires-clause-body_held : goal.instance-requires-clause-body_held
instance-requires-clause-body_held g c =
    let s = g.G.Grow.trees c.args.g.now in
    let s1 = g.G.Grow.trees c.parameter.new.g in
    let x : Grows s s1 = g.met.G.Grow.keeps_trees _ _ c.in_ok-made.ensures.grows in
    omega (arith, x.longer, c.requires.body_held)

pub instance-requires-clause-by_held : goal.instance-requires-clause-by_held
instance-requires-clause-by_held g c = c.in_ok-made.ensures.held

pub instance-requires-clause-closed : goal.instance-requires-clause-closed
instance-requires-clause-closed g c = c.in_ok-made.ensures.closed

pub returns-clause-held : goal.returns-clause-held
returns-clause-held g c = c.instance.ensures.held

pub returns-clause-tree : goal.returns-clause-tree
returns-clause-tree g c =
    let s = g.G.Grow.trees c.args.g.now in
    let s1 = g.G.Grow.trees c.parameter.new.g in
    let x : Grows s s1 = g.met.G.Grow.keeps_trees _ _ c.in_ok-made.ensures.grows in
    let b : tree_at s1 c.args.body ≡ tree_at s c.args.body = x.same c.args.body.0 c.requires.body_held in
    IfOk-weaker c.instance.result _ _ (λ id q. q ∙ ap (λ (z : Tree). inst z (tree_at s1 c.in_ok-made.made)) b ∙ ap (inst (tree_at s c.args.body)) c.in_ok-made.ensures.tree) c.instance.ensures.tree

pub returns-clause-keeps : goal.returns-clause-keeps
returns-clause-keeps g c =
    let s = g.G.Grow.trees c.args.g.now in
    let s1 = g.G.Grow.trees c.parameter.new.g in
    let x : Grows s s1 = g.met.G.Grow.keeps_trees _ _ c.in_ok-made.ensures.grows in
    let b : tree_at s1 c.args.body ≡ tree_at s c.args.body = x.same c.args.body.0 c.requires.body_held in
    let s2 = g.G.Grow.trees c.instance.new.g in
    IfOk-weaker c.instance.result _ _ (λ id i. subst (λ (z : Tree). IsInstance z (Param c.args.number (tree_at s c.args.ty)) (tree_at s2 id)) b (subst (λ (z : Tree). IsInstance (tree_at s1 c.args.body) z (tree_at s2 id)) c.in_ok-made.ensures.tree i)) c.instance.ensures.keeps

pub returns-clause-grows : goal.returns-clause-grows
returns-clause-grows g c = g.met.G.Grow.grows_trans _ _ _ c.in_ok-made.ensures.grows c.instance.ensures.grows
