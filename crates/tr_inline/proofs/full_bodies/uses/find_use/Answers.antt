use Rattle.std.proofs.Common.{◌≡◌, sym, ap, ◌∙◌}
use Rattle.trees.specs.Node.{tree_at}
use Rattle.inlining.specs.images.Images.{image}
use Rattle.inlining.specs.images.typing_laws.HasTyping.{over_parts}
use Rattle.tr_inline.specs.full_bodies.FullBodies.{rule_after}
use Rattle.tr_inline.proofs.full_bodies.FoundUses.{function_use, predicate_use, function_left, predicate_left, others_left, no_use}
use Rattle.tr_inline.proofs.full_bodies.uses.find_use.Goals as goal

pub returns-in-Some : goal.returns-in-Some
returns-in-Some c =
    let s = c.args.store.now in
    let x = c.args.inlining.now in
    function_use s x.task.now x.bodies.now c.requires.ready c.args.e c.in-Fun.f c.in-Fun.types c.in-Fun.args (tree_at s c.in-Fun.field-3) c.in-Some.body
    c.in-Fun.ensures.tree c.in-Fun.ensures.below.0 c.in-Fun.ensures.below.1 c.requires.typed (sym c.find_body.ensures ∙ c.in-Some.is)

pub returns-in-None : goal.returns-in-None
returns-in-None c =
    let s = c.args.store.now in
    let x = c.args.inlining.now in
    function_left s x.task.now x.bodies.now c.requires.ready c.in-Fun.f (tree_at s c.args.e) (tree_at s c.in-Fun.types) (tree_at s c.in-Fun.args) (tree_at s c.in-Fun.field-3)
    c.in-Fun.ensures.tree (sym c.find_body.ensures ∙ c.in-None.is)

pub returns-in-Some-find_body : goal.returns-in-Some-find_body
returns-in-Some-find_body c =
    let s = c.args.store.now in
    let x = c.args.inlining.now in
    predicate_use s x.task.now x.bodies.now c.requires.ready c.args.e c.in-Pred.p c.in-Pred.types c.in-Pred.args c.in-Some-find_body.body
    c.in-Pred.ensures.tree c.in-Pred.ensures.below.0 c.in-Pred.ensures.below.1 c.requires.typed (sym c.find_body-in-Pred.ensures ∙ c.in-Some-find_body.is)

pub returns-in-None-find_body : goal.returns-in-None-find_body
returns-in-None-find_body c =
    let s = c.args.store.now in
    let x = c.args.inlining.now in
    predicate_left s x.task.now x.bodies.now c.requires.ready c.in-Pred.p (tree_at s c.args.e) (tree_at s c.in-Pred.types) (tree_at s c.in-Pred.args)
    c.in-Pred.ensures.tree (sym c.find_body-in-Pred.ensures ∙ c.in-None-find_body.is)

pub returns-in_default : goal.returns-in_default
returns-in_default c =
    let s = c.args.store.now in
    let x = c.args.inlining.now in
    let n = c.node.result in
    ap (image (rule_after s (λ z. z) x.bodies.now)) c.node.ensures.tree ∙ others_left s x.bodies.now _ (no_use s n c.in_default.not-Fun c.in_default.not-Pred)
    ∙ sym (ap (over_parts (rule_after s (λ z. z) x.bodies.now)) c.node.ensures.tree)
