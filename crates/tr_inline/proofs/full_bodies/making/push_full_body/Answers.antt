use Rattle.std.proofs.Common.{◌≡◌, [], List, subst, sym, ap, ◌∙◌}
use Rattle.trees.specs.Tree.{Tree}
use Rattle.trees.specs.Node.{tree_at}
use Rattle.tasks.specs.Meaning.{definition_at, task_at}
use Rattle.tasks.specs.Vocabulary.{of_task}
use Rattle.checks.specs.decl_checks.Structure.{defining_body}
use Rattle.inlining.specs.images.Images.{image}
use Rattle.inlining.specs.FullBodies.{use_rule}
use Rattle.inlining.proofs.Bodies.{IsBody, onto, defined_body}
use Rattle.tr_inline.specs.declared.full_bodies.uses.FullBody.{FullBody}
use Rattle.tr_inline.specs.full_bodies.FullBodies.{rule_after, IsFull}
use Rattle.tr_inline.proofs.full_bodies.Bodies.{ready_push, rule_is}
use Rattle.tr_inline.proofs.full_bodies.making.push_full_body.Goals as goal

pub full_body-requires-clause-typed : goal.full_body-requires-clause-typed
full_body-requires-clause-typed c =
    let s = c.args.store.now in
    let v = of_task (task_at s c.args.task.now) in
    let p = defined_body v (definition_at s c.args.def) c.requires.defined in
    let b : IsBody v c.args.def.symbol (tree_at s c.defining_body-body.result) = subst (IsBody v c.args.def.symbol) (sym c.defining_body-body.ensures.tree) p in
    (onto b.symbol.args [], b.typed)

pub returns-clause-ready : goal.returns-clause-ready
returns-clause-ready c =
    let s = c.args.store.now in
    let t = c.full_body.new.store in
    let bodies = c.args.bodies.now.items in
    let v = of_task (task_at s c.args.task.now) in
    let id = c.defining_body-body.result in
    let b : FullBody = record { symbol = c.args.def.symbol; body = id; full = c.in_ok-full.full } in
    let is_body : IsBody v c.args.def.symbol (tree_at s id) = subst (IsBody v c.args.def.symbol) (sym c.defining_body-body.ensures.tree) (defined_body v (definition_at s c.args.def) c.requires.defined) in
    let full : IsFull t (image (rule_after s (λ e. e) bodies) (tree_at s id)) c.in_ok-full.full =
    subst (λ (z : List FullBody). IsFull t (image (rule_after s (λ e. e) z) (tree_at s id)) c.in_ok-full.full) c.deref.ensures.value c.in_ok-full.ensures.full in
    ready_push s t c.args.task.now bodies c.in_ok-full.ensures.grows c.requires.ready b c.defining_body-body.ensures.held is_body full c.push.new.self.items c.in_ok-push.ensures.items

pub returns-clause-rule : goal.returns-clause-rule
returns-clause-rule c =
    let s = c.args.store.now in
    let t = c.full_body.new.store in
    let bodies = c.args.bodies.now.items in
    let v = of_task (task_at s c.args.task.now) in
    let id = c.defining_body-body.result in
    let b : FullBody = record { symbol = c.args.def.symbol; body = id; full = c.in_ok-full.full } in
    let is_body : IsBody v c.args.def.symbol (tree_at s id) = subst (IsBody v c.args.def.symbol) (sym c.defining_body-body.ensures.tree) (defined_body v (definition_at s c.args.def) c.requires.defined) in
    let full : IsFull t (image (rule_after s (λ e. e) bodies) (tree_at s id)) c.in_ok-full.full =
    subst (λ (z : List FullBody). IsFull t (image (rule_after s (λ e. e) z) (tree_at s id)) c.in_ok-full.full) c.deref.ensures.value c.in_ok-full.ensures.full in
    rule_is s t c.args.task.now bodies c.in_ok-full.ensures.grows c.requires.ready b c.defining_body-body.ensures.held is_body full c.push.new.self.items c.in_ok-push.ensures.items
    ∙ ap (λ (z : Tree). use_rule c.args.def.symbol (image (rule_after s (λ e. e) bodies) z) (rule_after s (λ e. e) bodies)) c.defining_body-body.ensures.tree
