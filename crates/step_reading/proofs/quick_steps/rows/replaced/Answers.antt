use Rattle.std.proofs.Common.{◌≡◌, true, sym, ap, ◌∙◌}
use Rattle.tasks.specs.trees.Binding.{inst}
use Rattle.tasks.specs.trees.Node.{tree_at}
use Rattle.tasks.proofs.trees.Nodes.{Grows_trans}
use Rattle.rules.specs.Rows.{IsTemplate}
use Rattle.rules.proofs.Sequents.{so, not_so}
use Rattle.rules.proofs.Templates.{template_is}
use Rattle.step_reading.specs.quick_steps.Places.{task_here, sequent_here, premises_here}
use Rattle.step_reading.proofs.quick_steps.Places.{place_later}
use Rattle.step_reading.proofs.quick_steps.Told.{adds_made, other_type, replaced_told}
use Rattle.step_reading.proofs.quick_steps.rows.replaced.Goals as goal

pub returns-then-not-has-clause-told : goal.returns-then-not-has-clause-told
returns-then-not-has-clause-told c =
    let s = c.args.store.now in
    let p = c.args.place.now in
    other_type (task_here s p) (tree_at s c.args.sides.0) (tree_at s c.args.sides.1) (tree_at s c.args.found) (tree_at s c.args.template) (tree_at s c.in-Some.ty) (sequent_here s p) (premises_here s p) c.in-Some.ensures.1
    (not_so c.in_ok-has.has c.in_ok-has.ensures c.if-not-has.true)

pub adds_signed-requires-clause-place : goal.adds_signed-requires-clause-place
adds_signed-requires-clause-place c =
    place_later c.args.store.now c.instance-2.new.g (Grows_trans c.args.store.now c.instance.new.g c.instance-2.new.g c.in_ok-before.ensures.grows c.in_ok-made.ensures.grows) c.args.place.now c.requires.place

pub returns-clause-told : goal.returns-clause-told
returns-clause-told c =
    let s = c.args.store.now in
    let s1 = c.instance.new.g in
    let s' = c.instance-2.new.g in
    let p = c.args.place.now in
    let t = task_here s p in
    let a = tree_at s c.args.sides.0 in
    let b = tree_at s c.args.sides.1 in
    let e = tree_at s c.args.template in
    let g1 = c.in_ok-before.ensures.grows in
    let m : tree_at s' c.in_ok-made.made ≡ inst e b = c.in_ok-made.ensures.tree ∙ ap (λ x. inst x (tree_at s1 c.args.sides.1)) (g1.same c.args.template.0 c.requires.held) ∙ ap (inst e) (g1.same c.args.sides.1.0 c.requires.sides.1) in
    let w : inst e a ≡ tree_at s c.args.found = sym c.in_ok-before.ensures.tree ∙ c.same.ensures.trees.0 c.if-not-same.false ∙ g1.same c.args.found.0 c.requires.formula in
    let o : IsTemplate t (tree_at s c.in-Some.ty) e = template_is t (tree_at s c.in-Some.ty) e c.requires.open
    (c.is_open_once.ensures.sort c.if-not-is_open_once.false) (c.is_open_once.ensures.loose c.if-not-is_open_once.false) (c.is_open_once.ensures.ground c.if-not-is_open_once.false)
    (so c.in_ok-has.has c.in_ok-has.ensures c.if-not-has.false) in
    replaced_told t a b (tree_at s c.args.found) e (tree_at s c.in-Some.ty) (sequent_here s p) (premises_here s p) c.in-Some.ensures.1 o w c.adds_signed.result
    (adds_made s s' (Grows_trans s s1 s' g1 c.in_ok-made.ensures.grows) p c.requires.place (tree_at s' c.in_ok-made.made) true c.adds_signed.result c.adds_signed.ensures (inst e b) m)
