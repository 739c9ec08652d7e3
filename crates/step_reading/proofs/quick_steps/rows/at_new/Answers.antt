use Rattle.std.proofs.Common.{ap, ◌∙◌}
use Rattle.std.specs.Option.{option_map}
use Rattle.tasks.specs.trees.Binding.{inst}
use Rattle.tasks.specs.trees.Node.{tree_at}
use Rattle.tasks.proofs.trees.Nodes.{Grows_trans}
use Rattle.rules.specs.Meaning.{pair_at, PairHeld}
use Rattle.rules.proofs.Sequents.{so, not_so}
use Rattle.step_reading.specs.quick_steps.Places.{sequent_here, premises_here}
use Rattle.step_reading.proofs.quick_steps.Places.{place_later}
use Rattle.step_reading.proofs.quick_steps.Told.{at_new_told, at_old_told}
use Rattle.step_reading.proofs.quick_steps.rows.at_new.Goals as goal

pub returns-then-not-new-clause-told : goal.returns-then-not-new-clause-told
returns-then-not-new-clause-told c =
    let s = c.args.store.now in
    at_old_told (option_map (pair_at s) c.args.quantifier) (sequent_here s c.args.place.now) c.args.number c.args.sign (premises_here s c.args.place.now) (not_so c.in_ok-new.new c.in_ok-new.ensures c.if-not-new.true)

pub returns-clause-told : goal.returns-clause-told
returns-clause-told c =
    let s = c.args.store.now in
    let s1 = c.parameter.new.g in
    let s' = c.instance.new.g in
    let g1 = c.in_ok-param.ensures.grows in
    let held : PairHeld s (c.in-Some.ty, c.in-Some.body) = rw c.in-Some.is at c.requires.quantifier in
    at_new_told s s' (Grows_trans s s1 s' g1 c.in_ok-made.ensures.grows) c.args.place.now c.requires.place (tree_at s' c.in_ok-made.made) c.args.sign c.adds_signed.result c.adds_signed.ensures
    (option_map (pair_at s) c.args.quantifier) (tree_at s c.in-Some.ty) (tree_at s c.in-Some.body) c.args.number (ap (option_map (pair_at s)) c.in-Some.is)
    (so c.in_ok-new.new c.in_ok-new.ensures c.if-not-new.false)
    (c.in_ok-made.ensures.tree ∙ ap (λ x. inst x (tree_at s1 c.in_ok-param.param)) (g1.same c.in-Some.body.0 held.1) ∙ ap (inst (tree_at s c.in-Some.body)) c.in_ok-param.ensures.tree)

pub adds_signed-requires-clause-place : goal.adds_signed-requires-clause-place
adds_signed-requires-clause-place c = place_later c.args.store.now c.instance.new.g (Grows_trans c.args.store.now c.parameter.new.g c.instance.new.g c.in_ok-param.ensures.grows c.in_ok-made.ensures.grows) c.args.place.now c.requires.place
