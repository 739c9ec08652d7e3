use Rattle.tasks.specs.trees.Node.{tree_at}
use Rattle.step_reading.proofs.quick_steps.Places.{place_later}
use Rattle.step_reading.proofs.quick_steps.Told.{let_told}
use Rattle.step_reading.proofs.quick_steps.rows.let_def.Goals as goal

pub returns-clause-told : goal.returns-clause-told
returns-clause-told c =
    let s = c.args.store.now in
    let s' = c.instance.new.g in
    let g = c.in_ok-made.ensures.grows in
    let_told s s' g c.args.place.now c.requires.place (tree_at s c.args.e) (tree_at s c.in-Let.value) (tree_at s c.in-Let.body) (tree_at s' c.args.e) (tree_at s' c.in_ok-made.made) c.adds_alike.result
    c.in-Let.ensures.tree (g.same c.args.e.0 c.requires.held) c.in_ok-made.ensures.tree c.adds_alike.ensures

pub adds_alike-requires-clause-place : goal.adds_alike-requires-clause-place
adds_alike-requires-clause-place c = place_later c.args.store.now c.instance.new.g c.in_ok-made.ensures.grows c.args.place.now c.requires.place
