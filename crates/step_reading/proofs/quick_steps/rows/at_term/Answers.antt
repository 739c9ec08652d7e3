use Rattle.std.proofs.Common.{ap}
use Rattle.std.specs.Option.{option_map}
use Rattle.tasks.specs.trees.Node.{tree_at}
use Rattle.rules.specs.Meaning.{pair_at}
use Rattle.rules.proofs.Sequents.{so}
use Rattle.step_reading.proofs.quick_steps.Places.{place_later}
use Rattle.step_reading.proofs.quick_steps.Told.{at_term_told}
use Rattle.step_reading.proofs.quick_steps.rows.at_term.Goals as goal

pub returns-clause-told : goal.returns-clause-told
returns-clause-told c =
    let s = c.args.store.now in
    let s' = c.instance.new.g in
    at_term_told s s' c.in_ok-made.ensures.grows c.args.place.now c.requires.place (tree_at s' c.in_ok-made.made) c.args.sign c.adds_signed.result c.adds_signed.ensures
    (option_map (pair_at s) c.args.quantifier) (tree_at s c.in-Some.ty) (tree_at s c.in-Some.body) (tree_at s c.args.term) (ap (option_map (pair_at s)) c.in-Some.is)
    (so c.has_type.result c.has_type.ensures c.if-not-has_type.false) c.in_ok-made.ensures.tree

pub adds_signed-requires-clause-place : goal.adds_signed-requires-clause-place
adds_signed-requires-clause-place c = place_later c.args.store.now c.instance.new.g c.in_ok-made.ensures.grows c.args.place.now c.requires.place
