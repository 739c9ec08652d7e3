use Rattle.std.proofs.Common.{None, Some, ap, subst, ◌∙◌}
use Rattle.tasks.specs.Meaning.{symbols_at}
use Rattle.clones.specs.Meaning.{map_at}
use Rattle.clones.specs.clone_elements.Replacements.{PlacedEffects, with_sides}
use Rattle.clones.specs.clone_elements.Elements.{SidesTold}
use Rattle.clones.specs.clone_elements.Origins.{origin_at}
use Rattle.clones.specs.clone_elements.Meaning.{sides_at, effects_at}
use Rattle.clones.proofs.clone_elements.elements.check_elements.Goals as goal
use Rattle.tasks.proofs.outside.Passed.{no_ok}

pub find_wrong-requires-clause-trial : goal.find_wrong-requires-clause-trial
find_wrong-requires-clause-trial c = record { signature = c.requires.signature; decls = c.requires.decls; morphism = c.requires.map_held }

pub find_wrong-requires-clause-sides : goal.find_wrong-requires-clause-sides
find_wrong-requires-clause-sides c = c.requires.sides

pub returns-in_err-token-clause-right : goal.returns-in_err-token-clause-right
returns-in_err-token-clause-right c = no_ok _ _ c.from_residual.result c.from_residual.ensures.1

pub returns-in_err-token-clause-effects : goal.returns-in_err-token-clause-effects
returns-in_err-token-clause-effects c = no_ok _ _ c.from_residual.result c.from_residual.ensures.1

pub returns-in_err-token-clause-grows : goal.returns-in_err-token-clause-grows
returns-in_err-token-clause-grows c = c.find_wrong.ensures.grows

pub returns-in-Some-clause-right : goal.returns-in-Some-clause-right
returns-in-Some-clause-right c = tt

pub returns-in-Some-clause-effects : goal.returns-in-Some-clause-effects
returns-in-Some-clause-effects c = tt

pub returns-in-Some-clause-err : goal.returns-in-Some-clause-err
returns-in-Some-clause-err c =
    let s = c.args.store.now in
    let symbols = symbols_at s c.args.sig.now.symbols in
    let o = origin_at s c.args.source.now in
    let m = map_at s c.args.morphism.now in
    let xs = sides_at s c.args.sides.now in
    let told : SidesTold symbols o m (effects_at c.args.effects.now) xs (Some c.in-Some.token) = subst (SidesTold symbols o m (effects_at c.args.effects.now) xs) c.in-Some.is c.in_ok-token.ensures.told in
    subst (λ (f : PlacedEffects). SidesTold symbols o m f xs (Some c.in-Some.token)) c.requires.none told

pub returns-in-Some-clause-grows : goal.returns-in-Some-clause-grows
returns-in-Some-clause-grows c = c.find_wrong.ensures.grows

pub returns-in-None-clause-right : goal.returns-in-None-clause-right
returns-in-None-clause-right c =
    let s = c.args.store.now in
    let symbols = symbols_at s c.args.sig.now.symbols in
    let o = origin_at s c.args.source.now in
    let m = map_at s c.args.morphism.now in
    let xs = sides_at s c.args.sides.now in
    let told : SidesTold symbols o m (effects_at c.args.effects.now) xs None = subst (SidesTold symbols o m (effects_at c.args.effects.now) xs) c.in-None.is c.in_ok-token.ensures.told in
    subst (λ (f : PlacedEffects). SidesTold symbols o m f xs None) c.requires.none told

pub returns-in-None-clause-effects : goal.returns-in-None-clause-effects
returns-in-None-clause-effects c = c.in_ok-token.ensures.effects c.in-None.is ∙ ap (with_sides (sides_at c.args.store.now c.args.sides.now)) c.requires.none

pub returns-in-None-clause-err : goal.returns-in-None-clause-err
returns-in-None-clause-err c = tt

pub returns-in-None-clause-grows : goal.returns-in-None-clause-grows
returns-in-None-clause-grows c = c.find_wrong.ensures.grows
