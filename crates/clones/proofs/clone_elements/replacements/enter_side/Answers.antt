use Rattle.std.proofs.Common.{◌≡◌, ℕ, Option, Some, sym, subst, ◌∙◌}
use Rattle.surface.specs.SurfaceDeclarations.{element_of}
use Rattle.clones.specs.declared.clone_elements.replacements.Effect.{Effect}
use Rattle.clones.specs.clone_elements.Replacements.{element_effect, with_effect}
use Rattle.clones.specs.clone_elements.Meaning.{effects_at}
use Rattle.clones.proofs.clone_elements.replacements.enter_side.Goals as goal
use Rattle.tasks.proofs.outside.Passed.{no_ok}

pub returns : goal.returns
returns c = λ s.
    let e = element_of c.args.side.now.element.now in
    let old = effects_at c.args.effects.now in
    let new = effects_at c.insert.new.self in
    let place = c.in-Some.place in
    let says : Some c.in-Some-element_effect.effect ≡ element_effect e = sym c.in-Some-element_effect.is ∙ c.element_effect.ensures c.args.side.now.element.now.at in
    let there : new ≡ with_effect (Some place) (Some c.in-Some-element_effect.effect) old = λ i q. c.in_ok-insert.ensures.updates.0 q i in
    subst (λ (l : Option ℕ). new ≡ with_effect l (element_effect e) old) (sym c.in-Some.is) (subst (λ (f : Option Effect). new ≡ with_effect (Some place) f old) says there)

pub returns-in_err-insert : goal.returns-in_err-insert
returns-in_err-insert c = no_ok _ _ c.from_residual.result c.from_residual.ensures.1
