use Rattle.std.proofs.Common.{◌≡◌, ℕ, not, ◌||◌, Option, Some, None, sym, ap, subst, ◌∙◌}
use Rattle.std.specs.Option.{is_some}
use Rattle.tasks.specs.Meaning.{symbols_at, declarations_at}
use Rattle.surface.specs.SurfaceDeclarations.{element_of}
use Rattle.clones.specs.declared.clone_elements.replacements.Effect.{Effect}
use Rattle.clones.specs.clone_elements.Left.{symbol_at_place}
use Rattle.clones.specs.clone_elements.Elements.{has_vars, is_wrong_at}
use Rattle.clones.specs.clone_elements.Origins.{origin_at}
use Rattle.clones.specs.clone_elements.Meaning.{right_at, effects_at}
use Rattle.clones.proofs.clone_elements.elements.is_wrong_at.Goals as goal

pub returns-in-None-get : goal.returns-in-None-get
returns-in-None-get c = λ s.
    let symbols = symbols_at s c.args.trial.now.sig.now.symbols in
    let t = origin_at s c.args.trial.now.source.now in
    let x = c.args.side.now in
    let e = element_of x.element.now in
    let r = right_at s x.right in
    let k = symbol_at_place (declarations_at s c.args.trial.now.source.now.decls.now) c.in-Some.place in
    let tells : c.has_vars.result ≡ has_vars symbols k e r = c.has_vars.ensures s x.element.now.at ∙ ap (λ (j : ℕ). has_vars symbols j e r) (c.symbol_at_place-symbol.ensures s) in
    let free : None ≡ effects_at c.args.effects.now c.in-Some.place = c.in-None-get.ensures.value in
    let there : not c.has_vars.result ≡ is_wrong_at symbols t (effects_at c.args.effects.now) e r (Some c.in-Some.place) =
    ap not tells ∙ ap (λ (o : Option Effect). is_some o || not (has_vars symbols k e r)) free in
    subst (λ (l : Option ℕ). not c.has_vars.result ≡ is_wrong_at symbols t (effects_at c.args.effects.now) e r l) (sym c.in-Some.is) there
