use Rattle.std.specs.Prelude.{OnOk}
use Rattle.std.proofs.Common.{◌≡◌, [], ◌∷◌, ◌++◌, sym, subst}
use Rattle.std.proofs.lemmas.List.Elements.{All-push}
use Rattle.kernel.specs.rules.Meaning.{StepHeld, StepsHeld}
use Rattle.kernel_tests.proofs.steps.premise_steps.Goals as goal

pub loop-ids-preserved : goal.loop-ids-preserved
loop-ids-preserved g c =
    let grown : c.push.new.self ≡ c.loop-ids.steps ++ c.step.result ∷ [] = subst (λ r. OnOk r (c.push.new.self ≡ c.loop-ids.steps ++ c.step.result ∷ [])) c.expect.ensures c.push.ensures.ok in
    subst (StepsHeld c.args.store.now) (sym grown) (All-push (StepHeld c.args.store.now) c.loop-ids.steps c.step.result c.loop-ids.invariant c.step.ensures)
