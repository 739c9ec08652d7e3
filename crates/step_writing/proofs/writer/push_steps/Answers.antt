use Rattle.std.proofs.Common.{◌≡◌, ◌<◌, length, get_or, sym, ap, subst, ◌∙◌, arith}
use Rattle.std.proofs.lemmas.List.{get_or-map, length-map}
use Rattle.kernel.specs.rules.Trees.{no_step}
use Rattle.kernel.specs.rules.Meaning.{step_at, steps_at}
use Rattle.step_writing.specs.Words.{StepReady}
use Rattle.step_writing.proofs.Texts.{first_more}
use Rattle.step_writing.proofs.writer.push_steps.Goals as goal

pub push_step-requires-clause-ready : goal.push_step-requires-clause-ready
push_step-requires-clause-ready c =
    let x = c.args.x.now in
    let s = x.store.now in
    let steps = c.args.steps.now in
    let i = c.loop-step.step-index in
    let lt : i < length steps = omega (arith, c.loop-step-test.true) in
    let st = c.step-item.result in
    let is : get_or (steps_at s steps) i no_step ≡ step_at s st = get_or-map (step_at s) steps i st no_step lt ∙ ap (step_at s) (sym c.step-item.is) in
    subst (StepReady x) is (c.requires.ready i no_step (omega (arith, lt, length-map steps (step_at s))))

pub loop-step-preserved : goal.loop-step-preserved
loop-step-preserved c =
    let x = c.args.x.now in
    let steps = c.args.steps.now in
    let i = c.loop-step.step-index in
    let lt : i < length steps = omega (arith, c.loop-step-test.true) in
    first_more x steps i c.step-item.result c.args.text.now.items c.loop-step.text.items c.push_step.new.text.items lt c.step-item.is c.requires.words c.in_ok-push_step.ensures c.loop-step.invariant
