use Rattle.std.proofs.Common.{◌≡◌, ◌<◌, List, ℕ, false, length, get_or, subst, sym, ap, refl, ◌∙◌, arith}
use Rattle.std.proofs.lemmas.List.{get_or-map, length-map}
use Rattle.kernel.specs.rules.declared.rule.Step.{Step}
use Rattle.kernel.specs.rules.Trees.{no_step}
use Rattle.kernel.specs.rules.Meaning.{step_at, steps_at}
use Rattle.kernel.specs.trees.Tree.{Tree}
use Rattle.step_writing.specs.Named.{SymbolsNamed}
use Rattle.step_writing.proofs.Naming.{all_more, all_done, no_true}
use Rattle.step_writing.proofs.named.name_symbols.Goals as goal

there : (s : List Tree) (steps : List Step) (i : ℕ) (st : Step) → i < length steps → st ≡ get_or steps i st → step_at s st ≡ get_or (steps_at s steps) i no_step
there s steps i st lt is = ap (step_at s) is ∙ sym (get_or-map (step_at s) steps i st no_step lt)

pub returns-then-not-names_symbol : goal.returns-then-not-names_symbol
returns-then-not-names_symbol c =
    let s = c.args.store.now in
    let steps = c.args.steps.now in
    let i = c.loop-step.step-index in
    let lt : i < length steps = omega (arith, c.loop-step-test.true) in (
      λ t. absurd (no_true false refl t),
      λ a. absurd (no_true c.names_symbol.result c.if-not-names_symbol.true (c.names_symbol.ensures.1 (subst (SymbolsNamed c.args.table.now) (sym (there s steps i c.step-item.result lt c.step-item.is)) (a i no_step (omega (arith, lt, length-map steps (step_at s))))))),
    )

pub loop-step-preserved : goal.loop-step-preserved
loop-step-preserved c =
    let s = c.args.store.now in
    let steps = c.args.steps.now in
    let i = c.loop-step.step-index in
    let lt : i < length steps = omega (arith, c.loop-step-test.true) in
    all_more (SymbolsNamed c.args.table.now) (steps_at s steps) i no_step (omega (arith, lt, length-map steps (step_at s))) c.loop-step.invariant
    (subst (SymbolsNamed c.args.table.now) (there s steps i c.step-item.result lt c.step-item.is) (c.names_symbol.ensures.0 c.if-not-names_symbol.false))

pub returns : goal.returns
returns c =
    let s = c.args.store.now in
    let steps = c.args.steps.now in
    (λ t. all_done (SymbolsNamed c.args.table.now) (steps_at s steps) c.loop-step.step-index (omega (arith, c.loop-step-test.false, length-map steps (step_at s))) c.loop-step.invariant, λ a. refl)
