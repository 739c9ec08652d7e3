use Rattle.std.proofs.Common.{ap, get_or}
use Rattle.rules.specs.declared.rule.Step.{Step}
use Rattle.trees.specs.declared.TermId.{TermId}
use Rattle.evidence.proofs.Formulas.{last_at}
use Rattle.evidence.proofs.by.last_formula.Goals as goal

abbrev none : TermId
none = record { 0 = 0 }

pub returns-clause-formula : goal.returns-clause-formula
returns-clause-formula c =
    let steps = c.steps.result.now in
    let k = c.args.step in
    let x : Step = get_or steps k c.index-steps-step.result in
    last_at c.args.draft.now steps k x c.as_slice-sequent.result.now none c.requires.front c.requires.last
    c.steps.ensures.held c.steps.ensures.trees c.steps.ensures.right (ap (λ (z : Step). get_or steps k z) c.index-steps-step.is) c.as_slice-sequent.ensures c.requires.refutes
