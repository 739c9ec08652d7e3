use Rattle.std.proofs.Common.{◌≡◌, ◌∙◌, ◌++◌, [], rules}
use Rattle.std.proofs.lemmas.List.{append-nil}
use Rattle.tasks.specs.Meaning.{trees_at}
use Rattle.tasks.specs.Task.{start}
use Rattle.evidence.proofs.Formulas.{none_formulas, step_formulas, whole_kept, ends_at}
use Rattle.evidence.proofs.by.finish.Goals as goal

pub keep_but-requires-clause-front : goal.keep_but-requires-clause-front
keep_but-requires-clause-front c =
    let d = c.args.draft.now in
    let steps = c.steps-steps.result.now in
    let seq : c.as_slice.result.now ≡ c.index-steps-number.result.sequent = search rules in
    (step_formulas d steps c.args.number c.index-steps-number.result c.as_slice.result.now c.steps-steps.ensures.held c.steps-steps.ensures.trees c.steps-steps.ensures.right c.index-steps-number.is seq c.requires.start.within).0

pub keep_but-requires-clause-middle : goal.keep_but-requires-clause-middle
keep_but-requires-clause-middle c = none_formulas c.args.draft.now

pub keep_but-requires-clause-last : goal.keep_but-requires-clause-last
keep_but-requires-clause-last c = none_formulas c.args.draft.now

pub keep_but-requires-clause-step : goal.keep_but-requires-clause-step
keep_but-requires-clause-step c =
    let d = c.args.draft.now in
    let steps = c.steps-steps.result.now in
    let seq : c.as_slice.result.now ≡ c.index-steps-number.result.sequent = search rules in
    let f = step_formulas d steps c.args.number c.index-steps-number.result c.as_slice.result.now c.steps-steps.ensures.held c.steps-steps.ensures.trees c.steps-steps.ensures.right c.index-steps-number.is seq c.requires.start.within in
    whole_kept d c.as_slice.result.now c.args.number (start d.task) (f.1 ∙ c.requires.start.is) c.requires.start

pub returns-clause-starts : goal.returns-clause-starts
returns-clause-starts c =
    let d = c.args.draft.now in
    let steps = c.steps-steps.result.now in
    let seq : c.as_slice.result.now ≡ c.index-steps-number.result.sequent = search rules in
    let f = step_formulas d steps c.args.number c.index-steps-number.result c.as_slice.result.now c.steps-steps.ensures.held c.steps-steps.ensures.trees c.steps-steps.ensures.right c.index-steps-number.is seq c.requires.start.within in
    let e : trees_at d.trees c.as_slice.result.now ++ [] ≡ start d.task = append-nil (trees_at d.trees c.as_slice.result.now) ∙ f.1 ∙ c.requires.start.is in
    ends_at d c.keep_but.new.draft c.in_ok-kept.kept _ c.in_ok-kept.ensures.grows e c.in_ok-kept.ensures.refutes c.in_ok-kept.ensures.last
