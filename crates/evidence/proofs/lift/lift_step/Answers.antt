use Rattle.std.proofs.Common.{◌≡◌, ◌∙◌, ℕ, ap, subst, map, get_or, List}
use Rattle.std.proofs.lemmas.Result.{IfOk-weaker}
use Rattle.trees.specs.declared.TermId.{TermId}
use Rattle.tasks.specs.Meaning.{trees_at, task_at}
use Rattle.rules.specs.Meaning.{step_at, steps_at}
use Rattle.evidence.specs.Drafts.{Refutes}
use Rattle.evidence.proofs.Lifted.{cites, right_lifted, among_keeps, formulas_lifted}
use Rattle.evidence.proofs.lift.lift_step.Goals as goal

pub lift_cited-requires-clause-sequent : goal.lift_cited-requires-clause-sequent
lift_cited-requires-clause-sequent g c =
    let d = c.args.draft.now in
    let s = d.trees in
    let to = c.args.to.now in
    let kept = among_keeps (g.T.Transform.equation c.args.stage.now) d.task (task_at s to) c.requires.stage.own.valid (g.met.T.Transform.keeps c.args.stage.now d.task) c.requires.stage.among in
    rw c.as_slice-sequent.ensures (formulas_lifted d (task_at s to) c.args.step.now.sequent kept c.requires.held.sequent c.requires.right.formulas)

pub lift_cited-requires-clause-types_held : goal.lift_cited-requires-clause-types_held
lift_cited-requires-clause-types_held g c = c.in-Some.ensures.held c.args.draft.now.trees c.requires.held.rule

pub lift_cited-requires-clause-cites : goal.lift_cited-requires-clause-cites
lift_cited-requires-clause-cites g c =
    let d = c.args.draft.now in
    let s = d.trees in
    let to = c.args.to.now in
    let kept = among_keeps (g.T.Transform.equation c.args.stage.now) d.task (task_at s to) c.requires.stage.own.valid (g.met.T.Transform.keeps c.args.stage.now d.task) c.requires.stage.among in
    let p : c.in_ok-premises.premises ≡ map (λ (z : ℕ). get_or c.args.numbers.now z 0) c.args.step.now.premises = c.in_ok-premises.ensures ∙ ap (map (λ (z : ℕ). get_or c.args.numbers.now z 0)) c.as_slice.ensures in
    let q = cites d (task_at s to) (steps_at s c.args.before.now) (step_at s c.args.step.now) c.in-Some.name (trees_at s c.in-Some.types.now) c.args.numbers.now c.in_ok-premises.premises kept
    c.requires.right (c.in-Some.ensures.some s) c.requires.numbers p in
    rw (c.as_slice-sequent.ensures, c.as_slice-in-Some.ensures) q.1

pub lift_other-requires : goal.lift_other-requires
lift_other-requires g c =
    let d = c.args.draft.now in
    let s = d.trees in
    let to = c.args.to.now in
    let kept = among_keeps (g.T.Transform.equation c.args.stage.now) d.task (task_at s to) c.requires.stage.own.valid (g.met.T.Transform.keeps c.args.stage.now d.task) c.requires.stage.among in
    let p : c.in_ok-premises.premises ≡ map (λ (z : ℕ). get_or c.args.numbers.now z 0) c.args.step.now.premises = c.in_ok-premises.ensures ∙ ap (map (λ (z : ℕ). get_or c.args.numbers.now z 0)) c.as_slice.ensures in
    record {
      held = c.requires.held;
      right = right_lifted d (task_at s to) (steps_at s c.args.before.now) (step_at s c.args.step.now) c.args.numbers.now c.in_ok-premises.premises kept c.requires.right (c.in-None.ensures.none s) c.requires.numbers p;
    }

pub returns-in-Some-clause-refutes : goal.returns-in-Some-clause-refutes
returns-in-Some-clause-refutes g c =
    IfOk-weaker c.lift_cited.result _ _ (λ k r. subst (λ (z : List TermId). Refutes c.lift_cited.new.draft k (trees_at c.args.draft.now.trees z)) c.as_slice-sequent.ensures r) c.lift_cited.ensures.refutes
