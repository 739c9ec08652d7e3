use Rattle.std.proofs.Common.{◌++◌, ◌∷◌, [], List, length, sym, ap, subst, get_or}
use Rattle.std.proofs.lemmas.Result.{IfOk-weaker}
use Rattle.trees.specs.declared.TermId.{TermId}
use Rattle.trees.specs.Tree.{Tree}
use Rattle.trees.specs.Node.{tree_at}
use Rattle.tasks.specs.Task.{neg, start}
use Rattle.tasks.specs.Meaning.{trees_at, tasks_at}
use Rattle.evidence.specs.Drafts.{Refutes, AreFormulas}
use Rattle.tr_introduce.specs.Steps.{AreParamsBelow, EndsDraftAt}
use Rattle.evidence.proofs.Owned.{own_locals, own_goal}
use Rattle.evidence.proofs.task_parts.Own.{own_below}
use Rattle.evidence.proofs.task_parts.One.{end_there}
use Rattle.tr_introduce.specs.Introduce.{introduced_task}
use Rattle.tr_introduce.proofs.Tasks.{one_introduced, own_end}
use Rattle.tr_introduce.proofs.introducing.IntroduceTransform.glue.Goals as goal

pub glue_goal-requires-clause-front : goal.glue_goal-requires-clause-front
glue_goal-requires-clause-front c = subst (AreFormulas c.args.draft.now) (sym c.as_slice.ensures) (own_locals c.args.draft.now c.args.from.now c.requires.own)

pub glue_goal-requires-clause-goal : goal.glue_goal-requires-clause-goal
glue_goal-requires-clause-goal c = own_goal c.args.draft.now c.args.from.now c.requires.own

pub glue_goal-requires-clause-below : goal.glue_goal-requires-clause-below
glue_goal-requires-clause-below c =
    let d = c.args.draft.now in
    let from = c.args.from.now in
    subst (λ (z : List TermId). AreParamsBelow (length c.as_slice-params.result.now) (trees_at d.trees z) (tree_at d.trees from.goal)) (sym c.as_slice.ensures)
    (own_below d from (length c.as_slice-params.result.now) (ap length c.as_slice-params.ensures) c.requires.own)

pub returns-clause-refutes : goal.returns-clause-refutes
returns-clause-refutes c =
    let d = c.args.draft.now in
    let from = c.args.from.now in
    IfOk-weaker c.glue_goal.result _ _ (λ k r.
    let s = subst (λ (z : List TermId). Refutes c.glue_goal.new.draft k (trees_at d.trees z ++ neg (tree_at d.trees from.goal) ∷ [])) c.as_slice.ensures r in
    subst (λ (z : List Tree). Refutes c.glue_goal.new.draft k z) (ap start c.requires.own.is) s) c.glue_goal.ensures.refutes

pub bounds-ends-0 : goal.bounds-ends-0
bounds-ends-0 c =
    let d = c.args.draft.now in
    let tasks = tasks_at d.trees c.args.to.now.items in
    end_there d c.args.ends.now tasks (introduced_task d.task) (one_introduced d.task tasks c.requires.gives) c.requires.ends

pub glue_goal-requires-clause-end : goal.glue_goal-requires-clause-end
glue_goal-requires-clause-end c =
    let d = c.args.draft.now in
    let from = c.args.from.now in
    let n = length c.as_slice-params.result.now in
    let e = own_end d from n c.args.ends.now (tasks_at d.trees c.args.to.now.items) (ap length c.as_slice-params.ensures) c.requires.own c.requires.gives c.requires.ends in
    subst (λ (z : List TermId). EndsDraftAt d (get_or c.args.ends.now 0 0) (trees_at d.trees z) (tree_at d.trees from.goal) n) (sym c.as_slice.ensures) e

pub returns-clause-grows : goal.returns-clause-grows
returns-clause-grows c = c.glue_goal.ensures.grows
