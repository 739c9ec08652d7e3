use Rattle.std.proofs.Common.{◌≡◌, ◌++◌, ◌∷◌, [], List, length, sym, ap, subst}
use Rattle.std.proofs.lemmas.Result.{IfOk-weaker}
use Rattle.tasks.specs.trees.declared.TermId.{TermId}
use Rattle.tasks.specs.trees.Tree.{Tree}
use Rattle.tasks.specs.trees.Node.{tree_at}
use Rattle.tasks.specs.Task.{neg, start}
use Rattle.tasks.specs.Meaning.{trees_at, tasks_at}
use Rattle.evidence.specs.Drafts.{Refutes}
use Rattle.tr_split.specs.parts.Split.{split_task}
use Rattle.tr_split.specs.parts.Kept.{parts_are_split}
use Rattle.evidence.proofs.Owned.{own_locals, own_goal}
use Rattle.tr_split.proofs.parts.Glued.{own_ends}
use Rattle.tr_split.specs.Gluing.{CanGlue}
use Rattle.evidence.proofs.task_parts.Own.{own_below}
use Rattle.tr_split.proofs.splitting.SplitTransform.glue.Goals as goal

pub glue_goal-requires : goal.glue_goal-requires
glue_goal-requires c =
    let d = c.args.draft.now in
    let from = c.args.from.now in
    let n = length c.as_slice-params.result.now in
    let own = c.requires.own in
    let is : tasks_at d.trees c.args.to.now.items ≡ split_task d.task = parts_are_split d.task (tasks_at d.trees c.args.to.now.items) c.requires.gives in
    record {
      can = subst (λ (z : List TermId). CanGlue d z from.goal n c.args.ends.now) (sym c.as_slice.ensures) (record {
        front = own_locals d from own;
        goal = own_goal d from own;
        below = own_below d from n (ap length c.as_slice-params.ensures) own;
        ends = own_ends d from c.args.ends.now (tasks_at d.trees c.args.to.now.items) own is c.requires.ends;
      });
    }

pub returns-clause-refutes : goal.returns-clause-refutes
returns-clause-refutes c =
    let d = c.args.draft.now in
    let from = c.args.from.now in
    IfOk-weaker c.glue_goal.result _ _ (λ k r.
    let s = subst (λ (z : List TermId). Refutes c.glue_goal.new.draft k (trees_at d.trees z ++ neg (tree_at d.trees from.goal) ∷ [])) c.as_slice.ensures r in
    subst (λ (z : List Tree). Refutes c.glue_goal.new.draft k z) (ap start c.requires.own.is) s) c.glue_goal.ensures.refutes

pub returns-clause-grows : goal.returns-clause-grows
returns-clause-grows c = c.glue_goal.ensures.grows
