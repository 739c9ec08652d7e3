use Rattle.std.proofs.Common.{◌≡◌, ◌<◌, ℕ, ap, subst, length, sym, List, [], arith}
use Rattle.std.proofs.lemmas.Result.{IfOk-weaker}
use Rattle.std.proofs.lemmas.List.{length-map}
use Rattle.std.proofs.lemmas.List.Elements.{All-from_get_or}
use Rattle.trees.specs.Tree.{Tree}
use Rattle.tasks.specs.Task.{TaskTree, start}
use Rattle.tasks.specs.Meaning.{task_at, tasks_at}
use Rattle.rules.specs.Trees.{StepTree}
use Rattle.rules.specs.Meaning.{steps_at}
use Rattle.evidence.specs.Drafts.{Refutes}
use Rattle.evidence.specs.Stages.{Gives, HasSequents, start_of, parts_at, part_or}
use Rattle.evidence.specs.Laws.{Extends_trans}
use Rattle.evidence.proofs.Lifted.{in_stage_later, in_stage_of, own_later, closes_later, start_later, part_later, part_held_later, have_more, sequents_more, tasks_later, tasks_held_later, end_all, has_later}
use Rattle.evidence.proofs.lift.lift_stage.Goals as goal

pub lift_end-requires-clause-stage : goal.lift_end-requires-clause-stage
lift_end-requires-clause-stage g c =
    let P = g.T.Transform.equation c.args.stage.now in
    let d = c.args.draft.now in
    let to = c.args.to.now.items in
    let i = c.loop-i.i in
    let l : i < length to = omega (arith, c.args.to.now.ok.0) in
    in_stage_later P d c.loop-i.draft c.args.from.now c.index.result.now c.loop-i.invariant.grows
    (in_stage_of P d c.args.from.now to i c.index.result.now c.requires.own c.requires.to_held c.requires.gives l c.index.ensures)

pub lift_end-requires-clause-held : goal.lift_end-requires-clause-held
lift_end-requires-clause-held g c =
    let d = c.args.draft.now in
    let to = c.args.to.now.items in
    let i = c.loop-i.i in
    let parts = c.args.parts.now in
    let m : i < length parts = omega (arith, c.requires.close.as_many, length-map parts (steps_at d.trees), length-map to (task_at d.trees), c.args.to.now.ok.0) in
    part_held_later d c.loop-i.draft c.loop-i.invariant.grows parts i c.index-parts-i.result c.as_slice.result.now c.requires.parts_held m c.index-parts-i.is c.as_slice.ensures

pub lift_end-requires-clause-closes : goal.lift_end-requires-clause-closes
lift_end-requires-clause-closes g c =
    let d = c.args.draft.now in
    let to = c.args.to.now.items in
    let i = c.loop-i.i in
    let parts = c.args.parts.now in
    let l : i < length to = omega (arith, c.args.to.now.ok.0) in
    let m : i < length parts = omega (arith, c.requires.close.as_many, length-map parts (steps_at d.trees), length-map to (task_at d.trees)) in
    closes_later d c.loop-i.draft c.loop-i.invariant.grows to parts i c.index.result.now c.index-parts-i.result c.as_slice.result.now c.requires.to_held c.requires.parts_held
    c.requires.close l m c.index.ensures c.index-parts-i.is c.as_slice.ensures

pub returns-in_err-end-clause-grows : goal.returns-in_err-end-clause-grows
returns-in_err-end-clause-grows g c = Extends_trans _ _ _ c.loop-i.invariant.grows c.lift_end.ensures.grows

pub returns-in_err-push-clause-grows : goal.returns-in_err-push-clause-grows
returns-in_err-push-clause-grows g c = Extends_trans _ _ _ c.loop-i.invariant.grows c.lift_end.ensures.grows

pub loop-i-preserved : goal.loop-i-preserved
loop-i-preserved g c =
    let d = c.args.draft.now in
    let d1 = c.loop-i.draft in
    let d2 = c.lift_end.new.draft in
    let to = c.args.to.now.items in
    let i = c.loop-i.i in
    let parts = c.args.parts.now in
    let l : i < length to = omega (arith, c.args.to.now.ok.0) in
    let m : i < length parts = omega (arith, c.requires.close.as_many, length-map parts (steps_at d.trees), length-map to (task_at d.trees)) in
    let e = start_later d d1 c.loop-i.invariant.grows to i c.index.result.now c.requires.to_held l c.index.ensures in
    let b = part_later d d1 c.loop-i.invariant.grows parts i c.index-parts-i.result c.as_slice.result.now c.requires.parts_held m c.index-parts-i.is c.as_slice.ensures in
    let q : ℕ → List Tree = start_of (tasks_at d.trees to) in
    let p : ℕ → List StepTree = λ k. part_or (parts_at d.trees parts) k in
    record {
      grows = Extends_trans _ _ _ c.loop-i.invariant.grows c.lift_end.ensures.grows;
      ends = rw c.in_ok-push.ensures.items (have_more d1 d2 c.loop-i.ends.items q i c.in_ok-end.end c.lift_end.ensures.grows c.loop-i.invariant.ends
          (subst (λ (z : List Tree). Refutes d2 c.in_ok-end.end z) e c.in_ok-end.ensures.refutes));
      sequents = sequents_more d1 d2 c.lift_end.ensures.grows p i c.loop-i.invariant.sequents (subst (λ (z : List StepTree). HasSequents d2 z) b c.in_ok-end.ensures.sequents);
    }

pub glue-requires-clause-own : goal.glue-requires-clause-own
glue-requires-clause-own g c = own_later c.args.draft.now c.loop-i.draft c.args.from.now c.loop-i.invariant.grows c.requires.own

pub glue-requires-clause-to_held : goal.glue-requires-clause-to_held
glue-requires-clause-to_held g c = tasks_held_later c.args.draft.now c.loop-i.draft c.loop-i.invariant.grows c.args.to.now.items c.requires.to_held

pub glue-requires-clause-gives : goal.glue-requires-clause-gives
glue-requires-clause-gives g c =
    let x = c.loop-i.invariant.grows in
    let d = c.args.draft.now in
    let d1 = c.loop-i.draft in
    let q = g.T.Transform.equation c.args.stage.now in
    subst (λ (z : TaskTree). Gives q z (tasks_at d1.trees c.args.to.now.items)) (sym x.task)
    (subst (λ (z : List TaskTree). Gives q d.task z) (sym (tasks_later d d1 x c.args.to.now.items c.requires.to_held)) c.requires.gives)

pub glue-requires-clause-ends : goal.glue-requires-clause-ends
glue-requires-clause-ends g c =
    let to = c.args.to.now.items in
    let e : c.loop-i.i ≡ length to = omega (arith, c.args.to.now.ok.0) in
    end_all c.args.draft.now c.loop-i.draft c.loop-i.invariant.grows to c.loop-i.ends.items c.deref.result.now c.loop-i.i c.requires.to_held e c.deref.ensures.value c.loop-i.invariant.ends

pub returns-clause-refutes : goal.returns-clause-refutes
returns-clause-refutes g c =
    IfOk-weaker c.glue.result _ _ (λ k r. subst (λ (z : List Tree). Refutes c.glue.new.draft k z) (ap start c.loop-i.invariant.grows.task) r) c.glue.ensures.refutes

pub returns-clause-sequents : goal.returns-clause-sequents
returns-clause-sequents g c =
    let d = c.args.draft.now in
    let to = c.args.to.now.items in
    let parts = c.args.parts.now in
    let d2 = c.glue.new.draft in
    let e : length parts ≡ c.loop-i.i = omega (arith, c.args.to.now.ok.0, c.requires.close.as_many, length-map parts (steps_at d.trees), length-map to (task_at d.trees)) in
    IfOk-weaker c.glue.result _ _ (λ k r. All-from_get_or (HasSequents d2) (parts_at d.trees parts) [] (λ i h.
    let n : i < length parts = rw (length-map parts (steps_at d.trees)) at h in
    has_later c.loop-i.draft d2 _ c.glue.ensures.grows (c.loop-i.invariant.sequents i (omega arith)))) c.glue.ensures.refutes

pub returns-clause-grows : goal.returns-clause-grows
returns-clause-grows g c = Extends_trans _ _ _ c.loop-i.invariant.grows c.glue.ensures.grows
