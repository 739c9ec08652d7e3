use Rattle.std.proofs.Common.{◌≡◌, ◌+◌, ◌∷◌, [], ◌<◌, List, length, sym, ap, subst, ◌∙◌, arith}
use Rattle.std.proofs.lemmas.List.{length-append}
use Rattle.std.proofs.lemmas.Result.{IfOk-weaker}
use Rattle.tasks.specs.trees.Tree.{Tree}
use Rattle.tasks.specs.Task.{TaskTree, start}
use Rattle.evidence.specs.Drafts.{Refutes}
use Rattle.evidence.specs.Laws.{Extends_trans}
use Rattle.evidence.proofs.Rules.{refutes_later}
use Rattle.evidence.specs.changed_tasks.Changed.{changed_task}
use Rattle.walking.proofs.rewriting.Starts.{own_count, can_glue_later, half_later}
use Rattle.walking.proofs.rewriting.Cuts.{now_formulas, now_trees, local_half_for, wider_images, more_step}
use Rattle.walking.proofs.rewriting.gluing.+glue_locals.Goals as goal

pub without_image-requires-clause-sequent : goal.without_image-requires-clause-sequent
without_image-requires-clause-sequent g t c =
    let x = Extends_trans c.args.draft.now c.local_half.new.draft c.glue_locals.new.draft c.in_ok-half.ensures.grows c.in_ok-step.ensures.grows in
    now_formulas (g.F.RewriteFormulas.Ready c.args.rewrite.now) (g.met.F.RewriteFormulas.stays_ready c.args.rewrite.now) c.args.draft.now c.glue_locals.new.draft x c.args.from.now c.args.no_goal c.requires.can c.args.done.now c.deref-2.result.now (c.deref-2.ensures.value ∙ c.in_ok-sequent.ensures) c.requires.done.formulas

pub without_image-requires-clause-step : goal.without_image-requires-clause-step
without_image-requires-clause-step g t c =
    more_step (g.F.RewriteFormulas.Ready c.args.rewrite.now) (g.met.F.RewriteFormulas.stays_ready c.args.rewrite.now) c.args.draft.now c.local_half.new.draft c.glue_locals.new.draft c.in_ok-half.ensures.grows c.in_ok-step.ensures.grows c.args.from.now c.args.no_goal c.requires.can c.args.done.now c.deref-2.result.now c.deref.result.now
    c.requires.done.formulas c.in_ok-half.half c.in_ok-half.ensures.half.formula (c.deref.ensures.value ∙ c.in_ok-wider.ensures) (c.deref-2.ensures.value ∙ c.in_ok-sequent.ensures) c.in_ok-step.step c.in_ok-step.ensures.refutes

pub returns-in_err-step-clause-grows : goal.returns-in_err-step-clause-grows
returns-in_err-step-clause-grows g t c = Extends_trans _ _ _ c.in_ok-half.ensures.grows c.glue_locals.ensures.grows

pub returns-in_err-sequent-clause-grows : goal.returns-in_err-sequent-clause-grows
returns-in_err-sequent-clause-grows g t c = Extends_trans _ _ _ c.in_ok-half.ensures.grows c.in_ok-step.ensures.grows

pub returns-clause-refutes : goal.returns-clause-refutes
returns-clause-refutes g t c =
    let x = Extends_trans c.args.draft.now c.local_half.new.draft c.glue_locals.new.draft c.in_ok-half.ensures.grows c.in_ok-step.ensures.grows in
    let e = now_trees (g.F.RewriteFormulas.Ready c.args.rewrite.now) (g.met.F.RewriteFormulas.stays_ready c.args.rewrite.now) c.args.draft.now c.glue_locals.new.draft x c.args.from.now c.args.no_goal c.requires.can c.args.done.now c.deref-2.result.now (c.deref-2.ensures.value ∙ c.in_ok-sequent.ensures) c.requires.done.formulas in
    IfOk-weaker c.without_image.result _ _ (λ k r. subst (λ (z : List Tree). Refutes c.without_image.new.draft k z) e r) c.without_image.ensures.refutes

pub returns-clause-grows : goal.returns-clause-grows
returns-clause-grows g t c = Extends_trans _ _ _ (Extends_trans _ _ _ c.in_ok-half.ensures.grows c.in_ok-step.ensures.grows) c.without_image.ensures.grows

pub glue_locals-requires : goal.glue_locals-requires
glue_locals-requires g t c =
    let d = c.args.draft.now in
    let d1 = c.local_half.new.draft in
    let x = c.in_ok-half.ensures.grows in
    let e = c.deref.ensures.value ∙ c.in_ok-wider.ensures in
    let m : length c.deref.result.now ≡ length c.args.done.now + 1 = ap length e ∙ length-append c.args.done.now (c.in_ok-half.half.image ∷ []) in
    let n = own_count d c.args.from.now c.args.no_goal (g.F.RewriteFormulas.Ready c.args.rewrite.now) c.requires.can in
    let w = c.requires.done.within in
    let l : length c.args.done.now < length d.task.locals = omega (arith, n, w, c.if-done-len.false, c.len.ensures) in
    λ κs h. (
      omega (arith, m, n, l),
      (
        h,
        (
          can_glue_later d d1 x (g.F.RewriteFormulas.Ready c.args.rewrite.now) (g.met.F.RewriteFormulas.stays_ready c.args.rewrite.now) c.args.from.now c.args.no_goal c.requires.can,
          (
            wider_images (g.F.RewriteFormulas.function c.args.rewrite.now) d d1 x c.args.done.now c.requires.done c.in_ok-half.half c.deref.result.now e l c.in_ok-half.ensures.half,
            subst (λ (t : TaskTree). Refutes d1 c.args.end (start (changed_task (g.F.RewriteFormulas.function c.args.rewrite.now t) t))) (sym x.task) (refutes_later d d1 x c.args.end _ c.requires.end),
          ),
        ),
      ),
    )

pub without_image-requires-clause-half : goal.without_image-requires-clause-half
without_image-requires-clause-half g t c =
    let d = c.args.draft.now in
    let d2 = c.glue_locals.new.draft in
    let x = Extends_trans d c.local_half.new.draft d2 c.in_ok-half.ensures.grows c.in_ok-step.ensures.grows in
    let n = own_count d c.args.from.now c.args.no_goal (g.F.RewriteFormulas.Ready c.args.rewrite.now) c.requires.can in
    let w = c.requires.done.within in
    let l : length c.args.done.now < length d.task.locals = omega (arith, n, w, c.if-done-len.false, c.len.ensures) in
    local_half_for (g.F.RewriteFormulas.Ready c.args.rewrite.now) (g.met.F.RewriteFormulas.stays_ready c.args.rewrite.now) d d2 x c.args.from.now c.args.no_goal c.requires.can c.args.done.now c.deref-2.result.now (length c.args.done.now) (c.deref-2.ensures.value ∙ c.in_ok-sequent.ensures) c.requires.done.formulas l _ c.in_ok-half.half
    (half_later c.local_half.new.draft d2 c.in_ok-step.ensures.grows _ _ c.in_ok-half.half c.in_ok-half.ensures.half)
