use Rattle.std.proofs.Common.{◌≡◌, ◌∷◌, ◌++◌, [], List, length, sym, ap, subst, ◌∙◌}
use Rattle.std.proofs.lemmas.Result.{IfOk-weaker}
use Rattle.tasks.specs.trees.declared.TermId.{TermId}
use Rattle.tasks.specs.trees.Tree.{Tree}
use Rattle.tasks.specs.Task.{neg}
use Rattle.evidence.specs.Drafts.{Refutes}
use Rattle.evidence.specs.Laws.{Extends_trans, AddsTrees_refl, AddsTrees_extends}
use Rattle.evidence.proofs.Rules.{refutes_later}
use Rattle.evidence.proofs.Formulas.{none_formulas}
use Rattle.walking.proofs.rewriting.Starts.{half_later}
use Rattle.walking.proofs.rewriting.Cuts.{first_formulas, last_step, now_formulas, now_trees, goal_half_for, wider_formulas_at, whole_start}
use Rattle.walking.proofs.rewriting.gluing.glue_last.Goals as goal

pub goal_half-requires : goal.goal_half-requires
goal_half-requires g c = record { can = c.requires.can }

pub keep_but-requires-clause-front : goal.keep_but-requires-clause-front
keep_but-requires-clause-front g c = none_formulas c.goal_half.new.draft

pub keep_but-requires-clause-middle : goal.keep_but-requires-clause-middle
keep_but-requires-clause-middle g c =
    let d1 = c.goal_half.new.draft in
    first_formulas (g.F.RewriteFormulas.Ready c.args.rewrite.now) (g.met.F.RewriteFormulas.stays_ready c.args.rewrite.now) c.args.draft.now d1 d1 c.in_ok-half.ensures.grows (AddsTrees_extends _ _ (AddsTrees_refl d1)) c.args.from.now c.args.no_goal c.requires.can c.deref.result.now
    (c.deref.ensures.value ∙ c.in_ok-start.ensures ∙ ap (λ (z : List TermId). z ++ c.args.no_goal ∷ []) c.as_slice.ensures)

pub keep_but-requires-clause-last : goal.keep_but-requires-clause-last
keep_but-requires-clause-last g c =
    wider_formulas_at (g.F.RewriteFormulas.function c.args.rewrite.now) c.args.draft.now c.goal_half.new.draft c.in_ok-half.ensures.grows c.args.done.now c.requires.done c.in_ok-half.half c.deref-2.result.now (c.deref-2.ensures.value ∙ c.in_ok-images.ensures) c.in_ok-half.ensures.half.formula

pub keep_but-requires-clause-step : goal.keep_but-requires-clause-step
keep_but-requires-clause-step g c =
    let w = whole_start (g.F.RewriteFormulas.function c.args.rewrite.now) c.args.draft.now c.goal_half.new.draft c.in_ok-half.ensures.grows c.args.done.now c.requires.done c.in_ok-half.half c.deref-2.result.now (c.deref-2.ensures.value ∙ c.in_ok-images.ensures) c.requires.all c.in_ok-half.ensures.half in
    subst (λ (z : List Tree). Refutes c.goal_half.new.draft c.args.end z) (sym w) (refutes_later c.args.draft.now c.goal_half.new.draft c.in_ok-half.ensures.grows c.args.end _ c.requires.end)

pub without_image-requires-clause-sequent : goal.without_image-requires-clause-sequent
without_image-requires-clause-sequent g c =
    let x = Extends_trans c.args.draft.now c.goal_half.new.draft c.keep_but.new.draft c.in_ok-half.ensures.grows c.in_ok-step.ensures.grows in
    now_formulas (g.F.RewriteFormulas.Ready c.args.rewrite.now) (g.met.F.RewriteFormulas.stays_ready c.args.rewrite.now) c.args.draft.now c.keep_but.new.draft x c.args.from.now c.args.no_goal c.requires.can c.args.done.now c.deref-3.result.now (c.deref-3.ensures.value ∙ c.in_ok-sequent.ensures) c.requires.done.formulas

pub without_image-requires-clause-half : goal.without_image-requires-clause-half
without_image-requires-clause-half g c =
    let x = Extends_trans c.args.draft.now c.goal_half.new.draft c.keep_but.new.draft c.in_ok-half.ensures.grows c.in_ok-step.ensures.grows in
    goal_half_for (g.F.RewriteFormulas.Ready c.args.rewrite.now) (g.met.F.RewriteFormulas.stays_ready c.args.rewrite.now) c.args.draft.now c.keep_but.new.draft x c.args.from.now c.args.no_goal c.requires.can c.args.done.now c.deref-3.result.now c.len.result (c.deref-3.ensures.value ∙ c.in_ok-sequent.ensures) c.requires.done.formulas c.len.ensures _ c.in_ok-half.half
    (half_later c.goal_half.new.draft c.keep_but.new.draft c.in_ok-step.ensures.grows _ _ c.in_ok-half.half c.in_ok-half.ensures.half)

pub without_image-requires-clause-step : goal.without_image-requires-clause-step
without_image-requires-clause-step g c =
    last_step (g.F.RewriteFormulas.Ready c.args.rewrite.now) (g.met.F.RewriteFormulas.stays_ready c.args.rewrite.now) c.args.draft.now c.goal_half.new.draft c.keep_but.new.draft c.in_ok-half.ensures.grows c.in_ok-step.ensures.grows c.args.from.now c.args.no_goal c.requires.can c.args.done.now c.deref-3.result.now c.deref.result.now c.deref-2.result.now
    c.requires.done.formulas c.in_ok-half.half c.in_ok-half.ensures.half.formula (c.deref.ensures.value ∙ c.in_ok-start.ensures ∙ ap (λ (z : List TermId). z ++ c.args.no_goal ∷ []) c.as_slice.ensures)
    (c.deref-2.ensures.value ∙ c.in_ok-images.ensures) (c.deref-3.ensures.value ∙ c.in_ok-sequent.ensures) c.in_ok-step.step c.in_ok-step.ensures.refutes

pub returns-in_err-step-clause-grows : goal.returns-in_err-step-clause-grows
returns-in_err-step-clause-grows g c = Extends_trans _ _ _ c.in_ok-half.ensures.grows c.keep_but.ensures.grows

pub returns-in_err-sequent-clause-grows : goal.returns-in_err-sequent-clause-grows
returns-in_err-sequent-clause-grows g c = Extends_trans _ _ _ c.in_ok-half.ensures.grows c.in_ok-step.ensures.grows

pub returns-clause-refutes : goal.returns-clause-refutes
returns-clause-refutes g c =
    let x = Extends_trans c.args.draft.now c.goal_half.new.draft c.keep_but.new.draft c.in_ok-half.ensures.grows c.in_ok-step.ensures.grows in
    let e = now_trees (g.F.RewriteFormulas.Ready c.args.rewrite.now) (g.met.F.RewriteFormulas.stays_ready c.args.rewrite.now) c.args.draft.now c.keep_but.new.draft x c.args.from.now c.args.no_goal c.requires.can c.args.done.now c.deref-3.result.now (c.deref-3.ensures.value ∙ c.in_ok-sequent.ensures) c.requires.done.formulas in
    IfOk-weaker c.without_image.result _ _ (λ k r. subst (λ (z : List Tree). Refutes c.without_image.new.draft k z) e r) c.without_image.ensures.refutes

pub returns-clause-grows : goal.returns-clause-grows
returns-clause-grows g c = Extends_trans _ _ _ (Extends_trans _ _ _ c.in_ok-half.ensures.grows c.in_ok-step.ensures.grows) c.without_image.ensures.grows
