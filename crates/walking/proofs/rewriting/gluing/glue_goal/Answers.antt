use Rattle.std.proofs.Common.{◌≡◌, ◌∷◌, ◌++◌, [], List, length, sym, ap, subst, ◌∙◌}
use Rattle.std.proofs.lemmas.Result.{IfOk-weaker}
use Rattle.tasks.specs.trees.declared.TermId.{TermId}
use Rattle.tasks.specs.trees.Tree.{Tree}
use Rattle.tasks.specs.Task.{neg}
use Rattle.evidence.specs.Drafts.{Refutes, AreFormulas}
use Rattle.evidence.specs.Laws.{Extends_trans}
use Rattle.evidence.proofs.Rules.{refutes_later}
use Rattle.evidence.proofs.Owned.{own_locals}
use Rattle.evidence.proofs.Lifted.{own_later}
use Rattle.evidence.proofs.Formulas.{one_formula, none_formulas, formula_later}
use Rattle.walking.proofs.rewriting.Starts.{half_later, start_formulas, start_trees, can_glue_later}
use Rattle.walking.proofs.rewriting.Cuts.{locals_start, only_step, only_half_for, only_trees}
use Rattle.walking.proofs.rewriting.gluing.glue_goal.Goals as goal

pub goal_half-requires : goal.goal_half-requires
goal_half-requires g c = record { can = c.requires.can }

pub keep_but-requires-clause-front : goal.keep_but-requires-clause-front
keep_but-requires-clause-front g c = subst (AreFormulas c.goal_half.new.draft) (sym c.as_slice-locals.ensures) (own_locals c.goal_half.new.draft c.args.from.now (own_later c.args.draft.now c.goal_half.new.draft c.args.from.now c.in_ok-half.ensures.grows c.requires.can.own))

pub keep_but-requires-clause-middle : goal.keep_but-requires-clause-middle
keep_but-requires-clause-middle g c = one_formula c.goal_half.new.draft c.args.no_goal (formula_later c.args.draft.now c.goal_half.new.draft c.in_ok-half.ensures.grows c.args.no_goal c.requires.can.negated)

pub keep_but-requires-clause-last : goal.keep_but-requires-clause-last
keep_but-requires-clause-last g c = one_formula c.goal_half.new.draft c.in_ok-half.half.image c.in_ok-half.ensures.half.formula

pub keep_but-requires-clause-step : goal.keep_but-requires-clause-step
keep_but-requires-clause-step g c =
    let w = locals_start c.args.draft.now c.goal_half.new.draft c.in_ok-half.ensures.grows c.args.from.now c.as_slice-locals.result.now _ c.as_slice-locals.ensures c.requires.can.own _ c.in_ok-half.half c.in_ok-half.ensures.half in
    subst (λ (z : List Tree). Refutes c.goal_half.new.draft c.args.end z) (sym w) (refutes_later c.args.draft.now c.goal_half.new.draft c.in_ok-half.ensures.grows c.args.end _ c.requires.end)

pub without_image-requires-clause-sequent : goal.without_image-requires-clause-sequent
without_image-requires-clause-sequent g c =
    let x = Extends_trans c.args.draft.now c.goal_half.new.draft c.keep_but.new.draft c.in_ok-half.ensures.grows c.in_ok-step.ensures.grows in
    start_formulas c.keep_but.new.draft c.args.from.now c.args.no_goal (g.F.RewriteFormulas.Ready c.args.rewrite.now) (can_glue_later c.args.draft.now c.keep_but.new.draft x (g.F.RewriteFormulas.Ready c.args.rewrite.now) (g.met.F.RewriteFormulas.stays_ready c.args.rewrite.now) c.args.from.now c.args.no_goal c.requires.can)
    c.deref.result.now (c.deref.ensures.value ∙ c.in_ok-sequent.ensures ∙ ap (λ (z : List TermId). z ++ c.args.no_goal ∷ []) c.as_slice-locals.ensures)

pub without_image-requires-clause-half : goal.without_image-requires-clause-half
without_image-requires-clause-half g c =
    let x = Extends_trans c.args.draft.now c.goal_half.new.draft c.keep_but.new.draft c.in_ok-half.ensures.grows c.in_ok-step.ensures.grows in
    only_half_for (g.F.RewriteFormulas.Ready c.args.rewrite.now) (g.met.F.RewriteFormulas.stays_ready c.args.rewrite.now) c.args.draft.now c.keep_but.new.draft x c.args.from.now c.args.no_goal c.requires.can c.deref.result.now (length c.as_slice-locals.result.now) (c.deref.ensures.value ∙ c.in_ok-sequent.ensures ∙ ap (λ (z : List TermId). z ++ c.args.no_goal ∷ []) c.as_slice-locals.ensures)
    (ap length c.as_slice-locals.ensures) _ c.in_ok-half.half (half_later c.goal_half.new.draft c.keep_but.new.draft c.in_ok-step.ensures.grows _ _ c.in_ok-half.half c.in_ok-half.ensures.half)

pub without_image-requires-clause-step : goal.without_image-requires-clause-step
without_image-requires-clause-step g c =
    only_step (g.F.RewriteFormulas.Ready c.args.rewrite.now) (g.met.F.RewriteFormulas.stays_ready c.args.rewrite.now) c.args.draft.now c.goal_half.new.draft c.keep_but.new.draft c.in_ok-half.ensures.grows c.in_ok-step.ensures.grows c.args.from.now c.args.no_goal c.requires.can c.as_slice-locals.result.now c.deref.result.now c.as_slice-locals.ensures
    (c.deref.ensures.value ∙ c.in_ok-sequent.ensures) c.in_ok-half.half c.in_ok-half.ensures.half.formula c.in_ok-step.step c.in_ok-step.ensures.refutes

pub returns-in_err-step-clause-grows : goal.returns-in_err-step-clause-grows
returns-in_err-step-clause-grows g c = Extends_trans _ _ _ c.in_ok-half.ensures.grows c.keep_but.ensures.grows

pub returns-in_err-sequent-clause-grows : goal.returns-in_err-sequent-clause-grows
returns-in_err-sequent-clause-grows g c = Extends_trans _ _ _ c.in_ok-half.ensures.grows c.in_ok-step.ensures.grows

pub returns-clause-refutes : goal.returns-clause-refutes
returns-clause-refutes g c =
    let x = Extends_trans c.args.draft.now c.goal_half.new.draft c.keep_but.new.draft c.in_ok-half.ensures.grows c.in_ok-step.ensures.grows in
    let e = only_trees (g.F.RewriteFormulas.Ready c.args.rewrite.now) (g.met.F.RewriteFormulas.stays_ready c.args.rewrite.now) c.args.draft.now c.keep_but.new.draft x c.args.from.now c.args.no_goal c.requires.can c.deref.result.now (c.deref.ensures.value ∙ c.in_ok-sequent.ensures ∙ ap (λ (z : List TermId). z ++ c.args.no_goal ∷ []) c.as_slice-locals.ensures) in
    IfOk-weaker c.without_image.result _ _ (λ k r. subst (λ (z : List Tree). Refutes c.without_image.new.draft k z) e r) c.without_image.ensures.refutes

pub returns-clause-grows : goal.returns-clause-grows
returns-clause-grows g c = Extends_trans _ _ _ (Extends_trans _ _ _ c.in_ok-half.ensures.grows c.in_ok-step.ensures.grows) c.without_image.ensures.grows
