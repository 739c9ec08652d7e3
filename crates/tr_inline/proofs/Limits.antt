-- Faults that are passed on.
use Rattle.std.proofs.Common.{◌≡◌, ℕ, List, Result, Ok, Err, IfErr, IsErrAnd, subst, sym, ap, ◌∙◌}
use Rattle.tasks.specs.declared.task.Task.{Task}
use Rattle.tasks.specs.Task.{TaskTree}
use Rattle.evidence.specs.declared.stage.StageFault.{StageFault}
use Rattle.evidence.specs.Stages.{Refusal, IsStageFault, stage_answer, stage_equation, IsAmong, InStage, Gives}
use Rattle.evidence.specs.Drafts.{DraftTree}
use Rattle.walking.specs.rewriting.Rewritten.{formulas_equation}
use Rattle.walking.specs.rewriting.Faults.{IsLimitFault}
use Rattle.walking.specs.declared.rewriting.formulas.FormulaScope.{FormulaScope}
use Rattle.inlining.specs.declared.modes.InlineMode.{InlineMode}
use Rattle.inlining.specs.Inlining.{inline_equation}
use Rattle.tr_inline.specs.Inlined.{inline_formula, mode_scope}
use Rattle.tr_inline.specs.Kept.{same_equation, gives_rewritten}

pub fault_passed : {T : Type 0} (r : Result T StageFault) (f : StageFault) (large : Type 0) → IsErrAnd r (λ (e : StageFault). e ≡ f) → IsLimitFault large f → IfErr r (IsLimitFault large)
fault_passed (Ok v) f large h p = absurd h
fault_passed (Err e) f large h p = subst (IsLimitFault large) (sym h) p

pub stage_passed : {T : Type 0} (r : Result T StageFault) (f : StageFault) (said : Result (List TaskTree) Refusal) → IsErrAnd r (λ (e : StageFault). e ≡ f) → IsStageFault said f → IfErr r (IsStageFault said)
stage_passed (Ok v) f said h p = absurd h
stage_passed (Err e) f said h p = subst (IsStageFault said) (sym h) p

-- what the equation of rewritten formulas says is what that of inlining does
module _ (m : InlineMode) (sc : FormulaScope) (q : sc ≡ mode_scope m) where
  pub as_inlined : (t u : TaskTree) → u ≡ t → formulas_equation sc (inline_formula m) u ≡ inline_equation m t
  as_inlined t u e = ap (λ (z : FormulaScope). formulas_equation z (inline_formula m) u) q ∙ ap (formulas_equation (mode_scope m) (inline_formula m)) e ∙ sym (same_equation m t)

  pub fault_inlined : (t u : TaskTree) → u ≡ t → (f : StageFault) → IsStageFault (stage_equation (formulas_equation sc (inline_formula m)) u) f → IsStageFault (stage_equation (inline_equation m) t) f
  fault_inlined t u e f h = subst (λ (z : Result (List TaskTree) ℕ). IsStageFault (stage_answer z) f) (as_inlined t u e) h

  pub gives_here : (t : TaskTree) (ts : List TaskTree) → Gives (inline_equation m) t ts → Gives (formulas_equation sc (inline_formula m)) t ts
  gives_here t ts g = subst (λ (z : FormulaScope). Gives (formulas_equation z (inline_formula m)) t ts) (sym q) (gives_rewritten m t ts g)

  pub stage_here : (d : DraftTree) (from to : Task) → InStage (inline_equation m) d from to → InStage (formulas_equation sc (inline_formula m)) d from to
  stage_here d from to s = record { own = s.own; held = s.held; among = record { tasks = s.among.tasks; is = gives_here d.task s.among.tasks s.among.is; place = s.among.place; within = s.among.within; there = s.among.there } }
