-- The rows of rules that put a term in, as a store grows: what was told over the grown store holds over the old one.
use Rattle.std.proofs.Common.{◌≡◌, ◌↔◌, ℕ, Bool, false, IsTrue, List, [], ◌∷◌, Option, Some, None, sym, subst, ap}
use Rattle.tasks.specs.trees.Tree.{Tree, Two, HLet}
use Rattle.tasks.specs.trees.Node.{Grows}
use Rattle.tasks.specs.trees.Sorts.{type_of}
use Rattle.tasks.specs.trees.Binding.{inst, Param}
use Rattle.tasks.specs.Task.{TaskTree}
use Rattle.tasks.specs.MatchTests.{test, bind}
use Rattle.tasks.specs.Open.{VariableHas}
use Rattle.tasks.proofs.Growth.{task_later}
use Rattle.rules.specs.Trees.{RLetDef, RMatchDef}
use Rattle.rules.specs.Forms.{alike, match_of}
use Rattle.rules.specs.Rows.{Adds, unfolded, signed, IsNew, AtTerm, AtNew, IsTemplate, IsRuleRow}
use Rattle.rules.proofs.Templates.{template_can}
use Rattle.step_reading.specs.declared.quick_steps.place.Place.{Place}
use Rattle.step_reading.specs.quick_steps.Rows.{ReplacesSide}
use Rattle.step_reading.specs.quick_steps.Places.{task_here, sequent_here, premises_here, PlaceHeld}
use Rattle.step_reading.proofs.quick_steps.Places.{sequent_later, premises_later, adds_later}

module _ (s s' : List Tree) (g : Grows s s') (p : Place) (h : PlaceHeld s p) (made : Tree) (sign b : Bool)
    (k : IsTrue b ↔ Adds (sequent_here s' p) (premises_here s' p) ((signed sign made ∷ []) ∷ [])) where
  pub adds_made : (x : Tree) → made ≡ x → IsTrue b ↔ Adds (sequent_here s p) (premises_here s p) ((signed sign x ∷ []) ∷ [])
  adds_made x m = adds_later s s' g p h b ((signed sign x ∷ []) ∷ []) (rw m at k)

  pub at_term_told : (o : Option (Tree × Tree)) (ty body t : Tree) → o ≡ Some (ty, body) → type_of t ≡ Some ty → made ≡ inst body t → IsTrue b ↔ AtTerm o (sequent_here s p) t sign (premises_here s p)
  at_term_told o ty body t q y m = let a = adds_made (inst body t) m in rw q ((λ x. (y, a.0 x), λ x. a.1 x.1))

  pub at_new_told : (o : Option (Tree × Tree)) (ty body : Tree) (n : ℕ) → o ≡ Some (ty, body) → IsNew n (sequent_here s p) → made ≡ inst body (Param n ty) → IsTrue b ↔ AtNew o (sequent_here s p) n sign (premises_here s p)
  at_new_told o ty body n q y m = let a = adds_made (inst body (Param n ty)) m in rw q ((λ x. (y, a.0 x), λ x. a.1 x.1))

-- a parameter that the sequent has
pub at_old_told : (o : Option (Tree × Tree)) (q : List Tree) (n : ℕ) (sign : Bool) (ps : List (List Tree)) → (IsNew n q → ⊥) → IsTrue false ↔ AtNew o q n sign ps
at_old_told None q n sign ps h = (λ t. absurd (cc), λ x. absurd x)
at_old_told (Some w) q n sign ps h = (λ t. absurd (cc), λ x. absurd (h x.0))

module _ (s s' : List Tree) (g : Grows s s') (p : Place) (h : PlaceHeld s p) where
  pub let_told : (e value body e' made : Tree) (b : Bool) → e ≡ Two HLet value body → e' ≡ e → made ≡ inst body value
      → IsTrue b ↔ Adds (sequent_here s' p) (premises_here s' p) ((alike e' made ∷ []) ∷ []) → IsTrue b ↔ IsRuleRow (task_here s p) (sequent_here s p) (RLetDef e) (premises_here s p)
  let_told e value body e' made b q r m k =
      let a : IsTrue b ↔ Adds (sequent_here s p) (premises_here s p) ((alike e (inst body value) ∷ []) ∷ []) = adds_later s s' g p h b ((alike e (inst body value) ∷ []) ∷ []) (rw (r, m) at k) in
      rw q (rw q at a)

  -- a `match` by its parts, of which the grown store has the test and the terms
  pub match_told : (e term pattern body rest c e' term' rest' : Tree) (ts : List Tree) (b : Bool) → match_of e ≡ Some (term, pattern, body, rest) → c ≡ test (task_here s p) pattern term → ts ≡ bind (task_here s p) pattern term
      → e' ≡ e → term' ≡ term → rest' ≡ rest → IsTrue b ↔ Adds (sequent_here s' p) (premises_here s' p) ((unfolded c ts e' term' body rest' ∷ []) ∷ []) → IsTrue b ↔ IsRuleRow (task_here s p) (sequent_here s p) (RMatchDef e) (premises_here s p)
  match_told e term pattern body rest c e' term' rest' ts b q m n i j k a =
      let x : Tree = unfolded (test (task_here s p) pattern term) (bind (task_here s p) pattern term) e term body rest in
      let r : IsTrue b ↔ Adds (sequent_here s p) (premises_here s p) ((x ∷ []) ∷ []) = adds_later s s' g p h b ((x ∷ []) ∷ []) (rw (m, n, i, j, k) at a) in
      rw q r

  -- what the kernel tells over the grown store
  pub kernel_told : (e e' : Tree) (b : Bool) → e' ≡ e → IsTrue b ↔ IsRuleRow (task_here s' p) (sequent_here s' p) (RMatchDef e') (premises_here s' p) → IsTrue b ↔ IsRuleRow (task_here s p) (sequent_here s p) (RMatchDef e) (premises_here s p)
  kernel_told e e' b q k =
      subst (λ t. IsTrue b ↔ IsRuleRow t (sequent_here s p) (RMatchDef e) (premises_here s p)) (task_later s s' g p.look.now.task.now h.look.task)
      (subst (λ (z : List Tree). IsTrue b ↔ IsRuleRow (task_here s' p) z (RMatchDef e) (premises_here s p)) (sequent_later s s' g p h)
      (subst (λ z. IsTrue b ↔ IsRuleRow (task_here s' p) (sequent_here s' p) (RMatchDef e) z) (premises_later s s' g p h)
      (subst (λ (z : Tree). IsTrue b ↔ IsRuleRow (task_here s' p) (sequent_here s' p) (RMatchDef z) (premises_here s' p)) q k)))

-- the row of `replace` by its parts
module _ (t : TaskTree) (a b f e ty : Tree) (q : List Tree) (ps : List (List Tree)) (y : type_of a ≡ Some ty) where
  pub other_type : (VariableHas 0 ty e → ⊥) → IsTrue false ↔ ReplacesSide t (Some (a, b)) (Some f) q e ps
  other_type n = (λ w. absurd (cc), λ x. let m : IsTemplate t ty e = rw y at x.0 in absurd (n (template_can t ty e m).1))

  pub other_formula : (inst e a ≡ f → ⊥) → IsTrue false ↔ ReplacesSide t (Some (a, b)) (Some f) q e ps
  other_formula n = (λ w. absurd (cc), λ x. let m : inst e a ≡ f = cc in absurd (n m))

  pub replaced_told : IsTemplate t ty e → inst e a ≡ f → (r : Bool) → IsTrue r ↔ Adds q ps ((inst e b ∷ []) ∷ []) → IsTrue r ↔ ReplacesSide t (Some (a, b)) (Some f) q e ps
  replaced_told m w r k = (λ x. (rw y m, ap Some (sym w), k.0 x), λ x. k.1 x.2)
