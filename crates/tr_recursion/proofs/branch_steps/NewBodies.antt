-- A universal formula opened at a new parameter: the script, and that its body there is a formula.
use Rattle.std.proofs.Common.{◌≡◌, ℕ, ◌≤◌, false, [], ◌∷◌, refl, sym, ap, subst, ◌∙◌, arith}
use Rattle.std.proofs.lemmas.List.Elements.{All-cons, All-nil}
use Rattle.trees.proofs.Above.{no_param_above}
use Rattle.trees.specs.declared.Sort.TheVariants.{Kind}
use Rattle.trees.specs.declared.TermId.{TermId}
use Rattle.trees.specs.Tree.{Tree, Two, HForall, above_params, loose}
use Rattle.trees.specs.Sorts.{sort_of}
use Rattle.trees.specs.Facts.{has_param}
use Rattle.trees.specs.Node.{tree_at, Holds}
use Rattle.trees.specs.Binding.{inst, Param}
use Rattle.tasks.specs.Task.{TaskTree, neg}
use Rattle.tasks.specs.Vocabulary.{of_task}
use Rattle.tasks.specs.Valid.{IsGroundFormula}
use Rattle.tasks.proofs.Closing.{typed_closed}
use Rattle.evidence.specs.Drafts.{DraftTree, Extends, Refutes, IsFormulaAt}
use Rattle.evidence.specs.Laws.{Extends_trans}
use Rattle.congruence.proofs.Later.{tree_later}
use Rattle.congruence.specs.tasks.typed_trees.instances.Instances.{IsTermOf, IsInstance}
use Rattle.congruence.specs.kernel.rules.Rows.{IsNew}
use Rattle.congruence.specs.kernel.rules.Trees.{RNotForall}
use Rattle.tr_inline.specs.evidence.proof_scripts.Scripts.{GivenLine, TailLine, Follows}
use Rattle.tr_inline.proofs.evidence.proof_scripts.Lines.{not_forall_line}

module _ (t : TaskTree) (f ty b : Tree) (q : f ≡ Two HForall ty b) (g : IsGroundFormula t f) where
  universal : IsGroundFormula t (Two HForall ty b)
  universal = subst (IsGroundFormula t) q g

  pub type_closed : loose ty ≡ 0
  type_closed = let l = typed_closed (of_task t) [] ty universal.typed.2 in omega (arith, l)

  pub type_sort : sort_of ty ≡ Kind
  type_sort = universal.typed.0.0.0

  term_of : (n : ℕ) → IsTermOf (of_task t) ty (Param n ty)
  term_of n = record { sort = refl; typed = (type_sort, tt, universal.typed.2); type = refl }

  pub body_formula : (n : ℕ) (p made : Tree) → p ≡ Param n ty → IsInstance b p made → IsGroundFormula t made
  body_formula n p made e i =
      let w : IsInstance b (Param n ty) made = subst (λ (z : Tree). IsInstance b z made) e i in
      record { sort = w.sort ∙ universal.typed.0.0.1; typed = w.typed (of_task t) ty (term_of n) universal.typed.3; ground = w.variables 0 universal.ground.0 universal.ground.1 }

module _ (d : DraftTree) (n step : ℕ) where
  opened : (ty b : Tree) → IsNew n (neg (Two HForall ty b) ∷ []) → Refutes d step (neg (inst b (Param n ty)) ∷ []) → Follows d [] (TailLine (RNotForall 0 n) ∷ GivenLine step 1 ∷ []) ((neg (Two HForall ty b) ∷ []) ∷ [])
  opened ty b new r =
      let f = neg (Two HForall ty b) in
      let m = neg (inst b (Param n ty)) in
      (not_forall_line d.task (f ∷ []) 0 n ty b refl new, All-nil (λ (z : Tree). has_param z n ≡ false), (record { before = f ∷ []; last = m ∷ []; is = refl; as_many = refl; refutes = r }, tt))

  pub universal_follows : (e negated ty b : Tree) → negated ≡ neg e → e ≡ Two HForall ty b → above_params e ≤ n → Refutes d step (neg (inst b (Param n ty)) ∷ []) → Follows d [] (TailLine (RNotForall 0 n) ∷ GivenLine step 1 ∷ []) ((negated ∷ []) ∷ [])
  universal_follows e negated ty b m q l r =
      let k : above_params (neg (Two HForall ty b)) ≤ n = subst (λ (z : Tree). above_params (neg z) ≤ n) q l in
      let new : IsNew n (neg (Two HForall ty b) ∷ []) = All-cons (λ (z : Tree). has_param z n ≡ false) (neg (Two HForall ty b)) [] (no_param_above (neg (Two HForall ty b)) n k) (All-nil (λ (z : Tree). has_param z n ≡ false)) in
      subst (λ (z : Tree). Follows d [] (TailLine (RNotForall 0 n) ∷ GivenLine step 1 ∷ []) ((z ∷ []) ∷ [])) (sym (m ∙ ap neg q)) (opened ty b new r)

-- ---- over drafts
module _ (d d1 d2 : DraftTree) (x : Extends d d1) (y : Extends d1 d2) (formula ty body : TermId) (f : IsFormulaAt d formula) (is : tree_at d.trees formula ≡ Two HForall (tree_at d.trees ty) (tree_at d.trees body)) (hb : Holds d.trees body) (n : ℕ)
    (term : TermId) (p : tree_at d1.trees term ≡ Param n (tree_at d.trees ty)) (made : TermId) where
  body_later : tree_at d1.trees body ≡ tree_at d.trees body
  body_later = tree_later d d1 x body hb

  pub opened_formula : Holds d2.trees made → IsInstance (tree_at d1.trees body) (tree_at d1.trees term) (tree_at d2.trees made) → IsFormulaAt d2 made
  opened_formula held i =
      let w : IsInstance (tree_at d.trees body) (tree_at d1.trees term) (tree_at d2.trees made) = subst (λ (z : Tree). IsInstance z (tree_at d1.trees term) (tree_at d2.trees made)) body_later i in
      let g = body_formula d.task (tree_at d.trees formula) (tree_at d.trees ty) (tree_at d.trees body) is f.ground n (tree_at d1.trees term) (tree_at d2.trees made) p w in
      record { held = held; ground = subst (λ (t : TaskTree). IsGroundFormula t (tree_at d2.trees made)) (sym (Extends_trans d d1 d2 x y).task) g }

  pub opened_tree : tree_at d2.trees made ≡ inst (tree_at d1.trees body) (tree_at d1.trees term) → tree_at d2.trees made ≡ inst (tree_at d.trees body) (Param n (tree_at d.trees ty))
  opened_tree e = e ∙ ap (λ (z : Tree). inst z (tree_at d1.trees term)) body_later ∙ ap (inst (tree_at d.trees body)) p

-- a step for the body at the parameter, after it was made
pub stepped : (d d1 d2 : DraftTree) → Extends d d1 → (formula inner : TermId) (n step : ℕ) (ty b : Tree) → Holds d.trees formula → tree_at d.trees formula ≡ Two HForall ty b → tree_at d1.trees inner ≡ inst b (Param n ty)
    → Refutes d2 step (neg (tree_at d1.trees inner) ∷ []) → (T B : Tree) → tree_at d1.trees formula ≡ Two HForall T B → Refutes d2 step (neg (inst B (Param n T)) ∷ [])
stepped d d1 d2 x formula inner n step ty b h e q r T B s =
    let same : Two HForall ty b ≡ Two HForall T B = sym e ∙ sym (tree_later d d1 x formula h) ∙ s in
    let p : inst b (Param n ty) ≡ inst B (Param n T) = cc in
    subst (λ (z : Tree). Refutes d2 step (neg z ∷ [])) (q ∙ p) r
