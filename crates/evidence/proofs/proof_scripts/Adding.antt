-- What the row of a rule asks of the formulas at its places, and what its premise adds.
use Rattle.std.proofs.Common.{◌≡◌, ℕ, List, [], ◌∷◌, slice_get, Option, None, Some, IsSomeAnd, refl, sym, ap, subst, ◌∙◌}
use Rattle.trees.specs.declared.TermId.{TermId}
use Rattle.trees.specs.Tree.{Tree, One, Two, HNot, HForall, HExists}
use Rattle.trees.specs.Node.{tree_at, Holds}
use Rattle.trees.specs.Binding.{inst, Param}
use Rattle.trees.specs.Sorts.{type_of}
use Rattle.tasks.specs.Task.{neg}
use Rattle.rules.specs.Trees.{RForall, RNotForall, RExists, RNotExists, RReplace, RLetDef, RIfDef, RNotNot, RRefl}
use Rattle.rules.specs.Forms.{negated, universal, existential, equation_sides, let_of, if_of, equal, alike, by_cases}
use Rattle.rules.specs.Rows.{IsTemplate}
use Rattle.kernel.specs.Right.{IsGroundExpression}
use Rattle.evidence.specs.Drafts.{DraftTree, IsFormulaAt}
use Rattle.evidence.proofs.Lifted.{some_of}
use Rattle.evidence.proofs.Rules.{some_map}
use Rattle.evidence.specs.proof_scripts.Scripts.{one_added, adds, IsOfTail}
use Rattle.evidence.specs.proof_scripts.Added.{IsAdded, quantifier_parts, IsClosedTermAt, IsTermFor, IsBodyAt, IsNegatedBodyAt, IsBodyAtNew, IsNegatedBodyAtNew, IsNegated, IsQuantified, IsExpressionAt, IsLet, IsLetEquation, IsIf, IsIfEquation, IsTemplateFor, IsReplaced}
use Rattle.evidence.proofs.proof_scripts.Expressions.{term_of, closed_term}

-- ---- one formula
one_is : {X : Type 0} (o : Option X) (g : X → Tree) (x : Tree) → IsSomeAnd o (λ p. x ≡ g p) → one_added o g ≡ (x ∷ []) ∷ []
one_is None g x h = absurd h
one_is (Some p) g x h = ap (λ (z : Tree). (z ∷ []) ∷ []) (sym h)

-- ---- quantifiers of both kinds
universal_is : (q : Tree) (p : Tree × Tree) → universal (Some q) ≡ Some p → quantifier_parts q ≡ Some p
universal_is (Two HForall ty b) p e = e
universal_is _ p e = absurd (cc)

existential_is : (q : Tree) (p : Tree × Tree) → existential (Some q) ≡ Some p → quantifier_parts q ≡ Some p
existential_is (Two HExists ty b) p e = e
existential_is _ p e = absurd (cc)

module _ (f : Option Tree → Option (Tree × Tree)) (agree : (q : Tree) (p : Tree × Tree) → f (Some q) ≡ Some p → quantifier_parts q ≡ Some p) (o : Option Tree) (q : Tree) (e : o ≡ Some q) where
  found : (P : Tree × Tree → Type 0) → IsSomeAnd (f o) P → (p : Tree × Tree) × ((f o ≡ Some p) × ((quantifier_parts q ≡ Some p) × P p))
  found P h = let s = some_of (f o) P h in (s.0, (s.1.0, (agree q s.0 (ap f (sym e) ∙ s.1.0), s.1.1)))

  is_quantified : (P : Tree × Tree → Type 0) → IsSomeAnd (f o) P → IsQuantified q
  is_quantified P h = let s = found P h in subst (λ (z : Option (Tree × Tree)). IsSomeAnd z (λ p. Unit {0})) (sym s.1.1.0) tt

  for_term : (d : DraftTree) (t : TermId) (R : Tree × Tree → Type 0) → Holds d.trees t → IsGroundExpression d.task (tree_at d.trees t) → IsSomeAnd (f o) (λ p. (type_of (tree_at d.trees t) ≡ Some p.0) × R p) → IsTermFor d q t
  for_term d t R held g h =
      let s = found (λ p. (type_of (tree_at d.trees t) ≡ Some p.0) × R p) h in
      let u = term_of d.task (tree_at d.trees t) s.0.0 g s.1.1.1.0 in
      subst (λ (z : Option (Tree × Tree)). IsSomeAnd z (λ p. IsClosedTermAt d p.0 t)) (sym s.1.1.0) (record { held = held; closed = closed_term d.task (tree_at d.trees t) s.0.0 u; term = u; variables = g.ground })

  one_of : (P : Tree × Tree → Type 0) (g : Tree × Tree → Tree) (x : Tree) → IsSomeAnd (f o) P → IsSomeAnd (quantifier_parts q) (λ p. x ≡ g p) → one_added (f o) g ≡ (x ∷ []) ∷ []
  one_of P g x h b =
      let s = found P h in
      let k : IsSomeAnd (f o) (λ p. x ≡ g p) = subst (λ (z : Option (Tree × Tree)). IsSomeAnd z (λ p. x ≡ g p)) (sym s.1.0) (subst (λ (z : Option (Tree × Tree)). IsSomeAnd z (λ p. x ≡ g p)) s.1.1.0 b) in
      one_is (f o) g x k

-- ---- negations
pub negation_of : (x : Tree) {X : Type 0} (f : Option Tree → Option X) (P : X → Type 0) → f None ≡ None → IsSomeAnd (f (negated (Some x))) P → IsNegated x
negation_of (One HNot a) f P n h = tt
negation_of _ f P n h = absurd (subst (λ z. IsSomeAnd z P) n h)

found_moved : {X : Type 0} (f : Option Tree → Option X) (a b : Option Tree) (P : X → Type 0) → a ≡ b → IsSomeAnd (f a) P → IsSomeAnd (f b) P
found_moved f a b P e h = subst (λ (z : Option Tree). IsSomeAnd (f z) P) e h

-- ---- by the formula at a place
module _ (d : DraftTree) (T : List Tree) (i : ℕ) (q : Tree) where
  -- it is negated, or what it negates is
  pub not_first : (e : slice_get T i ≡ Some q) → IsOfTail d.task T (RNotNot i) → IsNegated q
  not_first e h = negation_of q negated _ refl (found_moved (λ o. negated (negated o)) (slice_get T i) _ _ e h.row)

  pub not_second : (a : Tree) → slice_get T i ≡ Some (neg a) → IsOfTail d.task T (RNotNot i) → IsNegated a
  not_second a e h = some_map (negated (Some a)) _ (λ x. Unit {0}) (λ x z. tt) (found_moved (λ o. negated (negated o)) (slice_get T i) _ _ e h.row)

  pub not_added : (d1 : DraftTree) (id : TermId) → IsFormulaAt d1 id → slice_get T i ≡ Some (neg (neg (tree_at d1.trees id))) → IsAdded d1 id (adds T (RNotNot i))
  not_added d1 id f e = record { formula = f; is = ap (λ (z : Option Tree). one_added (negated (negated z)) (λ a. a)) e }

  pub forall_for : (t : TermId) → slice_get T i ≡ Some q → Holds d.trees t → IsOfTail d.task T (RForall i (tree_at d.trees t)) → IsTermFor d q t
  forall_for t e held h = for_term universal universal_is (slice_get T i) q e d t _ held h.names.trees.0 h.row

  pub forall_added : (t : TermId) (d1 : DraftTree) (id : TermId) → slice_get T i ≡ Some q → IsOfTail d.task T (RForall i (tree_at d.trees t)) → IsFormulaAt d1 id → IsBodyAt q (tree_at d.trees t) (tree_at d1.trees id) → IsAdded d1 id (adds T (RForall i (tree_at d.trees t)))
  forall_added t d1 id e h f b = record { formula = f; is = one_of universal universal_is (slice_get T i) q e _ (λ p. inst p.1 (tree_at d.trees t)) (tree_at d1.trees id) h.row b }

  pub exists_quantified : (n : ℕ) → slice_get T i ≡ Some q → IsOfTail d.task T (RExists i n) → IsQuantified q
  exists_quantified n e h = is_quantified existential existential_is (slice_get T i) q e _ h.row

  pub exists_added : (n : ℕ) (d1 : DraftTree) (id : TermId) → slice_get T i ≡ Some q → IsOfTail d.task T (RExists i n) → IsFormulaAt d1 id → IsBodyAtNew q n (tree_at d1.trees id) → IsAdded d1 id (adds T (RExists i n))
  exists_added n d1 id e h f b = record { formula = f; is = one_of existential existential_is (slice_get T i) q e _ (λ p. inst p.1 (Param n p.0)) (tree_at d1.trees id) h.row b }

  pub not_exists_first : (t : Tree) → slice_get T i ≡ Some q → IsOfTail d.task T (RNotExists i t) → IsNegated q
  not_exists_first t e h = negation_of q existential _ refl (found_moved (λ o. existential (negated o)) (slice_get T i) _ _ e h.row)

  pub not_exists_for : (t : TermId) → slice_get T i ≡ Some (neg q) → Holds d.trees t → IsOfTail d.task T (RNotExists i (tree_at d.trees t)) → IsTermFor d q t
  not_exists_for t e held h = for_term existential existential_is (negated (slice_get T i)) q (ap negated e) d t _ held h.names.trees.0 h.row

  pub not_exists_added : (t : TermId) (d1 : DraftTree) (id : TermId) → slice_get T i ≡ Some (neg q) → IsOfTail d.task T (RNotExists i (tree_at d.trees t)) → IsFormulaAt d1 id → IsNegatedBodyAt q (tree_at d.trees t) (tree_at d1.trees id)
      → IsAdded d1 id (adds T (RNotExists i (tree_at d.trees t)))
  not_exists_added t d1 id e h f b = record { formula = f; is = one_of existential existential_is (negated (slice_get T i)) q (ap negated e) _ (λ p. neg (inst p.1 (tree_at d.trees t))) (tree_at d1.trees id) h.row b }

  pub not_forall_first : (n : ℕ) → slice_get T i ≡ Some q → IsOfTail d.task T (RNotForall i n) → IsNegated q
  not_forall_first n e h = negation_of q universal _ refl (found_moved (λ o. universal (negated o)) (slice_get T i) _ _ e h.row)

  pub not_forall_quantified : (n : ℕ) → slice_get T i ≡ Some (neg q) → IsOfTail d.task T (RNotForall i n) → IsQuantified q
  not_forall_quantified n e h = is_quantified universal universal_is (negated (slice_get T i)) q (ap negated e) _ h.row

  pub not_forall_added : (n : ℕ) (d1 : DraftTree) (id : TermId) → slice_get T i ≡ Some (neg q) → IsOfTail d.task T (RNotForall i n) → IsFormulaAt d1 id → IsNegatedBodyAtNew q n (tree_at d1.trees id) → IsAdded d1 id (adds T (RNotForall i n))
  not_forall_added n d1 id e h f b = record { formula = f; is = one_of universal universal_is (negated (slice_get T i)) q (ap negated e) _ (λ p. neg (inst p.1 (Param n p.0))) (tree_at d1.trees id) h.row b }

  pub replace_template : (j : ℕ) (t : Tree) → slice_get T i ≡ Some q → IsOfTail d.task T (RReplace i j t) → IsTemplateFor d q t
  replace_template j t e h =
      let s = some_of (equation_sides (Some q)) _ (found_moved equation_sides (slice_get T i) (Some q) _ e h.row) in
      subst (λ (z : Option (Tree × Tree)). IsSomeAnd z (λ p. IsSomeAnd (type_of p.0) (λ ty. IsTemplate d.task ty t))) (sym s.1.0) s.1.1.0

  pub replace_added : (j : ℕ) (t : Tree) (d1 : DraftTree) (id : TermId) → slice_get T i ≡ Some q → IsFormulaAt d1 id → IsReplaced q t (tree_at d1.trees id) → IsAdded d1 id (adds T (RReplace i j t))
  replace_added j t d1 id e f b = record {
    formula = f;
    is = ap (λ (z : Option Tree). one_added (equation_sides z) (λ p. inst t p.1)) e ∙ one_is (equation_sides (Some q)) (λ p. inst t p.1) (tree_at d1.trees id) b;
  }

-- ---- by the rule's own tree
module _ (d : DraftTree) (T : List Tree) (e : TermId) where
  abbrev E : Tree
  E = tree_at d.trees e

  pub let_is : IsOfTail d.task T (RLetDef E) → IsLet E
  let_is h = some_map (let_of E) _ (λ p. Unit {0}) (λ p z. tt) h.row

  pub let_expression : Holds d.trees e → IsOfTail d.task T (RLetDef E) → IsExpressionAt d e
  let_expression held h = record { held = held; ground = h.names.trees.0 }

  pub let_added : (d1 : DraftTree) (id : TermId) → IsFormulaAt d1 id → IsLetEquation E (tree_at d1.trees id) → IsAdded d1 id (adds T (RLetDef E))
  let_added d1 id f b = record { formula = f; is = one_is (let_of E) (λ p. alike E (inst p.1 p.0)) (tree_at d1.trees id) b }

  pub if_is : IsOfTail d.task T (RIfDef E) → IsIf E
  if_is h = some_map (if_of E) _ (λ p. Unit {0}) (λ p z. tt) h.row

  pub if_expression : Holds d.trees e → IsOfTail d.task T (RIfDef E) → IsExpressionAt d e
  if_expression held h = record { held = held; ground = h.names.trees.0 }

  pub if_added : (d1 : DraftTree) (id : TermId) → IsFormulaAt d1 id → IsIfEquation E (tree_at d1.trees id) → IsAdded d1 id (adds T (RIfDef E))
  if_added d1 id f b = record { formula = f; is = one_is (if_of E) (λ p. by_cases p.0 E p.1 p.2) (tree_at d1.trees id) b }

  pub refl_expression : Holds d.trees e → IsOfTail d.task T (RRefl E) → IsExpressionAt d e
  refl_expression held h = record { held = held; ground = h.names.trees.0 }

  pub refl_added : (d1 : DraftTree) (id : TermId) → IsFormulaAt d1 id → tree_at d1.trees id ≡ equal E E → IsAdded d1 id (adds T (RRefl E))
  refl_added d1 id f b = record { formula = f; is = ap (λ (z : Tree). (z ∷ []) ∷ []) (sym b) }
