-- One open term for the variable 0, and lists of types, for typing.
use Rattle.std.proofs.Common.{◌≡◌, ℕ, zero, suc, ◌+◌, ◌<◌, inl, inr, sym, List, [], ◌∷◌, length, get_or, slice_get, Some, refl, ◌∙◌, arith}
use Rattle.trees.specs.declared.Sort.{Sort}
use Rattle.trees.specs.declared.Sort.TheVariants.{Kind, Term, Formula}
use Rattle.trees.specs.Tree.{Tree}
use Rattle.trees.specs.Binding.{TyVar, AreTypes}
use Rattle.trees.specs.Sorts.{sort_of, type_of, IsExpression}
use Rattle.trees.specs.laws.Sorts.{kind_no_vars}
use Rattle.trees.proofs.Types.{loose_types}
use Rattle.tasks.specs.Vocabulary.{Vocabulary}
use Rattle.images.specs.typing_laws.HasTyping.{HasTyping, IsTypeAt, AreTermsFor}
pub use Rattle.images.proofs.Images.{expression_sort, expression_type}
pub use Rattle.images.proofs.typing_laws.Sorted.{typed_has, has_typed, has_sorts, kinds_only, formula_no_type, bound_count}
pub use Rattle.images.proofs.typing_laws.TypeInstances.{at_one}
pub use Rattle.images.proofs.typing_laws.Changes.{many_has, many_sort, many_type, many_variables, many_above_params, many_parameters}

pub one_each : (P : Tree → Type 0) (t : Tree) → P t → (k : ℕ) (e : Tree) → k < length (t ∷ []) → P (get_or (t ∷ []) k e)
one_each P t p zero e l = p
one_each P t p (suc k) e l = absurd (omega arith)

pub one_term : (v : Vocabulary) (types : List Tree) (ty t : Tree) → sort_of t ≡ Term → type_of t ≡ Some ty → HasTyping v types t → AreTermsFor v types (ty ∷ []) (t ∷ [])
one_term v types ty t s q x = record { as_many = refl; each = λ i k a e p n. each i k a e p n }
  where
    each : (i k : ℕ) (a e : Tree) → slice_get (ty ∷ []) i ≡ Some a → i + k + 1 ≡ length (t ∷ []) → (sort_of (get_or (t ∷ []) k e) ≡ Term) × ((type_of (get_or (t ∷ []) k e) ≡ Some a) × HasTyping v types (get_or (t ∷ []) k e))
    each zero zero a e p n = (s, (q ∙ p, x))
    each zero (suc k) a e p n = absurd (omega (arith, n))
    each (suc i) k a e p n = absurd (omega (arith, n))

-- closed types are types
pub are_types : (v : Vocabulary) (ys : List Tree) → ((j : ℕ) → IsTypeAt v (get_or ys j (TyVar j))) → AreTypes ys
are_types v ys each = record {
  closed = λ j. loose_types (get_or ys j (TyVar j)) (kinds_only (get_or ys j (TyVar j)) (has_sorts v [] (get_or ys j (TyVar j)) (each j).1) (inl (each j).0));
  no_vars = λ j. kind_no_vars (get_or ys j (TyVar j)) (each j).0;
}

-- no expression is a type
pub no_kind : (s : Sort) → IsExpression s → s ≡ Kind → ⊥
no_kind s (inl p) q = let r : Term ≡ Kind = sym p ∙ q in absurd (cc)
no_kind s (inr p) q = let r : Formula ≡ Kind = sym p ∙ q in absurd (cc)
