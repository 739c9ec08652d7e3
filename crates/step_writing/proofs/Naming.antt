-- Whether names are words, and whether rules name symbols that have names.
use Rattle.std.proofs.Common.{◌≡◌, ℕ, ◌+◌, ◌<◌, ◌≤◌, List, [], ◌∷◌, length, get_or, take, All, Option, Some, None, IsSome, IfSome, IsTrue, false, true, Bool, sym, subst, ◌∙◌, arith}
use Rattle.std.proofs.lemmas.List.{take_more, take_all}
use Rattle.std.proofs.lemmas.List.Elements.{All-cons, All-nil, All-append}
use Rattle.name_tables.specs.declared.name_entries.names.NameEntry.{NameEntry}
use Rattle.std.specs.Option.{is_some}
use Rattle.kernel.specs.trees.Tree.{Tree}
use Rattle.name_tables.specs.declared.name_entries.names.NameOf.{NameOf}
use Rattle.step_lines.specs.tree_lines.Named.{cells}
use Rattle.step_writing.specs.declared.tree_writing.spelling.Spelling.{Spelling}
use Rattle.step_writing.specs.tree_writing.Spelt.{IsSpelt, Spells}

module _ {X : Type 0} (P : X → Type 0) where
  -- it holds of one more
  pub all_more : (xs : List X) (i : ℕ) (d : X) → i < length xs → All P (take i xs) → P (get_or xs i d) → All P (take (i + 1) xs)
  all_more xs i d lt a p = subst (All P) (sym (take_more xs i d lt)) (All-append P (take i xs) (get_or xs i d ∷ []) a (All-cons P (get_or xs i d) [] p (All-nil P)))

  pub all_done : (xs : List X) (i : ℕ) → length xs ≤ i → All P (take i xs) → All P xs
  all_done xs i lt a = subst (All P) (take_all i xs lt) a

  pub all_none : (xs : List X) → All P (take 0 xs)
  all_none xs = All-nil P

-- of the only one
pub only : {X : Type 0} (P : X → Type 0) (x : X) (b : Bool) → (IsTrue b → P x) × (P x → IsTrue b) → (IsTrue b → All P (x ∷ [])) × (All P (x ∷ []) → IsTrue b)
only P x b h = (λ t. All-cons P x [] (h.0 t) (All-nil P), λ a. h.1 (a 0 x (omega arith)))

pub no_true : (b : Bool) → b ≡ false → IsTrue b → ⊥
no_true b e t = let f : false ≡ true = sym e ∙ t in cc
