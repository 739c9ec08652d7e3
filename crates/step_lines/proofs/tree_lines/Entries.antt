-- The types that entries stand for.
use Rattle.std.proofs.Common.{◌≡◌, ℕ, zero, suc, ◌+◌, ◌-◌, ◌<◌, List, [], ◌∷◌, ◌++◌, length, get_or, drop, IfSome, Option, Some, None, slice_get, refl, sym, ap, subst, ◌∙◌, arith}
use Rattle.std.specs.Option.{option_map, option_and_then}
use Rattle.std.proofs.lemmas.List.{map-append}
use Rattle.trees.specs.declared.TermId.{TermId}
use Rattle.trees.specs.declared.Sort.TheVariants.{Kind}
use Rattle.trees.specs.Tree.{Tree}
use Rattle.trees.specs.Node.{tree_at, Grows}
use Rattle.trees.specs.binders.Visits.{HoldTypes, typing_stays_ready, trees_stay}
use Rattle.tasks.specs.Meaning.{trees_at}
use Rattle.name_tables.specs.declared.name_entries.names.NameEntry.{NameEntry}
use Rattle.step_lines.specs.tree_lines.Words.{each}
use Rattle.step_lines.specs.tree_lines.Named.{named_type_at, entry_type}
use Rattle.step_lines.specs.tree_lines.Made.{IsTypeHeld}
use Rattle.step_lines.proofs.tree_lines.Growing.{types_pushed}
use Rattle.step_lines.proofs.tree_lines.Lists.{each_more}

entry_unfold : (names : List NameEntry) (most place : ℕ) (e : NameEntry) → 0 < most → Some e ≡ slice_get names place → entry_type most names place ≡ option_and_then (named_type_at e.symbol) (each (λ k. entry_type (most - 1) names k) e.types)
entry_unfold names zero place e h s = absurd (omega (arith, h))
entry_unfold names (suc n) place e h s = let m : suc n - 1 ≡ n = omega arith in rw (sym s, m) refl

pub entry_done : (names : List NameEntry) (most place : ℕ) (e : NameEntry) → 0 < most → Some e ≡ slice_get names place → (places : List ℕ) → places ≡ e.types → (acc : List Tree) → Some acc ≡ each (λ k. entry_type (most - 1) names k) places → named_type_at e.symbol acc ≡ entry_type most names place
entry_done names most place e h s places is acc a = ap (option_and_then (named_type_at e.symbol)) (a ∙ ap (each (λ k. entry_type (most - 1) names k)) is) ∙ sym (entry_unfold names most place e h s)

pub entry_missing : (names : List NameEntry) (most place : ℕ) (e : NameEntry) → 0 < most → Some e ≡ slice_get names place → (places : List ℕ) → places ≡ e.types → None ≡ each (λ k. entry_type (most - 1) names k) places → None ≡ entry_type most names place
entry_missing names most place e h s places is a = ap (option_and_then (named_type_at e.symbol)) (a ∙ ap (each (λ k. entry_type (most - 1) names k)) is) ∙ sym (entry_unfold names most place e h s)

-- no entry, or none that may be looked at
pub entry_absent : (names : List NameEntry) (most place : ℕ) → None ≡ slice_get names place → None ≡ entry_type most names place
entry_absent names zero place e = refl
entry_absent names (suc n) place e = rw (sym e) refl

pub entry_zero : (names : List NameEntry) (most place : ℕ) → most ≡ 0 → None ≡ entry_type most names place
entry_zero names zero place e = refl
entry_zero names (suc n) place e = absurd (omega arith)

-- one type more
module _ (s s' : List Tree) (g : Grows s s') (types : List TermId) (ty : TermId) (o : Option TermId) (is : o ≡ Some ty) (held : HoldTypes s types) where
  pub types_more : IfSome o (IsTypeHeld s') → HoldTypes s' (types ++ ty ∷ [])
  types_more h = types_pushed s' types ty (typing_stays_ready s s' types g held) (subst (λ x. IfSome x (IsTypeHeld s')) is h)

  pub entries_more : (F : ℕ → Option Tree) (places : List ℕ) (i d : ℕ) (all : Option (List Tree)) → i < length places → option_map (tree_at s') o ≡ F (get_or places i d) → option_map (λ ys. trees_at s types ++ ys) (each F (drop i places)) ≡ all
      → option_map (λ ys. trees_at s' (types ++ ty ∷ []) ++ ys) (each F (drop (i + 1) places)) ≡ all
  entries_more F places i d all lt e h =
      let acc : trees_at s' (types ++ ty ∷ []) ≡ trees_at s types ++ tree_at s' ty ∷ [] = map-append (tree_at s') types (ty ∷ []) ∙ ap (λ l. l ++ tree_at s' ty ∷ []) (trees_stay Kind s s' types g held) in
      let f : F (get_or places i d) ≡ Some (tree_at s' ty) = sym e ∙ ap (option_map (tree_at s')) is in
      ap (λ l. option_map (λ ys. l ++ ys) (each F (drop (i + 1) places))) acc ∙ each_more F places i d (trees_at s types) (tree_at s' ty) all lt f h
