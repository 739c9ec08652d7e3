-- Places as they are gathered.
use Rattle.std.proofs.Common.{◌≡◌, ℕ, ◌+◌, ◌<◌, ◌≤◌, Bool, true, false, if◌then◌else◌, List, ◌∷◌, ◌++◌, length, get_or, drop, refl, sym, ap, ◌∙◌, append_assoc}
use Rattle.std.proofs.lemmas.List.{append-nil, drop_more, drop_all}
use Rattle.trees.specs.Tree.{Tree}
use Rattle.name_tables.specs.Occurrences.{Occurrence}
use Rattle.name_tables.specs.Seen.{occurrence_at, seen_occurrences}
use Rattle.printed_problems.specs.Problems.{places_from}
use Rattle.printed_problems.specs.Tests.{place_if}

one_place : (test : Occurrence → Bool) (n : ℕ) (o : Occurrence) (os : List Occurrence) → places_from test n (o ∷ os) ≡ place_if n (test o) ++ places_from test (n + 1) os
one_place test n o os = elim (test o) as (λ b. (if b then n ∷ places_from test (n + 1) os else places_from test (n + 1) os) ≡ place_if n b ++ places_from test (n + 1) os) [ true ↦ refl | false ↦ refl ]

module _ (test : Occurrence → Bool) (s : List Tree) (keys : List (ℕ × ℕ)) (i : ℕ) (d : ℕ × ℕ) where
  pub places_step : (old new all : List ℕ) → i < length keys → new ≡ old ++ place_if i (test (occurrence_at s (get_or keys i d))) → old ++ places_from test i (seen_occurrences s (drop i keys)) ≡ all
      → new ++ places_from test (i + 1) (seen_occurrences s (drop (i + 1) keys)) ≡ all
  places_step old new all h e so =
      let key = get_or keys i d in
      let rest = seen_occurrences s (drop (i + 1) keys) in
      ap (λ z. z ++ places_from test (i + 1) rest) e ∙ append_assoc old (place_if i (test (occurrence_at s key))) (places_from test (i + 1) rest)
      ∙ ap (λ z. old ++ z) (sym (one_place test i (occurrence_at s key) rest) ∙ ap (λ z. places_from test i (seen_occurrences s z)) (sym (drop_more keys i d h))) ∙ so

pub places_end : (test : Occurrence → Bool) (s : List Tree) (keys : List (ℕ × ℕ)) (i : ℕ) (ps all : List ℕ) → length keys ≤ i → ps ++ places_from test i (seen_occurrences s (drop i keys)) ≡ all → ps ≡ all
places_end test s keys i ps all h so = sym (append-nil ps) ∙ ap (λ z. ps ++ places_from test i (seen_occurrences s z)) (sym (drop_all i keys h)) ∙ so
