-- Words in ascending order. A word is the list of its bytes.
use Rattle.std.specs.Prelude.{ℕ, Bool, true, ◌&&◌, nat_eq, List, [], ◌∷◌, Option, map, ◌≡◌, ◌↔◌, Some, slice_get}
use Rattle.std.specs.Borrow.{Bor}
use Rattle.std.specs.List.{position_from}
use Rattle.std.specs.Ordering.{nat_cmp, is_lt}
use Rattle.std.specs.Cmp.Lexicographic.{slice_cmp}
use lib.Pointwise.{pointwise}

-- whether two words are the same
abbrev pub is_same_word : List ℕ → List ℕ → Bool
is_same_word = pointwise nat_eq

-- the first place of a word in a list of words
abbrev pub place_in_words : List ℕ → List (List ℕ) → Option ℕ
place_in_words word words = position_from (λ w. is_same_word w word) 0 words

-- each word is below the next, byte by byte
abbrev pub ascends : List (List ℕ) → Bool
ascends [] = true
ascends (w ∷ []) = true
ascends (v ∷ w ∷ ws) = is_lt (slice_cmp nat_cmp v w) && ascends (w ∷ ws)

-- the words that references point to
abbrev pub texts : List (Bor (List ℕ)) → List (List ℕ)
texts = map (λ r. r.now)

-- an answer names a place exactly where the word is there
abbrev pub Finds : List (List ℕ) → List ℕ → Option ℕ → Type 0
Finds words word place = (i : ℕ) → (place ≡ Some i) ↔ (slice_get words i ≡ Some word)
