-- The words of a line: the numbers that they write, and what they refer to by such a number.
use Rattle.std.specs.Prelude.{ℕ, List, [], ◌∷◌, map, Option, Some, None, slice_get}
use Rattle.std.specs.Option.{option_and_then, option_map}
use Rattle.std.specs.Borrow.{Bor}
use Rattle.word_tables.specs.integers.Integers.{number_below}
pub use Rattle.word_tables.specs.Words.{texts}

abbrev pub LineWord : Type 0
LineWord = List ℕ

-- a number of 64 bits in decimal, without leading zeros
abbrev pub number : LineWord → Option ℕ
number w = number_below 18446744073709551616 w

-- the thing of a number
abbrev pub at_number : {A : Type 0} → List A → LineWord → Option A
at_number things w = option_and_then (slice_get things) (number w)

-- what each is, where none is missing
abbrev pub each : {A B : Type 0} → (A → Option B) → List A → Option (List B)
each f [] = Some []
each f (x ∷ xs) = option_and_then (λ y. option_map (λ ys. y ∷ ys) (each f xs)) (f x)

-- what words two by two are
abbrev pub pairs : {A B : Type 0} → (LineWord → Option A) → (LineWord → Option B) → List LineWord
    → Option (List (A × B))
pairs p q [] = Some []
pairs p q (w ∷ []) = None
pairs p q (w ∷ v ∷ ws) = option_and_then
    (λ x. option_and_then (λ y. option_map (λ ps. (x, y) ∷ ps) (pairs p q ws)) (q v)) (p w)

-- what the only word makes, or the only two or three
abbrev pub one : {A C : Type 0} → (LineWord → Option A) → (A → C) → List LineWord → Option C
one p f (w ∷ []) = option_map f (p w)
one p f _ = None

abbrev pub two : {A B C : Type 0} → (LineWord → Option A) → (LineWord → Option B) → (A → B → C)
    → List LineWord → Option C
two p q f (w ∷ v ∷ []) = option_and_then (λ x. option_map (f x) (q v)) (p w)
two p q f _ = None

abbrev pub three : {A B C D : Type 0} → (LineWord → Option A) → (LineWord → Option B)
    → (LineWord → Option C) → (A → B → C → D) → List LineWord → Option D
three p q r f (w ∷ v ∷ u ∷ []) =
    option_and_then (λ x. option_and_then (λ y. option_map (f x y) (r u)) (q v)) (p w)
three p q r f _ = None

-- what no word makes
abbrev pub alone : {C : Type 0} → C → List LineWord → Option C
alone e [] = Some e
alone e _ = None
