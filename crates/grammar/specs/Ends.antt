-- Where a token string ends, where tokens are none, and what completes them.
use Rattle.std.specs.Prelude.{ℕ, ◌≡◌, ◌+◌, ◌≤◌, ◌<◌, Bool, true, false, List, [], ◌∷◌, ◌++◌, Option, Some, None, length, take}
use Rattle.grammar.specs.Common.{Terminal, Symbol}
use Rattle.grammar.specs.declared.ends.SyntaxEnd.{SyntaxEnd}
use Rattle.grammar.specs.Machine.{run, accepts, is_taken}

-- The first n terminals are taken, and the next one, if there is one, is not.
pub record TakesAll (start : List Symbol) (xs : List Terminal) (n : ℕ) : Type 0 where
  pub stack : List Symbol
  pub within : n ≤ length xs
  pub taken : run start (take n xs) ≡ Some stack
  pub stuck : n < length xs → run start (take (n + 1) xs) ≡ None

-- Of the token strings that the first terminals are, up to n of them, the longest.
abbrev pub IsLongest : List Symbol → List Terminal → ℕ → Option ℕ → Type 0
IsLongest k xs n None = (m : ℕ) → m ≤ n → accepts k (take m xs) ≡ false
IsLongest k xs n (Some b) = (b ≤ n) × (accepts k (take b xs) ≡ true)
    × ((m : ℕ) → b < m → m ≤ n → accepts k (take m xs) ≡ false)

-- terminals that complete others, or that nothing does
abbrev pub Completes : List Symbol → List Terminal → Option (List Terminal) → Type 0
Completes k xs None = (ys : List Terminal) → accepts k (xs ++ ys) ≡ false
Completes k xs (Some ys) = accepts k (xs ++ ys) ≡ true

-- The terminals are no token string. The first n of them begin one, and with the next one they
-- begin none; whether another terminal could be in its place.
pub record IsFault (k : List Symbol) (xs : List Terminal) (other : Terminal) (n : ℕ)
    (stands : Bool) : Type 0 where
  pub takes : TakesAll k xs n
  pub none : accepts k xs ≡ false
  pub other_stands : stands ≡ is_taken (run k (take n xs ++ other ∷ []))

abbrev pub IsFirstFault : List Symbol → List Terminal → Terminal → Option SyntaxEnd → Type 0
IsFirstFault k xs other None = accepts k xs ≡ true
IsFirstFault k xs other (Some f) = IsFault k xs other f.place f.other_stands
