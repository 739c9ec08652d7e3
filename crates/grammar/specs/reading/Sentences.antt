-- Which tokens are those of a tree, which begin one, where tokens go wrong, and where the longest
-- tree ends: for trees of any kind, given which of them are right, which have the places of their
-- tokens, and the tokens that each writes.
use Rattle.grammar.specs.reading.Common.{Lexeme, lexeme_by}
use Rattle.std.specs.Prelude.{◌+◌, ◌++◌, ℕ, ◌≡◌, ◌<◌, ◌≤◌, List, [], ◌∷◌, length, take}
use Rattle.std.specs.Bool.{⊤}
use Rattle.tokens_why.specs.declared.token.TokenKind.{TokenKind}
use Rattle.tokens_why.specs.Terminals.{terminal_of}
use Rattle.tokens_why.specs.Tokens.{IsString}

-- A token that a text can have.
pub record CanStand (x : Lexeme) : Type 0 where
  pub string : List ℕ
  pub kind : TokenKind
  pub is : IsString kind string
  pub lexeme : x ≡ lexeme_by (terminal_of kind) string

abbrev pub AllStand : List Lexeme → Type 0
AllStand [] = ⊤
AllStand (x ∷ xs) = CanStand x × AllStand xs

-- the tokens are those of a right tree, wherever that says that they stand
pub record IsOf {V : Type 0} (is : V → Type 0) (write : V → List Lexeme) (xs : List Lexeme)
    (v : V) : Type 0 where
  pub right : is v
  pub tokens : write v ≡ xs

-- they are those of none
abbrev pub IsNone : {V : Type 0} → (V → Type 0) → (V → List Lexeme) → List Lexeme → Type 0
IsNone {V} is write xs = (v : V) → IsOf is write xs v → ⊥

-- The right tree with these tokens and with their places, which is the only one.
pub record IsOnly {V : Type 0} (is stands : V → Type 0) (write : V → List Lexeme) (xs : List Lexeme)
    (v : V) : Type 0 where
  pub of : IsOf is write xs v
  pub placed : stands v
  pub only : (w : V) → IsOf is write xs w → stands w → w ≡ v

-- The tokens of some right tree begin with these; after them stand tokens that a text can have.
pub record Begins {V : Type 0} (is : V → Type 0) (write : V → List Lexeme)
    (xs : List Lexeme) : Type 0 where
  pub tree : V
  pub following : List Lexeme
  pub stand : AllStand following
  pub of : IsOf is write (xs ++ following) tree

-- Where tokens that are of no right tree go wrong: the first n begin one, and with the next one, if
-- there is one, they begin none.
pub record IsLeastFault {V : Type 0} (is : V → Type 0) (write : V → List Lexeme) (xs : List Lexeme)
    (n : ℕ) : Type 0 where
  pub high : n ≤ length xs
  pub none : IsNone is write xs
  pub begins : Begins is write (take n xs)
  pub stops : n < length xs → Begins is write (take (n + 1) xs) → ⊥

-- the longest of the trees whose tokens these begin with
pub record IsLongestTree {V : Type 0} (is stands : V → Type 0) (write : V → List Lexeme)
    (xs : List Lexeme) (v : V) (n : ℕ) : Type 0 where
  pub high : n ≤ length xs
  pub only : IsOnly is stands write (take n xs) v
  pub longest : (m : ℕ) → n < m → m ≤ length xs → IsNone is write (take m xs)
