-- What is read where in a list of tokens.
use Rattle.std.specs.Prelude.{ℕ, ◌+◌, ◌≡◌, ◌≤◌, ◌<◌, Bool, true, false, ◌&&◌, not, List, [], ◌∷◌, length, Option, Some, None}
use Rattle.parser.specs.parse_terms.Common.{same, Lexeme, Word, is_infix, is_operator, SyntaxTree, ends_open, Chain, Dotted, attach, first_token, scope_on, blank, read}
use Rattle.tokens_why.specs.declared.terminal.Terminal.{Terminal}
use Rattle.tokens_why.specs.declared.terminal.Terminal.TheVariants as t
use Rattle.grammar.specs.declared.symbols.Symbol.{Symbol}
use Rattle.grammar.specs.declared.symbols.Symbol.TheVariants as s
use Rattle.grammar.specs.reading.Row.{Val, Vals}
use Rattle.grammar.specs.reading.Rows.{takes_op}
pub use Rattle.grammar.specs.reading.Reads.{from, nowhere, terminal_at, token_at}

abbrev pub lexemes_from : List Lexeme → ℕ → List Lexeme
lexemes_from xs i = from xs i

-- the least number of tokens that are read as a symbol, if it is not more than one
abbrev pub least_of : {A : Type 0} → Option A → ℕ
least_of (Some v) = 0
least_of None = 1

abbrev pub least : Symbol → ℕ
least s = least_of (blank s)

-- Something is at a token that is read as these symbols, and then as others.
pub record CanRun (xs : List Lexeme) (from : List Symbol → List Symbol) (i : ℕ) : Type 0 where
  pub within : i ≤ length xs
  pub following : List Symbol
  pub values : Vals (from following)
  pub reads : read (lexemes_from xs i) i false (from following) ≡ Some values

abbrev pub CanRead : List Lexeme → Symbol → ℕ → Type 0
CanRead xs s i = CanRun xs (λ k. s ∷ k) i

-- What is read as the symbol is the value, and goes on at a further token.
pub record IsRead (xs : List Lexeme) (s : Symbol) (i : ℕ) (v : Val s) (j : ℕ) : Type 0 where
  pub ahead : i + least s ≤ j
  pub within : j ≤ length xs
  pub reads : (k : List Symbol) (vs : Val s × Vals k)
      → read (lexemes_from xs i) i false (s ∷ k) ≡ Some vs
      → (vs.0 ≡ v) × (read (lexemes_from xs j) j false k ≡ Some vs.1)

-- What is read as symbols goes on, at least n tokens further, as others, whose values make theirs.
pub record Begun (xs : List Lexeme) (n : ℕ) (from : List Symbol → List Symbol) (i : ℕ)
    (to : List Symbol → List Symbol) (act : (k : List Symbol) → Vals (to k) → Vals (from k))
    (j : ℕ) : Type 0 where
  pub ahead : i + n ≤ j
  pub within : j ≤ length xs
  pub can : CanRun xs from i
  pub reads : (k : List Symbol) (vs : Vals (from k))
      → read (lexemes_from xs i) i false (from k) ≡ Some vs
      → (us : Vals (to k)) × (read (lexemes_from xs j) j false (to k) ≡ Some us) × (act k us ≡ vs)

-- What is read as an expression is the tree, and goes on at a further token; after a tree that ends
-- open the tails are silent.
pub record IsExpr (xs : List Lexeme) (m i : ℕ) (e : SyntaxTree) (j : ℕ) : Type 0 where
  pub ahead : i < j
  pub within : j ≤ length xs
  pub reads : (k : List Symbol) (vs : SyntaxTree × Vals k)
      → read (lexemes_from xs i) i false (s.Expr m ∷ k) ≡ Some vs
      → (vs.0 ≡ e) × (read (lexemes_from xs j) j (ends_open e) k ≡ Some vs.1)

-- What is read as an expression begins with the tree, which binds so tightly, and goes on at a
-- further token, where operators may follow.
pub record Climb (xs : List Lexeme) (m i : ℕ) (e : SyntaxTree) (u j : ℕ) : Type 0 where
  pub ahead : i < j
  pub within : j ≤ length xs
  pub first : first_token e ≡ i
  pub can : (k : List Symbol) × (vs : Chain × Vals k)
      × (read (lexemes_from xs j) j (ends_open e) (s.Tail m u ∷ k) ≡ Some vs)
  pub reads : (k : List Symbol) (vs : SyntaxTree × Vals k)
      → read (lexemes_from xs i) i false (s.Expr m ∷ k) ≡ Some vs
      → (c : Chain) × (vs.0 ≡ attach e c)
      × (read (lexemes_from xs j) j (ends_open e) (s.Tail m u ∷ k) ≡ Some (c, vs.1))

-- What is read as an application or an atom is the tree, which is there and does not end open.
pub record IsReadClosed (xs : List Lexeme) (s : Symbol) (i : ℕ) (v : Val s) (e : SyntaxTree)
    (j : ℕ) : Type 0 where
  pub first : first_token e ≡ i
  pub closed : ends_open e ≡ false
  pub is : IsRead xs s i v j

abbrev pub takes_infix : ℕ → ℕ → Terminal → Bool
takes_infix m u o = is_infix o && takes_op m u o

-- the words of a name after its first one
abbrev pub beyond : List Word → Option Dotted → Option Dotted
beyond [] d = d
beyond (w ∷ ws) d = Some (scope_on w (beyond ws d))

abbrev pub begins_atype : Terminal → Bool
begins_atype t.TyVar = true
begins_atype t.Lident = true
begins_atype t.Uident = true
begins_atype t.LParen = true
begins_atype _ = false

abbrev pub begins_patom : Terminal → Bool
begins_patom t.Wild = true
begins_patom t.Lident = true
begins_patom t.Uident = true
begins_patom t.LParen = true
begins_patom t.LBrace = true
begins_patom _ = false

abbrev pub begins_atom : Terminal → Bool
begins_atom t.Lident = true
begins_atom t.Uident = true
begins_atom t.StarName = true
begins_atom t.LParen = true
begins_atom t.Int = true
begins_atom t.TrueWord = true
begins_atom t.FalseWord = true
begins_atom t.MatchWord = true
begins_atom t.LBrace = true
begins_atom _ = false

-- a semicolon is before another field, and not after the last one
abbrev pub goes_on_with_field : Terminal → Terminal → Bool
goes_on_with_field x y = same t.Semi x && not (same t.RBrace y)

abbrev pub ends_name : Terminal → Bool
ends_name t.RParen = true
ends_name t.Wild = true
ends_name _ = false

-- a name of a term begins
abbrev pub is_name : Terminal → Terminal → Terminal → Bool
is_name t.Lident o c = true
is_name t.Uident o c = true
is_name t.StarName o c = true
is_name t.LParen o c = is_operator o && ends_name c
is_name _ o c = false

abbrev pub is_name_at : List Lexeme → ℕ → Bool
is_name_at xs i = is_name (terminal_at xs i) (terminal_at xs (i + 1)) (terminal_at xs (i + 1 + 1))
