-- The longest expression that is at a token, or where none does any more.
use Rattle.std.specs.Prelude.{ℕ, ◌+◌, ◌≡◌, ◌≤◌, ◌<◌, false, List, [], ◌∷◌, length, take, Some}
use Rattle.grammar.specs.recognise.Common.{⊤, Token, rest, SyntaxTree, IsLevel, IsPlacedTree, write, read, Begins, IsLongestTree, IsNone, SyntaxFault}
use Rattle.grammar.specs.declared.symbols.Symbol.TheVariants as s
use Rattle.grammar.specs.declared.recognise.fault.SyntaxFault.TheVariants as f

-- The longest expression from a token on, and the token after it: the one right tree of its tokens
-- that has their places. No right tree has more of them.
pub record IsLongestTreeAt (text : List ℕ) (ts : List Token) (from : ℕ) (t : SyntaxTree)
    (to : ℕ) : Type 0 where
  pub count : ℕ
  pub end : to ≡ from + count
  pub is : IsLongestTree IsLevel (IsPlacedTree from) write (rest text ts from) t count

-- there is one, and it is read
pub record EndsAt (text : List ℕ) (ts : List Token) (from to : ℕ) : Type 0 where
  pub tree : SyntaxTree
  pub within : to ≤ length ts
  pub longest : IsLongestTreeAt text ts from tree to
  pub reads : read (take longest.count (rest text ts from)) from false (s.Expr 0 ∷ [])
      ≡ Some (tree, tt)

-- No expression is there. The tokens up to a place begin one, and with the next token, if there is
-- one, they begin none.
pub record IsFaultAt (text : List ℕ) (ts : List Token) (from i : ℕ) : Type 0 where
  pub count : ℕ
  pub place : i ≡ from + count
  pub high : count ≤ length (rest text ts from)
  pub none : (m : ℕ) → m ≤ length (rest text ts from)
      → IsNone IsLevel write (take m (rest text ts from))
  pub begins : Begins IsLevel write (take count (rest text ts from))
  pub stops : count < length (rest text ts from)
      → Begins IsLevel write (take (count + 1) (rest text ts from)) → ⊥

-- want of memory, or the least place with which no expression begins
abbrev pub IsExpressionRefusal : List ℕ → List Token → ℕ → SyntaxFault → Type 0
IsExpressionRefusal text ts from f.Memory = ⊤
IsExpressionRefusal text ts from (f.Syntax i) = IsFaultAt text ts from i
IsExpressionRefusal text ts from (f.TooDeep i) = ⊥
IsExpressionRefusal text ts from (f.ProgramDecl i) = ⊥
