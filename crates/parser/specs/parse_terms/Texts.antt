-- Tokens that are those of their texts.
use Rattle.std.specs.Prelude.{ℕ, ◌≡◌, ◌≤◌, List, Some, slice_get, length}
use Rattle.parser.specs.parse_terms.Common.{LiteralFits, text_of}
use Rattle.tokens_why.specs.declared.token.Token.{Token}
use Rattle.tokens_why.specs.Strings.{kind_of}

-- each token is in the text, and its kind is that of its text
pub record HasText (text : List ℕ) (k : Token) : Type 0 where
  pub ordered : k.start ≤ k.end
  pub within : k.end ≤ length text
  pub kind : kind_of (text_of text k) ≡ Some k.kind
  pub fits : LiteralFits text k

abbrev pub HasTexts : List ℕ → List Token → Type 0
HasTexts text ks = (i : ℕ) (k : Token) → slice_get ks i ≡ Some k → HasText text k
