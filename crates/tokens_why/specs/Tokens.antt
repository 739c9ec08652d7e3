-- The tokens of a text, or the least byte at which there is none.
use Rattle.std.specs.Prelude.{ℕ, ◌<◌, ◌≤◌, ◌≡◌, false, ◌||◌, List, [], ◌∷◌, length, drop, slice_range, Some, None, Result, Ok, Err}
use Rattle.tokens_why.specs.Common.{Token, TokenKind}
use Rattle.std.specs.Bool.{⊤}
use Rattle.tokens_why.specs.Gap.{opens_comment, opens_attribute, next}
use Rattle.tokens_why.specs.Strings.{kind_of}
use Rattle.tokens_why.specs.Literal.{literal_value, greatest}
use Rattle.tokens_why.specs.declared.token.TokenKind.TheVariants as tk
use Rattle.tokens_why.specs.declared.fault.LexFault.{LexFault}
use Rattle.tokens_why.specs.declared.fault.LexFault.TheVariants as fault

-- the bytes of a token
abbrev pub text_of : List ℕ → Token → List ℕ
text_of text t = slice_range text t.start t.end

-- A token of a text: the longest string that is one and begins at its byte, where no comment and no
-- attribute opens.
pub record IsToken (text : List ℕ) (t : Token) : Type 0 where
  pub begins : (opens_comment (drop t.start text) || opens_attribute (drop t.start text)) ≡ false
  pub some : t.start < t.end
  pub within : t.end ≤ length text
  pub kind : kind_of (text_of text t) ≡ Some t.kind
  pub longest : (e : ℕ) → t.end < e → e ≤ length text → kind_of (slice_range text t.start e) ≡ None

-- A string that is a token of some text.
pub record IsString (kind : TokenKind) (w : List ℕ) : Type 0 where
  pub is : kind_of w ≡ Some kind
  pub fits : kind ≡ tk.Int → literal_value w ≤ greatest

-- no literal exceeds the greatest value
abbrev pub LiteralFits : List ℕ → Token → Type 0
LiteralFits text t = t.kind ≡ tk.Int → literal_value (text_of text t) ≤ greatest

-- a literal that exceeds it
abbrev pub Exceeds : List ℕ → Token → Type 0
Exceeds text t = (t.kind ≡ tk.Int) × (greatest < literal_value (text_of text t))

-- a token begins at a byte, or none does
abbrev pub TokenBegins : List ℕ → ℕ → Token → Type 0
TokenBegins text start t = (t.start ≡ start) × IsToken text t

abbrev pub NoneBegins : List ℕ → ℕ → Type 0
NoneBegins text start = (t : Token) → TokenBegins text start t → ⊥

-- nothing begins at a byte: no token, no blank, and no comment or attribute that is closed
pub record IsLexical (text : List ℕ) (b at : ℕ) : Type 0 where
  pub here : at ≡ b
  pub within : b < length text
  pub none : NoneBegins text b

-- a literal that is too big begins at a byte
pub record IsBig (text : List ℕ) (b at : ℕ) : Type 0 where
  pub here : at ≡ b
  pub token : Token
  pub begins : TokenBegins text b token
  pub exceeds : Exceeds text token

-- how the reading of a text stops: at its end, or at a byte with a fault
pub data Stop : Type 0 where
  whole : Stop
  lexical : ℕ → Stop
  big : ℕ → Stop

abbrev pub Stops : List ℕ → Stop → ℕ → Type 0
Stops text whole at = at ≡ length text
Stops text (lexical b) at = IsLexical text b at
Stops text (big b) at = IsBig text b at

-- From a byte on: a gap, a token, a gap, a token and so on, and a last gap, after which the reading
-- stops.
abbrev pub Reads : List ℕ → Stop → ℕ → List Token → Type 0
Reads text stop at [] = Stops text stop (next text at)
Reads text stop at (t ∷ ts) =
    (t.start ≡ next text at) × IsToken text t × LiteralFits text t × Reads text stop t.end ts

-- the tokens of a whole text
abbrev pub AreTokens : List ℕ → List Token → Type 0
AreTokens text ts = Reads text whole 0 ts

-- gaps and tokens lead up to a byte at which nothing begins, or a literal that is too big
abbrev pub LexicalAt : List ℕ → ℕ → Type 0
LexicalAt text b = (ts : List Token) × Reads text (lexical b) 0 ts

abbrev pub BigLiteralAt : List ℕ → ℕ → Type 0
BigLiteralAt text b = (ts : List Token) × Reads text (big b) 0 ts

-- a fact of an answer, unless it is one for want of memory
abbrev pub UnlessMemory : {V : Type 0} → Result V LexFault → Type 0 → Type 0
UnlessMemory (Ok v) P = P
UnlessMemory (Err fault.Memory) P = ⊤
UnlessMemory (Err (fault.Lexical b)) P = P
UnlessMemory (Err (fault.BigLiteral b)) P = P
