-- The longest string at the front of a text that is a token.
use Rattle.std.specs.Prelude.{ℕ, ◌-◌, ◌<◌, ◌≤◌, ◌≡◌, ◌&&◌, nat_eq, List, length, take, drop, Some, None, if◌then◌else◌}
use Rattle.tokens_why.specs.Common.{Token, TokenKind}
use Rattle.tokens_why.specs.Gap.{byte_in}
use Rattle.tokens_why.specs.Literal.{is_digit_of, radix_of}
use Rattle.tokens_why.specs.Strings.{kind_of}

pub record IsLongestToken (bs : List ℕ) (n : ℕ) (k : TokenKind) : Type 0 where
  pub some : 0 < n
  pub within : n ≤ length bs
  pub kind : kind_of (take n bs) ≡ Some k
  pub longest : (m : ℕ) → n < m → m ≤ length bs → kind_of (take m bs) ≡ None

abbrev pub HasNone : List ℕ → Type 0
HasNone bs = (m : ℕ) → m ≤ length bs → kind_of (take m bs) ≡ None

-- at a place of a text
pub record IsLongestTokenAt (text : List ℕ) (start : ℕ) (t : Token) : Type 0 where
  pub start_is : t.start ≡ start
  pub ordered : start ≤ t.end
  pub longest : IsLongestToken (drop start text) (t.end - start) t.kind

-- the radix of a literal with a radix letter that is in front, or 0
abbrev pub based_radix : List ℕ → ℕ
based_radix bs = if nat_eq (byte_in bs 0) 48
    && is_digit_of (radix_of (byte_in bs 1)) (byte_in bs 2) then radix_of (byte_in bs 1) else 0
