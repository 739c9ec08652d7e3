-- What the names and strings of a driver say.
use Rattle.std.specs.Prelude.{ℕ, ◌-◌, Bool, false, List, [], ◌++◌, length, slice_range, slice_get, codes, Option, Some, None, if◌then◌else◌}
use Rattle.std.specs.List.{flat_map}
use Rattle.tokens_why.specs.Strings.{kind_of}
use Rattle.tokens_why.specs.declared.token.TokenKind.{TokenKind}
use Rattle.tokens_why.specs.declared.token.TokenKind.TheVariants as source
use Rattle.drivers.specs.declared.driver_tokens.terminal.DriverTerminal.{DriverTerminal}
use Rattle.drivers.specs.declared.driver_tokens.terminal.DriverTerminal.TheVariants as t
use Rattle.drivers.specs.driver_tokens.Strings.{string_says}
use Rattle.drivers.specs.driver_tokens.Tokens.{DriverLexeme}

-- what a string says
abbrev pub string_value_of : DriverLexeme → List ℕ
string_value_of x = string_says (slice_range x.text 1 (length x.text - 1))

abbrev pub is_prefix_kind : Option TokenKind → Bool
is_prefix_kind (Some (source.Operator level prefix)) = prefix
is_prefix_kind _ = false

-- what a token adds to a name
abbrev pub name_bytes : DriverTerminal → List ℕ → List ℕ
name_bytes t.Open text = []
name_bytes t.Close text = []
name_bytes t.Star text = slice_range text 1 2
name_bytes _ text = text

-- a prefix operator is spelled with `_` at its end, also where it is named without
abbrev pub prefix_mark_by : DriverTerminal → List ℕ → List ℕ
prefix_mark_by t.Operator text = if is_prefix_kind (kind_of text) then codes "_" else []
prefix_mark_by _ text = []

abbrev pub prefix_mark : Option DriverLexeme → List ℕ
prefix_mark (Some x) = prefix_mark_by x.terminal x.text
prefix_mark None = []

-- the name that tokens write: words with dots, and an operator's own name
abbrev pub written_name : List DriverLexeme → List ℕ
written_name xs =
    flat_map (λ x. name_bytes x.terminal x.text) xs ++ prefix_mark (slice_get xs (length xs - 2))
