-- What is read as parameters.
use Rattle.std.specs.Prelude.{ℕ, ◌+◌, Bool, false, ◌&&◌, if◌then◌else◌, List, [], ◌∷◌}
use Rattle.parser.specs.parse_decls.Common.{same, Lexeme, ParamGroup, param_names, IsRead, from, terminal_at}
use Rattle.tokens_why.specs.declared.terminal.Terminal.TheVariants as t
use Rattle.grammar.specs.declared.symbols.Symbol.TheVariants as s

-- names, none or more, and then a colon
abbrev pub names_before_colon : List Lexeme → Bool
names_before_colon [] = false
names_before_colon (x ∷ xs) =
    if same t.Lident x.terminal then names_before_colon xs else same t.Colon x.terminal

-- names, one or more, and then a colon
abbrev pub begins_names : List Lexeme → ℕ → Bool
begins_names xs i = same t.Lident (terminal_at xs i) && names_before_colon (from xs (i + 1))

-- What is read after a parenthesis is this parameter's names and type.
abbrev pub IsNamedParam : List Lexeme → ℕ → ParamGroup → ℕ → Type 0
IsNamedParam xs i p j = IsRead xs s.Pparen i (param_names p.names p.of_type) j

-- What is read as a parameter, or as fields of one type, is this.
abbrev pub IsParam : List Lexeme → ℕ → ParamGroup → ℕ → Type 0
IsParam xs i p j = IsRead xs s.Param i p j
