-- What is read as a name.
use Rattle.std.specs.Prelude.{ℕ, ◌+◌, ◌≡◌, List, Option}
use Rattle.parser.specs.parse_terms.Common.{Lexeme, Called, Own, own_of, Dotted, OperatorName, Scoped, own_op, upper_called}
use Rattle.grammar.specs.declared.symbols.Symbol.TheVariants as s
use Rattle.surface.specs.declared.names.QName.{QName}
use Rattle.parser.specs.parse_terms.Reading.{IsRead, token_at}

abbrev pub scoped_of : QName → Scoped
scoped_of q = record { scopes = q.scopes; own = own_of q.style q.text }

-- What is read after a parenthesis as an operator's name is this own name.
pub record IsOperatorName (xs : List Lexeme) (i : ℕ) (o : Own) (j : ℕ) : Type 0 where
  pub name : OperatorName
  pub named : own_op name.prefix name.op ≡ o
  pub is : IsRead xs s.Opname i name j

-- What is read after a name's first word makes it this name.
pub record IsUpperName (xs : List Lexeme) (i : ℕ) (c : Called) (j : ℕ) : Type 0 where
  pub following : Option Dotted
  pub named : upper_called i (token_at xs i).text following ≡ c
  pub is : IsRead xs s.Quids (i + 1) following j
