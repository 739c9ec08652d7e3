-- What is read as a field of a record.
use Rattle.std.specs.Prelude.{ℕ, ◌+◌, ◌≡◌, List}
use Rattle.parser.specs.parse_terms.Common.{Lexeme, Dotted, FormPart, TreePart}
use Rattle.grammar.specs.declared.symbols.Symbol.TheVariants as s
use Rattle.grammar.specs.reading.Parts.{lower_called}
use Rattle.parser.specs.parse_terms.Reading.{IsExpr, IsRead}

-- What is read as a name, an equality sign and a pattern is this field.
pub record IsReadFormField (xs : List Lexeme) (i : ℕ) (f : FormPart) (j : ℕ) : Type 0 where
  pub name : Dotted
  pub middle : ℕ
  pub named : lower_called i name ≡ f.name
  pub is : IsRead xs s.Qlid i name middle
  pub value : IsRead xs s.Pat (middle + 1) f.form j

-- and as a name, an equality sign and a term
pub record IsReadTreeField (xs : List Lexeme) (i : ℕ) (f : TreePart) (j : ℕ) : Type 0 where
  pub name : Dotted
  pub middle : ℕ
  pub named : lower_called i name ≡ f.name
  pub is : IsRead xs s.Qlid i name middle
  pub value : IsExpr xs 0 (middle + 1) f.tree j
