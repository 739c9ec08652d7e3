-- What is read as a term with its fields.
use Rattle.std.specs.Prelude.{ℕ, ◌≡◌, Bool, true, false, List, [], ◌∷◌}
use Rattle.parser.specs.parse_terms.Common.{Lexeme, Called, Own, lower, SyntaxTree, ends_open, first_token}
use Rattle.grammar.specs.declared.symbols.Symbol.{Symbol}
use Rattle.grammar.specs.declared.symbols.Symbol.TheVariants as s
use Rattle.grammar.specs.reading.Parts.{NameRest, accessed, args_rest, dots_rest}
use Rattle.grammar.specs.reading.Row.{Vals}
use Rattle.surface.specs.Trees.{none}
use Rattle.parser.specs.parse_terms.Reading.{Begun, IsRead}

abbrev pub is_lower_name : Own → Bool
is_lower_name (lower w) = true
is_lower_name _ = false

-- What is read after a name: fields or, where they may stand, arguments after one in lower case,
-- and arguments after any other one.
abbrev pub name_rest : Bool → Bool → List Symbol
name_rest true true = s.Applied ∷ []
name_rest true false = s.Args ∷ []
name_rest false true = s.Dots ∷ []
name_rest false false = []

abbrev pub name_rest_of : (b l : Bool) → Vals (name_rest b l) → NameRest
name_rest_of true true vs = vs.0
name_rest_of true false vs = args_rest vs.0
name_rest_of false true vs = dots_rest vs.0
name_rest_of false false vs = args_rest none

-- What is read as fields makes this tree of one that begins at token i.
pub record IsReadFields (xs : List Lexeme) (i : ℕ) (e : SyntaxTree) (j : ℕ) (f : SyntaxTree)
    (m : ℕ) : Type 0 where
  pub names : List Called
  pub made : accessed i e names ≡ f
  pub is : IsRead xs s.Dots j names m

-- What is read as an atom is this plain term, which does not end open, and then fields.
pub record IsReadPlain (xs : List Lexeme) (i : ℕ) (e : SyntaxTree) (j : ℕ) : Type 0 where
  pub first : first_token e ≡ i
  pub closed : ends_open e ≡ false
  pub is : Begun xs 1 (λ k. s.Atom ∷ k) i (λ k. s.Dots ∷ k) (λ k us. (accessed i e us.0, us.1)) j
