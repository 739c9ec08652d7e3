-- When the templates of a driver are plain: each is printed as a name is, by a word that nothing
-- else has.
use Rattle.std.specs.Prelude.{◌≡◌, ◌≢◌, ℕ, ◌==◌, ◌||◌, ◌&&◌, nat_le, Bool, true, false, if◌then◌else◌, List, [], ◌∷◌, length, All, codes, Option, Some, None, IsTrue, bytes_eq}
use Rattle.std.specs.List.{list_any}
use Rattle.printed_problems.specs.drivers.declared.driver_items.kinds.Piece.{Piece}
use Rattle.printed_problems.specs.drivers.declared.driver_items.kinds.Syntax.TheVariants.{Smt}
use Rattle.printed_problems.specs.drivers.declared.driver_parts.driver.Driver.{Driver}
use Rattle.tasks.specs.Task.{SymbolTree, symbol_or}
use Rattle.name_tables.specs.declared.name_entries.names.NameEntry.{NameEntry}
use Rattle.printed_problems.specs.Templates.{by_pieces, template_of, has_template}
use Rattle.printed_problems.specs.Problems.{is_kind}
use Rattle.printed_problems.specs.printed_terms.Texts.{application_text}
use Rattle.part_texts.specs.smt_law.s_expressions.Sexps.{IsWord}

-- a template with a number of arguments is one word, where there are none, and else `(`, the word,
-- the arguments in order after one space each, and `)`
abbrev pub HasWord : List Piece → ℕ → List ℕ → Type 0
HasWord pieces n word = (args : List (List ℕ)) → length args ≡ n
    → by_pieces pieces args ≡ application_text Smt word args

abbrev pub is_decimal_digit : ℕ → Bool
is_decimal_digit c = nat_le 48 c && nat_le c 57

abbrev pub all_digits : List ℕ → Bool
all_digits [] = true
all_digits (c ∷ cs) = is_decimal_digit c && all_digits cs

-- it begins with a digit, or with `-` and a digit
abbrev pub begins_number : List ℕ → Bool
begins_number [] = false
begins_number (c ∷ []) = is_decimal_digit c
begins_number (c ∷ e ∷ cs) = is_decimal_digit c || ((c == 45) && is_decimal_digit e)

-- `c` or `x` followed by digits: the name of a parameter or of a variable
abbrev pub is_local : List ℕ → Bool
is_local [] = false
is_local (c ∷ []) = false
is_local (c ∷ e ∷ cs) = ((c == 99) || (c == 120)) && all_digits (e ∷ cs)

-- the words of the syntax
abbrev pub syntax_words : List (List ℕ)
syntax_words = codes "true" ∷ codes "false" ∷ codes "not" ∷ codes "and" ∷ codes "or" ∷ codes "=>"
    ∷ codes "ite" ∷ codes "let" ∷ codes "forall" ∷ codes "exists" ∷ codes "Bool" ∷ []

abbrev pub is_reserved : List ℕ → Bool
is_reserved word = list_any (bytes_eq word) syntax_words

-- a word that is no number, no name of a variable or parameter, and no word of the syntax
pub record IsFreeWord (word : List ℕ) : Type 0 where
  pub proper : IsWord word
  pub no_number : begins_number word ≡ false
  pub no_local : is_local word ≡ false
  pub no_syntax : is_reserved word ≡ false

-- and no name of a table
pub record IsPlainWord (names : List NameEntry) (word : List ℕ) : Type 0 where
  pub free : IsFreeWord word
  pub no_name : All (λ (e : NameEntry). e.name ≢ word) names

-- the words of a driver's templates, by entries in the signature, and that of equality
pub record Words : Type 0 where
  pub of_symbol : ℕ → List ℕ
  pub of_equality : List ℕ

-- how many arguments a symbol has: those of a type symbol are its type variables
abbrev pub arity_of : SymbolTree → ℕ
arity_of e = if is_kind e.kind then e.vars else length e.args

abbrev pub arity : List SymbolTree → ℕ → ℕ
arity symbols k = arity_of (symbol_or symbols k)

abbrev pub is_type : List SymbolTree → ℕ → Bool
is_type symbols k = is_kind (symbol_or symbols k).kind

-- the template of a symbol without type variables, with its word, which isn't `=`
pub record IsPlainTemplate (symbols : List SymbolTree) (names : List NameEntry) (word : List ℕ)
    (k : ℕ) (pieces : List Piece) : Type 0 where
  pub vars : (symbol_or symbols k).vars ≡ 0
  pub shape : HasWord pieces (arity symbols k) word
  pub plain : IsPlainWord names word
  pub no_equality : word ≢ codes "="

-- two templates with equally many arguments, both of types or neither, have different words
abbrev pub TemplatesDiffer : Driver → List SymbolTree → Words → Type 0
TemplatesDiffer d symbols words =
    (j k : ℕ) → IsTrue (has_template d j) → IsTrue (has_template d k)
    → is_type symbols j ≡ is_type symbols k → arity symbols j ≡ arity symbols k
    → words.of_symbol j ≡ words.of_symbol k → j ≡ k

-- equality's template has a word too, and without one its word is `=`
abbrev pub EqualityIsPlain : List NameEntry → List ℕ → Option (List Piece) → Type 0
EqualityIsPlain names word None = word ≡ codes "="
EqualityIsPlain names word (Some pieces) = HasWord pieces 2 word × IsPlainWord names word

-- the templates of a driver are plain, over a signature and a table of names, and these are their
-- words
pub record ArePlain (d : Driver) (symbols : List SymbolTree) (names : List NameEntry)
    (words : Words) : Type 0 where
  pub each : (k : ℕ) (pieces : List Piece) → template_of d k ≡ Some pieces
      → IsPlainTemplate symbols names (words.of_symbol k) k pieces
  pub differ : TemplatesDiffer d symbols words
  pub equality : EqualityIsPlain names words.of_equality d.eq_template
  -- no function or predicate on two arguments has the word of equality
  pub apart : (k : ℕ) → IsTrue (has_template d k) → is_type symbols k ≡ false → arity symbols k ≡ 2
      → words.of_symbol k ≢ words.of_equality
