-- Where a declaration stands over a well-formed signature: what names stand for, and the
-- constructors of its tuples.
use Rattle.std.specs.Prelude.{◌≡◌, ℕ, List, [], ◌∷◌, length, slice_get, Some, IsSomeAnd, IfSome, IsTrue}
use Rattle.elab_groups.specs.surface.Lexeme.{Word}
use Rattle.elab_groups.specs.tasks.declared.signature.SymbolKind.TheVariants.{Constructor}
use Rattle.elab_groups.specs.tasks.Task.{SymbolTree, int_symbol, symbol_or}
use Rattle.elab_groups.specs.tasks.Vocabulary.{Vocabulary}
use Rattle.elab_groups.specs.tasks.Typing.{MakesTerms}
use Rattle.elab_groups.specs.tasks.Valid.{IsTypeIn, IsTypeEntry, IsSignatureOf}
use Rattle.elab_groups.specs.name_resolution.Abstract.{TypeExpression, TypeExpressions, variable_type, composed_type, product_type, no_types, more_types, Pattern, Patterns, wildcard_pattern, variable_pattern, constructor_pattern, tuple_pattern, alias_pattern, record_pattern, no_patterns, more_patterns, Alternatives, no_alternatives, more_alternatives, BoundNames, Expression, Expressions, MatchBranches, applied_expression, infix_expression, integer_expression, true_expression, false_expression, tuple_expression, cast_expression, field_expression, record_expression, not_expression, connected_expression, equality_expression, if_expression, let_expression, match_expression, quantified_expression, no_expressions, more_expressions, no_branches, more_branches, count_forms, count_patterns, count_expressions}
use Rattle.elab_groups.specs.name_resolution.Records.{constructor_before}
use Rattle.elab_groups.specs.name_resolution.Where.{Where, MeaningTree}
use Rattle.elab_groups.specs.scopes.declared.Referent.TheVariants as stands

-- what may be named stays, over these entries
abbrev pub with_entries : Vocabulary → List SymbolTree → Vocabulary
with_entries base symbols = record base { symbols = symbols }

-- a symbol that terms and formulas may name; one that makes terms has a result
pub record IsSymbol (v : Vocabulary) (k : ℕ) : Type 0 where
  pub usable : IsTrue (v.usable k)
  pub signature : IsSignatureOf v k
  pub result : MakesTerms (symbol_or v.symbols k).kind
      → IsSomeAnd (symbol_or v.symbols k).result (λ t. Unit {0})

-- the constructor of the tuples of a width
pub record IsTuple (v : Vocabulary) (n k : ℕ) : Type 0 where
  pub symbol : IsSymbol v k
  pub kind : (symbol_or v.symbols k).kind ≡ Constructor
  pub vars : (symbol_or v.symbols k).vars ≡ n
  pub args : length (symbol_or v.symbols k).args ≡ n

-- a type symbol, or a type at so many type variables
abbrev pub IsMeaning : Vocabulary → MeaningTree → Type 0
IsMeaning v (stands.Entry k) = IsTrue (v.usable k) × IsTypeEntry v k
IsMeaning v (stands.Alias vars t) = IsTypeIn v vars t

-- entry 0 is `int` and may be named; names stand for types over the signature, and for symbols
-- whose types are over it; a pattern may name each constructor that may be named; where a field may
-- be named, so may the constructor before it
pub record IsWellFormed (base : Vocabulary) (w : Where) : Type 0 where
  pub int : slice_get w.symbols 0 ≡ Some int_symbol
  pub int_usable : IsTrue (base.usable 0)
  pub types : (qs : List Word) (x : Word)
      → IfSome (w.types qs x) (IsMeaning (with_entries base w.symbols))
  pub names : (qs : List Word) (x : Word)
      → IfSome (w.names qs x) (IsSymbol (with_entries base w.symbols))
  pub constructors : (k : ℕ) → IsSymbol (with_entries base w.symbols) k
      → (symbol_or w.symbols k).kind ≡ Constructor → IsTrue (base.matched k)
  pub records : (k : ℕ) → IsSymbol (with_entries base w.symbols) k
      → (symbol_or w.symbols (constructor_before w.symbols k)).kind ≡ Constructor
      → IsSymbol (with_entries base w.symbols) (constructor_before w.symbols k)

abbrev pub HasTuple : Vocabulary → Where → ℕ → Type 0
HasTuple base w n = IsSomeAnd (w.tuples n) (IsTuple (with_entries base w.symbols) n)

-- ---- each tuple that is in it has a constructor of its width
abbrev mutual
  pub FormTuples : Vocabulary → Where → TypeExpression → Type 0
  FormTuples base w (variable_type i x) = Unit {0}
  FormTuples base w (composed_type i qs x fs) = FormsTuples base w fs
  FormTuples base w (product_type i fs) = HasTuple base w (count_forms fs) × FormsTuples base w fs

  pub FormsTuples : Vocabulary → Where → TypeExpressions → Type 0
  FormsTuples base w no_types = Unit {0}
  FormsTuples base w (more_types f fs) = FormTuples base w f × FormsTuples base w fs

abbrev pub BindersTuples : Vocabulary → Where → List BoundNames → Type 0
BindersTuples base w [] = Unit {0}
BindersTuples base w (b ∷ bs) = IfSome b.of_type (FormTuples base w) × BindersTuples base w bs

abbrev mutual
  pub PatternTuples : Vocabulary → Where → Pattern → Type 0
  PatternTuples base w (wildcard_pattern i) = Unit {0}
  PatternTuples base w (variable_pattern i x) = Unit {0}
  PatternTuples base w (constructor_pattern i qs x ps) = PatternsTuples base w ps
  PatternTuples base w (tuple_pattern i ps) =
      HasTuple base w (count_patterns ps) × PatternsTuples base w ps
  PatternTuples base w (alias_pattern p i x) = PatternTuples base w p
  PatternTuples base w (record_pattern i fs ps) = PatternsTuples base w ps

  pub PatternsTuples : Vocabulary → Where → Patterns → Type 0
  PatternsTuples base w no_patterns = Unit {0}
  PatternsTuples base w (more_patterns p ps) = PatternTuples base w p × PatternsTuples base w ps

abbrev pub AlternativesTuples : Vocabulary → Where → Alternatives → Type 0
AlternativesTuples base w no_alternatives = Unit {0}
AlternativesTuples base w (more_alternatives i p ps) =
    PatternTuples base w p × AlternativesTuples base w ps

abbrev mutual
  pub HasTuples : Vocabulary → Where → Expression → Type 0
  HasTuples base w (applied_expression i qs x es) = HaveTuples base w es
  HasTuples base w (infix_expression i x a b) = HasTuples base w a × HasTuples base w b
  HasTuples base w (integer_expression i z) = Unit {0}
  HasTuples base w (true_expression i) = Unit {0}
  HasTuples base w (false_expression i) = Unit {0}
  HasTuples base w (tuple_expression i es) =
      HasTuple base w (count_expressions es) × HaveTuples base w es
  HasTuples base w (cast_expression i e f) = HasTuples base w e × FormTuples base w f
  HasTuples base w (field_expression i e k qs x) = HasTuples base w e
  HasTuples base w (record_expression i fs es) = HaveTuples base w es
  HasTuples base w (not_expression i e) = HasTuples base w e
  HasTuples base w (connected_expression i a o b) = HasTuples base w a × HasTuples base w b
  HasTuples base w (equality_expression i same a b) = HasTuples base w a × HasTuples base w b
  HasTuples base w (if_expression i c a b) =
      HasTuples base w c × HasTuples base w a × HasTuples base w b
  HasTuples base w (let_expression i x a b) = HasTuples base w a × HasTuples base w b
  HasTuples base w (match_expression i is_let e bs) = HasTuples base w e × BranchesTuples base w bs
  HasTuples base w (quantified_expression i all bs gs b) =
      BindersTuples base w bs × HaveTuples base w gs × HasTuples base w b

  pub HaveTuples : Vocabulary → Where → Expressions → Type 0
  HaveTuples base w no_expressions = Unit {0}
  HaveTuples base w (more_expressions e es) = HasTuples base w e × HaveTuples base w es

  pub BranchesTuples : Vocabulary → Where → MatchBranches → Type 0
  BranchesTuples base w no_branches = Unit {0}
  BranchesTuples base w (more_branches ps b bs) =
      AlternativesTuples base w ps × HasTuples base w b × BranchesTuples base w bs
