-- The first fault of names: each check is at a token, and they go in the order of their tokens
-- (Why3 manual, "logical declarations"; a term and a formula are told apart by their place).
use Rattle.std.specs.Prelude.{ℕ, Bool, true, false, cond, not, ◌==◌, ◌&&◌, List, [], ◌∷◌, ◌++◌, reverse, length, get_or, slice_set, Option, Some, None}
use Rattle.std.specs.Option.{is_some, is_none}
use Rattle.tasks.specs.Task.{SymbolTree, symbol_or}
use Rattle.tasks.specs.Vocabulary.{is_constructor_kind}
use Rattle.tasks.specs.declared.signature.SymbolKind.{SymbolKind}
use Rattle.tasks.specs.declared.signature.SymbolKind.TheVariants.{Predicate}
use Rattle.surface.specs.Lexeme.{Word}
use Rattle.name_resolution.specs.Abstract.{FieldName, TypeExpression, TypeExpressions, variable_type, composed_type, product_type, no_types, more_types, Pattern, Patterns, wildcard_pattern, variable_pattern, constructor_pattern, tuple_pattern, alias_pattern, record_pattern, no_patterns, more_patterns, Alternatives, no_alternatives, more_alternatives, BoundNames, Expression, Expressions, MatchBranches, applied_expression, infix_expression, integer_expression, true_expression, false_expression, tuple_expression, cast_expression, field_expression, record_expression, not_expression, connected_expression, equality_expression, if_expression, let_expression, match_expression, quantified_expression, no_expressions, more_expressions, no_branches, more_branches, count_forms, count_patterns, count_expressions, OperatorMeaning, connective_operator, equality_operator, symbol_operator}
use Rattle.name_resolution.specs.declared.NamingFault.{NamingFault}
use Rattle.name_resolution.specs.declared.NamingFault.TheVariants.{Unknown, Duplicate, WrongKind, Arity}
use Rattle.name_resolution.specs.Where.{Where, MeaningTree, place_of}
use Rattle.name_resolution.specs.Records.{NamesOfSymbols, is_record, record_named, place_in, field_place, or_first, places_named, entry_of_field, none_named, named_after, each_named}
pub use Rattle.name_resolution.specs.Records.{is_projection}
use Rattle.scopes.specs.declared.Referent.TheVariants as stands

-- the earlier fault, where there is one
abbrev pub first_of : Option NamingFault → Option NamingFault → Option NamingFault
first_of None later = later
first_of (Some f) later = Some f

abbrev pub fault_if : Bool → NamingFault → Option NamingFault
fault_if true f = Some f
fault_if false f = None

-- ---- types
-- so many arguments belong to the name of a type
abbrev pub meaning_fault : Where → ℕ → ℕ → Option MeaningTree → Option NamingFault
meaning_fault w i n None = Some (Unknown i)
meaning_fault w i n (Some (stands.Entry k)) =
    fault_if (not ((symbol_or w.symbols k).vars == n)) (Arity i)
meaning_fault w i n (Some (stands.Alias vars t)) = fault_if (not (vars == n)) (Arity i)

-- in an open declaration a type variable is new where it isn't there
abbrev mutual
  pub form_fault : Where → Bool → TypeExpression → Option NamingFault
  form_fault w open_ (variable_type i v) =
      fault_if (cond open_ false (is_none (place_of v w.vars))) (Unknown i)
  form_fault w open_ (composed_type i qs x fs) =
      first_of (meaning_fault w i (count_forms fs) (w.types qs x)) (forms_fault w open_ fs)
  form_fault w open_ (product_type i fs) = forms_fault w open_ fs

  pub forms_fault : Where → Bool → TypeExpressions → Option NamingFault
  forms_fault w open_ no_types = None
  forms_fault w open_ (more_types f fs) = first_of (form_fault w open_ f) (forms_fault w open_ fs)

-- ---- symbols and variables
abbrev pub is_predicate : SymbolKind → Bool
is_predicate Predicate = true
is_predicate _ = false

abbrev pub differ : Bool → Bool → Bool
differ true b = not b
differ false b = b

-- a use of an entry with so many arguments, where a formula is due or not
abbrev pub entry_fault : Bool → ℕ → ℕ → SymbolTree → Option NamingFault
entry_fault due i n e = first_of (fault_if (differ due (is_predicate e.kind)) (WrongKind i))
    (fault_if (not (length e.args == n)) (Arity i))

abbrev pub symbol_fault : Where → Bool → ℕ → ℕ → Option ℕ → Option NamingFault
symbol_fault w due i n None = Some (Unknown i)
symbol_fault w due i n (Some k) = entry_fault due i n (symbol_or w.symbols k)

-- the name of a field after a term, which is looked for in the scopes alone; the function of a
-- field has one argument, so the number of its arguments is never at fault
abbrev pub field_fault : Where → Bool → ℕ → Option ℕ → Option NamingFault
field_fault w due i None = Some (Unknown i)
field_fault w due i (Some k) =
    first_of (fault_if (not (is_projection (symbol_or w.symbols k).kind)) (WrongKind i))
    (entry_fault due i 1 (symbol_or w.symbols k))

-- ---- the fields of a record
-- a name that is none of its fields; a field that was named before
abbrev pub place_fault : List Bool → ℕ → Option ℕ → Option NamingFault
place_fault named i None = Some (WrongKind i)
place_fault named i (Some p) = fault_if (get_or named p false) (Duplicate i)

abbrev pub entry_named_fault : List SymbolTree → ℕ → List Bool → ℕ → Option ℕ → Option NamingFault
entry_named_fault symbols c named i None = Some (Unknown i)
entry_named_fault symbols c named i (Some k) = place_fault named i (place_in symbols c k)

-- of names one after another, where some fields of the record were named before
abbrev pub fields_fault : List SymbolTree → NamesOfSymbols → ℕ → List Bool → List FieldName
    → Option NamingFault
fields_fault symbols names c named [] = None
fields_fault symbols names c named (f ∷ fs) =
    first_of (entry_named_fault symbols c named f.at (entry_of_field names f))
    (fields_fault symbols names c
    (slice_set named (or_first (field_place symbols c (entry_of_field names f))) true) fs)

-- And of a record at a token with so many parts, each of whose fields is to be named, or not. There
-- is a field for each part, and the first one's constructor is a record's: no source has others.
abbrev pub record_fault : Where → Bool → ℕ → ℕ → List FieldName → Option NamingFault
record_fault w whole i n fs =
    let c = record_named w.symbols w.names fs in
    let e = symbol_or w.symbols c in
    first_of (fields_fault w.symbols w.names c (none_named e) fs)
    (first_of (fault_if (not (is_record e && (length fs == n))) (WrongKind i))
    (fault_if (whole
    && not (each_named (named_after (places_named w.symbols w.names c fs) (none_named e))))
    (Arity i)))

abbrev pub local_fault : Bool → ℕ → ℕ → Option NamingFault
local_fault due i n = first_of (fault_if due (WrongKind i)) (fault_if (not (n == 0)) (Arity i))

-- whether a name after scopes is that of a variable: only a name without scopes is
abbrev pub is_variable : List Word → Word → List Word → Bool
is_variable [] x ls = is_some (place_of x ls)
is_variable (q ∷ qs) x ls = false

-- a name that is before so many arguments
abbrev pub name_fault : Where → List Word → Bool → ℕ → List Word → Word → ℕ → Option NamingFault
name_fault w ls due i qs x n =
    cond (is_variable qs x ls) (local_fault due i n) (symbol_fault w due i n (w.names qs x))

-- ---- binders
abbrev pub type_fault : Where → Bool → Option TypeExpression → Option NamingFault
type_fault w open_ None = None
type_fault w open_ (Some f) = form_fault w open_ f

abbrev pub binders_fault : Where → Bool → List BoundNames → Option NamingFault
binders_fault w open_ [] = None
binders_fault w open_ (b ∷ bs) = first_of (type_fault w open_ b.of_type) (binders_fault w open_ bs)

abbrev pub bound_names : List BoundNames → List Word
bound_names [] = []
bound_names (b ∷ bs) = b.names ++ bound_names bs

-- ---- patterns
-- the variables in order
abbrev mutual
  pub pattern_names : Pattern → List Word
  pattern_names (wildcard_pattern i) = []
  pattern_names (variable_pattern i x) = x ∷ []
  pattern_names (constructor_pattern i qs x ps) = patterns_names ps
  pattern_names (tuple_pattern i ps) = patterns_names ps
  pattern_names (alias_pattern p i x) = pattern_names p ++ x ∷ []
  pattern_names (record_pattern i fs ps) = patterns_names ps

  pub patterns_names : Patterns → List Word
  patterns_names no_patterns = []
  patterns_names (more_patterns p ps) = pattern_names p ++ patterns_names ps

abbrev pub constructor_entry_fault : ℕ → ℕ → SymbolTree → Option NamingFault
constructor_entry_fault i n e =
    first_of (fault_if (not (is_constructor_kind e.kind)) (WrongKind i))
    (fault_if (not (length e.args == n)) (Arity i))

abbrev pub constructor_fault : Where → ℕ → ℕ → Option ℕ → Option NamingFault
constructor_fault w i n None = Some (Unknown i)
constructor_fault w i n (Some k) = constructor_entry_fault i n (symbol_or w.symbols k)

-- a variable occurs once in a pattern
abbrev mutual
  pub pattern_fault : Where → List Word → Pattern → Option NamingFault
  pattern_fault w seen (wildcard_pattern i) = None
  pattern_fault w seen (variable_pattern i x) = fault_if (is_some (place_of x seen)) (Duplicate i)
  pattern_fault w seen (constructor_pattern i qs x ps) =
      first_of (constructor_fault w i (count_patterns ps) (w.names qs x)) (patterns_fault w seen ps)
  pattern_fault w seen (tuple_pattern i ps) = patterns_fault w seen ps
  pattern_fault w seen (alias_pattern p i x) =
      first_of (pattern_fault w seen p)
      (fault_if (is_some (place_of x (seen ++ pattern_names p))) (Duplicate i))
  pattern_fault w seen (record_pattern i fs ps) =
      first_of (record_fault w false i (count_patterns ps) fs) (patterns_fault w seen ps)

  pub patterns_fault : Where → List Word → Patterns → Option NamingFault
  patterns_fault w seen no_patterns = None
  patterns_fault w seen (more_patterns p ps) =
      first_of (pattern_fault w seen p) (patterns_fault w (seen ++ pattern_names p) ps)

-- each of the first is among the others
abbrev pub all_among : List Word → List Word → Bool
all_among [] ys = true
all_among (x ∷ xs) ys = is_some (place_of x ys) && all_among xs ys

abbrev pub same_names : List Word → List Word → Bool
same_names xs ys = all_among xs ys && all_among ys xs

-- each later alternative binds the names of the first one, which is told before its parts
abbrev pub later_fault : Where → List Word → Alternatives → Option NamingFault
later_fault w names no_alternatives = None
later_fault w names (more_alternatives i p ps) =
    first_of (fault_if (not (same_names names (pattern_names p))) (WrongKind i))
    (first_of (pattern_fault w [] p) (later_fault w names ps))

abbrev pub alternatives_fault : Where → Alternatives → Option NamingFault
alternatives_fault w no_alternatives = None
alternatives_fault w (more_alternatives i p ps) =
    first_of (pattern_fault w [] p) (later_fault w (pattern_names p) ps)

abbrev pub alternatives_names : Alternatives → List Word
alternatives_names no_alternatives = []
alternatives_names (more_alternatives i p ps) = pattern_names p

-- the pattern of a `let` is before its value
abbrev pub first_pattern_fault : Where → Bool → MatchBranches → Option NamingFault
first_pattern_fault w true (more_branches ps b bs) = alternatives_fault w ps
first_pattern_fault w _ bs = None

-- whether a branch has an alternative
abbrev pub has_alternative : MatchBranches → Bool
has_alternative no_branches = false
has_alternative (more_branches no_alternatives b bs) = has_alternative bs
has_alternative (more_branches (more_alternatives i p ps) b bs) = true

-- ---- triggers
-- the head of a trigger: a name after its scopes, equality or with `false` its negation, or no name
pub data TriggerHeadTree : Type 0 where
  trigger_named : List Word → Word → TriggerHeadTree
  trigger_equality : Bool → TriggerHeadTree
  trigger_other : TriggerHeadTree

abbrev pub trigger_head : Expression → TriggerHeadTree
trigger_head (applied_expression i qs x es) = trigger_named qs x
trigger_head (infix_expression i x a b) = trigger_named [] x
trigger_head (equality_expression i same a b) = trigger_equality same
trigger_head _ = trigger_other

-- of an operator between two operands
abbrev pub operator_head : OperatorMeaning → TriggerHeadTree
operator_head (connective_operator o) = trigger_other
operator_head (equality_operator same) = trigger_equality same
operator_head (symbol_operator w) = trigger_named [] w

-- the token that stands for an expression
abbrev pub token : Expression → ℕ
token (applied_expression i qs x es) = i
token (infix_expression i x a b) = i
token (integer_expression i z) = i
token (true_expression i) = i
token (false_expression i) = i
token (tuple_expression i es) = i
token (cast_expression i e f) = i
token (field_expression i e k qs x) = i
token (record_expression i fs es) = i
token (not_expression i e) = i
token (connected_expression i a o b) = i
token (equality_expression i same a b) = i
token (if_expression i c a b) = i
token (let_expression i x a b) = i
token (match_expression i is_let e bs) = i
token (quantified_expression i all bs gs b) = i

abbrev pub makes_formulas : Where → Option ℕ → Bool
makes_formulas w None = false
makes_formulas w (Some k) = is_predicate (symbol_or w.symbols k).kind

-- a trigger is a formula where its head is a predicate that no variable hides, or `=`
abbrev pub is_formula_head : Where → List Word → TriggerHeadTree → Bool
is_formula_head w ls (trigger_named qs x) =
    cond (is_variable qs x ls) false (makes_formulas w (w.names qs x))
is_formula_head w ls (trigger_equality same) = same
is_formula_head w ls trigger_other = false

abbrev pub is_formula_trigger : Where → List Word → Expression → Bool
is_formula_trigger w ls e = is_formula_head w ls (trigger_head e)

-- ---- terms and formulas
-- the first fault of an expression under the variables of these names, innermost first, where a
-- formula is due or a term
abbrev mutual
  pub fault : Where → Bool → List Word → Bool → Expression → Option NamingFault
  fault w open_ ls due (applied_expression i qs x es) =
      first_of (name_fault w ls due i qs x (count_expressions es)) (faults w open_ ls es)
  fault w open_ ls due (infix_expression i x a b) =
      first_of (fault w open_ ls false a)
      (first_of (name_fault w ls due i [] x 2) (fault w open_ ls false b))
  fault w open_ ls due (integer_expression i z) = fault_if due (WrongKind i)
  fault w open_ ls due (true_expression i) = fault_if (not due) (WrongKind i)
  fault w open_ ls due (false_expression i) = fault_if (not due) (WrongKind i)
  fault w open_ ls due (tuple_expression i es) =
      first_of (fault_if due (WrongKind i)) (faults w open_ ls es)
  fault w open_ ls due (cast_expression i e f) =
      first_of (fault_if due (WrongKind i))
      (first_of (fault w open_ ls false e) (form_fault w open_ f))
  fault w open_ ls due (field_expression i e k qs x) =
      first_of (fault w open_ ls false e) (field_fault w due k (w.names qs x))
  fault w open_ ls due (record_expression i fs es) =
      first_of (fault_if due (WrongKind i))
      (first_of (record_fault w true i (count_expressions es) fs) (faults w open_ ls es))
  fault w open_ ls due (not_expression i e) =
      first_of (fault_if (not due) (WrongKind i)) (fault w open_ ls true e)
  fault w open_ ls due (connected_expression i a o b) =
      first_of (fault w open_ ls true a)
      (first_of (fault_if (not due) (WrongKind i)) (fault w open_ ls true b))
  fault w open_ ls due (equality_expression i same a b) =
      first_of (fault w open_ ls false a)
      (first_of (fault_if (not due) (WrongKind i)) (fault w open_ ls false b))
  fault w open_ ls due (if_expression i c a b) =
      first_of (fault w open_ ls true c)
      (first_of (fault w open_ ls due a) (fault w open_ ls due b))
  fault w open_ ls due (let_expression i x a b) =
      first_of (fault w open_ ls false a) (fault w open_ (x ∷ ls) due b)
  fault w open_ ls due (match_expression i is_let e bs) =
      first_of (first_pattern_fault w is_let bs)
      (first_of (fault w open_ ls false e)
      (first_of (fault_if (not (has_alternative bs)) (WrongKind i))
      (branches_fault w open_ ls due bs)))
  fault w open_ ls due (quantified_expression i all bs gs b) =
      first_of (fault_if (not due) (WrongKind i))
      (first_of (binders_fault w open_ bs)
      (first_of (triggers_fault w open_ (reverse (bound_names bs) ++ ls) gs)
      (fault w open_ (reverse (bound_names bs) ++ ls) true b)))

  pub faults : Where → Bool → List Word → Expressions → Option NamingFault
  faults w open_ ls no_expressions = None
  faults w open_ ls (more_expressions e es) =
      first_of (fault w open_ ls false e) (faults w open_ ls es)

  pub triggers_fault : Where → Bool → List Word → Expressions → Option NamingFault
  triggers_fault w open_ ls no_expressions = None
  triggers_fault w open_ ls (more_expressions e es) =
      first_of (fault w open_ ls (is_formula_trigger w ls e) e) (triggers_fault w open_ ls es)

  pub branches_fault : Where → Bool → List Word → Bool → MatchBranches → Option NamingFault
  branches_fault w open_ ls due no_branches = None
  branches_fault w open_ ls due (more_branches ps b bs) =
      first_of (alternatives_fault w ps)
      (first_of (fault w open_ (reverse (alternatives_names ps) ++ ls) due b)
      (branches_fault w open_ ls due bs))

-- of one branch
abbrev pub branch_fault : Where → Bool → List Word → Bool → Alternatives → Expression
    → Option NamingFault
branch_fault w open_ ls due ps b =
    first_of (alternatives_fault w ps) (fault w open_ (reverse (alternatives_names ps) ++ ls) due b)
