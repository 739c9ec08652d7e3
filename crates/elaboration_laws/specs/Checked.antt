-- The checks of names of an expression that fail, in no order: each is at a token (Why3 manual,
-- "logical declarations").
use Rattle.std.specs.Prelude.{◌≡◌, ℕ, ◌≤◌, Bool, true, false, cond, not, List, [], ◌∷◌, ◌++◌, reverse, Option, Some, None, ◌⊎◌}
use Rattle.std.specs.Option.{is_some, is_none}
use Rattle.elab_groups.specs.surface.Lexeme.{Word}
use Rattle.elab_groups.specs.name_resolution.Abstract.{TypeExpression, TypeExpressions, variable_type, composed_type, product_type, no_types, more_types, Pattern, Patterns, wildcard_pattern, variable_pattern, constructor_pattern, tuple_pattern, alias_pattern, record_pattern, no_patterns, more_patterns, Alternatives, no_alternatives, more_alternatives, BoundNames, Expression, Expressions, MatchBranches, applied_expression, infix_expression, integer_expression, true_expression, false_expression, tuple_expression, cast_expression, field_expression, record_expression, not_expression, connected_expression, equality_expression, if_expression, let_expression, match_expression, quantified_expression, no_expressions, more_expressions, no_branches, more_branches, count_forms, count_patterns, count_expressions}
use Rattle.elab_groups.specs.name_resolution.declared.NamingFault.{NamingFault}
use Rattle.elab_groups.specs.name_resolution.declared.NamingFault.TheVariants.{Memory, Unknown, Duplicate, WrongKind, Arity}
use Rattle.elab_groups.specs.name_resolution.Faults.{fault_if, meaning_fault, name_fault, field_fault, record_fault, bound_names, pattern_names, constructor_fault, same_names, alternatives_names, has_alternative, is_formula_trigger}
use Rattle.elab_groups.specs.name_resolution.Where.{Where, place_of}

-- the token of a fault
abbrev pub token_of_fault : NamingFault → ℕ
token_of_fault Memory = 0
token_of_fault (Unknown t) = t
token_of_fault (Duplicate t) = t
token_of_fault (WrongKind t) = t
token_of_fault (Arity t) = t

-- a fault that is one of these, at the least token; or no fault, where there is none
pub record IsLeastFailing (x : Option NamingFault) (Fails : NamingFault → Type 0) : Type 0 where
  pub found : (g : NamingFault) → x ≡ Some g → Fails g
  pub least : (f g : NamingFault) → x ≡ Some f → Fails g → token_of_fault f ≤ token_of_fault g
  pub none : (g : NamingFault) → x ≡ None → Fails g → ⊥

abbrev mutual
  pub FormFails : Where → Bool → TypeExpression → NamingFault → Type 0
  FormFails w open_ (variable_type i v) g =
      fault_if (cond open_ false (is_none (place_of v w.vars))) (Unknown i) ≡ Some g
  FormFails w open_ (composed_type i qs x fs) g =
      (meaning_fault w i (count_forms fs) (w.types qs x) ≡ Some g) ⊎ FormsFail w open_ fs g
  FormFails w open_ (product_type i fs) g = FormsFail w open_ fs g

  pub FormsFail : Where → Bool → TypeExpressions → NamingFault → Type 0
  FormsFail w open_ no_types g = ⊥
  FormsFail w open_ (more_types f fs) g = FormFails w open_ f g ⊎ FormsFail w open_ fs g

abbrev pub TypeFails : Where → Bool → Option TypeExpression → NamingFault → Type 0
TypeFails w open_ None g = ⊥
TypeFails w open_ (Some f) g = FormFails w open_ f g

abbrev pub BindersFail : Where → Bool → List BoundNames → NamingFault → Type 0
BindersFail w open_ [] g = ⊥
BindersFail w open_ (b ∷ bs) g = TypeFails w open_ b.of_type g ⊎ BindersFail w open_ bs g

-- a variable occurs once in a pattern
abbrev mutual
  pub PatternFails : Where → List Word → Pattern → NamingFault → Type 0
  PatternFails w seen (wildcard_pattern i) g = ⊥
  PatternFails w seen (variable_pattern i x) g =
      fault_if (is_some (place_of x seen)) (Duplicate i) ≡ Some g
  PatternFails w seen (constructor_pattern i qs x ps) g =
      (constructor_fault w i (count_patterns ps) (w.names qs x) ≡ Some g) ⊎ PatternsFail w seen ps g
  PatternFails w seen (tuple_pattern i ps) g = PatternsFail w seen ps g
  PatternFails w seen (alias_pattern p i x) g =
      PatternFails w seen p g
      ⊎ (fault_if (is_some (place_of x (seen ++ pattern_names p))) (Duplicate i) ≡ Some g)
  -- the patterns of fields are checked where the fields are those of a record
  PatternFails w seen (record_pattern i fs ps) g =
      (record_fault w false i (count_patterns ps) fs ≡ Some g)
      ⊎ ((record_fault w false i (count_patterns ps) fs ≡ None) × PatternsFail w seen ps g)

  pub PatternsFail : Where → List Word → Patterns → NamingFault → Type 0
  PatternsFail w seen no_patterns g = ⊥
  PatternsFail w seen (more_patterns p ps) g =
      PatternFails w seen p g ⊎ PatternsFail w (seen ++ pattern_names p) ps g

-- each later alternative binds the names of the first one
abbrev pub LaterFail : Where → List Word → Alternatives → NamingFault → Type 0
LaterFail w names no_alternatives g = ⊥
LaterFail w names (more_alternatives i p ps) g =
    (fault_if (not (same_names names (pattern_names p))) (WrongKind i) ≡ Some g)
    ⊎ (PatternFails w [] p g ⊎ LaterFail w names ps g)

abbrev pub AlternativesFail : Where → Alternatives → NamingFault → Type 0
AlternativesFail w no_alternatives g = ⊥
AlternativesFail w (more_alternatives i p ps) g =
    PatternFails w [] p g ⊎ LaterFail w (pattern_names p) ps g

-- under the variables of these names, innermost first, where a formula is due or a term
abbrev mutual
  pub NamesFail : Where → Bool → List Word → Bool → Expression → NamingFault → Type 0
  NamesFail w open_ ls due (applied_expression i qs x es) g =
      (name_fault w ls due i qs x (count_expressions es) ≡ Some g) ⊎ AllNamesFail w open_ ls es g
  NamesFail w open_ ls due (infix_expression i x a b) g =
      NamesFail w open_ ls false a g
      ⊎ ((name_fault w ls due i [] x 2 ≡ Some g) ⊎ NamesFail w open_ ls false b g)
  NamesFail w open_ ls due (integer_expression i z) g = fault_if due (WrongKind i) ≡ Some g
  NamesFail w open_ ls due (true_expression i) g = fault_if (not due) (WrongKind i) ≡ Some g
  NamesFail w open_ ls due (false_expression i) g = fault_if (not due) (WrongKind i) ≡ Some g
  NamesFail w open_ ls due (tuple_expression i es) g =
      (fault_if due (WrongKind i) ≡ Some g) ⊎ AllNamesFail w open_ ls es g
  NamesFail w open_ ls due (cast_expression i e f) g =
      (fault_if due (WrongKind i) ≡ Some g)
      ⊎ (NamesFail w open_ ls false e g ⊎ FormFails w open_ f g)
  NamesFail w open_ ls due (field_expression i e k qs x) g =
      NamesFail w open_ ls false e g ⊎ (field_fault w due k (w.names qs x) ≡ Some g)
  -- and so are their values
  NamesFail w open_ ls due (record_expression i fs es) g =
      (fault_if due (WrongKind i) ≡ Some g)
      ⊎ ((record_fault w true i (count_expressions es) fs ≡ Some g)
      ⊎ ((record_fault w true i (count_expressions es) fs ≡ None) × AllNamesFail w open_ ls es g))
  NamesFail w open_ ls due (not_expression i e) g =
      (fault_if (not due) (WrongKind i) ≡ Some g) ⊎ NamesFail w open_ ls true e g
  NamesFail w open_ ls due (connected_expression i a o b) g =
      NamesFail w open_ ls true a g
      ⊎ ((fault_if (not due) (WrongKind i) ≡ Some g) ⊎ NamesFail w open_ ls true b g)
  NamesFail w open_ ls due (equality_expression i same a b) g =
      NamesFail w open_ ls false a g
      ⊎ ((fault_if (not due) (WrongKind i) ≡ Some g) ⊎ NamesFail w open_ ls false b g)
  NamesFail w open_ ls due (if_expression i c a b) g =
      NamesFail w open_ ls true c g ⊎ (NamesFail w open_ ls due a g ⊎ NamesFail w open_ ls due b g)
  NamesFail w open_ ls due (let_expression i x a b) g =
      NamesFail w open_ ls false a g ⊎ NamesFail w open_ (x ∷ ls) due b g
  NamesFail w open_ ls due (match_expression i is_let e bs) g =
      NamesFail w open_ ls false e g
      ⊎ ((fault_if (not (has_alternative bs)) (WrongKind i) ≡ Some g)
      ⊎ BranchesFail w open_ ls due bs g)
  NamesFail w open_ ls due (quantified_expression i all bs gs b) g =
      (fault_if (not due) (WrongKind i) ≡ Some g)
      ⊎ (BindersFail w open_ bs g
      ⊎ (TriggersFail w open_ (reverse (bound_names bs) ++ ls) gs g
      ⊎ NamesFail w open_ (reverse (bound_names bs) ++ ls) true b g))

  pub AllNamesFail : Where → Bool → List Word → Expressions → NamingFault → Type 0
  AllNamesFail w open_ ls no_expressions g = ⊥
  AllNamesFail w open_ ls (more_expressions e es) g =
      NamesFail w open_ ls false e g ⊎ AllNamesFail w open_ ls es g

  pub TriggersFail : Where → Bool → List Word → Expressions → NamingFault → Type 0
  TriggersFail w open_ ls no_expressions g = ⊥
  TriggersFail w open_ ls (more_expressions e es) g =
      NamesFail w open_ ls (is_formula_trigger w ls e) e g ⊎ TriggersFail w open_ ls es g

  pub BranchesFail : Where → Bool → List Word → Bool → MatchBranches → NamingFault → Type 0
  BranchesFail w open_ ls due no_branches g = ⊥
  BranchesFail w open_ ls due (more_branches ps b bs) g =
      AlternativesFail w ps g
      ⊎ (NamesFail w open_ (reverse (alternatives_names ps) ++ ls) due b g
      ⊎ BranchesFail w open_ ls due bs g)
