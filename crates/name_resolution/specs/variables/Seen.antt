-- The type variables of a declaration and the widths of its tuples, each by first appearance.
use Rattle.std.specs.Prelude.{ℕ, Bool, false, cond, ◌==◌, ◌||◌, List, [], ◌∷◌, ◌++◌, Option, Some, None}
use Rattle.std.specs.Option.{is_some}
use Rattle.surface.specs.Lexeme.{Word}
use Rattle.name_resolution.specs.Abstract.{TypeExpression, TypeExpressions, variable_type, composed_type, product_type, no_types, more_types, Pattern, Patterns, wildcard_pattern, variable_pattern, constructor_pattern, tuple_pattern, alias_pattern, record_pattern, no_patterns, more_patterns, Alternatives, no_alternatives, more_alternatives, BoundNames, Expression, Expressions, MatchBranches, applied_expression, infix_expression, integer_expression, true_expression, false_expression, tuple_expression, cast_expression, field_expression, record_expression, not_expression, connected_expression, equality_expression, if_expression, let_expression, match_expression, quantified_expression, no_expressions, more_expressions, no_branches, more_branches, count_forms, count_patterns, count_expressions}
use Rattle.name_resolution.specs.Where.{place_of}

pub record SeenTree : Type 0 where
  pub vars : List Word
  pub widths : List ℕ

abbrev pub has_width : ℕ → List ℕ → Bool
has_width n [] = false
has_width n (m ∷ ms) = m == n || has_width n ms

-- what is new comes after the others
abbrev pub with_variable : Word → SeenTree → SeenTree
with_variable v s = record {
  vars =
      cond (is_some (place_of v s.vars)) s.vars (s.vars ++ v ∷ []);
  widths = s.widths;
}

abbrev pub with_width : ℕ → SeenTree → SeenTree
with_width n s =
    record { vars = s.vars; widths = cond (has_width n s.widths) s.widths (s.widths ++ n ∷ []) }

abbrev mutual
  pub form_seen : SeenTree → TypeExpression → SeenTree
  form_seen s (variable_type i v) = with_variable v s
  form_seen s (composed_type i qs x fs) = forms_seen s fs
  form_seen s (product_type i fs) = forms_seen (with_width (count_forms fs) s) fs

  pub forms_seen : SeenTree → TypeExpressions → SeenTree
  forms_seen s no_types = s
  forms_seen s (more_types f fs) = forms_seen (form_seen s f) fs

abbrev pub type_seen : SeenTree → Option TypeExpression → SeenTree
type_seen s None = s
type_seen s (Some f) = form_seen s f

abbrev pub binders_seen : SeenTree → List BoundNames → SeenTree
binders_seen s [] = s
binders_seen s (b ∷ bs) = binders_seen (type_seen s b.of_type) bs

abbrev mutual
  pub pattern_seen : SeenTree → Pattern → SeenTree
  pattern_seen s (wildcard_pattern i) = s
  pattern_seen s (variable_pattern i x) = s
  pattern_seen s (constructor_pattern i qs x ps) = patterns_seen s ps
  pattern_seen s (tuple_pattern i ps) = patterns_seen (with_width (count_patterns ps) s) ps
  pattern_seen s (alias_pattern p i x) = pattern_seen s p
  pattern_seen s (record_pattern i fs ps) = patterns_seen s ps

  pub patterns_seen : SeenTree → Patterns → SeenTree
  patterns_seen s no_patterns = s
  patterns_seen s (more_patterns p ps) = patterns_seen (pattern_seen s p) ps

abbrev pub alternatives_seen : SeenTree → Alternatives → SeenTree
alternatives_seen s no_alternatives = s
alternatives_seen s (more_alternatives i p ps) = alternatives_seen (pattern_seen s p) ps

abbrev mutual
  pub seen : SeenTree → Expression → SeenTree
  seen s (applied_expression i qs x es) = all_seen s es
  seen s (infix_expression i x a b) = seen (seen s a) b
  seen s (integer_expression i z) = s
  seen s (true_expression i) = s
  seen s (false_expression i) = s
  seen s (tuple_expression i es) = all_seen (with_width (count_expressions es) s) es
  seen s (cast_expression i e f) = form_seen (seen s e) f
  seen s (field_expression i e k qs x) = seen s e
  seen s (record_expression i fs es) = all_seen s es
  seen s (not_expression i e) = seen s e
  seen s (connected_expression i a o b) = seen (seen s a) b
  seen s (equality_expression i same a b) = seen (seen s a) b
  seen s (if_expression i c a b) = seen (seen (seen s c) a) b
  seen s (let_expression i x a b) = seen (seen s a) b
  seen s (match_expression i is_let e bs) = branches_seen (seen s e) bs
  seen s (quantified_expression i all bs gs b) = seen (all_seen (binders_seen s bs) gs) b

  pub all_seen : SeenTree → Expressions → SeenTree
  all_seen s no_expressions = s
  all_seen s (more_expressions e es) = all_seen (seen s e) es

  pub branches_seen : SeenTree → MatchBranches → SeenTree
  branches_seen s no_branches = s
  branches_seen s (more_branches ps b bs) = branches_seen (seen (alternatives_seen s ps) b) bs
