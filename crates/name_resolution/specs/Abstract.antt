-- The abstract syntax of types, patterns, terms and formulas: what a source means, without
-- parentheses and spellings. Each node has the token that stands for it, its operator's or else its
-- first one. An operator is its symbol's own name; one pattern or term in parentheses is itself,
-- any other number of them is a tuple.
use Rattle.std.specs.Prelude.{ℕ, ℤ, pos, codes, Bool, true, false, cond, suc, List, [], ◌∷◌, ◌++◌, map, Option, Some, None, option_map}
use Rattle.std.specs.Str.{bytes_eq}
use Rattle.tokens_why.specs.declared.terminal.Terminal.{Terminal}
use Rattle.tokens_why.specs.declared.terminal.Terminal.TheVariants as t
use Rattle.tasks.specs.trees.declared.Op.{Op}
use Rattle.tasks.specs.trees.declared.Op.TheVariants.{And, AndThen, Or, OrElse, Imp, Iff}
use Rattle.surface.specs.declared.names.At.{At}
use Rattle.surface.specs.declared.names.Name.{Name}
use Rattle.surface.specs.declared.names.QName.{QName}
use Rattle.surface.specs.Lexeme.{Word}
use Rattle.surface.specs.Forms.{Own, lower, upper, infix_op, prefix_op, star, Called}
use Rattle.surface.specs.Forms as surface
use Rattle.surface.specs.Trees as tree
use Rattle.surface.specs.Surface as code
use Rattle.surface.specs.declared.types.TypeTree.{TypeTree}
use Rattle.surface.specs.declared.patterns.FieldPat.{FieldPat}
use Rattle.surface.specs.declared.patterns.Pat.{Pat}
use Rattle.surface.specs.declared.expressions.Expr.{Expr}
use Rattle.surface.specs.declared.expressions.FieldValue.{FieldValue}
use Rattle.surface.specs.declared.expressions.BinderTree.{BinderTree}
use Rattle.surface.specs.declared.expressions.TriggerTree.{TriggerTree}
use Rattle.surface.specs.declared.expressions.BranchTree.{BranchTree}

mutual
  -- a type variable, a type symbol after its scopes with arguments, or a tuple of types
  pub data TypeExpression : Type 0 where
    variable_type : ℕ → Word → TypeExpression
    composed_type : ℕ → List Word → Word → TypeExpressions → TypeExpression
    product_type : ℕ → TypeExpressions → TypeExpression

  pub data TypeExpressions : Type 0 where
    no_types : TypeExpressions
    more_types : TypeExpression → TypeExpressions → TypeExpressions

-- the name of a field after its scopes, with its token
pub record FieldName : Type 0 where
  pub at : ℕ
  pub scopes : List Word
  pub text : Word

mutual
  -- a wildcard, a variable, a constructor with its parts, a tuple, `p as x`, where the name has its
  -- own token, or fields of a record with their patterns
  pub data Pattern : Type 0 where
    wildcard_pattern : ℕ → Pattern
    variable_pattern : ℕ → Word → Pattern
    constructor_pattern : ℕ → List Word → Word → Patterns → Pattern
    tuple_pattern : ℕ → Patterns → Pattern
    alias_pattern : Pattern → ℕ → Word → Pattern
    record_pattern : ℕ → List FieldName → Patterns → Pattern

  pub data Patterns : Type 0 where
    no_patterns : Patterns
    more_patterns : Pattern → Patterns → Patterns

-- the alternatives of a branch, each with its first token
pub data Alternatives : Type 0 where
  no_alternatives : Alternatives
  more_alternatives : ℕ → Pattern → Alternatives → Alternatives

-- the names that a quantifier binds, and their type
pub record BoundNames : Type 0 where
  pub names : List Word
  pub of_type : Option TypeExpression

mutual
  pub data Expression : Type 0 where
    -- a name after its scopes with arguments, and an operator's symbol between two
    applied_expression : ℕ → List Word → Word → Expressions → Expression
    infix_expression : ℕ → Word → Expression → Expression → Expression
    integer_expression : ℕ → ℤ → Expression
    true_expression : ℕ → Expression
    false_expression : ℕ → Expression
    tuple_expression : ℕ → Expressions → Expression
    cast_expression : ℕ → Expression → TypeExpression → Expression
    -- a field of a term: its name after its scopes has its own token
    field_expression : ℕ → Expression → ℕ → List Word → Word → Expression
    -- the fields of a record with their values, in the order in which they are written
    record_expression : ℕ → List FieldName → Expressions → Expression
    not_expression : ℕ → Expression → Expression
    connected_expression : ℕ → Expression → Op → Expression → Expression
    -- `=`, or with `false` its negation `<>`
    equality_expression : ℕ → Bool → Expression → Expression → Expression
    if_expression : ℕ → Expression → Expression → Expression → Expression
    let_expression : ℕ → Word → Expression → Expression → Expression
    -- a `match`, or with `true` a `let` of a pattern: its one branch, whose pattern is before the
    -- value
    match_expression : ℕ → Bool → Expression → MatchBranches → Expression
    -- `forall` or else `exists`, with its triggers
    quantified_expression : ℕ → Bool → List BoundNames → Expressions → Expression → Expression

  pub data Expressions : Type 0 where
    no_expressions : Expressions
    more_expressions : Expression → Expressions → Expressions

  pub data MatchBranches : Type 0 where
    no_branches : MatchBranches
    more_branches : Alternatives → Expression → MatchBranches → MatchBranches

abbrev pub count_forms : TypeExpressions → ℕ
count_forms no_types = 0
count_forms (more_types f fs) = suc (count_forms fs)

abbrev pub count_patterns : Patterns → ℕ
count_patterns no_patterns = 0
count_patterns (more_patterns p ps) = suc (count_patterns ps)

abbrev pub count_expressions : Expressions → ℕ
count_expressions no_expressions = 0
count_expressions (more_expressions e es) = suc (count_expressions es)

-- ---- names
-- the characters of an operator
abbrev pub spelled : Terminal → Word → Word
spelled t.Equal w = codes "="
spelled t.Minus w = codes "-"
spelled t.Operator1 w = w
spelled t.Operator2 w = w
spelled t.Operator3 w = w
spelled t.Operator4 w = w
spelled t.PrefixOperator w = w
spelled _ w = []

-- a prefix operator's own name ends with `_`
abbrev pub prefix_name : Word → Word
prefix_name w = w ++ codes "_"

-- `(!)` and `(!_)` are one name
abbrev pub infix_name : Terminal → Word → Word
infix_name t.PrefixOperator w = prefix_name w
infix_name o w = spelled o w

abbrev pub text_of_own : Own → Word
text_of_own (lower w) = w
text_of_own (upper w) = w
text_of_own (infix_op o w) = infix_name o w
text_of_own (prefix_op o w) = prefix_name (spelled o w)
text_of_own star = codes "*"

abbrev pub named_field : Called → FieldName
named_field c = record { at = c.at; scopes = c.scopes; text = text_of_own c.own }

abbrev pub field_names : List Called → List FieldName
field_names cs = map named_field cs

-- what an operator between two operands is
pub data OperatorMeaning : Type 0 where
  connective_operator : Op → OperatorMeaning
  equality_operator : Bool → OperatorMeaning
  symbol_operator : Word → OperatorMeaning

abbrev pub operator_meaning : Terminal → Word → OperatorMeaning
operator_meaning t.Conj w = connective_operator And
operator_meaning t.AndAnd w = connective_operator AndThen
operator_meaning t.Disj w = connective_operator Or
operator_meaning t.OrOr w = connective_operator OrElse
operator_meaning t.Arrow w = connective_operator Imp
operator_meaning t.Equiv w = connective_operator Iff
operator_meaning t.Equal w = equality_operator true
operator_meaning t.Operator1 w =
    cond (bytes_eq w (codes "<>")) (equality_operator false) (symbol_operator w)
operator_meaning o w = symbol_operator (spelled o w)

abbrev pub operated : ℕ → Expression → OperatorMeaning → Expression → Expression
operated i a (connective_operator o) b = connected_expression i a o b
operated i a (equality_operator same) b = equality_expression i same a b
operated i a (symbol_operator w) b = infix_expression i w a b

-- ---- types
abbrev pub grouped_forms : ℕ → TypeExpressions → TypeExpression
grouped_forms i (more_types f no_types) = f
grouped_forms i fs = product_type i fs

abbrev mutual
  pub type_expression : surface.SyntaxForm → TypeExpression
  type_expression (surface.type_variable a w) = variable_type a.main w
  type_expression (surface.composed a c fs) =
      composed_type a.main c.scopes (text_of_own c.own) (type_expressions fs)
  type_expression (surface.enclosed a fs) = grouped_forms a.main (type_expressions fs)
  type_expression f = product_type 0 no_types

  pub type_expressions : surface.SyntaxForms → TypeExpressions
  type_expressions surface.no_forms = no_types
  type_expressions (surface.more_forms f fs) = more_types (type_expression f) (type_expressions fs)

-- ---- patterns
abbrev pub grouped_patterns : ℕ → Patterns → Pattern
grouped_patterns i (more_patterns p no_patterns) = p
grouped_patterns i ps = tuple_pattern i ps

abbrev mutual
  pub pattern : surface.SyntaxForm → Pattern
  pattern (surface.wild a) = wildcard_pattern a.main
  pattern (surface.variable a n) = variable_pattern a.main n.text
  pattern (surface.composed a c ps) =
      constructor_pattern a.main c.scopes (text_of_own c.own) (pattern_list ps)
  pattern (surface.enclosed a ps) = grouped_patterns a.main (pattern_list ps)
  pattern (surface.aliased a p n) = alias_pattern (pattern p) n.at n.text
  pattern (surface.fielded_form a cs ps semi) =
      record_pattern a.main (field_names cs) (pattern_list ps)
  pattern p = wildcard_pattern 0

  pub pattern_list : surface.SyntaxForms → Patterns
  pattern_list surface.no_forms = no_patterns
  pattern_list (surface.more_forms p ps) = more_patterns (pattern p) (pattern_list ps)

abbrev pub form_place : surface.SyntaxForm → At
form_place (surface.wild a) = a
form_place (surface.variable a n) = a
form_place (surface.type_variable a w) = a
form_place (surface.composed a c fs) = a
form_place (surface.enclosed a fs) = a
form_place (surface.aliased a p n) = a
form_place (surface.fielded_form a cs ps semi) = a

abbrev pub first_form : surface.SyntaxForms → ℕ
first_form surface.no_forms = 0
first_form (surface.more_forms f fs) = (form_place f).first

-- several patterns side by side are a tuple
abbrev pub side_by_side : surface.SyntaxForms → Pattern
side_by_side ps = grouped_patterns (first_form ps) (pattern_list ps)

abbrev pub branch_alternatives : List surface.SyntaxForms → Alternatives
branch_alternatives [] = no_alternatives
branch_alternatives (ps ∷ pss) =
    more_alternatives (first_form ps) (side_by_side ps) (branch_alternatives pss)

-- ---- terms and formulas
abbrev pub texts_of_names : List Name → List Word
texts_of_names ns = map (λ (n : Name). n.text) ns

abbrev pub binder : tree.TypedBinder → BoundNames
binder (tree.binds ns f) =
    record { names = texts_of_names ns; of_type = option_map type_expression f }

-- the value of an integer's token
abbrev pub integer_value : Word → ℤ
integer_value [] = pos 0
integer_value (n ∷ w) = pos n

abbrev pub grouped : ℕ → Expressions → Expression
grouped i (more_expressions e no_expressions) = e
grouped i es = tuple_expression i es

abbrev pub tree_place : tree.SyntaxTree → At
tree_place (tree.apply a c es) = a
tree_place (tree.literal a w) = a
tree_place (tree.truth a) = a
tree_place (tree.falsity a) = a
tree_place (tree.group a es) = a
tree_place (tree.cast a e f) = a
tree_place (tree.prefixed a o e) = a
tree_place (tree.negation a e) = a
tree_place (tree.binary a e o f) = a
tree_place (tree.choice a c e f) = a
tree_place (tree.cases a es bar bs) = a
tree_place (tree.access a e c) = a
tree_place (tree.fielded_tree a cs es semi) = a
tree_place (tree.binding a ps e f) = a
tree_place (tree.quantified a all bs g e) = a

abbrev pub first_tree : tree.SyntaxTrees → ℕ
first_tree tree.none = 0
first_tree (tree.more e es) = (tree_place e).first

-- a `let` of a name binds it, one of any other pattern is a `match` with one branch
abbrev pub let_name : surface.SyntaxForms → Option Word
let_name (surface.more_forms (surface.variable a n) surface.no_forms) = Some n.text
let_name _ = None

abbrev pub let_by : Option Word → ℕ → surface.SyntaxForms → Expression → Expression → Expression
let_by (Some x) i ps e f = let_expression i x e f
let_by None i ps e f = match_expression i true e
    (more_branches (more_alternatives (first_form ps) (side_by_side ps) no_alternatives) f
    no_branches)

abbrev mutual
  pub expression : tree.SyntaxTree → Expression
  expression (tree.apply a c es) =
      applied_expression a.main c.scopes (text_of_own c.own) (expressions es)
  expression (tree.literal a w) = integer_expression a.main (integer_value w)
  expression (tree.truth a) = true_expression a.main
  expression (tree.falsity a) = false_expression a.main
  expression (tree.group a es) = grouped a.main (expressions es)
  expression (tree.cast a e f) = cast_expression a.main (expression e) (type_expression f)
  expression (tree.prefixed a o e) =
      applied_expression a.main [] (prefix_name (spelled o.terminal o.text))
      (more_expressions (expression e) no_expressions)
  expression (tree.negation a e) = not_expression a.main (expression e)
  expression (tree.binary a e o f) =
      operated a.main (expression e) (operator_meaning o.terminal o.text) (expression f)
  expression (tree.choice a c e f) =
      if_expression a.main (expression c) (expression e) (expression f)
  expression (tree.cases a es bar bs) =
      match_expression a.main false (grouped (first_tree es) (expressions es)) (match_branches bs)
  expression (tree.access a e c) =
      field_expression a.main (expression e) c.at c.scopes (text_of_own c.own)
  expression (tree.fielded_tree a cs es semi) =
      record_expression a.main (field_names cs) (expressions es)
  expression (tree.binding a ps e f) = let_by (let_name ps) a.main ps (expression e) (expression f)
  expression (tree.quantified a all bs g e) =
      quantified_expression a.main all (map binder bs) (triggers g) (expression e)

  pub expressions : tree.SyntaxTrees → Expressions
  expressions tree.none = no_expressions
  expressions (tree.more e es) = more_expressions (expression e) (expressions es)

  pub match_branches : tree.Branches → MatchBranches
  match_branches tree.no_branch = no_branches
  match_branches (tree.branch pss e bs) =
      more_branches (branch_alternatives pss) (expression e) (match_branches bs)

  pub triggers : tree.SyntaxTrigger → Expressions
  triggers tree.untriggered = no_expressions
  triggers (tree.triggered es bars) = expressions es

-- ---- of the trees in code
abbrev pub type_expression_of : TypeTree → TypeExpression
type_expression_of e = type_expression (code.form_of e)

abbrev pub abstract_pattern_of : Pat → Pattern
abstract_pattern_of p = pattern (code.pattern_of p)

abbrev pub expression_of : Expr → Expression
expression_of e = expression (code.tree_of e)

abbrev pub forms_of : List TypeTree → TypeExpressions
forms_of [] = no_types
forms_of (e ∷ es) = more_types (type_expression_of e) (forms_of es)

abbrev pub patterns_of : List Pat → Patterns
patterns_of [] = no_patterns
patterns_of (p ∷ ps) = more_patterns (abstract_pattern_of p) (patterns_of ps)

abbrev pub expressions_of : List Expr → Expressions
expressions_of [] = no_expressions
expressions_of (e ∷ es) = more_expressions (expression_of e) (expressions_of es)

abbrev pub field_name_of : QName → FieldName
field_name_of q = named_field (code.called_of q)

abbrev pub pattern_fields_of : List FieldPat → List FieldName
pattern_fields_of fs = map (λ (f : FieldPat). field_name_of f.name) fs

abbrev pub field_patterns_of : List FieldPat → Patterns
field_patterns_of [] = no_patterns
field_patterns_of (f ∷ fs) = more_patterns (abstract_pattern_of f.value) (field_patterns_of fs)

abbrev pub value_fields_of : List FieldValue → List FieldName
value_fields_of fs = map (λ (f : FieldValue). field_name_of f.name) fs

abbrev pub field_values_of : List FieldValue → Expressions
field_values_of [] = no_expressions
field_values_of (f ∷ fs) = more_expressions (expression_of f.value) (field_values_of fs)

abbrev pub bound_names_of : BinderTree → BoundNames
bound_names_of b =
    record { names = texts_of_names b.names; of_type = option_map type_expression_of b.ty }

abbrev pub triggers_of : Option TriggerTree → Expressions
triggers_of g = triggers (code.trigger (option_map code.terms_of g))

abbrev pub binders_of : List BinderTree → List BoundNames
binders_of bs = map bound_names_of bs

abbrev pub alternatives_of : List (List Pat) → Alternatives
alternatives_of pss = branch_alternatives (code.alternatives pss)

abbrev pub branches_of : List BranchTree → MatchBranches
branches_of [] = no_branches
branches_of (b ∷ bs) =
    more_branches (alternatives_of b.alternatives) (expression_of b.body) (branches_of bs)
