-- What the rules of terms are read as, before it is part of a tree.
use Rattle.grammar.specs.reading.Common.{Name, Word, access, fielded_form, fielded_tree, at, Called, SyntaxForm, SyntaxForms, Own, aliased, called, lower, infix_op, more_forms, no_forms, prefix_op, upper, TypedBinder, Branches, OperatorToken, SyntaxTree, SyntaxTrees, SyntaxTrigger, apply, binary, binding, binds, branch, cases, cast, choice, falsity, group, literal, more, negation, none, prefixed, quantified, truth}
use Rattle.std.specs.Prelude.{Bool, true, Option, ℕ, false, List, [], ◌∷◌, Some, None}

pub record Dotted : Type 0 where
  pub scopes : List Word
  pub last : Word

-- what comes after a name: arguments, or fields
pub data NameRest : Type 0 where
  args_rest : SyntaxTrees → NameRest
  dots_rest : List Called → NameRest

-- an own name after scopes
pub record Scoped : Type 0 where
  pub scopes : List Word
  pub own : Own

-- the same, and what comes after it
pub record Headed : Type 0 where
  pub scopes : List Word
  pub own : Own
  pub rest : NameRest

-- what comes after a word in upper case: arguments, or a name for which it is a scope
pub data UpperRest : Type 0 where
  unscoped : SyntaxTrees → UpperRest
  scopes_name : Headed → UpperRest

-- operators, each with its right operand
pub data Chain : Type 0 where
  stop : Chain
  link : OperatorToken → SyntaxTree → Chain → Chain

-- what comes after the first tree in parentheses, and the fields of all that they hold
pub data Closing : Type 0 where
  closes_group : SyntaxTrees → List Called → Closing
  cast_to : SyntaxForm → List Called → Closing

-- what comes after a parenthesis: nothing, an operator's name and its arguments, or trees
pub data Paren : Type 0 where
  nothing : List Called → Paren
  named_operator : OperatorToken → Bool → SyntaxTrees → Paren
  holds : SyntaxTree → Closing → Paren

-- what comes after a parenthesis and a prefix operator
pub data Minus : Type 0 where
  named_by : Bool → SyntaxTrees → Minus
  operand : SyntaxTree → Chain → Closing → Minus

pub record OperatorName : Type 0 where
  pub op : OperatorToken
  pub prefix : Bool

-- a name after a word and a dot
abbrev pub scope_on : Word → Option Dotted → Dotted
scope_on w None = record { scopes = []; last = w }
scope_on w (Some d) = record { scopes = w ∷ d.scopes; last = d.last }

abbrev pub upper_called : ℕ → Word → Option Dotted → Called
upper_called i w d = called i (scope_on w d).scopes (upper (scope_on w d).last)

abbrev pub lower_called : ℕ → Dotted → Called
lower_called i d = called i d.scopes (lower d.last)

abbrev pub named_at : ℕ → SyntaxForm → Option Name → SyntaxForm
named_at i p None = p
named_at i p (Some n) = aliased (at i) p n

abbrev pub first_token : SyntaxTree → ℕ
first_token (apply a c ts) = a.first
first_token (literal a w) = a.first
first_token (truth a) = a.first
first_token (falsity a) = a.first
first_token (group a ts) = a.first
first_token (cast a e f) = a.first
first_token (prefixed a o e) = a.first
first_token (negation a e) = a.first
first_token (binary a e o f) = a.first
first_token (choice a c e f) = a.first
first_token (cases a es bar bs) = a.first
first_token (access a e c) = a.first
first_token (fielded_tree a cs es semi) = a.first
first_token (binding a ps e f) = a.first
first_token (quantified a all bs g e) = a.first

abbrev pub joined_trees : SyntaxTree → OperatorToken → SyntaxTree → SyntaxTree
joined_trees e o f = binary (record { first = first_token e; main = o.at }) e o f

abbrev pub attach : SyntaxTree → Chain → SyntaxTree
attach e stop = e
attach e (link o f c) = attach (joined_trees e o f) c

abbrev pub own_op : Bool → OperatorToken → Own
own_op false o = infix_op o.terminal o.text
own_op true o = prefix_op o.terminal o.text

-- the fields of a tree that begins at token i, the first one innermost
abbrev pub accessed : ℕ → SyntaxTree → List Called → SyntaxTree
accessed i e [] = e
accessed i e (c ∷ cs) = accessed i (access (at i) e c) cs

-- a name with what comes after it
abbrev pub with_rest : ℕ → Called → NameRest → SyntaxTree
with_rest i c (args_rest ts) = apply (at i) c ts
with_rest i c (dots_rest cs) = accessed i (apply (at i) c none) cs

abbrev pub closed_group : ℕ → SyntaxTree → Closing → SyntaxTree
closed_group i e (closes_group es cs) = accessed i (group (at i) (more e es)) cs
closed_group i e (cast_to f cs) = accessed i (cast (at i) e f) cs

abbrev pub paren : ℕ → Paren → SyntaxTree
paren i (nothing cs) = accessed i (group (at i) none) cs
paren i (named_operator o p ts) = apply (at i) (called i [] (own_op p o)) ts
paren i (holds e c) = closed_group i e c

abbrev pub after_minus : OperatorToken → Minus → Paren
after_minus o (named_by p ts) = named_operator o p ts
after_minus o (operand e c z) = holds (attach (prefixed (at o.at) o e) c) z

abbrev pub scope_own : Word → Option Scoped → Scoped
scope_own w None = record { scopes = []; own = upper w }
scope_own w (Some d) = record { scopes = w ∷ d.scopes; own = d.own }

abbrev pub upper_head : Word → UpperRest → Headed
upper_head w (unscoped ts) = record { scopes = []; own = upper w; rest = args_rest ts }
upper_head w (scopes_name d) = record { scopes = w ∷ d.scopes; own = d.own; rest = d.rest }

abbrev pub dotted_name : ℕ → Headed → Called
dotted_name i d = called i d.scopes d.own

abbrev pub headed_tree : ℕ → Headed → SyntaxTree
headed_tree i d = with_rest i (dotted_name i d) d.rest

-- after the first pattern of an alternative: its other patterns, other alternatives, the body and
-- other branches
pub record ArmPart : Type 0 where
  pub patterns : SyntaxForms
  pub alternatives : List SyntaxForms
  pub body : SyntaxTree
  pub others : Branches

-- the fields of a record after the first one, with their patterns or values
pub record FormFields : Type 0 where
  pub names : List Called
  pub forms : SyntaxForms
  pub semi : Bool

pub record TreeFields : Type 0 where
  pub names : List Called
  pub trees : SyntaxTrees
  pub semi : Bool

abbrev pub next_form : Called → SyntaxForm → FormFields → FormFields
next_form c p r = record { names = c ∷ r.names; forms = more_forms p r.forms; semi = r.semi }

abbrev pub next_field_tree : Called → SyntaxTree → TreeFields → TreeFields
next_field_tree c e r = record { names = c ∷ r.names; trees = more e r.trees; semi = r.semi }

abbrev pub record_form : ℕ → Called → SyntaxForm → FormFields → SyntaxForm
record_form i c p r = fielded_form (at i) (c ∷ r.names) (more_forms p r.forms) r.semi

abbrev pub record_tree : ℕ → Called → SyntaxTree → TreeFields → SyntaxTree
record_tree i c e r = fielded_tree (at i) (c ∷ r.names) (more e r.trees) r.semi

-- after `with`
pub record BranchPart : Type 0 where
  pub bar : Bool
  pub branches : Branches

-- after the first scrutinee
pub record CasesPart : Type 0 where
  pub others : SyntaxTrees
  pub bar : Bool
  pub branches : Branches

-- after the first pattern of a `let`
pub record LetPart : Type 0 where
  pub patterns : SyntaxForms
  pub value : SyntaxTree
  pub body : SyntaxTree

-- after a binder
pub record BoundPart : Type 0 where
  pub others : List TypedBinder
  pub trigger : SyntaxTrigger
  pub body : SyntaxTree

-- after a binder's first name
pub record BinderPart : Type 0 where
  pub names : List Name
  pub of_type : Option SyntaxForm
  pub bound : BoundPart

-- after the first term of a trigger
pub record TermsPart : Type 0 where
  pub terms : SyntaxTrees
  pub bars : List Bool
  pub body : SyntaxTree

abbrev pub branch_of : SyntaxForm → ArmPart → Branches
branch_of p a = branch (more_forms p a.patterns ∷ a.alternatives) a.body a.others

abbrev pub binder_with : Name → BinderPart → TypedBinder
binder_with n b = binds (n ∷ b.names) b.of_type

abbrev pub next_pattern : SyntaxForm → ArmPart → ArmPart
next_pattern p a = record {
  patterns = more_forms p a.patterns;
  alternatives =
      a.alternatives;
  body = a.body;
  others = a.others;
}

abbrev pub next_alternative : SyntaxForm → ArmPart → ArmPart
next_alternative p a = record {
  patterns = no_forms;
  alternatives =
      more_forms p a.patterns ∷ a.alternatives;
  body = a.body;
  others = a.others;
}

abbrev pub next_term : Bool → SyntaxTree → TermsPart → TermsPart
next_term b e p = record { terms = more e p.terms; bars = b ∷ p.bars; body = p.body }
