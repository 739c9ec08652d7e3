-- What the rules of declarations are read as, before it is part of a declaration.
use Rattle.grammar.specs.reading.Common.{Name, Word, at, name, lower, upper, Called, called, SyntaxForm, SyntaxForms, composed, enclosed, no_forms, more_forms, SyntaxTree, Link, Path, ParamGroup, Member, Constructor, Algebraic, Clause, Inductive, Element, SyntaxDeclaration, type_decl, algebraic_decl}
use Rattle.std.specs.Prelude.{Bool, Option, ℕ, false, List, [], ◌∷◌, Some, None}
use Rattle.surface.specs.declared.names.At.{At}
use Rattle.grammar.specs.reading.Parts.{Dotted}

-- after a constructor's name: its fields, other constructors and other types
pub record FieldsPart : Type 0 where
  pub fields : List ParamGroup
  pub constructors : List Constructor
  pub others : List Algebraic

-- after an algebraic type's equality sign: constructors, or the fields of a record
pub record ConPart : Type 0 where
  pub bar : Bool
  pub constructors : List Constructor
  pub fields : List ParamGroup
  pub semi : Bool
  pub others : List Algebraic

-- after a field of a record: other fields, whether a semicolon is after the last one, other types
pub record RecordPart : Type 0 where
  pub fields : List ParamGroup
  pub semi : Bool
  pub others : List Algebraic

-- after an algebraic type's name
pub record AlgPart : Type 0 where
  pub vars : List Name
  pub con : ConPart

-- after a name in upper case: what it is the scope of, or the fields of the constructor
pub data UpperPart : Type 0 where
  scope_of : Dotted → SyntaxForms → UpperPart
  fields_of : FieldsPart → UpperPart

-- what a type is declared to be
pub data TypePart : Type 0 where
  is_alias : SyntaxForm → TypePart
  is_algebraic : ConPart → TypePart

pub record TvarsPart : Type 0 where
  pub vars : List Name
  pub equation : Option TypePart

-- after a parameter's parenthesis: names and their type, or types
pub data ParamPart : Type 0 where
  param_names : List Name → SyntaxForm → ParamPart
  param_types : SyntaxForms → ParamPart

-- after a parenthesis and a name: other names and the type, or the arguments of the type with that
-- name and other types
pub data NamePart : Type 0 where
  name_names : List Name → SyntaxForm → NamePart
  name_types : SyntaxForms → SyntaxForms → NamePart

pub record BodyPart : Type 0 where
  pub definition : Option SyntaxTree
  pub members : List Member

-- after a member's parameters
pub record MemberPart : Type 0 where
  pub result : Option SyntaxForm
  pub body : SyntaxTree
  pub others : List Member

-- after a clause: other clauses and other predicates
pub record ClausesPart : Type 0 where
  pub clauses : List Clause
  pub others : List Inductive

-- after a predicate's equality sign
pub record ClausePart : Type 0 where
  pub bar : Bool
  pub rest : ClausesPart

pub record UsedPart : Type 0 where
  pub link : Link
  pub path : Path
  pub name : Option Name

pub record ClonedPart : Type 0 where
  pub used : UsedPart
  pub elements : List Element

-- after a type's name in an element
pub record VarsPart : Type 0 where
  pub vars : List Name
  pub type : SyntaxForm

abbrev pub new_constructor : Name → FieldsPart → Constructor
new_constructor n p = record { name = n; fields = p.fields }

abbrev pub with_constructor : Bool → Name → FieldsPart → ConPart
with_constructor b n p = record {
  bar = b;
  constructors = new_constructor n p ∷ p.constructors;
  fields = [];
  semi = false;
  others = p.others;
}

abbrev pub record_field : Name → SyntaxForm → ParamGroup
record_field n f = record { names = n ∷ []; of_type = f }

abbrev pub next_field : ParamGroup → RecordPart → RecordPart
next_field p r = record { fields = p ∷ r.fields; semi = r.semi; others = r.others }

abbrev pub with_fields : ParamGroup → RecordPart → ConPart
with_fields p r = record {
  bar = false;
  constructors = [];
  fields = p ∷ r.fields;
  semi = r.semi;
  others = r.others;
}

abbrev pub new_algebraic : Name → List Name → ConPart → Algebraic
new_algebraic n vs c = record {
  name = n;
  vars = vs;
  bar = c.bar;
  constructors = c.constructors;
  fields = c.fields;
  semi = c.semi;
}

abbrev pub upper_type : ℕ → Word → UpperPart → TypePart
upper_type i w (scope_of d ts) =
    is_alias (composed (at i) (called i (w ∷ d.scopes) (lower d.last)) ts)
upper_type i w (fields_of p) = is_algebraic (with_constructor false (name i w) p)

abbrev pub typed_as : At → Name → List Name → Option TypePart → SyntaxDeclaration
typed_as a n vs None = type_decl a n vs None
typed_as a n vs (Some (is_alias f)) = type_decl a n vs (Some f)
typed_as a n vs (Some (is_algebraic c)) = algebraic_decl a (new_algebraic n vs c ∷ c.others)

abbrev pub param : ℕ → ParamPart → ParamGroup
param i (param_names ns f) = record { names = ns; of_type = f }
param i (param_types fs) = record { names = []; of_type = enclosed (at i) fs }

abbrev pub lone : ℕ → Word → SyntaxForm
lone i w = composed (at i) (called i [] (lower w)) no_forms

abbrev pub after_paren : ℕ → Word → NamePart → ParamPart
after_paren i w (name_names ns f) = param_names (name i w ∷ ns) f
after_paren i w (name_types ts fs) =
    param_types (more_forms (composed (at i) (called i [] (lower w)) ts) fs)

abbrev pub name_before : ℕ → Word → NamePart → NamePart
name_before i w (name_names ns f) = name_names (name i w ∷ ns) f
name_before i w (name_types ts fs) = name_types (more_forms (lone i w) ts) fs

abbrev pub new_member : Called → List ParamGroup → MemberPart → Member
new_member c ps p = record { name = c; params = ps; result = p.result; body = p.body }

abbrev pub new_inductive : Called → List ParamGroup → ClausePart → Inductive
new_inductive c ps p = record { name = c; params = ps; bar = p.bar; clauses = p.rest.clauses }

abbrev pub with_clause : Called → SyntaxTree → ClausesPart → ClausesPart
with_clause c e p =
    record { clauses = record { name = c; prop = e } ∷ p.clauses; others = p.others }

abbrev pub path_on : ℕ → Word → Path → Path
path_on i w p = record { at = i; parts = w ∷ p.parts }

abbrev pub scope_called : ℕ → Word → Called → Called
scope_called i w c = called i (w ∷ c.scopes) c.own

-- a proposition's name, which is a scope where a name comes after it
abbrev pub prop_called : ℕ → Word → Option Called → Called
prop_called i w None = called i [] (upper w)
prop_called i w (Some c) = scope_called i w c
