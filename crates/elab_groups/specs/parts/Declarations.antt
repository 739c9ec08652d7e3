-- Declarations in abstract syntax: what each makes, and its first fault of names (Why3 manual,
-- "logical declarations").
use Rattle.std.specs.Prelude.{ℕ, Bool, true, false, cond, codes, ◌||◌, List, [], ◌∷◌, ◌++◌, map, Option, Some, None, option_map}
use Rattle.std.specs.Option.{is_some}
use Rattle.std.specs.Str.{bytes_eq}
use Rattle.surface.specs.Lexeme.{Word}
use Rattle.surface.specs.declared.names.Name.{Name}
use Rattle.surface.specs.declared.declarations.PropKind.{PropKind}
use Rattle.surface.specs.Forms as surface
use Rattle.surface.specs.Declarations as source
use Rattle.scopes.specs.declared.Table.{Table}
use Rattle.scopes.specs.declared.Table.TheVariants.{Types, Symbols, Propositions}
use Rattle.scopes.specs.Names.{same_table}
use Rattle.name_resolution.specs.Abstract.{TypeExpression, Expression, type_expression, expression, text_of_own}
use Rattle.name_resolution.specs.declared.NamingFault.{NamingFault}
use Rattle.name_resolution.specs.declared.NamingFault.TheVariants.{Duplicate}
use Rattle.name_resolution.specs.Faults.{first_of, fault_if, form_fault, fault}
use Rattle.name_resolution.specs.variables.Seen.{SeenTree, form_seen, type_seen, seen}
use Rattle.name_resolution.specs.Where.{Where, place_of}
use Rattle.elab_groups.specs.parts.Elaborated.{unseen}

-- a name with its token
pub record TokenName : Type 0 where
  pub at : ℕ
  pub name : Word

abbrev pub token_name : ℕ → Word → TokenName
token_name i x = record { at = i; name = x }

-- a parameter, or fields of one type, with names or, as a type alone, without
pub record Parameter : Type 0 where
  pub names : List TokenName
  pub of_type : TypeExpression

-- a function where it has a result type, else a predicate; without a body it is abstract
pub record GroupMember : Type 0 where
  pub called : TokenName
  pub params : List Parameter
  pub result : Option TypeExpression
  pub body : Option Expression

-- It makes one name, its own; that of a record makes none.
pub record AlgebraicConstructor : Type 0 where
  pub own : Word
  pub called : Option TokenName
  pub fields : List Parameter

pub record AlgebraicType : Type 0 where
  pub called : TokenName
  pub vars : List TokenName
  pub constructors : List AlgebraicConstructor

pub record InductiveClause : Type 0 where
  pub called : TokenName
  pub prop : Expression

pub record InductivePredicate : Type 0 where
  pub called : TokenName
  pub params : List Parameter
  pub clauses : List InductiveClause

pub data Declaration : Type 0 where
  abstract_type : TokenName → List TokenName → Declaration
  alias : TokenName → List TokenName → TypeExpression → Declaration
  algebraic : List AlgebraicType → Declaration
  member_group : List GroupMember → Declaration
  inductive : List InductivePredicate → Declaration
  proposition_declaration : PropKind → TokenName → Expression → Declaration

-- ---- of a source's declarations; one that uses, clones or opens a scope is none of these
abbrev pub word : Name → TokenName
word n = token_name n.at n.text

abbrev pub symbol : surface.Called → TokenName
symbol c = token_name c.at (text_of_own c.own)

abbrev pub parameter_of : source.ParamGroup → Parameter
parameter_of p = record { names = map word p.names; of_type = type_expression p.of_type }

abbrev pub group_member : source.Member → GroupMember
group_member m = record {
  called = symbol m.name;
  params = map parameter_of m.params;
  result =
      option_map type_expression m.result;
  body = Some (expression m.body);
}

abbrev pub constructor : source.Constructor → AlgebraicConstructor
constructor c = record {
  own = c.name.text;
  called = Some (word c.name);
  fields = map parameter_of c.fields;
}

-- that of a record type `r` is `mk_r`
abbrev pub record_constructor : Word → List source.ParamGroup → AlgebraicConstructor
record_constructor x ps = record {
  own = codes "mk_" ++ x;
  called = None;
  fields = map parameter_of ps;
}

abbrev pub type_constructors : Word → List source.Constructor → List source.ParamGroup
    → List AlgebraicConstructor
type_constructors x cs [] = map constructor cs
type_constructors x cs (p ∷ ps) = record_constructor x (p ∷ ps) ∷ []

abbrev pub algebraic_type : source.Algebraic → AlgebraicType
algebraic_type a = record {
  called = word a.name;
  vars = map word a.vars;
  constructors = type_constructors a.name.text a.constructors a.fields;
}

abbrev pub clause : source.Clause → InductiveClause
clause c = record { called = symbol c.name; prop = expression c.prop }

abbrev pub inductive_predicate : source.Inductive → InductivePredicate
inductive_predicate d = record {
  called = symbol d.name;
  params =
      map parameter_of d.params;
  clauses = map clause d.clauses;
}

abbrev pub declaration : source.SyntaxDeclaration → Option Declaration
declaration (source.type_decl a n vs None) = Some (abstract_type (word n) (map word vs))
declaration (source.type_decl a n vs (Some f)) =
    Some (alias (word n) (map word vs) (type_expression f))
declaration (source.algebraic_decl a ts) = Some (algebraic (map algebraic_type ts))
declaration (source.function_decl a c ps f e ms) =
    Some (member_group (record {
      called = symbol c;
      params = map parameter_of ps;
      result =
          Some (type_expression f);
      body = option_map expression e;
    } ∷ map group_member ms))
declaration (source.predicate_decl a c ps e ms) =
    Some (member_group (record {
      called = symbol c;
      params = map parameter_of ps;
      result =
          None;
      body = option_map expression e;
    } ∷ map group_member ms))
declaration (source.constant_decl a c f e) =
    Some (member_group (record {
      called = symbol c;
      params = [];
      result =
          Some (type_expression f);
      body = option_map expression e;
    } ∷ []))
declaration (source.inductive_decl a ds) = Some (inductive (map inductive_predicate ds))
declaration (source.prop_decl a k c e) = Some (proposition_declaration k (symbol c) (expression e))
declaration _ = None

-- ---- the names that a declaration makes, in reading order
-- a name in a table of the scope, or a list of parameters, whose names differ
pub data Made : Type 0 where
  makes : Table → TokenName → Made
  binds_names : List TokenName → Made

abbrev pub names_of_parameters : List Parameter → List TokenName
names_of_parameters [] = []
names_of_parameters (p ∷ ps) = p.names ++ names_of_parameters ps

abbrev pub called_names : Option TokenName → List TokenName
called_names None = []
called_names (Some c) = c ∷ []

-- the names of constructors, each before those of its fields
abbrev pub constructor_names : List AlgebraicConstructor → List TokenName
constructor_names [] = []
constructor_names (c ∷ cs) =
    called_names c.called ++ (names_of_parameters c.fields ++ constructor_names cs)

abbrev pub made_by_constructors : List AlgebraicConstructor → List Made
made_by_constructors cs = map (makes Symbols) (constructor_names cs)

abbrev pub made_type_names : List AlgebraicType → List Made
made_type_names [] = []
made_type_names (a ∷ ts) = makes Types a.called ∷ binds_names a.vars
    ∷ (made_by_constructors a.constructors ++ made_type_names ts)

abbrev pub made_by_members : List GroupMember → List Made
made_by_members [] = []
made_by_members (m ∷ ms) =
    makes Symbols m.called ∷ binds_names (names_of_parameters m.params) ∷ made_by_members ms

abbrev pub made_by_clauses : List InductiveClause → List Made
made_by_clauses cs = map (λ (c : InductiveClause). makes Propositions c.called) cs

abbrev pub made_by_inductives : List InductivePredicate → List Made
made_by_inductives [] = []
made_by_inductives (d ∷ ds) =
    makes Symbols d.called ∷ binds_names (names_of_parameters d.params)
    ∷ (made_by_clauses d.clauses ++ made_by_inductives ds)

abbrev pub made_names : Declaration → List Made
made_names (abstract_type c vs) = makes Types c ∷ binds_names vs ∷ []
made_names (alias c vs f) = makes Types c ∷ binds_names vs ∷ []
made_names (algebraic ts) = made_type_names ts
made_names (member_group ms) = made_by_members ms
made_names (inductive ds) = made_by_inductives ds
made_names (proposition_declaration k c e) = makes Propositions c ∷ []

-- the second of two equal names in a list
abbrev pub list_fault : List Word → List TokenName → Option NamingFault
list_fault seen [] = None
list_fault seen (c ∷ cs) = first_of (fault_if (is_some (place_of c.name seen)) (Duplicate c.at))
    (list_fault (seen ++ c.name ∷ []) cs)

abbrev pub made_before : Table → Word → List Made → Bool
made_before table x [] = false
made_before table x (makes t c ∷ ms) =
    cond (same_table table t) (bytes_eq c.name x || made_before table x ms) (made_before table x ms)
made_before table x (binds_names cs ∷ ms) = made_before table x ms

-- the first name that the scope declared before, that the declaration made before, or that occurs
-- twice in a list of parameters
abbrev pub made_fault : (Table → Word → Bool) → List Made → List Made → Option NamingFault
made_fault declared before [] = None
made_fault declared before (makes t c ∷ ms) =
    first_of (fault_if (declared t c.name || made_before t c.name before) (Duplicate c.at))
    (made_fault declared (makes t c ∷ before) ms)
made_fault declared before (binds_names cs ∷ ms) =
    first_of (list_fault [] cs) (made_fault declared (binds_names cs ∷ before) ms)

-- ---- type variables
abbrev pub words : List TokenName → List Word
words cs = map (λ (c : TokenName). c.name) cs

abbrev pub params_seen : SeenTree → List Parameter → SeenTree
params_seen s [] = s
params_seen s (p ∷ ps) = params_seen (form_seen s p.of_type) ps

-- those of a signature by first appearance: of its parameters, then of its result
abbrev pub signature_variables : List Parameter → Option TypeExpression → List Word
signature_variables ps r = (type_seen (params_seen unseen ps) r).vars

abbrev pub own_variables : GroupMember → List Word
own_variables m = signature_variables m.params m.result

-- a clause has the type variables of its predicate in their order, then its others by first
-- appearance
abbrev pub clause_variables : InductivePredicate → InductiveClause → List Word
clause_variables d c =
    (seen (record { vars = signature_variables d.params None; widths = [] }) c.prop).vars

abbrev pub with_vars : Where → List Word → Where
with_vars w vs = record w { vars = vs }

-- ---- the uses of names, where the declaration's own names are there
-- of parameters, which may have further type variables, or of fields, which may not
abbrev pub params_fault : Where → Bool → List Parameter → Option NamingFault
params_fault w open_ [] = None
params_fault w open_ (p ∷ ps) = first_of (form_fault w open_ p.of_type) (params_fault w open_ ps)

abbrev pub constructors_fault : Where → List AlgebraicConstructor → Option NamingFault
constructors_fault w [] = None
constructors_fault w (c ∷ cs) = first_of (params_fault w false c.fields) (constructors_fault w cs)

abbrev pub types_fault : Where → List AlgebraicType → Option NamingFault
types_fault w [] = None
types_fault w (a ∷ ts) =
    first_of (constructors_fault (with_vars w (words a.vars)) a.constructors) (types_fault w ts)

-- the parameters of an inductive predicate aren't variables of its clauses
abbrev pub clauses_fault : Where → List InductiveClause → Option NamingFault
clauses_fault w [] = None
clauses_fault w (c ∷ cs) = first_of (fault w true [] true c.prop) (clauses_fault w cs)

abbrev pub inductives_fault : Where → List InductivePredicate → Option NamingFault
inductives_fault w [] = None
inductives_fault w (d ∷ ds) =
    first_of (params_fault w true d.params)
    (first_of (clauses_fault w d.clauses) (inductives_fault w ds))
