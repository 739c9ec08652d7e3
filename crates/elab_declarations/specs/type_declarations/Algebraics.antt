-- Algebraic types: what a group of them makes, and the first fault of its names (Why3 manual,
-- "logical declarations"). The types of a group see each other.
use Rattle.std.specs.Prelude.{◌≡◌, ℕ, ◌+◌, Bool, true, List, [], ◌∷◌, ◌++◌, map, length, Option, None}
use Rattle.trees.specs.Tree.{Tree}
use Rattle.tasks.specs.Task.{SymbolTree, ConstructorTree, AlgebraicTree, Constructs}
use Rattle.tasks.specs.Valid.{own_type}
use Rattle.tasks.specs.declared.signature.Signature.{Signature}
use Rattle.scopes.specs.Names.{NamesOf, ScopeNames, with_entry}
use Rattle.scopes.specs.declared.Table.{Table}
use Rattle.scopes.specs.declared.Table.TheVariants.{Types, Symbols}
use Rattle.surface.specs.Lexeme.{Word}
use Rattle.surface.specs.declared.declarations.ConTree.{ConTree as ConSource}
use Rattle.surface.specs.declared.declarations.AlgTree.{AlgTree}
use Rattle.surface.specs.SurfaceDeclarations.{constructor_of, algebraic_of}
use Rattle.name_resolution.specs.declared.NamingFault.{NamingFault}
use Rattle.name_resolution.specs.Faults.{first_of}
use Rattle.name_resolution.specs.Where.{Where, NamesTree}
use Rattle.name_resolution.specs.variables.Seen.{SeenTree}
use Rattle.open_types.specs.Patterns.{no_notes}
use Rattle.elab_groups.specs.declared.parts.ElabFault.{ElabFault}
use Rattle.elab_groups.specs.declared.parts.made.Elaborated.{Elaborated}
use Rattle.elab_groups.specs.parts.Elaborated.{unseen}
use Rattle.elab_groups.specs.parts.Declarations.{TokenName, Parameter, AlgebraicConstructor, AlgebraicType, constructor, algebraic_type, words, list_fault, called_names, constructor_names, made_type_names, made_fault, params_seen, with_vars, types_fault}
use Rattle.elab_groups.specs.members.Members.{parameter_types, parameter_words, words_of_parameters}
use Rattle.elab_groups.specs.parts.Entries.{type_entry, named_entries}
use Rattle.elab_declarations.specs.NewNames.{name_made}
use Rattle.elab_groups.specs.parts.Outcomes.{Setting, Outcome, over, tuples_wanting, declared_in, IsRefusalFor, IsElaboratedAs}

-- ---- of the trees in code
abbrev pub constructors_of : List ConSource → List AlgebraicConstructor
constructors_of ks = map constructor (map constructor_of ks)

abbrev pub algebraics_of : List AlgTree → List AlgebraicType
algebraics_of ts = map algebraic_type (map algebraic_of ts)

abbrev pub constructors_in : AlgTree → List AlgebraicConstructor
constructors_in a = (algebraic_type (algebraic_of a)).constructors

-- ---- the widths of the tuples in the fields
abbrev pub constructors_seen : SeenTree → List AlgebraicConstructor → SeenTree
constructors_seen s [] = s
constructors_seen s (k ∷ ks) = constructors_seen (params_seen s k.fields) ks

abbrev pub types_seen : SeenTree → List AlgebraicType → SeenTree
types_seen s [] = s
types_seen s (a ∷ ts) = types_seen (constructors_seen s a.constructors) ts

abbrev pub group_seen : List AlgebraicType → SeenTree
group_seen ts = types_seen unseen ts

-- ---- numbers: after the tuples stand the types, and after these the constructors, each before its
-- projections
abbrev pub count_fields : List Parameter → ℕ
count_fields ps = length (words_of_parameters ps)

abbrev pub entry_count : List AlgebraicConstructor → ℕ
entry_count [] = 0
entry_count (k ∷ ks) = (count_fields k.fields + 1) + entry_count ks

abbrev pub group_count : List AlgebraicType → ℕ
group_count [] = 0
group_count (a ∷ ts) = entry_count a.constructors + group_count ts

abbrev pub first_type : Setting → List AlgebraicType → ℕ
first_type c ts = length (c.symbols ++ tuples_wanting c (group_seen ts))

abbrev pub first_constructor : Setting → List AlgebraicType → ℕ
first_constructor c ts = first_type c ts + length ts

-- a number for each of these, from one on
abbrev pub numbering_from : ℕ → List Tree → List ℕ
numbering_from n [] = []
numbering_from n (t ∷ ts) = n ∷ numbering_from (n + 1) ts

-- ---- names
-- a name of a symbol, and the number of its entry
pub record NumberedName : Type 0 where
  pub name : Word
  pub number : ℕ

abbrev pub numbered : Word → ℕ → NumberedName
numbered x n = record { name = x; number = n }

-- these names, from a number on
abbrev pub numbered_names : ℕ → List TokenName → List NumberedName
numbered_names n [] = []
numbered_names n (c ∷ cs) = numbered c.name n ∷ numbered_names (n + 1) cs

-- The names of fields, the first of which has a number. Each field without a name has one too.
abbrev pub numbered_fields : ℕ → List Parameter → List NumberedName
numbered_fields n [] = []
numbered_fields n (p ∷ ps) =
    numbered_names n p.names ++ numbered_fields (n + length (parameter_words p.names)) ps

-- each constructor before its fields
abbrev pub numbered_constructors : ℕ → List AlgebraicConstructor → List NumberedName
numbered_constructors n [] = []
numbered_constructors n (k ∷ ks) = numbered_names n (called_names k.called)
    ++ (numbered_fields (n + 1) k.fields
    ++ numbered_constructors (n + (count_fields k.fields + 1)) ks)

abbrev pub with_numbered : {A : Type 0} → List NumberedName → NamesOf A → NamesOf A
with_numbered [] names = names
with_numbered (x ∷ xs) names = with_numbered xs (with_entry Symbols x.name x.number true names)

abbrev pub with_constructors : {A : Type 0} → ℕ → List AlgebraicConstructor → NamesOf A → NamesOf A
with_constructors n ks names = with_numbered (numbered_constructors n ks) names

-- the types stand for the entries from i on, their constructors for those from n on
abbrev pub with_types : {A : Type 0} → ℕ → ℕ → List AlgebraicType → NamesOf A → NamesOf A
with_types i n [] names = names
with_types i n (a ∷ ts) names =
    with_types (i + 1) (n + entry_count a.constructors) ts
    (with_constructors n a.constructors (with_entry Types a.called.name i true names))

abbrev pub group_names : Setting → List AlgebraicType → NamesTree
group_names c ts = with_types (first_type c ts) (first_constructor c ts) ts c.scope

-- ---- entries of the types
abbrev pub type_entries : Word → Word → List AlgebraicType → List SymbolTree
type_entries theory within [] = []
type_entries theory within (a ∷ ts) =
    type_entry theory (within ++ a.called.name) (length a.vars) ∷ type_entries theory within ts

-- what names mean where the names of the group are there
abbrev pub inside_types : Setting → List AlgebraicType → Where
inside_types c ts = over
    (c.symbols ++ (tuples_wanting c (group_seen ts) ++ type_entries c.theory c.within ts))
    (group_names c ts) []

-- ---- the types with their constructors
abbrev pub constructor_trees : Where → ℕ → List AlgebraicConstructor → List ConstructorTree
constructor_trees w n [] = []
constructor_trees w n (k ∷ ks) =
    record {
      symbol = n;
      fields = parameter_types w k.fields;
      projections =
          numbering_from (n + 1) (parameter_types w k.fields);
    }
    ∷ constructor_trees w (n + (count_fields k.fields + 1)) ks

abbrev pub algebraic_trees : Where → ℕ → ℕ → List AlgebraicType → List AlgebraicTree
algebraic_trees w i n [] = []
algebraic_trees w i n (a ∷ ts) =
    record { symbol = i; cons = constructor_trees (with_vars w (words a.vars)) n a.constructors }
    ∷ algebraic_trees w (i + 1) (n + entry_count a.constructors) ts

abbrev pub group_trees : Setting → List AlgebraicType → List AlgebraicTree
group_trees c ts = algebraic_trees (inside_types c ts) (first_type c ts) (first_constructor c ts) ts

-- ---- entries of the constructors, each before its projections
abbrev pub constructors_entries : Word → Word → ℕ → Tree → List AlgebraicConstructor
    → List ConstructorTree → List SymbolTree
constructors_entries theory within vars type [] cs = []
constructors_entries theory within vars type (k ∷ ks) [] = []
constructors_entries theory within vars type (k ∷ ks) (c ∷ cs) =
    named_entries theory within k.own vars type (words_of_parameters k.fields) c.fields
    ++ constructors_entries theory within vars type ks cs

abbrev pub group_entries : Word → Word → List AlgebraicType → List AlgebraicTree → List SymbolTree
group_entries theory within [] ys = []
group_entries theory within (a ∷ ts) [] = []
group_entries theory within (a ∷ ts) (y ∷ ys) =
    constructors_entries theory within (length a.vars) (own_type y.symbol (length a.vars))
    a.constructors y.cons ++ group_entries theory within ts ys

-- ---- what a group makes
-- a declaration has the name and the type variables of its first type
abbrev pub first_name : List AlgebraicType → Word
first_name [] = []
first_name (a ∷ ts) = a.called.name

abbrev pub first_vars : List AlgebraicType → ℕ
first_vars [] = 0
first_vars (a ∷ ts) = length a.vars

abbrev pub group_outcome : Setting → List AlgebraicType → Outcome
group_outcome c ts = record {
  symbols = tuples_wanting c (group_seen ts)
      ++ (type_entries c.theory c.within ts
      ++ group_entries c.theory c.within ts (group_trees c ts));
  scope = group_names c ts;
  decls = record {
    theory = c.theory;
    name = c.within ++ first_name ts;
    vars = first_vars ts;
    body =
        Constructs (group_trees c ts);
  } ∷ [];
  rigid = [];
  matches = [];
}

-- ---- the first fault of its names: of those that it makes, then of the types of its fields
abbrev pub group_made : {A : Type 0} → NamesOf A → List AlgebraicType → Option NamingFault
group_made names ts = made_fault (declared_in names) [] (made_type_names ts)

abbrev pub type_group_fault : Setting → List AlgebraicType → Option NamingFault
type_group_fault c ts = first_of (group_made c.scope ts) (types_fault (inside_types c ts) ts)

abbrev pub AreTypesElaborated : Setting → List AlgebraicType → Signature → List Tree → Signature
    → ScopeNames → Elaborated → Type 0
AreTypesElaborated c ts g s' g' scope' made =
    IsElaboratedAs (λ (o : Outcome). o ≡ group_outcome c ts) (type_group_fault c ts) c.symbols g s'
    g' scope' made

-- it has no type equations
abbrev pub IsTypesRefusal : Setting → List AlgebraicType → ElabFault → Type 0
IsTypesRefusal c ts f = IsRefusalFor c.decl (type_group_fault c ts) 0 no_notes f

-- ---- the names that it makes, by those that it made before in each table
-- the first of these that the scope declared, or that the group made before
abbrev pub symbols_made : (Word → Bool) → List Word → List TokenName → Option NamingFault
symbols_made declared before [] = None
symbols_made declared before (c ∷ cs) =
    first_of (name_made (declared c.name) before c)
    (symbols_made declared (before ++ c.name ∷ []) cs)

abbrev pub constructors_made : (Word → Bool) → List Word → List AlgebraicConstructor
    → Option NamingFault
constructors_made declared before ks = symbols_made declared before (constructor_names ks)

abbrev pub constructor_words : List AlgebraicConstructor → List Word
constructor_words ks = words (constructor_names ks)

abbrev pub types_made : (Table → Word → Bool) → List Word → List Word → List AlgebraicType
    → Option NamingFault
types_made declared types constructors [] = None
types_made declared types constructors (a ∷ ts) =
    first_of (name_made (declared Types a.called.name) types a.called)
    (first_of (list_fault [] a.vars)
    (first_of (constructors_made (declared Symbols) constructors a.constructors)
    (types_made declared (types ++ a.called.name ∷ [])
    (constructors ++ constructor_words a.constructors) ts)))
