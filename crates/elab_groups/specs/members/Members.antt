-- The members of a group of functions, predicates and constants: what they see, their signatures,
-- the entries and the names that they make, and the first fault of the names that they use (Why3
-- manual, "logical declarations"). They see each other.
use Rattle.std.specs.Prelude.{ℕ, suc, Bool, true, false, ◌||◌, List, [], ◌∷◌, ◌++◌, map, reverse, length, Option, Some, None, option_map}
use Rattle.std.specs.Option.{is_none, is_some}
use Rattle.trees.specs.Tree.{Tree}
use Rattle.tasks.specs.Task.{SymbolTree}
use Rattle.tasks.specs.declared.signature.SymbolKind.{SymbolKind}
use Rattle.tasks.specs.declared.signature.SymbolKind.TheVariants.{Function, Predicate}
use Rattle.scopes.specs.Names.{NamesOf, with_entry}
use Rattle.scopes.specs.declared.Table.TheVariants.{Symbols}
use Rattle.surface.specs.Lexeme.{Word}
use Rattle.name_resolution.specs.Abstract.{TypeExpression, Expression}
use Rattle.name_resolution.specs.declared.NamingFault.{NamingFault}
use Rattle.name_resolution.specs.declared.NamingFault.TheVariants.{Duplicate}
use Rattle.name_resolution.specs.Faults.{first_of, fault_if, type_fault, fault}
use Rattle.name_resolution.specs.Where.{Where, NamesTree, place_of}
use Rattle.name_resolution.specs.variables.Seen.{SeenTree, seen, type_seen}
use Rattle.open_types.specs.Pieces.{type_at}
use Rattle.elab_groups.specs.parts.Elaborated.{unseen}
use Rattle.elab_groups.specs.parts.Declarations.{TokenName, Parameter, GroupMember, words, names_of_parameters, list_fault, params_seen, params_fault, own_variables, with_vars}
use Rattle.elab_groups.specs.parts.Outcomes.{Setting, over}

-- ---- what is seen: of each member its parameters, its result and its body
abbrev pub signature_seen : List Parameter → Option TypeExpression → SeenTree
signature_seen ps r = type_seen (params_seen unseen ps) r

abbrev pub body_seen : SeenTree → Option Expression → SeenTree
body_seen s None = s
body_seen s (Some e) = seen s e

abbrev pub members_seen : SeenTree → List GroupMember → SeenTree
members_seen s [] = s
members_seen s (m ∷ ms) =
    members_seen (body_seen (type_seen (params_seen s m.params) m.result) m.body) ms

-- ---- signatures: type variables, and the types of parameters and of a result
pub record SignatureTree : Type 0 where
  pub vars : List Word
  pub args : List Tree
  pub result : Option Tree

-- a parameter without names counts as one
abbrev pub type_copies : Tree → List TokenName → List Tree
type_copies t [] = t ∷ []
type_copies t (x ∷ []) = t ∷ []
type_copies t (x ∷ y ∷ ys) = t ∷ type_copies t (y ∷ ys)

abbrev pub parameter_types : Where → List Parameter → List Tree
parameter_types w [] = []
parameter_types w (p ∷ ps) = type_copies (type_at w p.of_type) p.names ++ parameter_types w ps

-- where the members' names aren't there yet
abbrev pub signature_of : Where → GroupMember → SignatureTree
signature_of w m =
    let v = with_vars w (own_variables m) in
    record {
      vars = own_variables m;
      args = parameter_types v m.params;
      result =
          option_map (type_at v) m.result;
    }

-- a parameter without names is one that no name can mean, since a name of a source has a character
abbrev pub parameter_words : List TokenName → List Word
parameter_words [] = [] ∷ []
parameter_words (c ∷ cs) = words (c ∷ cs)

abbrev pub words_of_parameters : List Parameter → List Word
words_of_parameters [] = []
words_of_parameters (p ∷ ps) = parameter_words p.names ++ words_of_parameters ps

-- ---- entries and names
abbrev pub symbol_kind_of : Option TypeExpression → SymbolKind
symbol_kind_of None = Predicate
symbol_kind_of (Some f) = Function

-- the entries of members with their signatures
abbrev pub signed_entries : Word → Word → List GroupMember → List SignatureTree → List SymbolTree
signed_entries theory within [] gs = []
signed_entries theory within (m ∷ ms) [] = []
signed_entries theory within (m ∷ ms) (g ∷ gs) =
    record {
      theory = theory;
      name = within ++ m.called.name;
      kind = symbol_kind_of m.result;
      vars =
          length g.vars;
      args = g.args;
      result = g.result;
    } ∷ signed_entries theory within ms gs

-- after these entries
abbrev pub signature_trees : Setting → List SymbolTree → List GroupMember → List SignatureTree
signature_trees c before ms = map (signature_of (over before c.scope [])) ms

abbrev pub member_entries : Setting → List SymbolTree → List GroupMember → List SymbolTree
member_entries c before ms = signed_entries c.theory c.within ms (signature_trees c before ms)

-- the members' names stand for the entries from a place on
abbrev pub with_members : {A : Type 0} → ℕ → List GroupMember → NamesOf A → NamesOf A
with_members k [] names = names
with_members k (m ∷ ms) names =
    with_members (suc k) ms (with_entry Symbols m.called.name k true names)

-- what names mean where the members' entries come after these, in scopes that have their names
abbrev pub inside_group : Setting → List SymbolTree → List GroupMember → NamesTree → Where
inside_group c before ms names = over (before ++ member_entries c before ms) names []

-- ---- the first fault of names
-- the name of a member that the scope declared or that is before it, and then its parameters
abbrev pub member_made : (Word → Bool) → List Word → TokenName → List Parameter → Option NamingFault
member_made declared before c ps =
    first_of (fault_if (declared c.name || is_some (place_of c.name before)) (Duplicate c.at))
    (list_fault [] (names_of_parameters ps))

abbrev pub members_made : (Word → Bool) → List Word → List GroupMember → Option NamingFault
members_made declared before [] = None
members_made declared before (m ∷ ms) =
    first_of (member_made declared before m.called m.params)
    (members_made declared (before ++ m.called.name ∷ []) ms)

-- of those that are used, where the members are there
abbrev pub body_fault : Where → GroupMember → List Word → Option Expression → Option NamingFault
body_fault w m vars None = None
body_fault w m vars (Some e) =
    fault (with_vars w vars) false (reverse (words_of_parameters m.params)) (is_none m.result) e

abbrev pub member_fault : Where → GroupMember → Option NamingFault
member_fault w m = first_of (params_fault w true m.params)
    (first_of (type_fault w true m.result) (body_fault w m (own_variables m) m.body))

abbrev pub members_fault : Where → List GroupMember → Option NamingFault
members_fault w [] = None
members_fault w (m ∷ ms) = first_of (member_fault w m) (members_fault w ms)
