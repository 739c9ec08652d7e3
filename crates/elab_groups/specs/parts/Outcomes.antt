-- What the elaboration of a declaration gives where it is, or its first fault (Why3 manual,
-- "logical declarations"). Each kind of declaration says by these what it makes.
use Rattle.std.specs.Prelude.{◌≡◌, ℕ, Bool, true, All, List, ◌++◌, map, length, Option, Some, None}
use Rattle.tasks.specs.trees.Tree.{Tree, Leaf, HTyRigid}
use Rattle.tasks.specs.Task.{SymbolTree, DeclarationTree}
use Rattle.tasks.specs.Meaning.{symbols_at, declarations_at, DeclHeld}
use Rattle.tasks.specs.declared.signature.Signature.{Signature}
use Rattle.scopes.specs.Names.{NamesOf, ScopeNames, is_declared, entries_of, innermost}
use Rattle.scopes.specs.declared.Table.{Table}
use Rattle.surface.specs.Lexeme.{Word}
use Rattle.name_resolution.specs.declared.NamingFault.{NamingFault}
use Rattle.name_resolution.specs.declared.NamingFault.TheVariants as names
use Rattle.name_resolution.specs.Naming.{scope_at, type_named, symbol_named}
use Rattle.name_resolution.specs.Where.{Where, NamesTree}
use Rattle.name_resolution.specs.variables.Seen.{SeenTree}
use Rattle.open_types.specs.Patterns.{Notes}
use Rattle.open_types.specs.Drafts.{match_at, MatchHeld}
use Rattle.elab_groups.specs.declared.parts.ElabFault.{ElabFault}
use Rattle.elab_groups.specs.declared.parts.ElabFault.TheVariants as elab
use Rattle.elab_groups.specs.declared.parts.solution.TypingFault.{TypingFault}
use Rattle.elab_groups.specs.declared.parts.made.Elaborated.{Elaborated}
use Rattle.elab_groups.specs.declared.parts.made.Place.{Place}
use Rattle.elab_groups.specs.parts.Elaborated.{IsTypingFault, elab_naming_fault, elab_typing_fault}
use Rattle.elab_groups.specs.parts.Entries.{tuple_in, wanting_tuples, IsSignature, AreScopes}
use Rattle.elab_groups.specs.parts.Declarations.{TokenName}

-- where a declaration stands: its theory's path, the names of the open scopes, its number, the
-- signature and the scopes
pub record Setting : Type 0 where
  pub theory : Word
  pub within : Word
  pub decl : ℕ
  pub symbols : List SymbolTree
  pub scope : NamesTree

-- what it gives: further entries, the scopes with the names that it makes, declarations, the
-- entries of its rigid type variables, and its matches in reading order
pub record Outcome : Type 0 where
  pub symbols : List SymbolTree
  pub scope : NamesTree
  pub decls : List DeclarationTree
  pub rigid : List ℕ
  pub matches : List (ℕ × List Tree)

-- what names mean over a signature
abbrev pub over : List SymbolTree → NamesTree → List Word → Where
over symbols names vars =
    record {
      symbols = symbols;
      types = type_named names;
      names = symbol_named names;
      tuples = tuple_in symbols;
      vars = vars;
    }

-- before the declaration
abbrev pub around : Setting → List Word → Where
around c vars = over c.symbols c.scope vars

-- with the constructors of the tuples that are seen in it
abbrev pub tuples_wanting : Setting → SeenTree → List SymbolTree
tuples_wanting c s = wanting_tuples c.symbols s.widths

abbrev pub where_tuples_are : Setting → SeenTree → Where
where_tuples_are c s = over (c.symbols ++ tuples_wanting c s) c.scope s.vars

abbrev pub full_name : Setting → TokenName → Word
full_name c x = c.within ++ x.name

-- whether the innermost scope declared a name in a table
abbrev pub declared_in : {A : Type 0} → NamesOf A → Table → Word → Bool
declared_in names t x = is_declared t x (entries_of names (innermost names))

-- a name is refused for want of memory, or where it is declared
abbrev pub IsNameRefused : Bool → ℕ → NamingFault → Type 0
IsNameRefused declared token names.Memory = Unit {0}
IsNameRefused declared token f = (declared ≡ true) × (f ≡ names.Duplicate token)

-- The first fault of the declaration of a number: of these names, or of types where no name is at
-- fault. Want of memory tells nothing
pub data IsRefusalFor (decl : ℕ) (first : Option NamingFault) (rigid : ℕ) (ns : Notes)
    (f : ElabFault) : Type 0 where
  wants_memory : f ≡ elab.Memory → IsRefusalFor decl first rigid ns f
  of_names : (g : NamingFault) → f ≡ elab_naming_fault decl g → first ≡ Some g
      → IsRefusalFor decl first rigid ns f
  of_types : (g : TypingFault) → f ≡ elab_typing_fault decl g → first ≡ None
      → IsTypingFault rigid ns g → IsRefusalFor decl first rigid ns f

-- A declaration without a fault of names gives an outcome: what is made, and what the signature and
-- the scopes have then
pub record IsElaboratedAs (Is : Outcome → Type 0) (first : Option NamingFault)
    (symbols : List SymbolTree) (g : Signature) (s' : List Tree) (g' : Signature)
    (scope' : ScopeNames) (made : Elaborated) : Type 0 where
  pub outcome : Outcome
  pub is : Is outcome
  pub named : first ≡ None
  pub symbols_are : symbols_at s' g'.symbols ≡ symbols ++ outcome.symbols
  pub ints : g'.ints ≡ g.ints
  pub scope : scope_at s' scope' ≡ outcome.scope
  pub decls : declarations_at s' made.decls ≡ outcome.decls
  pub rigid : made.rigid ≡ outcome.rigid
  pub matches : map (match_at s') made.matches ≡ outcome.matches

-- what is made is held, and the signature and the scopes are kept well
pub record IsKept (s : List Tree) (g : Signature) (names : ScopeNames)
    (made : Elaborated) : Type 0 where
  pub signature : IsSignature s g.symbols
  pub scopes : AreScopes s (length g.symbols) names
  pub decls : All (DeclHeld s) made.decls
  pub matches : All (MatchHeld s) made.matches

abbrev pub setting : Place → List Tree → Signature → ScopeNames → Setting
setting p s g names = record {
  theory = p.theory.now;
  within = p.within.now;
  decl = p.decl;
  symbols = symbols_at s g.symbols;
  scope = scope_at s names;
}

abbrev pub setting_where : Word → Word → ℕ → List Tree → Signature → ScopeNames → Setting
setting_where theory within at s g names =
    record {
      theory = theory;
      within = within;
      decl = at;
      symbols = symbols_at s g.symbols;
      scope = scope_at s names;
    }

abbrev pub rigid_types : List ℕ → List Tree
rigid_types ks = map (λ k. Leaf (HTyRigid k)) ks
