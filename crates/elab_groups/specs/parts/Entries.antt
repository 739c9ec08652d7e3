-- What a signature and scopes keep, and the entries of a signature (Why3 manual, "logical
-- declarations").
use Rattle.std.specs.Prelude.{◌≡◌, ℕ, suc, ◌<◌, List, [], ◌∷◌, ◌++◌, slice_get, All, Some}
use Rattle.tasks.specs.trees.Tree.{Tree}
use Rattle.tasks.specs.trees.Node.{tree_at}
use Rattle.tasks.specs.trees.Facts.{TyVarsBelow}
use Rattle.tasks.specs.declared.signature.SymbolInfo.{SymbolInfo}
use Rattle.tasks.specs.declared.signature.SymbolKind.TheVariants.{Constructor, Projection}
use Rattle.tasks.specs.declared.signature.Signature.{Signature}
use Rattle.tasks.specs.Task.{SymbolTree, int_symbol}
use Rattle.tasks.specs.Meaning.{symbols_at}
use Rattle.surface.specs.Lexeme.{Word}
use Rattle.scopes.specs.Names.{ScopeNames, ScopeEntry, TypeName}
use Rattle.scopes.specs.declared.Table.{Table}
use Rattle.scopes.specs.declared.Table.TheVariants.{Types, Symbols, Propositions, Scopes}
use Rattle.scopes.specs.declared.Referent.TheVariants as stands
pub use Rattle.tasks.specs.Entries.{type_entry, projection_name, projections, constructor_entries, builtin, is_tuple, tuple_from, tuple_in, tuple_entries, wanting_tuple, wanting_tuples}
use Rattle.open_types.specs.Scoped.{IsScopedEntry}
use Rattle.open_types.specs.Drafts.{HoldsType, SymbolTyped}

-- ---- what a signature and scopes keep
-- the types of each entry are types at its own type variables; the first entry is `int`
pub record IsSignature (s : List Tree) (is : List SymbolInfo) : Type 0 where
  pub int : slice_get (symbols_at s is) 0 ≡ Some int_symbol
  pub typed : All (SymbolTyped s) is
  pub scoped : All IsScopedEntry (symbols_at s is)

-- further entries come after those of a signature, which else stays
pub record IsExtended (s : List Tree) (g : Signature) (s' : List Tree) (g' : Signature)
    (more : List SymbolTree) : Type 0 where
  pub symbols : symbols_at s' g'.symbols ≡ symbols_at s g.symbols ++ more
  pub signature : IsSignature s' g'.symbols
  pub ints : g'.ints ≡ g.ints

-- a name of a type stands for one of so many entries, or for a type at its own type variables
abbrev pub IsTypeNameMeaning : List Tree → ℕ → TypeName → Type 0
IsTypeNameMeaning s count (stands.Entry k) = k < count
IsTypeNameMeaning s count (stands.Alias vars ty) =
    HoldsType s (record { 0 = ty }) × TyVarsBelow vars (tree_at s (record { 0 = ty }))

-- a name of another table stands for an entry, a proposition or a scope, by its number
abbrev pub IsSymbolMeaning : ℕ → TypeName → Type 0
IsSymbolMeaning count (stands.Entry k) = k < count
IsSymbolMeaning count (stands.Alias vars ty) = ⊥

abbrev pub IsNumber : TypeName → Type 0
IsNumber (stands.Entry k) = Unit {0}
IsNumber (stands.Alias vars ty) = ⊥

abbrev pub IsThing : List Tree → ℕ → Table → TypeName → Type 0
IsThing s count Types thing = IsTypeNameMeaning s count thing
IsThing s count Symbols thing = IsSymbolMeaning count thing
IsThing s count Propositions thing = IsNumber thing
IsThing s count Scopes thing = IsNumber thing

abbrev pub IsEntry : List Tree → ℕ → ScopeEntry → Type 0
IsEntry s count e = IsThing s count e.table e.thing

-- each name of the tables of types and symbols stands for one of so many entries, or for a type
abbrev pub AreScopes : List Tree → ℕ → ScopeNames → Type 0
AreScopes s count names = All (λ (es : List ScopeEntry). All (IsEntry s count) es) names.entries

-- ---- constructors with fields, of which some have names
-- A projection has its field's name, or else that of the constructor with the field's place: it is
-- `C'2` for the second field of `C` where that has no name.
abbrev pub field_name : Word → Word → ℕ → Word → Word
field_name within constructor i [] = projection_name (within ++ constructor) i
field_name within constructor i (x ∷ xs) = within ++ x ∷ xs

-- the projection to a field, the i-th
abbrev pub field_entry : Word → Word → Word → ℕ → Tree → ℕ → Word → Tree → SymbolTree
field_entry theory within constructor vars type i word field = record {
  theory = theory;
  name = field_name within constructor i word;
  kind = Projection;
  vars =
      vars;
  args = type ∷ [];
  result = Some field;
}

abbrev pub first_word : List Word → Word
first_word [] = []
first_word (w ∷ ws) = w

abbrev pub other_words : List Word → List Word
other_words [] = []
other_words (w ∷ ws) = ws

-- those to fields from the i-th on, with their words, of which one is empty where a field has no
-- name
abbrev pub field_entries : Word → Word → Word → ℕ → Tree → ℕ → List Word → List Tree
    → List SymbolTree
field_entries theory within constructor vars type i words [] = []
field_entries theory within constructor vars type i words (t ∷ ts) =
    field_entry theory within constructor vars type i (first_word words) t
    ∷ field_entries theory within constructor vars type (suc i) (other_words words) ts

-- a constructor of a type, before its projections
abbrev pub named_entries : Word → Word → Word → ℕ → Tree → List Word → List Tree → List SymbolTree
named_entries theory within constructor vars type words fields =
    record {
      theory = theory;
      name = within ++ constructor;
      kind = Constructor;
      vars = vars;
      args =
          fields;
      result = Some type;
    } ∷ field_entries theory within constructor vars type 1 words fields
