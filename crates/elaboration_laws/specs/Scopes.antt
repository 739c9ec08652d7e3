-- Signatures and scopes that are typed: entries of types over the signature, and names that stand
-- for entries of their kind.
use Rattle.std.specs.Prelude.{◌≡◌, ◌≢◌, ℕ, ◌<◌, ◌≤◌, Bool, true, false, not, ◌&&◌, List, length, slice_get, All, Some, IsSomeAnd, IsTrue}
use Rattle.elab_groups.specs.trees.Tree.{Tree}
use Rattle.std.specs.Str.{bytes_eq}
use Rattle.elab_groups.specs.tasks.declared.signature.SymbolKind.{SymbolKind}
use Rattle.elab_groups.specs.tasks.declared.signature.SymbolKind.TheVariants.{Kind, Constructor, Projection}
use Rattle.elab_groups.specs.tasks.Task.{SymbolTree, int_symbol, symbol_or}
use Rattle.elab_groups.specs.tasks.Vocabulary.{Vocabulary, is_empty}
use Rattle.elab_groups.specs.tasks.Typing.{entry, MakesTerms}
use Rattle.elab_groups.specs.tasks.Valid.{IsTypeIn, HasTypes}
use Rattle.elab_groups.specs.scopes.Names.{EntryOf}
use Rattle.elab_groups.specs.scopes.declared.Table.{Table}
use Rattle.elab_groups.specs.scopes.declared.Table.TheVariants.{Types, Symbols}
use Rattle.elab_groups.specs.scopes.declared.Referent.TheVariants as stands
use Rattle.elab_groups.specs.name_resolution.Records.{constructor_before}
use Rattle.elab_groups.specs.name_resolution.Where.{MeaningTree, NamesTree}
use Rattle.elab_groups.specs.open_types.Scoped.{IsScopedEntry}
use Rattle.elab_groups.specs.parts.Entries.{builtin, is_tuple}
use Rattle.elaboration_laws.specs.Signature.{with_entries}

-- its types are over the signature, and where it makes terms it has a result
pub record IsTypedEntry (v : Vocabulary) (e : SymbolTree) : Type 0 where
  pub types : HasTypes v e
  pub result : MakesTerms e.kind → IsSomeAnd e.result (λ t. Unit {0})

-- The first entry is `int`. The types of each entry hold its own type variables alone, and those of
-- an entry that may be named are over the vocabulary; of these a pattern may name each constructor,
-- and no other entry; tuples may be named. Where a field may be named, so may the constructor
-- before it.
pub record IsTypedSignature (base : Vocabulary) (symbols : List SymbolTree) : Type 0 where
  pub int : slice_get symbols 0 ≡ Some int_symbol
  pub int_usable : IsTrue (base.usable 0)
  pub scoped : All IsScopedEntry symbols
  pub entries : (k : ℕ) (e : SymbolTree) → slice_get symbols k ≡ Some e → IsTrue (base.usable k)
      → IsTypedEntry (with_entries base symbols) e
  pub constructors : (k : ℕ) (e : SymbolTree) → slice_get symbols k ≡ Some e
      → IsTrue (base.usable k) → e.kind ≡ Constructor → IsTrue (base.matched k)
  pub patterns : (k : ℕ) (e : SymbolTree) → slice_get symbols k ≡ Some e → IsTrue (base.matched k)
      → IsTrue (base.usable k)
  pub tuples : (n k : ℕ) (e : SymbolTree) → slice_get symbols k ≡ Some e → is_tuple n e ≡ true
      → IsTrue (base.usable k)
  pub records : (k : ℕ) → k < length symbols → IsTrue (base.usable k)
      → (symbol_or symbols (constructor_before symbols k)).kind ≡ Constructor
      → IsTrue (base.usable (constructor_before symbols k))

abbrev pub is_projection_kind : SymbolKind → Bool
is_projection_kind Projection = true
is_projection_kind _ = false

-- what a source may name: an entry with a theory, but for the projections of tuples
abbrev pub is_nameable : SymbolTree → Bool
is_nameable e =
    not (is_empty e.theory) && not (is_projection_kind e.kind && bytes_eq e.theory builtin)

-- it may be named, in a pattern if it is a constructor
pub record IsNamedBy (base : Vocabulary) (k : ℕ) (e : SymbolTree) : Type 0 where
  pub usable : IsTrue (is_nameable e) → IsTrue (base.usable k)
  pub matched : e.kind ≡ Constructor → IsTrue (base.matched k)
  pub pattern : IsTrue (base.matched k) → IsTrue (base.usable k)

-- so may each entry from a number on
abbrev pub NamesNew : Vocabulary → ℕ → List SymbolTree → Type 0
NamesNew base n symbols =
    (k : ℕ) (e : SymbolTree) → n ≤ k → slice_get symbols k ≡ Some e → IsNamedBy base k e

-- it has the other's entries, and may name what the other may name of them
pub record IsSubvocabulary (v w : Vocabulary) : Type 0 where
  pub entries : (k : ℕ) (e : SymbolTree) → entry v k ≡ Some e → entry w k ≡ Some e
  pub rigid : (k : ℕ) (e : SymbolTree) → entry v k ≡ Some e → IsTrue (v.rigid k)
      → IsTrue (w.rigid k)
  pub usable : (k : ℕ) (e : SymbolTree) → entry v k ≡ Some e → IsTrue (v.usable k)
      → IsTrue (w.usable k)
  pub matched : (k : ℕ) (e : SymbolTree) → entry v k ≡ Some e → IsTrue (v.matched k)
      → IsTrue (w.matched k)

-- they may name the same of the numbers below one
pub record AgreeBelow (v w : Vocabulary) (n : ℕ) : Type 0 where
  pub rigid : (k : ℕ) → k < n → v.rigid k ≡ w.rigid k
  pub usable : (k : ℕ) → k < n → v.usable k ≡ w.usable k
  pub matched : (k : ℕ) → k < n → v.matched k ≡ w.matched k

-- an entry that may be named, of a type symbol
pub record IsTypeNumber (v : Vocabulary) (k : ℕ) : Type 0 where
  pub there : k < length v.symbols
  pub usable : IsTrue (v.usable k)
  pub kind : (symbol_or v.symbols k).kind ≡ Kind

-- of another symbol
pub record IsSymbolNumber (v : Vocabulary) (k : ℕ) : Type 0 where
  pub there : k < length v.symbols
  pub usable : IsTrue (v.usable k)
  pub kind : (symbol_or v.symbols k).kind ≢ Kind

-- what the name of a type stands for: a type symbol, or a type
abbrev pub IsTypeName : Vocabulary → MeaningTree → Type 0
IsTypeName v (stands.Entry k) = IsTypeNumber v k
IsTypeName v (stands.Alias vars t) = IsTypeIn v vars t

-- that of another symbol stands for no type
abbrev pub IsNameOfSymbol : Vocabulary → MeaningTree → Type 0
IsNameOfSymbol v (stands.Entry k) = IsSymbolNumber v k
IsNameOfSymbol v (stands.Alias vars t) = ⊥

-- nor does that of a proposition or a scope
abbrev pub IsEntryName : MeaningTree → Type 0
IsEntryName (stands.Entry k) = Unit {0}
IsEntryName (stands.Alias vars t) = ⊥

-- what a name in a table stands for
abbrev pub IsTypedThing : Vocabulary → Table → MeaningTree → Type 0
IsTypedThing v Types thing = IsTypeName v thing
IsTypedThing v Symbols thing = IsNameOfSymbol v thing
IsTypedThing v _ thing = IsEntryName thing

abbrev pub AreTypedScopes : Vocabulary → NamesTree → Type 0
AreTypedScopes v names = All
    (λ (es : List (EntryOf Tree)). All (λ (e : EntryOf Tree). IsTypedThing v e.table e.thing) es)
    names.entries
