-- Maps between vocabularies: what one may name becomes what the other may name, with a mapped
-- signature (signature morphisms).
use Rattle.std.specs.Prelude.{◌≡◌, ◌≢◌, ◌⊎◌, ℕ, ◌<◌, map, length, Option, Some, None, IsSomeAnd, IsTrue}
use Rattle.std.specs.Option.{option_map}
use Rattle.elab_groups.specs.trees.Tree.{Tree}
use Rattle.elab_groups.specs.trees.Sorts.{int_type}
use Rattle.elab_groups.specs.tasks.declared.signature.SymbolKind.{SymbolKind}
use Rattle.elab_groups.specs.tasks.declared.signature.SymbolKind.TheVariants.{Kind, Predicate, Constructor}
use Rattle.elab_groups.specs.tasks.Task.{SymbolTree, symbol_or}
use Rattle.elab_groups.specs.tasks.Vocabulary.{Vocabulary}
use Rattle.elab_groups.specs.tasks.Typing.{entry, IsRigid, IsTypeSymbol, MakesTerms}
use Rattle.elab_groups.specs.tasks.Valid.{IsTypeIn, HasTypes}
use Rattle.clones.specs.Mapped.{Map, mapped}

-- an entry with as many type variables and the mapped types of another
pub record HasMappedTypes (m : Map) (e made : SymbolTree) : Type 0 where
  pub vars : made.vars ≡ e.vars
  pub args : made.args ≡ map (mapped m) e.args
  pub result : made.result ≡ option_map (mapped m) e.result

-- a predicate stays a predicate, and what makes terms makes terms: an abstract function may become
-- a constructor
abbrev pub KindBecomes : SymbolKind → SymbolKind → Type 0
KindBecomes Kind k = k ≡ Kind
KindBecomes Predicate k = k ≡ Predicate
KindBecomes _ k = MakesTerms k

-- a type symbol with so many arguments becomes a type symbol with as many, or a type at as many
-- type variables
abbrev pub TypeBecomes : Vocabulary → ℕ → ℕ → Option Tree → Type 0
TypeBecomes w n j None = IsTypeSymbol w j n
TypeBecomes w n j (Some t) = IsTypeIn w n t

-- so for each type symbol, and type variables of goals stay
pub record MapsTypes (v w : Vocabulary) (m : Map) : Type 0 where
  pub rigid : (k : ℕ) → IsRigid v k → IsRigid w k
  pub types : (k n : ℕ) → IsTypeSymbol v k n → TypeBecomes w n (m.symbols k) (m.types k)

-- a symbol that may be used, and that is no type, becomes one with the mapped signature; a
-- constructor of patterns stays one
pub record IsMorphism (v w : Vocabulary) (m : Map) : Type 0 where
  pub int : mapped m int_type ≡ int_type
  pub types : MapsTypes v w m
  pub symbols : (k : ℕ) (e : SymbolTree) → entry v k ≡ Some e → IsTrue (v.usable k) → e.kind ≢ Kind
      → IsTrue (w.usable (m.symbols k))
      × IsSomeAnd (entry w (m.symbols k)) (λ j. KindBecomes e.kind j.kind × HasMappedTypes m e j)
  pub patterns : (k : ℕ) (e : SymbolTree) → entry v k ≡ Some e → IsTrue (v.matched k)
      → e.kind ≡ Constructor → IsTrue (w.matched (m.symbols k))
      × IsSomeAnd (entry w (m.symbols k)) (λ j. (j.kind ≡ Constructor) × HasMappedTypes m e j)

-- each symbol that may be named, and is no type, has types of the vocabulary
abbrev pub AreTyped : Vocabulary → Type 0
AreTyped v = (k : ℕ) (e : SymbolTree) → entry v k ≡ Some e
    → IsTrue (v.usable k) ⊎ IsTrue (v.matched k) → e.kind ≢ Kind → HasTypes v e

-- a symbol becomes a new one of its kind, which no other symbol becomes
pub record IsCopied (v w : Vocabulary) (m : Map) (k : ℕ) : Type 0 where
  pub kept : m.types k ≡ None
  pub there : m.symbols k < length w.symbols
  pub kind : (symbol_or w.symbols (m.symbols k)).kind ≡ (symbol_or v.symbols k).kind
  pub types : HasMappedTypes m (symbol_or v.symbols k) (symbol_or w.symbols (m.symbols k))
  pub alone : (j : ℕ) → j < length v.symbols → m.symbols j ≡ m.symbols k → j ≡ k
