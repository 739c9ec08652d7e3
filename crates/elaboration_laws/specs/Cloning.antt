-- Declarations that are copied or taken over under a map of symbols, one after the other: what
-- those before became may be named.
use Rattle.std.specs.Prelude.{◌≡◌, ◌≢◌, ℕ, ◌<◌, Bool, true, List, [], length, slice_get, All, Some, None, IsSomeAnd, IsTrue}
use Rattle.elab_groups.specs.tasks.declared.signature.SymbolKind.TheVariants.{Kind, Constructor}
use Rattle.elab_groups.specs.tasks.Task.{SymbolTree, symbol_or, DeclarationTree, made_by}
use Rattle.elab_groups.specs.tasks.Roles.{is_constructor, role_in}
use Rattle.elab_groups.specs.tasks.Vocabulary.{Vocabulary}
use Rattle.elab_groups.specs.tasks.Typing.{entry, MakesTerms}
use Rattle.clones.specs.Mapped.{Map}
use Rattle.clones.specs.Copies.{entry_copied}
use Rattle.elaboration_laws.specs.Lists.{is_built, after}
use Rattle.elaboration_laws.specs.Tasks.{AreSound}
use Rattle.elaboration_laws.specs.Morphisms.{TypeBecomes, KindBecomes, HasMappedTypes, IsMorphism}

-- a symbol with this entry becomes one that may be named, with the mapped signature; a constructor
-- of patterns one of patterns
pub record IsImage (w : Vocabulary) (m : Map) (e : SymbolTree) (k : ℕ)
    (pattern : Bool) : Type 0 where
  pub type : e.kind ≡ Kind → TypeBecomes w e.vars (m.symbols k) (m.types k)
  pub symbol : e.kind ≢ Kind → IsTrue (w.usable (m.symbols k))
      × IsSomeAnd (entry w (m.symbols k)) (λ j. KindBecomes e.kind j.kind × HasMappedTypes m e j)
  pub constructor : IsTrue pattern → e.kind ≡ Constructor
      → IsTrue (w.matched (m.symbols k))
      × IsSomeAnd (entry w (m.symbols k)) (λ j. (j.kind ≡ Constructor) × HasMappedTypes m e j)

-- a symbol becomes a new one, which has the copy of its entry, and which no other symbol becomes
pub record BecomesNew (xs symbols : List SymbolTree) (m : Map) (theory within : List ℕ)
    (k : ℕ) : Type 0 where
  pub kept : m.types k ≡ None
  pub entry : slice_get symbols (m.symbols k) ≡ Some (entry_copied m theory within (symbol_or xs k))
  pub alone : (j : ℕ) → j < length xs → m.symbols j ≡ m.symbols k → j ≡ k

-- declarations over a signature, and what they became over another one
pub record IsCloning (xs : List SymbolTree) (done : List DeclarationTree) (m : Map)
    (symbols : List SymbolTree) (now : List DeclarationTree) : Type 0 where
  pub source : AreSound xs done
  pub sound : AreSound symbols now
  pub morphism : IsMorphism (after xs [] done) (after symbols [] now) m

-- a map leaves a symbol as it is
pub record IsFixed (m : Map) (k : ℕ) : Type 0 where
  pub symbol : m.symbols k ≡ k
  pub type : m.types k ≡ None

-- what is built in stays
abbrev pub KeepsBuilt : List SymbolTree → Map → Type 0
KeepsBuilt xs m =
    (k : ℕ) (e : SymbolTree) → slice_get xs k ≡ Some e → is_built e ≡ true → IsFixed m k

-- a symbol that a declaration makes: where it makes terms it has a result, and as a constructor it
-- is one of an algebraic type
pub record IsMadeRight (symbols : List SymbolTree) (d : DeclarationTree) (k : ℕ) : Type 0 where
  pub result : MakesTerms (symbol_or symbols k).kind
      → IsSomeAnd (symbol_or symbols k).result (λ t. Unit {0})
  pub constructor : (symbol_or symbols k).kind ≡ Constructor
      → IsTrue (is_constructor (role_in k d.body))

abbrev pub AreMadeRight : List SymbolTree → List DeclarationTree → Type 0
AreMadeRight symbols ds =
    All (λ (d : DeclarationTree). All (IsMadeRight symbols d) (made_by d.body)) ds
