-- A theory that is copied in code: the map with the symbols that the copies make, what is asked
-- before, and what is known after.
use Rattle.std.specs.Prelude.{◌≡◌, ℕ, ◌<◌, List, ◌++◌, length, All, Option, IfSome}
use Rattle.tasks.specs.trees.Tree.{Tree}
use Rattle.tasks.specs.trees.Sorts.{sort_of}
use Rattle.tasks.specs.trees.declared.Sort.TheVariants.{Kind}
use Rattle.tasks.specs.Task.{SymbolTree}
use Rattle.tasks.specs.Meaning.{symbols_at, declarations_at}
use Rattle.theory_states.specs.Moves.{MoveTree}
use Rattle.surface.specs.Lexeme.{Word}
use Rattle.surface.specs.declared.declarations.Link.{Link}
use Rattle.clones.specs.Mapped.{Map}
use Rattle.clones.specs.Meaning.{map_at, MapHeld}
use Rattle.elab_groups.specs.open_types.Scoped.{IsScopedEntry}
use Rattle.theory_states.specs.declared.states.Opened.{Opened}
use Rattle.theory_states.specs.declared.states.Typed.{Typed}
use Rattle.theory_states.specs.States.{KnownTree, StateTree}
use Rattle.theory_states.specs.Meaning.{state_at, StateHeld}
use Rattle.clones.specs.declared.clone_elements.elements.Replacement.{Replacement}
use Rattle.clones.specs.clone_elements.Replacements.{kept}
use Rattle.clones.specs.clone_elements.Meaning.{TypeForHeld}
use Rattle.clones.specs.clone_copies.Origins.{origin_of}
use Rattle.clones.specs.clone_copies.Entries.{entries_copied}
use Rattle.clones.specs.clone_copies.Places.{Copying, with_places}
use Rattle.clones.specs.clone_copies.Moves.{moves_mapped}
use Rattle.theories.specs.declared.cloning.copying.Renaming.{Renaming}
use Rattle.theories.specs.declared.cloning.own.Own.{Own}
use Rattle.theories.specs.cloning.Cloned.{with_names}
use Rattle.theories.specs.cloning.Owned.{IsOwnOf, known_theory_at}
use Rattle.theories.specs.cloning.ReadElements.{kept_by, map_by, copying_by}

-- the map of a clone, and the symbols that become new ones, in order
pub record IsRenaming (s : List Tree) (m : Map) (ks : List ℕ) (r : Renaming) : Type 0 where
  pub is : map_at s r.morphism ≡ m
  pub held : MapHeld s r.morphism
  pub symbols : r.symbols.items ≡ ks

-- the map by which elements replace what a theory has, of the theory at a place
abbrev pub IsRenamingBy : List Tree → Typed → ℕ → Replacement → Renaming → Type 0
IsRenamingBy s t k p =
    IsRenaming s (map_by s (symbols_at s t.sig.symbols)
    (origin_of (declarations_at s t.decls) (known_theory_at s t k)) p)
    (kept_by (origin_of (declarations_at s t.decls) (known_theory_at s t k)) p)

-- ---- entries as a signature keeps them
-- the types of an entry are types
pub record HasKinds (e : SymbolTree) : Type 0 where
  pub args : All (λ (t : Tree). sort_of t ≡ Kind) e.args
  pub result : IfSome e.result (λ (t : Tree). sort_of t ≡ Kind)

-- and hold its own type variables alone
pub record IsKeptEntry (e : SymbolTree) : Type 0 where
  pub kinds : HasKinds e
  pub scoped : IsScopedEntry e

-- ---- the copies
abbrev pub entries_made : KnownTree → Copying → StateTree → List SymbolTree
entries_made t x c =
    entries_copied c.symbols x.mapping c.opened.path x.within (kept (origin_of c.decls t) x.effects)

-- with their entries, and with all of them
abbrev pub with_made : KnownTree → Copying → StateTree → StateTree
with_made t x c = record c { symbols = c.symbols ++ entries_made t x c }

abbrev pub with_theory_copies : KnownTree → Copying → StateTree → StateTree
with_theory_copies t x c = with_places x t.visible (with_made t x c)

-- a theory can be copied by what elements replace
pub record IsCopyReady (s : List Tree) (t : Typed) (o : Opened) (k : ℕ) (it : Own) (p : Replacement)
    (within : Word) : Type 0 where
  pub held : StateHeld s t o
  pub there : k < length t.known
  pub own : IsOwnOf (declarations_at s t.decls) (known_theory_at s t k) it
  pub types : All (TypeForHeld s) p.types.items
  pub kept : All IsKeptEntry (entries_made (known_theory_at s t k)
      (copying_by s (state_at s t o) (known_theory_at s t k) p within) (state_at s t o))

-- its contents are copied, and these names are passed on
pub record AreContents (t : KnownTree) (x : Copying) (moves : List MoveTree)
    (c c' : StateTree) : Type 0 where
  pub mapped : moves ≡ moves_mapped c.symbols x.mapping t.moves
  pub is : c' ≡ with_theory_copies t x c

-- it is copied, and its names come into scopes
abbrev pub with_theory : Link → Word → Option Word → KnownTree → Copying → StateTree → StateTree
with_theory l last alias t x c =
    with_names l last alias (moves_mapped c.symbols x.mapping t.moves) (with_theory_copies t x c)
