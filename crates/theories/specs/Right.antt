-- What holds before and after each declaration: all numbers are held, and all that is known is
-- typed.
use Rattle.std.specs.Prelude.{◌≡◌, ℕ, false, List, [], map}
use Rattle.std.specs.Str.{bytes_eq}
use Rattle.tasks.specs.trees.Tree.{Tree}
use Rattle.tasks.specs.Meaning.{symbols_at, declarations_at}
use Rattle.tasks.specs.Vocabulary.{is_empty}
use Rattle.elaboration_laws.specs.elab_groups.parts.Entries.{builtin}
use Rattle.theory_states.specs.declared.states.Opened.{Opened}
use Rattle.theory_states.specs.declared.states.Typed.{Typed}
use Rattle.theory_states.specs.States.{StateTree, opened_empty}
use Rattle.theory_states.specs.Meaning.{known_at, state_at, TypedHeld, StateHeld}
use Rattle.elaboration_laws.specs.Placed.{ArePlaced}
use Rattle.elaboration_laws.specs.TypedStates.{AreTypedTheories, IsTypedState}

pub record IsStateRight (s : List Tree) (t : Typed) (o : Opened) : Type 0 where
  pub held : StateHeld s t o
  pub typed : IsTypedState (state_at s t o)
  pub placed : ArePlaced (symbols_at s t.sig.symbols)

-- between two theories, before the declaration of a number
abbrev pub between_at : List Tree → Typed → ℕ → StateTree
between_at s t n = record {
  symbols = symbols_at s t.sig.symbols;
  decls = declarations_at s t.decls;
  known =
      map (known_at s) t.known;
  opened = opened_empty [];
  number = n;
}

pub record AreTheoriesRight (s : List Tree) (t : Typed) : Type 0 where
  pub held : TypedHeld s t
  pub typed : AreTypedTheories (between_at s t 0)
  pub placed : ArePlaced (symbols_at s t.sig.symbols)

-- a path that a theory of a source or of a library may have
pub record IsPath (path : List ℕ) : Type 0 where
  pub named : is_empty path ≡ false
  pub other : bytes_eq path builtin ≡ false
