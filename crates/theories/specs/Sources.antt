-- Theories over one signature that are sound.
use Rattle.std.specs.Prelude.{◌≡◌, ℕ}
use Rattle.tasks.specs.Valid.{AreInts}
use Rattle.elaboration_laws.specs.theory_states.goal_tasks.Theories.{TheoriesTree}
use Rattle.theory_states.specs.States.{StateTree}
use Rattle.elaboration_laws.specs.Sound.{AreSoundTheories}
use Rattle.theories.specs.Ints.{int_entries}
use Rattle.theories.specs.Files.{theories_of}

-- they are those that are known in a state, where all that is known is sound
pub record AreSoundIn (all : TheoriesTree) : Type 0 where
  pub state : StateTree
  pub embedded : ℕ
  pub are : all ≡ theories_of embedded state
  pub ints : AreInts state.symbols int_entries
  pub sound : AreSoundTheories state.symbols state.decls state.known
