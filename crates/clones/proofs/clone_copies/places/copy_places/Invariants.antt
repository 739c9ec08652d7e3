use Rattle.std.proofs.Common.{◌≡◌, ◌≤◌, drop, length}
use Rattle.tasks.specs.trees.Node.{Grows}
use Rattle.clones.specs.Meaning.{map_at, AreKnown}
use Rattle.theory_states.specs.Meaning.{state_at, StateHeld}
use Rattle.clones.specs.clone_copies.Places.{with_places}
use Rattle.clones.specs.clone_copies.Meaning.{copying_at}
use Rattle.clones.proofs.clone_copies.places.copy_places.Given as goal

abbrev pub invariant-loop-place : goal.invariant-loop-place
invariant-loop-place l = record {
  grows : Grows l.initial.store l.store;
  known : AreKnown (map_at l.initial.store l.given.morphism.now) l.store l.trees;
  held : StateHeld l.store l.typed l.open;
  longer : length l.initial.typed.decls ≤ length l.typed.decls;
  state : with_places (copying_at l.initial.store l.given) (drop l.place-index l.places) (state_at l.store l.typed l.open) ≡ with_places (copying_at l.initial.store l.given) l.places (state_at l.initial.store l.initial.typed l.initial.open);
}
