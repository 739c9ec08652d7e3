use Rattle.std.proofs.Common.{◌≡◌, take}
use Rattle.theory_states.specs.States.{joined_places}
use Rattle.theory_states.proofs.states.Opened.join.Given as goal

abbrev pub invariant-loop-place : goal.invariant-loop-place
invariant-loop-place l = record {
  visible : l.self.visible.keys ≡ joined_places l.initial.self.visible.keys (take l.place-index l.places);
  others : l.self ≡ record l.initial.self { visible = l.self.visible };
}
