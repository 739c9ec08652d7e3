-- A place as a store grows.
use Rattle.std.proofs.Common.{◌≡◌, ◌↔◌, Bool, IsTrue, List, get_or, ap}
use Rattle.tasks.specs.trees.Tree.{Tree}
use Rattle.tasks.specs.trees.Node.{Grows}
use Rattle.tasks.proofs.Growth.{all_held_later, trees_later, task_held_later}
use Rattle.rules.specs.Trees.{sequents}
use Rattle.rules.specs.Rows.{Adds}
use Rattle.kernel.proofs.Growth.{steps_held_later, steps_later}
use Rattle.step_reading.specs.declared.quick_steps.place.Place.{Place}
use Rattle.step_reading.specs.quick_steps.Places.{sequent_here, premises_here, PlaceHeld}

module _ (s s' : List Tree) (g : Grows s s') (p : Place) (h : PlaceHeld s p) where
  pub sequent_later : sequent_here s' p ≡ sequent_here s p
  sequent_later = trees_later s s' g p.sequent.now h.sequent

  pub premises_later : premises_here s' p ≡ premises_here s p
  premises_later = ap (λ l. sequents l p.premises.now) (steps_later s s' g p.before.now h.before)

  pub place_later : PlaceHeld s' p
  place_later = record {
    look = record { task = task_held_later s s' g p.look.now.task.now h.look.task; index = h.look.index };
    sequent = all_held_later s s' g p.sequent.now h.sequent;
    closed = λ k d l. rw (g.same (get_or p.sequent.now k d).0 (h.sequent k d l)) (h.closed k d l);
    before = steps_held_later s s' g p.before.now h.before;
    earlier = h.earlier;
  }

  -- what the premises add over the grown store
  pub adds_later : (b : Bool) (x : List (List Tree)) → IsTrue b ↔ Adds (sequent_here s' p) (premises_here s' p) x → IsTrue b ↔ Adds (sequent_here s p) (premises_here s p) x
  adds_later b x = rw (sequent_later, premises_later) (λ k. k)
