use Rattle.tasks.specs.Task.{neg}
use Rattle.std.proofs.Common.{[], ◌∷◌}
use Rattle.evidence.proofs.proof_scripts.Connectives.{no_side, two_side, both_sides}
use Rattle.evidence.proofs.proof_scripts.sides.where_false.Goals as goal

pub returns-in-Imp : goal.returns-in-Imp
returns-in-Imp c = λ d x y h. rw c.in-Imp.is (both_sides d _ ((x ∷ neg y ∷ []) ∷ []) [] (two_side d _ _ _ (x) (neg y) c.two_formulas-in-Imp.ensures h.left h.no_right h.left_is h.no_right_is) (no_side d))

pub returns-in-Iff : goal.returns-in-Iff
returns-in-Iff c = λ d x y h. rw c.in-Iff.is (both_sides d _ ((x ∷ neg y ∷ []) ∷ []) ((neg x ∷ y ∷ []) ∷ []) (two_side d _ _ _ (x) (neg y) c.two_formulas-in-Iff.ensures h.left h.no_right h.left_is h.no_right_is) (two_side d _ _ _ (neg x) (y) c.two_formulas-in-Iff-2.ensures h.no_left h.right h.no_left_is h.right_is))
