use Rattle.tasks.specs.Task.{neg}
use Rattle.std.proofs.Common.{[], ◌∷◌}
use Rattle.evidence.proofs.proof_scripts.Connectives.{one_side, two_side, both_sides}
use Rattle.evidence.proofs.proof_scripts.sides.where_true.Goals as goal

pub returns-in-Imp : goal.returns-in-Imp
returns-in-Imp c = λ d x y h. rw c.in-Imp.is (both_sides d _ ((neg x ∷ []) ∷ []) ((y ∷ []) ∷ []) (one_side d _ _ (neg x) c.one_formula-in-Imp.ensures h.no_left h.no_left_is) (one_side d _ _ (y) c.one_formula-in-Imp-2.ensures h.right h.right_is))

pub returns-in-Iff : goal.returns-in-Iff
returns-in-Iff c = λ d x y h. rw c.in-Iff.is (both_sides d _ ((x ∷ y ∷ []) ∷ []) ((neg x ∷ neg y ∷ []) ∷ []) (two_side d _ _ _ (x) (y) c.two_formulas-in-Iff.ensures h.left h.right h.left_is h.right_is) (two_side d _ _ _ (neg x) (neg y) c.two_formulas-in-Iff-2.ensures h.no_left h.no_right h.no_left_is h.no_right_is))
