-- Terms that are equal by a step.
use Rattle.std.specs.Prelude.{◌≡◌, [], ◌∷◌}
use Rattle.trees.specs.declared.Sort.TheVariants.{Term}
use Rattle.trees.specs.Node.{tree_at}
use Rattle.trees.specs.Sorts.{sort_of}
use Rattle.tasks.specs.Task.{neg}
use Rattle.rules.specs.Forms.{equal}
use Rattle.evidence.specs.Drafts.{DraftTree, Refutes}
use Rattle.congruence.specs.declared.replacing.EqualTerms.{EqualTerms}
use Rattle.congruence.specs.Alike.{ArePair}

-- two closed terms of one type, and a step that refutes the negation of their equation
pub record AreEqual (d : DraftTree) (e : EqualTerms) : Type 0 where
  pub pair : ArePair d e.a e.b
  pub term : sort_of (tree_at d.trees e.a) ≡ Term
  pub step : Refutes d e.step (neg (equal (tree_at d.trees e.a) (tree_at d.trees e.b)) ∷ [])
