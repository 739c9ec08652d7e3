-- Two implications under a condition and its negation, by their numbers in a draft.
use Rattle.std.specs.Prelude.{◌≡◌}
use Rattle.tasks.specs.trees.Node.{tree_at}
use Rattle.evidence.specs.Drafts.{DraftTree}
use Rattle.congruence.specs.declared.conditionals.Conditional.{Conditional}
use Rattle.congruence.specs.Conditionals.{IsConditional}
use Rattle.tr_if.specs.conditionals.Conditionals.{implications}

-- the whole is `(c -> a) /\ (not c -> b)`, of formulas
pub record AreImplications (d : DraftTree) (k : Conditional) : Type 0 where
  pub parts : IsConditional d k
  pub is : tree_at d.trees k.whole
      ≡ implications (tree_at d.trees k.condition) (tree_at d.trees k.then_part)
      (tree_at d.trees k.else_part)
