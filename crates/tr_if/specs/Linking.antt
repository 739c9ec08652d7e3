-- Links of what a conditional is alike under its condition and under the negation of that, by
-- numbers in a draft.
use Rattle.std.specs.Prelude.{ℕ, List}
use Rattle.tasks.specs.trees.declared.TermId.{TermId}
use Rattle.tasks.specs.trees.Node.{tree_at}
use Rattle.evidence.specs.Drafts.{DraftTree}
use Rattle.congruence.specs.declared.conditionals.Conditional.{Conditional}
use Rattle.walking.specs.Places.{IsInstanceAt, IsLinkOf}
use Rattle.tr_if.specs.declared.linking.LinkedParts.{LinkedParts}

pub record AreLinkedParts (d : DraftTree) (env : List TermId) (left : Conditional) (p : LinkedParts)
    (fresh : ℕ) : Type 0 where
  pub condition : IsInstanceAt d env p.condition left.condition fresh
  pub one : IsLinkOf d env left.then_part fresh (tree_at d.trees p.one.image) p.one
  pub two : IsLinkOf d env left.else_part fresh (tree_at d.trees p.two.image) p.two
