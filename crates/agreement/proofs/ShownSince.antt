-- Evidence for two expressions as they were in an earlier draft.
use Rattle.std.proofs.Common.{Result, IfOk, subst}
use Rattle.std.proofs.lemmas.Result.{IfOk-weaker}
use Rattle.trees.specs.declared.TermId.{TermId}
use Rattle.trees.specs.Tree.{Tree}
use Rattle.trees.specs.Node.{tree_at}
use Rattle.evidence.specs.Drafts.{DraftTree, Extends}
use Rattle.congruence.specs.declared.alike.AlikeBy.{AlikeBy}
use Rattle.congruence.specs.Alike.{ArePair, Shows}
use Rattle.congruence.proofs.Later.{tree_later}

pub shown_since : {E : Type 0} (r : Result AlikeBy E) (d d1 d2 : DraftTree) → Extends d d1 → (a b : TermId) → ArePair d a b → IfOk r (λ w. Shows d2 w (tree_at d1.trees a) (tree_at d1.trees b)) → IfOk r (λ w. Shows d2 w (tree_at d.trees a) (tree_at d.trees b))
shown_since r d d1 d2 x a b p h = IfOk-weaker r _ _ (λ w s. subst (λ (z : Tree). Shows d2 w z (tree_at d.trees b)) (tree_later d d1 x a p.left.held) (subst (λ (z : Tree). Shows d2 w (tree_at d1.trees a) z) (tree_later d d1 x b p.right.held) s)) h
