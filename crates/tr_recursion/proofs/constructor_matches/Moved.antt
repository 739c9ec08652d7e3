-- Evidence of two expressions, by their trees in drafts that grow.
use Rattle.std.proofs.Common.{sym, subst}
use Rattle.trees.specs.declared.TermId.{TermId}
use Rattle.trees.specs.Tree.{Tree}
use Rattle.trees.specs.Node.{tree_at, Holds}
use Rattle.evidence.specs.Drafts.{DraftTree, Extends}
use Rattle.congruence.specs.declared.alike.AlikeBy.{AlikeBy}
use Rattle.congruence.specs.Alike.{Shows}
use Rattle.congruence.proofs.Later.{tree_later, shows_later}

-- by the trees of a later draft, and by those of an earlier one
pub shows_there : (d d2 e : DraftTree) → Extends d d2 → (w : AlikeBy) (a b : TermId) → Holds d.trees a → Holds d.trees b → Shows e w (tree_at d.trees a) (tree_at d.trees b) → Shows e w (tree_at d2.trees a) (tree_at d2.trees b)
shows_there d d2 e x w a b ha hb s = subst (λ (z : Tree). Shows e w z (tree_at d2.trees b)) (sym (tree_later d d2 x a ha)) (subst (λ (z : Tree). Shows e w (tree_at d.trees a) z) (sym (tree_later d d2 x b hb)) s)

pub shows_before : (d d2 e : DraftTree) → Extends d d2 → (w : AlikeBy) (a b : TermId) → Holds d.trees a → Holds d.trees b → Shows e w (tree_at d2.trees a) (tree_at d2.trees b) → Shows e w (tree_at d.trees a) (tree_at d.trees b)
shows_before d d2 e x w a b ha hb s = subst (λ (z : Tree). Shows e w z (tree_at d.trees b)) (tree_later d d2 x a ha) (subst (λ (z : Tree). Shows e w (tree_at d2.trees a) z) (tree_later d d2 x b hb) s)

-- and in a later draft
pub shows_on : (d d1 d2 : DraftTree) → Extends d d2 → Extends d1 d2 → (w : AlikeBy) (a b : TermId) → Holds d.trees a → Holds d.trees b → Shows d1 w (tree_at d.trees a) (tree_at d.trees b) → Shows d2 w (tree_at d2.trees a) (tree_at d2.trees b)
shows_on d d1 d2 x y w a b ha hb s = shows_there d d2 d2 x w a b ha hb (shows_later d1 d2 y w _ _ s)
