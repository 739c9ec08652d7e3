-- What is said of a draft stays as the draft extends.
use Rattle.std.proofs.Common.{◌≡◌, ℕ, [], ◌∷◌, sym, ap, subst, ◌∙◌, arith}
use Rattle.trees.specs.declared.TermId.{TermId}
use Rattle.trees.specs.Tree.{Tree, Two, Head}
use Rattle.trees.specs.Node.{tree_at, Holds}
use Rattle.trees.specs.Sorts.{sort_of, type_of}
use Rattle.tasks.specs.Task.{TaskTree, neg}
use Rattle.kernel.specs.Right.{IsGroundExpression}
use Rattle.evidence.specs.Drafts.{DraftTree, Extends, Refutes}
use Rattle.evidence.proofs.Rules.{refutes_later}
use Rattle.congruence.specs.declared.alike.AlikeBy.{AlikeBy}
use Rattle.congruence.specs.declared.alike.AlikeBy.TheVariants as alike
use Rattle.congruence.specs.Alike.{IsClosedAt, HasHalves, Shows, ArePair}

module _ (d d1 : DraftTree) (x : Extends d d1) where
  pub held_later : (id : TermId) → Holds d.trees id → Holds d1.trees id
  held_later id h = omega (arith, h, x.trees.longer)

  pub tree_later : (id : TermId) → Holds d.trees id → tree_at d1.trees id ≡ tree_at d.trees id
  tree_later id h = x.trees.same id.0 h

  pub halves_later : (l r : Tree) (i j : ℕ) → HasHalves d l r i j → HasHalves d1 l r i j
  halves_later l r i j h = record { there = refutes_later d d1 x i _ h.there; back = refutes_later d d1 x j _ h.back }

  pub halves_at : (a b : TermId) (i j : ℕ) → Holds d.trees a → Holds d.trees b → HasHalves d (tree_at d.trees a) (tree_at d.trees b) i j → HasHalves d1 (tree_at d1.trees a) (tree_at d1.trees b) i j
  halves_at a b i j h k p =
      subst (λ (z : Tree). HasHalves d1 z (tree_at d1.trees b) i j) (sym (tree_later a h)) (subst (λ (z : Tree). HasHalves d1 (tree_at d.trees a) z i j) (sym (tree_later b k)) (halves_later (tree_at d.trees a) (tree_at d.trees b) i j p))

  pub shows_later : (a : AlikeBy) (l r : Tree) → Shows d a l r → Shows d1 a l r
  shows_later alike.Same l r h = h
  shows_later (alike.Terms k) l r h = (h.0, refutes_later d d1 x k _ h.1)
  shows_later (alike.Formulas i j) l r h = (h.0, halves_later l r i j h.1)

  -- shown of the later trees, it is shown of these
  pub shows_before : (e : DraftTree) (w : AlikeBy) (a b : TermId) → Holds d.trees a → Holds d.trees b → Shows e w (tree_at d1.trees a) (tree_at d1.trees b) → Shows e w (tree_at d.trees a) (tree_at d.trees b)
  shows_before e w a b ha hb h = subst (λ (z : Tree). Shows e w z (tree_at d.trees b)) (tree_later a ha) (subst (λ (z : Tree). Shows e w (tree_at d1.trees a) z) (tree_later b hb) h)

  pub shows_after : (e : DraftTree) (w : AlikeBy) (a b : TermId) → Holds d.trees a → Holds d.trees b → Shows e w (tree_at d.trees a) (tree_at d.trees b) → Shows e w (tree_at d1.trees a) (tree_at d1.trees b)
  shows_after e w a b ha hb h = subst (λ (z : Tree). Shows e w z (tree_at d1.trees b)) (sym (tree_later a ha)) (subst (λ (z : Tree). Shows e w (tree_at d.trees a) z) (sym (tree_later b hb)) h)

  pub closed_later : (id : TermId) → IsClosedAt d id → IsClosedAt d1 id
  closed_later id c = record {
    held = held_later id c.held;
    ground = subst (λ (t : TaskTree). IsGroundExpression t (tree_at d1.trees id)) (sym x.task) (subst (IsGroundExpression d.task) (sym (tree_later id c.held)) c.ground);
  }

  pub pair_later : (l r : TermId) → ArePair d l r → ArePair d1 l r
  pair_later l r p = record {
    left = closed_later l p.left;
    right = closed_later r p.right;
    sort = ap sort_of (tree_later r p.right.held) ∙ p.sort ∙ ap sort_of (sym (tree_later l p.left.held));
    type = ap type_of (tree_later r p.right.held) ∙ p.type ∙ ap type_of (sym (tree_later l p.left.held));
  }

  pub node_later : (h : Head) (id a c : TermId) → Holds d.trees id → Holds d.trees a → Holds d.trees c → tree_at d.trees id ≡ Two h (tree_at d.trees a) (tree_at d.trees c) → tree_at d1.trees id ≡ Two h (tree_at d1.trees a) (tree_at d1.trees c)
  node_later h id a c hi ha hc q = tree_later id hi ∙ q ∙ cc (tree_later a ha, tree_later c hc)

  pub shows_at : (w : AlikeBy) (a b : TermId) → Holds d.trees a → Holds d.trees b → Shows d w (tree_at d.trees a) (tree_at d.trees b) → Shows d1 w (tree_at d1.trees a) (tree_at d1.trees b)
  shows_at w a b ha hb h = subst (λ (z : Tree). Shows d1 w z (tree_at d1.trees b)) (sym (tree_later a ha)) (subst (λ (z : Tree). Shows d1 w (tree_at d.trees a) z) (sym (tree_later b hb)) (shows_later w _ _ h))

-- halves by two steps, of which the second is of the trees of the first one's draft
pub halves_made : (d d1 d2 : DraftTree) (x : Extends d d1) (y : Extends d1 d2) (l r : TermId) (i j : ℕ) → Holds d.trees l → Holds d.trees r → Refutes d1 i (tree_at d.trees l ∷ neg (tree_at d.trees r) ∷ []) → Refutes d2 j (tree_at d1.trees r ∷ neg (tree_at d1.trees l) ∷ [])
    → HasHalves d2 (tree_at d.trees l) (tree_at d.trees r) i j
halves_made d d1 d2 x y l r i j hl hr f s = record {
  there = refutes_later d1 d2 y i _ f;
  back = subst (λ (z : Tree). Refutes d2 j (z ∷ neg (tree_at d.trees l) ∷ [])) (tree_later d d1 x r hr) (subst (λ (z : Tree). Refutes d2 j (tree_at d1.trees r ∷ neg z ∷ [])) (tree_later d d1 x l hl) s);
}
