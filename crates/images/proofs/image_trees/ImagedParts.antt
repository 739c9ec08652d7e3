-- The steps of an image, over plain trees.
use Rattle.std.proofs.Common.{◌≡◌, ℕ, ◌<◌, nat_eq, cond, Bool, true, false, List, ◌++◌, length, get_or, Some, refl, sym, ap, ◌∙◌, arith, subst}
use Rattle.std.proofs.lemmas.Bool.Decides.{nat_tests}
use Rattle.indexmap.specs.IndexMap.{IndexMap, get}
use Rattle.trees.specs.declared.TermId.{TermId}
use Rattle.trees.specs.Tree.{Tree, Leaf, One, Two, Three, Head, HEnd}
use Rattle.trees.specs.Node.{tree_at, Holds, Grows}
use Rattle.trees.specs.Sorts.{Fits}
use Rattle.trees.proofs.binders.Rebuilt.{held_later}
use Rattle.tasks.specs.Typing.{bound_types}
use Rattle.images.specs.Images.{image}
use Rattle.images.specs.typing_laws.HasTyping.{HasTyping, over_parts}
use Rattle.images.proofs.TypedImages.{over_typed, over_fits, image_over}
use Rattle.images.specs.image_trees.Imaged.{RuleOver, KeepsItsTyping, IsTypedSomewhere, AreImages, CanImage, IsImaged}

-- ---- what is remembered
module _ {S : Type 0} (r : RuleOver) where
  pub known_later : (s t : List Tree) (m : IndexMap ℕ TermId S) → Grows s t → AreImages r s m → AreImages r t m
  known_later s t m w h k v e =
      let p = h k v e in
      (omega (arith, p.0, w.longer), (omega (arith, p.1.0, w.longer), rw (w.same k p.0, w.same v.0 p.1.0) p.1.1))

  -- with one more
  pub known_more : (s : List Tree) (m n : IndexMap ℕ TermId S) (e made : TermId) → AreImages r s m → Holds s e → Holds s made → tree_at s made ≡ image r.rule (tree_at s e)
      → ((q : ℕ) → get nat_eq n q ≡ cond (nat_eq e.0 q) (Some made) (get nat_eq m q)) → AreImages r s n
  known_more s m n e made h b l is up k v found = at (nat_eq e.0 k) refl (sym (up k) ∙ found)
    where
      at : (c : Bool) → nat_eq e.0 k ≡ c → cond c (Some made) (get nat_eq m k) ≡ Some v → (k < length s) × (Holds s v × (tree_at s v ≡ image r.rule (get_or s k (Leaf HEnd))))
      at true same there =
          let number : e.0 ≡ k = grind (arith, nat_tests, same) in
          let value : made ≡ v = cc in
          rw (← number, ← value) (b, (l, is))
      at false same there = h k v there

-- ---- typed parts
module _ (r : RuleOver) (e : Tree) (x : IsTypedSomewhere r e) where
  pub one_part : (h : Head) (a : Tree) → e ≡ One h a → IsTypedSomewhere r a
  one_part h a q = let y = subst (HasTyping r.vocabulary x.0) q x.1 in (x.0, y.2)

  pub two_parts : (h : Head) (a b : Tree) → e ≡ Two h a b → IsTypedSomewhere r a × IsTypedSomewhere r b
  two_parts h a b q = let y = subst (HasTyping r.vocabulary x.0) q x.1 in ((x.0, y.2), (bound_types h a ++ x.0, y.3))

  pub three_parts : (h : Head) (a b c : Tree) → e ≡ Three h a b c → IsTypedSomewhere r a × (IsTypedSomewhere r b × IsTypedSomewhere r c)
  three_parts h a b c q = let y = subst (HasTyping r.vocabulary x.0) q x.1 in ((x.0, y.2), ((x.0, y.3), (x.0, y.4)))

-- ---- the node over the images of its parts
module _ (r : RuleOver) (k : KeepsItsTyping r) (e : Tree) (x : IsTypedSomewhere r e) where
  pub over_is_typed : IsTypedSomewhere r (over_parts r.rule e)
  over_is_typed = (x.0, over_typed r.vocabulary r.rule k x.0 e x.1)

  pub over_is_fit : Fits e → Fits (over_parts r.rule e)
  over_is_fit f = over_fits r.vocabulary r.rule k x.0 e x.1 f

  pub one_fit : (h : Head) (a m : Tree) → e ≡ One h a → m ≡ image r.rule a → Fits e → Fits (One h m)
  one_fit h a m q p f = subst (λ (z : Tree). Fits (One h z)) (sym p) (subst (λ (z : Tree). Fits (over_parts r.rule z)) q (over_is_fit f))

  pub two_fit : (h : Head) (a b m n : Tree) → e ≡ Two h a b → m ≡ image r.rule a → n ≡ image r.rule b → Fits e → Fits (Two h m n)
  two_fit h a b m n q p o f = subst (λ (z : Tree). Fits (Two h z n)) (sym p) (subst (λ (z : Tree). Fits (Two h (image r.rule a) z)) (sym o) (subst (λ (z : Tree). Fits (over_parts r.rule z)) q (over_is_fit f)))

  pub three_fit : (h : Head) (a b c l m n : Tree) → e ≡ Three h a b c → l ≡ image r.rule a → m ≡ image r.rule b → n ≡ image r.rule c → Fits e → Fits (Three h l m n)
  three_fit h a b c l m n q p o u f =
      subst (λ (z : Tree). Fits (Three h z m n)) (sym p) (subst (λ (z : Tree). Fits (Three h (image r.rule a) z n)) (sym o)
      (subst (λ (z : Tree). Fits (Three h (image r.rule a) (image r.rule b) z)) (sym u) (subst (λ (z : Tree). Fits (over_parts r.rule z)) q (over_is_fit f))))

module _ (r : RuleOver) (e : Tree) where
  pub none_over : (h : Head) → e ≡ Leaf h → e ≡ over_parts r.rule e
  none_over h q = q ∙ sym (ap (over_parts r.rule) q)

  pub one_over : (h : Head) (a m : Tree) → e ≡ One h a → m ≡ image r.rule a → One h m ≡ over_parts r.rule e
  one_over h a m q p = ap (λ (z : Tree). One h z) p ∙ sym (ap (over_parts r.rule) q)

  pub two_over : (h : Head) (a b m n : Tree) → e ≡ Two h a b → m ≡ image r.rule a → n ≡ image r.rule b → Two h m n ≡ over_parts r.rule e
  two_over h a b m n q p o = ap (λ (z : Tree). Two h z n) p ∙ ap (λ (z : Tree). Two h (image r.rule a) z) o ∙ sym (ap (over_parts r.rule) q)

  pub three_over : (h : Head) (a b c l m n : Tree) → e ≡ Three h a b c → l ≡ image r.rule a → m ≡ image r.rule b → n ≡ image r.rule c → Three h l m n ≡ over_parts r.rule e
  three_over h a b c l m n q p o u =
      ap (λ (z : Tree). Three h z m n) p ∙ ap (λ (z : Tree). Three h (image r.rule a) z n) o ∙ ap (λ (z : Tree). Three h (image r.rule a) (image r.rule b) z) u ∙ sym (ap (over_parts r.rule) q)

  pub made_is : (over made : Tree) → over ≡ over_parts r.rule e → made ≡ r.rule over → made ≡ image r.rule e
  made_is over made p q = q ∙ ap r.rule p ∙ sym (image_over r.rule e)

-- ---- one child after the other, as the store grows
module _ {S : Type 0} (ro : List Tree → RuleOver) (R : List Tree → Type 0) (stays : (s t : List Tree) → Grows s t → R s → ro t ≡ ro s) (ready : (s t : List Tree) → Grows s t → R s → R t) where
  module _ (s t : List Tree) (w : Grows s t) (is_ready : R s) (c : TermId) (h : Holds s c) where
    pub go_on : (m : IndexMap ℕ TermId S) → IsTypedSomewhere (ro s) (tree_at s c) → AreImages (ro s) t m → CanImage (ro t) (R t) t m c
    go_on m x known = record {
      is_ready = ready s t w is_ready;
      held = held_later s t c w h;
      typed = rw (stays s t w is_ready, w.same c.0 h) x;
      known = rw (stays s t w is_ready) known;
    }

    pub as_before : (u : List Tree) (m : IndexMap ℕ TermId S) (id : TermId) → IsImaged (ro t) (tree_at t c) u m id → IsImaged (ro s) (tree_at s c) u m id
    as_before u m id k = rw (← stays s t w is_ready, ← w.same c.0 h) k
