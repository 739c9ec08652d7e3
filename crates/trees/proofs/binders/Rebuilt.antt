-- The steps of a rebuilding, over plain trees.
use Rattle.std.proofs.Common.{◌≡◌, ℕ, ◌+◌, ◌<◌, ◌≤◌, ◌&&◌, nat_eq, cond, Bool, true, false, List, length, get_or, Some, refl, sym, ◌∙◌, arith}
use Rattle.std.proofs.lemmas.Bool.Decides.{nat_tests}
use Rattle.indexmap.specs.IndexMap.{IndexMap, get}
use Rattle.trees.specs.declared.TermId.{TermId}
use Rattle.trees.specs.Tree.{Tree, Leaf, One, Two, Three, Head, HEnd, head_of, binders_over}
use Rattle.trees.specs.Binding.{Change, change}
use Rattle.trees.specs.Node.{tree_at, Holds, Grows}
use Rattle.trees.specs.Sorts.{Fits}
use Rattle.trees.specs.Facts.{PutsSorts}
use Rattle.trees.specs.laws.Sorts.{one_fits, two_fits, three_fits}
use Rattle.trees.specs.binders.Depth.{IsDepth, IsUnder, FitsUnder, IsChanged, ChangesChildrenOnly}
use Rattle.trees.specs.binders.Known.{same_pair, AreRemembered, CanRebuild, IsRebuilt}

pub deeper : (depth under d : ℕ) (h : Head) (a : Tree) → IsUnder depth under h a → IsDepth depth d → IsDepth under (d + binders_over h a)
deeper depth under d h a u i = omega (arith, u.is, i)

pub held_later : (s t : List Tree) (id : TermId) → Grows s t → Holds s id → Holds t id
held_later s t id w h = omega (arith, w.longer)

pub changed_held : (f : Change) (s t : List Tree) (e : Tree) (id : TermId) (depth : ℕ) → Grows s t → Holds s id → IsChanged f depth e (tree_at s id) → IsChanged f depth e (tree_at t id)
changed_held f s t e id depth w h k = rw (w.same id.0 h) k

-- ---- what is remembered
pub some_same : (a b : TermId) → Some a ≡ Some b → a ≡ b
some_same a b e = cc

pub both_true : (a b : Bool) → a && b ≡ true → (a ≡ true) × (b ≡ true)
both_true true true e = (refl, refl)
both_true true false e = absurd (cc)
both_true false b e = absurd (cc)

module _ {S : Type 0} where
  pub known_later : (f : Change) (s t : List Tree) (m : IndexMap (ℕ × ℕ) TermId S) → Grows s t → AreRemembered f s m → AreRemembered f t m
  known_later f s t m w h k d v e =
      let p = h k d v e in
      (omega (arith, p.0, w.longer), omega (arith, p.1, w.longer), rw (w.same k p.0, w.same v.0 p.1) p.2)

  -- with one more
  pub known_more : (f : Change) (s : List Tree) (m n : IndexMap (ℕ × ℕ) TermId S) (e made : TermId) (depth : ℕ) → AreRemembered f s m → Holds s e → Holds s made
      → IsChanged f depth (tree_at s e) (tree_at s made)
      → ((q : ℕ × ℕ) → get same_pair n q ≡ cond (same_pair (e.0, depth) q) (Some made) (get same_pair m q)) → AreRemembered f s n
  known_more f s m n e made depth h b l is up k d v found = at (same_pair (e.0, depth) (k, d)) refl (sym (up (k, d)) ∙ found)
    where
      at : (c : Bool) → same_pair (e.0, depth) (k, d) ≡ c → cond c (Some made) (get same_pair m (k, d)) ≡ Some v → (k < length s) × Holds s v × IsChanged f d (get_or s k (Leaf HEnd)) (tree_at s v)
      at true same there =
          let p = both_true (nat_eq e.0 k) (nat_eq depth d) same in
          let number : e.0 ≡ k = grind (arith, nat_tests, p.0) in
          let binders : depth ≡ d = grind (arith, nat_tests, p.1) in
          let value : made ≡ v = some_same made v there in
          rw (← number, ← binders, ← value) (b, l, is)
      at false same there = h k d v there

-- ---- what fits of the children
module _ (f : Change) (depth : ℕ) (e : Tree) (plain : ChangesChildrenOnly f (head_of e)) (fits : FitsUnder f depth e) where
  pub one_child : (h : Head) (a : Tree) → e ≡ One h a → FitsUnder f depth a
  one_child h a q = record { d = fits.d; is_depth = fits.is_depth; fits = (rw ((rw q at plain).one fits.d (change f fits.d a)) at (rw q at fits.fits)).1 }

  pub first_child : (h : Head) (a b : Tree) → e ≡ Two h a b → FitsUnder f depth a
  first_child h a b q = record { d = fits.d; is_depth = fits.is_depth; fits = (rw q at fits.fits).0 }

  pub second_child : (h : Head) (a b : Tree) (under : ℕ) → e ≡ Two h a b → IsUnder depth under h a → FitsUnder f under b
  second_child h a b under q u = record { d = fits.d + binders_over h a; is_depth = deeper depth under fits.d h a u fits.is_depth; fits = (rw q at fits.fits).1 }

  pub three_children : (h : Head) (a b c : Tree) → e ≡ Three h a b c → FitsUnder f depth a × FitsUnder f depth b × FitsUnder f depth c
  three_children h a b c q = (
    record { d = fits.d; is_depth = fits.is_depth; fits = (rw q at fits.fits).0 },
    record { d = fits.d; is_depth = fits.is_depth; fits = (rw q at fits.fits).1 },
    record { d = fits.d; is_depth = fits.is_depth; fits = (rw q at fits.fits).2 },
  )

-- ---- what is made
module _ (f : Change) (p : PutsSorts f) (depth : ℕ) (small : depth ≤ 18446744073709551615) where
  depth_is : IsDepth depth depth
  depth_is = omega arith

  pub one_fits_too : (h : Head) (a x : Tree) → IsChanged f depth a x → Fits (One h a) → Fits (One h x)
  one_fits_too h a x c t = rw (c.is depth depth_is) (one_fits f p depth h a t)

  pub two_fits_too : (under : ℕ) → under ≤ 18446744073709551615 → (h : Head) (a b x y : Tree) → IsChanged f depth a x → IsChanged f under b y → Fits (Two h a b) → Fits (Two h x y)
  two_fits_too under l h a b x y c k t =
      let v : IsDepth under under = omega arith in
      rw (c.is depth depth_is, k.is under v) (two_fits f p depth under h a b t)

  pub three_fits_too : (h : Head) (a b c x y z : Tree) → IsChanged f depth a x → IsChanged f depth b y → IsChanged f depth c z → Fits (Three h a b c) → Fits (Three h x y z)
  three_fits_too h a b c x y z k l m t = rw (k.is depth depth_is, l.is depth depth_is, m.is depth depth_is) (three_fits f p depth h a b c t)

module _ (f : Change) (depth : ℕ) (e : Tree) where
  pub leaf_made : (h : Head) → ChangesChildrenOnly f h → e ≡ Leaf h → IsChanged f depth e e
  leaf_made h p q = record { is = λ d i. rw q (sym p.leaf) }

  pub one_made : (h : Head) (a x : Tree) → ChangesChildrenOnly f h → e ≡ One h a → IsChanged f depth a x → IsChanged f depth e (One h x)
  one_made h a x p q c = record { is = λ d i. rw (q, c.is d i) (sym (p.one d (change f d a))) }

  pub two_made : (h : Head) (a b x y : Tree) (under : ℕ) → e ≡ Two h a b → IsUnder depth under h a → IsChanged f depth a x → IsChanged f under b y → IsChanged f depth e (Two h x y)
  two_made h a b x y under q u c k = record { is = λ d i. rw (q, c.is d i, k.is (d + binders_over h a) (deeper depth under d h a u i)) refl }

  pub three_made : (h : Head) (a b c x y z : Tree) → e ≡ Three h a b c → IsChanged f depth a x → IsChanged f depth b y → IsChanged f depth c z → IsChanged f depth e (Three h x y z)
  three_made h a b c x y z q k l m = record { is = λ d i. rw (q, k.is d i, l.is d i, m.is d i) refl }

-- ---- one child after the other, as the store grows
module _ {S : Type 0} (ch : List Tree → Change) (R : List Tree → Type 0) (stays : (s t : List Tree) → Grows s t → R s → ch t ≡ ch s) (ready : (s t : List Tree) → Grows s t → R s → R t) where
  module _ (s t : List Tree) (w : Grows s t) (r : R s) (c : TermId) (depth : ℕ) (h : Holds s c) where
    pub go_on : (m : IndexMap (ℕ × ℕ) TermId S) → FitsUnder (ch s) depth (tree_at s c) → AreRemembered (ch s) t m → CanRebuild (ch t) (R t) t m c depth
    go_on m fits known = record {
      is_ready = ready s t w r;
      held = held_later s t c w h;
      fits = rw (stays s t w r, w.same c.0 h) fits;
      known = rw (stays s t w r) known;
    }

    pub as_before : (u : List Tree) (m : IndexMap (ℕ × ℕ) TermId S) (id : TermId) → IsRebuilt (ch t) (tree_at t c) depth u m id → IsRebuilt (ch s) (tree_at s c) depth u m id
    as_before u m id k = rw (← stays s t w r, ← w.same c.0 h) k
