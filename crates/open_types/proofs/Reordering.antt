-- Variables in another order, over plain trees.
use Rattle.std.proofs.Common.{◌≡◌, ℕ, ◌+◌, ◌-◌, ◌<◌, ◌≤◌, min, nat_lt, nat_eq, if◌then◌else◌, zero, suc, Bool, true, false, ◌||◌, List, [], ◌∷◌, ◌++◌, length, get_or, Result, Ok, Err, IfOk, refl, ap, subst, ◌∙◌, arith}
use Rattle.std.specs.List.{list_any}
use Rattle.std.proofs.lemmas.Bool.Decides.{nat_tests}
use Rattle.trees.specs.Tree.{Tree, Leaf, One, Two, Three, Head, HEnd, HBound, HParam, HTyVar, head_of, binders_over, loose, above_params, above_ty_vars}
use Rattle.trees.specs.declared.Parts.{Parts}
use Rattle.trees.specs.declared.Parts.TheVariants as parts
use Rattle.trees.specs.Node.{assemble}
use Rattle.trees.specs.Binding.{Bound, change, leaf_by, one_by}
use Rattle.trees.specs.Facts.{IndicesFit}
use Rattle.trees.specs.Sorts.{WellSorted}
use Rattle.trees.proofs.Above.{KeepsBelow, change_left}
use Rattle.trees.proofs.Sizes.{sorted_fits}
use Rattle.trees.specs.binders.Depth.{IsDepth}
use Rattle.trees.specs.binders.Known.{same_pair}
use Rattle.open_types.specs.Patterns.{reordering}
use Rattle.open_types.specs.Reordered.{IsInOrder, HeadFits, ReorderedFits, AllReorderedFit}
use Rattle.trees.proofs.binders.Rebuilt.{both_true}

-- ---- at a variable
pub low_place : (ps : List ℕ) (d i : ℕ) (ty : Tree) → i < d → (reordering ps).bound d i ty ≡ Bound i ty
low_place ps d i ty l = let e : nat_lt i d ≡ true = grind (arith, nat_tests) in rw e refl

pub own_place : (ps : List ℕ) (d i : ℕ) (ty : Tree) → d ≤ i → i - d < length ps → (reordering ps).bound d i ty ≡ Bound (d + get_or ps (i - d) 0) ty
own_place ps d i ty l k =
    let m : i < d + length ps = omega arith in
    let a : nat_lt i d ≡ false = grind (arith, nat_tests) in
    let b : nat_lt i (d + length ps) ≡ true = grind (arith, nat_tests) in
    rw (a, b) refl

pub high_place : (ps : List ℕ) (d i : ℕ) (ty : Tree) → d ≤ i → length ps ≤ i - d → (reordering ps).bound d i ty ≡ Bound i ty
high_place ps d i ty l k =
    let m : d + length ps ≤ i = omega arith in
    let a : nat_lt i d ≡ false = grind (arith, nat_tests) in
    let b : nat_lt i (d + length ps) ≡ false = grind (arith, nat_tests) in
    rw (a, b) refl

-- ---- a closed tree is left
below_reordering : (ps : List ℕ) (p v : ℕ) → KeepsBelow (reordering ps) 0 p v
below_reordering ps p v = record { bound = λ d i ty l. low_place ps d i ty (omega arith); param = λ _ _ _ _. refl; ty_var = λ _ _. refl }

pub reorder_left : (ps : List ℕ) (depth : ℕ) (e : Tree) → loose e ≤ depth → (d : ℕ) → IsDepth depth d → change (reordering ps) d e ≡ e
reorder_left ps depth e l d i = change_left (reordering ps) 0 (above_params e) (above_ty_vars e) (below_reordering ps (above_params e) (above_ty_vars e)) d e (omega arith) (omega arith) (omega arith)

-- ---- the indices of what is made fit
module _ (ps : List ℕ) (depth : ℕ) where
  -- a tree that the binders around it close
  pub left_fits : (e : Tree) → WellSorted e → loose e ≤ depth → ReorderedFits ps depth e
  left_fits e w l d i = rw (reorder_left ps depth e l d i) (sorted_fits e w)

  leaf_fits : (h : Head) → IndicesFit (leaf_by (reordering ps) h)
  leaf_fits (HTyVar j) = tt
  leaf_fits _ = tt

  -- from the children
  module _ (e : Tree) where
    pub leaf_fit : (h : Head) → e ≡ Leaf h → ReorderedFits ps depth e
    leaf_fit h q = rw q (λ d i. leaf_fits h)

    pub one_fit : (h : Head) (a : Tree) → e ≡ One h a → WellSorted e → HeadFits ps depth (head_of e) → ReorderedFits ps depth a → ReorderedFits ps depth e
    one_fit h a q w k f =
        let g : HeadFits ps depth h = subst (λ (x : Tree). HeadFits ps depth (head_of x)) q k in
        let n : IndicesFit (One h a) = subst (λ (x : Tree). IndicesFit x) q (sorted_fits e w) in
        rw q (λ d i. g d (change (reordering ps) d a) i n.0 (f d i))

    pub two_fit : (h : Head) (a b : Tree) (under : ℕ) → e ≡ Two h a b → under ≡ min (depth + min (binders_over h a) 18446744073709551615) 18446744073709551615
        → ReorderedFits ps depth a → ReorderedFits ps under b → ReorderedFits ps depth e
    two_fit h a b under q u f g = rw q (λ d i. (f d i, g (d + binders_over h a) (omega (arith, u, i))))

    pub three_fit : (h : Head) (a b c : Tree) → e ≡ Three h a b c → ReorderedFits ps depth a → ReorderedFits ps depth b → ReorderedFits ps depth c → ReorderedFits ps depth e
    three_fit h a b c q f g k = rw q (λ d i. (f d i, g d i, k d i))

pub own_head : (s : List Tree) (e : Tree) (h : Head) (ps : Parts) → e ≡ assemble s h ps → head_of e ≡ h
own_head s e h parts.None q = ap head_of q
own_head s e h (parts.One a) q = ap head_of q
own_head s e h (parts.Two a b) q = ap head_of q
own_head s e h (parts.Three a b c) q = ap head_of q

pub fits_there : (ps : List ℕ) (s : List Tree) (ks : List (ℕ × ℕ)) (n depth : ℕ) → AllReorderedFit ps s ks → list_any (same_pair (n, depth)) ks ≡ true → ReorderedFits ps depth (get_or s n (Leaf HEnd))
fits_there ps s [] n depth h e = absurd (cc)
fits_there ps s (k ∷ ks) n depth h e = elim (same_pair (n, depth) k) as (λ b. same_pair (n, depth) k ≡ b → (b || list_any (same_pair (n, depth)) ks) ≡ true → ReorderedFits ps depth (get_or s n (Leaf HEnd))) [
  | true ↦ λ q _.
      let p = both_true (nat_eq n k.0) (nat_eq depth k.1) q in
      let number : k.0 ≡ n = grind (arith, nat_tests, p.0) in
      let binders : k.1 ≡ depth = grind (arith, nat_tests, p.1) in
      rw (← number, ← binders) h.0
  | false ↦ λ q more. fits_there ps s ks n depth h.1 more
] refl e

fits_push : (ps : List ℕ) (s : List Tree) (ks : List (ℕ × ℕ)) (n depth : ℕ) → AllReorderedFit ps s ks → ReorderedFits ps depth (get_or s n (Leaf HEnd)) → AllReorderedFit ps s (ks ++ (n, depth) ∷ [])
fits_push ps s [] n depth h f = (f, tt)
fits_push ps s (k ∷ ks) n depth h f = (h.0, fits_push ps s ks n depth h.1 f)

-- and one more
pub fits_more : (ps : List ℕ) (s : List Tree) (ks new : List (ℕ × ℕ)) (n depth : ℕ) → AllReorderedFit ps s ks → ReorderedFits ps depth (get_or s n (Leaf HEnd))
    → new ≡ (if list_any (same_pair (n, depth)) ks then ks else ks ++ (n, depth) ∷ []) → AllReorderedFit ps s new
fits_more ps s ks new n depth h f e = rw e (by (list_any (same_pair (n, depth)) ks))
  where
    by : (b : Bool) → AllReorderedFit ps s (if b then ks else ks ++ (n, depth) ∷ [])
    by true = h
    by false = fits_push ps s ks n depth h f

pub looked : {X E : Type 0} (r : Result X E) (P Q : Type 0) → (P → Q) → IfOk r (λ _. P) → IfOk r (λ _. Q)
looked (Ok x) P Q f p = f p
looked (Err e) P Q f p = tt

-- ---- places in order
in_order_at : (n : ℕ) (ps : List ℕ) → IsInOrder n ps → (k : ℕ) → k < length ps → get_or ps k 0 ≡ n + k
in_order_at n [] h k l = absurd (omega arith)
in_order_at n (p ∷ ps) h zero l = omega (arith, h.0)
in_order_at n (p ∷ ps) h (suc k) l = in_order_at (n + 1) ps h.1 k (omega arith) ∙ (let e : n + 1 + k ≡ n + suc k = omega arith in e)

module _ (ps : List ℕ) (h : IsInOrder 0 ps) where
  leaf_same : (l : Head) → leaf_by (reordering ps) l ≡ Leaf l
  leaf_same (HTyVar j) = refl
  leaf_same _ = refl

  bound_same : (d i : ℕ) (x : Tree) → (reordering ps).bound d i x ≡ Bound i x
  bound_same d i x = of (nat_lt i d) (nat_lt i (d + length ps)) refl refl
    where
      of : (b c : Bool) → nat_lt i d ≡ b → nat_lt i (d + length ps) ≡ c → Bound (if b then i else (if c then d + get_or ps (i - d) 0 else i)) x ≡ Bound i x
      of true c p q = refl
      of false true p q =
          let a : d ≤ i = grind (arith, nat_tests) in
          let b : i < d + length ps = grind (arith, nat_tests) in
          let e = in_order_at 0 ps h (i - d) (omega arith) in
          ap (λ j. Bound j x) (let z : d + get_or ps (i - d) 0 ≡ i = omega (arith, e) in z)
      of false false p q = refl

  one_same : (d : ℕ) (k : Head) (x y : Tree) → x ≡ y → one_by (reordering ps) d k x ≡ One k y
  one_same d (HBound i) x y e = bound_same d i x ∙ ap (One (HBound i)) e
  one_same d (HParam n) x y e = ap (One (HParam n)) e
  one_same d k x y e = ap (One k) e

  pub order_same : (d : ℕ) (e : Tree) → change (reordering ps) d e ≡ e
  order_same d (Leaf k) = leaf_same k
  order_same d (One k a) = one_same d k (change (reordering ps) d a) a (order_same d a)
  order_same d (Two k a b) = cc (order_same d a, order_same (d + binders_over k a) b)
  order_same d (Three k a b c) = cc (order_same d a, order_same d b, order_same d c)
