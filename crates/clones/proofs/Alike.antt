-- Mapped trees are of the same sorts, so that they fit where the others did.
use Rattle.std.proofs.Common.{◌≡◌, ℕ, Option, refl, ap, ◌∙◌, sym, subst}
use Rattle.trees.specs.declared.Sort.{Sort}
use Rattle.trees.specs.declared.Sort.TheVariants.{Kind, List}
use Rattle.trees.specs.Tree.{Tree, One, Two, Three, Head, HTyApp, HFun, HPred, HPatCon, HEnd, HCell, HArm, HCase, head_of}
use Rattle.trees.specs.Sorts.{one_sort, two_sort, three_sort, yield, top_sort, sort_of, two_first, first_sort, OneFits, TwoFits, ThreeFits, Fits, CaseHasBranch}
use Rattle.trees.specs.laws.Sorts.{first_sort_none, top_kind}
use Rattle.clones.specs.Mapped.{head_mapped}
use Rattle.clones.specs.Meaning.{IsAlike}

module _ (f : ℕ → ℕ) where
  one_same : (h : Head) → one_sort (head_mapped f h) ≡ one_sort h
  one_same (HTyApp k) = refl
  one_same (HFun k) = refl
  one_same (HPred k) = refl
  one_same (HPatCon k) = refl
  one_same _ = refl

  two_same : (h : Head) (a b : Sort) → two_sort (head_mapped f h) a b ≡ two_sort h a b
  two_same (HTyApp k) a b = refl
  two_same (HFun k) a b = refl
  two_same (HPred k) a b = refl
  two_same (HPatCon k) a b = refl
  two_same _ a b = refl

  three_same : (h : Head) (b : Sort) → three_sort (head_mapped f h) b ≡ three_sort h b
  three_same (HTyApp k) b = refl
  three_same (HFun k) b = refl
  three_same (HPred k) b = refl
  three_same (HPatCon k) b = refl
  three_same _ b = refl

  top_same : (h : Head) (s : Sort) → top_sort (head_mapped f h) s ≡ top_sort h s
  top_same (HTyApp k) s = refl
  top_same (HFun k) s = refl
  top_same (HPred k) s = refl
  top_same (HPatCon k) s = refl
  top_same _ s = refl

  first_same : (h : Head) (s : Sort) → two_first (head_mapped f h) s ≡ two_first h s
  first_same (HTyApp k) s = refl
  first_same (HFun k) s = refl
  first_same (HPred k) s = refl
  first_same (HPatCon k) s = refl
  first_same _ s = refl

  cell_same : (h : Head) → h ≡ HCell → head_mapped f h ≡ HCell
  cell_same h q = ap (head_mapped f) q

  one_fits_same : (h : Head) (a : Sort) (x : Option Sort) → OneFits h a x → OneFits (head_mapped f h) a x
  one_fits_same (HTyApp k) a x t = t
  one_fits_same (HFun k) a x t = t
  one_fits_same (HPred k) a x t = t
  one_fits_same (HPatCon k) a x t = t
  one_fits_same _ a x t = t

  two_fits_same : (h : Head) (a : Sort) (x : Option Sort) (b : Sort) (y : Option Sort) → TwoFits h a x b y → TwoFits (head_mapped f h) a x b y
  two_fits_same (HTyApp k) a x b y t = t
  two_fits_same (HFun k) a x b y t = t
  two_fits_same (HPred k) a x b y t = t
  two_fits_same (HPatCon k) a x b y t = t
  two_fits_same _ a x b y t = t

  three_fits_same : (h : Head) (a : Sort) (x : Option Sort) (b : Sort) (y : Option Sort) (c : Sort) → ThreeFits h a x b y c → ThreeFits (head_mapped f h) a x b y c
  three_fits_same (HTyApp k) a x b y c t = t
  three_fits_same (HFun k) a x b y c t = t
  three_fits_same (HPred k) a x b y c t = t
  three_fits_same (HPatCon k) a x b y c t = t
  three_fits_same _ a x b y c t = t

  branch_same : (h : Head) (b y : Tree) → (head_of b ≡ HCell → head_of y ≡ HCell) → CaseHasBranch h b → CaseHasBranch (head_mapped f h) y
  branch_same HCase b y g t = g t
  branch_same (HTyApp k) b y g t = tt
  branch_same (HFun k) b y g t = tt
  branch_same (HPred k) b y g t = tt
  branch_same (HPatCon k) b y g t = tt
  branch_same _ b y g t = tt

  pub one_fits : (h : Head) (a x : Tree) → IsAlike a x → Fits (One h a) → Fits (One (head_mapped f h) x)
  one_fits h a x i t = one_fits_same h (sort_of x) (first_sort x) (subst (λ (z : Sort). OneFits h z (first_sort x)) (sym i.sort) (subst (λ (z : Option Sort). OneFits h (sort_of a) z) (sym i.first) t))

  pub two_fits : (h : Head) (a b x y : Tree) → IsAlike a x → IsAlike b y → Fits (Two h a b) → Fits (Two (head_mapped f h) x y)
  two_fits h a b x y i j t =
      let t1 : TwoFits h (sort_of a) (first_sort a) (sort_of b) (first_sort y) = subst (λ (z : Option Sort). TwoFits h (sort_of a) (first_sort a) (sort_of b) z) (sym j.first) t.0 in
      let t2 : TwoFits h (sort_of a) (first_sort a) (sort_of y) (first_sort y) = subst (λ (z : Sort). TwoFits h (sort_of a) (first_sort a) z (first_sort y)) (sym j.sort) t1 in
      let t3 : TwoFits h (sort_of a) (first_sort x) (sort_of y) (first_sort y) = subst (λ (z : Option Sort). TwoFits h (sort_of a) z (sort_of y) (first_sort y)) (sym i.first) t2 in
      let t4 : TwoFits h (sort_of x) (first_sort x) (sort_of y) (first_sort y) = subst (λ (z : Sort). TwoFits h z (first_sort x) (sort_of y) (first_sort y)) (sym i.sort) t3 in
      (two_fits_same h (sort_of x) (first_sort x) (sort_of y) (first_sort y) t4, branch_same h b y j.cell t.1)

  pub three_fits : (h : Head) (a b c x y z : Tree) → IsAlike a x → IsAlike b y → IsAlike c z → Fits (Three h a b c) → Fits (Three (head_mapped f h) x y z)
  three_fits h a b c x y z i j k t =
      let t0 : ThreeFits h (sort_of a) (first_sort a) (sort_of b) (first_sort b) (sort_of z) = subst (λ (u : Sort). ThreeFits h (sort_of a) (first_sort a) (sort_of b) (first_sort b) u) (sym k.sort) t in
      let t1 : ThreeFits h (sort_of a) (first_sort a) (sort_of b) (first_sort y) (sort_of z) = subst (λ (u : Option Sort). ThreeFits h (sort_of a) (first_sort a) (sort_of b) u (sort_of z)) (sym j.first) t0 in
      let t2 : ThreeFits h (sort_of a) (first_sort a) (sort_of y) (first_sort y) (sort_of z) = subst (λ (u : Sort). ThreeFits h (sort_of a) (first_sort a) u (first_sort y) (sort_of z)) (sym j.sort) t1 in
      let t3 : ThreeFits h (sort_of a) (first_sort x) (sort_of y) (first_sort y) (sort_of z) = subst (λ (u : Option Sort). ThreeFits h (sort_of a) u (sort_of y) (first_sort y) (sort_of z)) (sym i.first) t2 in
      let t4 : ThreeFits h (sort_of x) (first_sort x) (sort_of y) (first_sort y) (sort_of z) = subst (λ (u : Sort). ThreeFits h u (first_sort x) (sort_of y) (first_sort y) (sort_of z)) (sym i.sort) t3 in
      three_fits_same h (sort_of x) (first_sort x) (sort_of y) (first_sort y) (sort_of z) t4

  pub one_alike : (h : Head) (a x : Tree) → IsAlike (One h a) (One (head_mapped f h) x)
  one_alike h a x = record { yields = one_same h; sort = top_same h (one_sort (head_mapped f h)) ∙ ap (top_sort h) (one_same h); first = refl; cell = cell_same h }

  pub two_alike : (h : Head) (a b x y : Tree) → IsAlike a x → IsAlike b y → IsAlike (Two h a b) (Two (head_mapped f h) x y)
  two_alike h a b x y i j =
      let q : two_sort (head_mapped f h) (yield x) (yield y) ≡ two_sort h (yield a) (yield b) = two_same h (yield x) (yield y) ∙ ap (λ z. two_sort h z (yield y)) i.yields ∙ ap (two_sort h (yield a)) j.yields in
      record {
        yields = q;
        sort = top_same h (two_sort (head_mapped f h) (yield x) (yield y)) ∙ ap (top_sort h) q;
        first = first_same h (sort_of x) ∙ ap (two_first h) i.sort;
        cell = cell_same h;
      }

  pub three_alike : (h : Head) (a b c x y z : Tree) → IsAlike b y → IsAlike (Three h a b c) (Three (head_mapped f h) x y z)
  three_alike h a b c x y z j =
      let q : three_sort (head_mapped f h) (yield y) ≡ three_sort h (yield b) = three_same h (yield y) ∙ ap (three_sort h) j.yields in
      record { yields = q; sort = top_same h (three_sort (head_mapped f h) (yield y)) ∙ ap (top_sort h) q; first = refl; cell = cell_same h }

pub alike_itself : (e : Tree) → IsAlike e e
alike_itself e = record { yields = refl; sort = refl; first = refl; cell = λ q. q }

pub alike_then : (e x y : Tree) → IsAlike e x → IsAlike x y → IsAlike e y
alike_then e x y i j = record { yields = j.yields ∙ i.yields; sort = j.sort ∙ i.sort; first = j.first ∙ i.first; cell = λ q. j.cell (i.cell q) }

-- over other children
pub one_over : (h : Head) (a x : Tree) → IsAlike (One h a) (One h x)
one_over h a x = record { yields = refl; sort = refl; first = refl; cell = λ q. q }

-- two types
pub kinds_alike : (e x : Tree) → sort_of e ≡ Kind → sort_of x ≡ Kind → IsAlike e x
kinds_alike e x p q = record {
  yields = top_kind (head_of x) (yield x) q ∙ sym (top_kind (head_of e) (yield e) p);
  sort = q ∙ sym p;
  first = first_sort_none x (λ l. let k : Kind ≡ List = sym q ∙ l in cc) ∙ sym (first_sort_none e (λ l. let k : Kind ≡ List = sym p ∙ l in cc));
  cell = λ c. let l : List ≡ Kind = sym (ap (λ h. top_sort h (yield e)) c) ∙ p in absurd (cc);
}

-- a child like it fits as it does
pub one_moved : (h : Head) (a x : Tree) → IsAlike a x → Fits (One h a) → Fits (One h x)
one_moved h a x i t = subst (λ (z : Sort). OneFits h z (first_sort x)) (sym i.sort) (subst (λ (z : Option Sort). OneFits h (sort_of a) z) (sym i.first) t)
