-- What the visits and tests read off the numbers kept beside a tree, over plain trees.
use Rattle.std.proofs.Common.{◌≡◌, ◌↔◌, ℕ, ◌+◌, ◌<◌, ◌≤◌, min, Bool, IsTrue, List, Some, refl, sym, ap, subst, ◌∙◌, arith}
use Rattle.trees.specs.Tree.{Tree, loose, above_ty_vars, above_params}
use Rattle.trees.specs.Binding.{Change, change, Bound, Param, TyVar, shifting, instantiating, instantiating_many, typing, closing}
use Rattle.trees.specs.Sorts.{WellSorted}
use Rattle.trees.specs.Facts.{IndicesFit}
use Rattle.trees.proofs.Above.{type_left, change_left, below_shifting, below_inst, below_many, below_typing, below_closing}
use Rattle.trees.specs.laws.Indices.{shift_above, close_below, close_above, close_same}
use Rattle.trees.proofs.Laws.{close_other}
use Rattle.trees.specs.binders.Depth.{IsDepth, FitsUnder, IsChanged, IsTold}
use Rattle.trees.proofs.binders.Telling.{is_small, is_above, becomes, bound_is, bound_told}

-- ---- trees that are left
pub shift_left : (up from depth : ℕ) (e : Tree) → loose e ≤ min (from + depth) 18446744073709551615 → (d : ℕ) → IsDepth depth d → change (shifting up from) d e ≡ e
shift_left up from depth e l d i = change_left (shifting up from) from (above_params e) (above_ty_vars e) (below_shifting up from (above_params e) (above_ty_vars e)) d e (omega arith) (omega arith) (omega arith)

pub inst_left : (t : Tree) (depth : ℕ) (e : Tree) → loose e ≤ depth → (d : ℕ) → IsDepth depth d → change (instantiating t) d e ≡ e
inst_left t depth e l d i = change_left (instantiating t) 0 (above_params e) (above_ty_vars e) (below_inst t (above_params e) (above_ty_vars e)) d e (omega arith) (omega arith) (omega arith)

pub many_left : (ts : List Tree) (depth : ℕ) (e : Tree) → loose e ≤ depth → (d : ℕ) → IsDepth depth d → change (instantiating_many ts) d e ≡ e
many_left ts depth e l d i = change_left (instantiating_many ts) 0 (above_params e) (above_ty_vars e) (below_many ts (above_params e) (above_ty_vars e)) d e (omega arith) (omega arith) (omega arith)

pub typing_left : (tys : List Tree) (e : Tree) → min (above_ty_vars e) 18446744073709551615 ≡ 0 → (d : ℕ) → change (typing tys) d e ≡ e
typing_left tys e l d = change_left (typing tys) (loose e) (above_params e) 0 (below_typing tys (loose e) (above_params e)) d e (omega arith) (omega arith) (omega arith)

pub closing_left : (n depth : ℕ) (e : Tree) → loose e ≤ depth → above_params e ≤ n → (d : ℕ) → IsDepth depth d → change (closing n) d e ≡ e
closing_left n depth e l p d i = change_left (closing n) 0 n (above_ty_vars e) (below_closing n (above_ty_vars e)) d e (omega arith) p (omega arith)

pub closing_low : (n depth i : ℕ) (e ty : Tree) → WellSorted e → e ≡ Bound i ty → i < depth → (d : ℕ) → IsDepth depth d → change (closing n) d e ≡ e
closing_low n depth i e ty w q l d k =
    let v : WellSorted (Bound i ty) = rw q at w in
    ap (change (closing n) d) q ∙ ap (λ j. Bound j (change (closing n) d ty)) (close_below d i (omega arith)) ∙ ap (Bound i) (type_left (closing n) (λ _. refl) d ty v.1 v.0.0) ∙ sym q

-- ---- what is put for a variable above the binders
module _ (e ty : Tree) (i : ℕ) (w : WellSorted e) (q : e ≡ Bound i ty) where
  module _ (f : Change) (types : (j : ℕ) → f.ty_var j ≡ TyVar j) (depth : ℕ) (above : depth ≤ i) (x : Tree) (value : f.bound depth i ty ≡ x) where
    pub put_made : (made : Tree) → made ≡ x → IsChanged f depth e made
    put_made made m = bound_is e ty i w q f types depth above made (m ∙ sym value)

    pub put_fits : FitsUnder f depth e → IndicesFit x
    put_fits k =
        let P : Tree → Type 0 = λ t. IndicesFit t in
        subst P (becomes e ty i w q f types depth above k.d k.is_depth ∙ value) k.fits

    pub put_told : (made : Tree) (r : Bool) → IsTrue r ↔ (made ≡ x) → IsTold f depth e made (Some r)
    put_told made r p = bound_told e ty i w q f types depth above made r (λ t. p.0 t ∙ sym value, λ k. p.1 (k ∙ value))

  module _ (up from depth : ℕ) (l : min (from + depth) 18446744073709551615 < loose e) where
    low : from + depth ≤ i
    low =
        let n : min (from + depth) 18446744073709551615 ≤ i = is_above e ty i w q (min (from + depth) 18446744073709551615) l in
        omega (arith, is_small e ty i w q)

    pub raised_above : depth ≤ i
    raised_above = omega (arith, low)

    pub raised : (shifting up from).bound depth i ty ≡ Bound (i + up) ty
    raised = ap (λ j. Bound j ty) (shift_above up from depth i low)

pub closed_above : (n depth i : ℕ) (ty : Tree) → depth ≤ i → (closing n).bound depth i ty ≡ Bound (i + 1) ty
closed_above n depth i ty l = ap (λ j. Bound j ty) (close_above depth i l)

-- ---- what is put for a parameter
module _ (n depth m : ℕ) (e ty : Tree) (w : WellSorted e) (q : e ≡ Param m ty) where
  turns : (d : ℕ) → change (closing n) d e ≡ (closing n).param d m ty
  turns d =
      let v : WellSorted (Param m ty) = rw q at w in
      ap (change (closing n) d) q ∙ ap ((closing n).param d m) (type_left (closing n) (λ _. refl) d ty v.1 v.0)

  pub other_left : (m ≡ n → ⊥) → (d : ℕ) → change (closing n) d e ≡ e
  other_left o d = turns d ∙ close_other n d m ty o ∙ sym q

  module _ (same : m ≡ n) (fits : FitsUnder (closing n) depth e) where
    pub closed_small : depth < 18446744073709551615
    closed_small =
        let P : Tree → Type 0 = λ t. IndicesFit t in
        let b : IndicesFit (Bound fits.d ty) = subst P (turns fits.d ∙ close_same n fits.d m ty same) fits.fits in
        omega (arith, b.0, fits.is_depth)

    pub closed_made : (made : Tree) → made ≡ Bound depth ty → IsChanged (closing n) depth e made
    closed_made made p = record {
      is = λ d i.
          let z : d ≡ depth = omega (arith, closed_small) in
          p ∙ ap (λ c. Bound c ty) (sym z) ∙ sym (turns d ∙ close_same n d m ty same);
    }
