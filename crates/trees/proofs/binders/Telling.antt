-- How a changed tree is told without making it: by what is kept beside a tree, at a variable, and from the children.
use Rattle.std.proofs.Common.{◌≡◌, ◌↔◌, ℕ, ◌+◌, ◌<◌, ◌≤◌, Bool, IsTrue, Some, sym, ap, ◌∙◌, arith}
use Rattle.trees.specs.Tree.{Tree, Two, Head, loose, binders_over}
use Rattle.trees.specs.Binding.{Change, change, Bound, TyVar}
use Rattle.trees.specs.Sorts.{WellSorted}
use Rattle.trees.proofs.Above.{type_left}
use Rattle.trees.proofs.Types.{type_closed}
use Rattle.trees.specs.binders.Depth.{IsDepth, IsUnder, IsChanged, CanBe, IsTold}
use Rattle.trees.proofs.binders.Rebuilt.{deeper}

-- a tree that the change leaves
module _ (f : Change) (e : Tree) (depth : ℕ) (stays : (d : ℕ) → IsDepth depth d → change f d e ≡ e) where
  pub left_is : IsChanged f depth e e
  left_is = record { is = λ d i. sym (stays d i) }

  pub left_told : (made : Tree) (r : Bool) → IsTrue r ↔ (made ≡ e) → IsTold f depth e made (Some r)
  left_told made r q = (λ t. record { is = λ d i. q.0 t ∙ sym (stays d i) }, λ k. q.1 (k.is ∙ stays k.d k.is_depth))

-- a variable that the binders around do not close
module _ (e ty : Tree) (i : ℕ) (w : WellSorted e) (q : e ≡ Bound i ty) where
  sorted : WellSorted (Bound i ty)
  sorted = rw q at w

  pub is_small : i < 18446744073709551615
  is_small = sorted.0.1

  pub is_above : (depth : ℕ) → depth < loose e → depth ≤ i
  is_above depth l =
      let m : loose e ≡ loose (Bound i ty) = ap loose q in
      omega (arith, type_closed ty sorted.1 sorted.0.0)

  module _ (f : Change) (types : (j : ℕ) → f.ty_var j ≡ TyVar j) (depth : ℕ) (above : depth ≤ i) where
    pub becomes : (d : ℕ) → IsDepth depth d → change f d e ≡ f.bound depth i ty
    becomes d k =
        let z : d ≡ depth = omega (arith, sorted.0.1) in
        ap (change f d) q ∙ ap (f.bound d i) (type_left f types d ty sorted.1 sorted.0.0) ∙ ap (λ c. f.bound c i ty) z

    pub bound_is : (made : Tree) → made ≡ f.bound depth i ty → IsChanged f depth e made
    bound_is made m = record { is = λ d k. m ∙ sym (becomes d k) }

    pub bound_told : (made : Tree) (r : Bool) → IsTrue r ↔ (made ≡ f.bound depth i ty) → IsTold f depth e made (Some r)
    bound_told made r p = (λ t. bound_is made (p.0 t), λ k. p.1 (k.is ∙ becomes k.d k.is_depth))

-- the second child of what can be the change of a node with two
pub two_can : (f : Change) (depth under : ℕ) (h k : Head) (a b x y e made : Tree) → e ≡ Two h a b → made ≡ Two k x y → IsUnder depth under h a → CanBe f depth e made → CanBe f under b y
two_can f depth under h k a b x y e made p q u c =
    let z : Two k x y ≡ Two h (change f c.d a) (change f (c.d + binders_over h a) b) = sym q ∙ c.is ∙ ap (change f c.d) p in
    record { d = c.d + binders_over h a; is_depth = deeper depth under c.d h a u c.is_depth; is = cc }
