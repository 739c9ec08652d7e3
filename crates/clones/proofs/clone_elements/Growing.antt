-- The sides of elements stay as the store grows.
use Rattle.std.proofs.Common.{◌≡◌, ℕ, List, get_or, All, refl, sym, ap, subst}
use Rattle.tasks.specs.trees.Tree.{Tree}
use Rattle.tasks.specs.trees.Node.{Grows}
use Rattle.tasks.proofs.Growth.{map_agree}
use Rattle.surface.specs.SurfaceDeclarations.{element_of}
use Rattle.open_types.proofs.Growing.{type_grows, type_stays}
use Rattle.clones.specs.declared.clone_elements.rights.Right.{Right}
use Rattle.clones.specs.declared.clone_elements.rights.Right.TheVariants as right
use Rattle.clones.specs.declared.clone_elements.replacements.Side.{Side as CodeSide}
use Rattle.clones.specs.declared.clone_elements.replacements.TypeFor.{TypeFor}
use Rattle.clones.specs.clone_elements.Rights.{RightTree, type_right, IsWithin}
use Rattle.clones.specs.clone_elements.Replacements.{SideTree}
use Rattle.clones.specs.clone_elements.Meaning.{right_at, RightHeld, side_at, sides_at, SideHeld, type_pair, type_pairs_at, TypeForHeld}

module _ (s t : List Tree) (w : Grows s t) where
  pub right_stays : (r : Right) → RightHeld s r → right_at t r ≡ right_at s r
  right_stays (right.Type ty) h = ap type_right (type_stays s t w ty h)
  right_stays (right.Symbol k) h = refl
  right_stays right.Nothing h = refl

  pub right_grows : (r : Right) → RightHeld s r → RightHeld t r
  right_grows (right.Type ty) h = type_grows s t w ty h
  right_grows (right.Symbol k) h = tt
  right_grows right.Nothing h = tt

  pub side_stays : (x : CodeSide) → SideHeld s x → side_at t x ≡ side_at s x
  side_stays x h = let mk : RightTree → SideTree = λ r. record { element = element_of x.element.now; left = x.left; right = r } in ap mk (right_stays x.right h.right)

  pub side_grows : (x : CodeSide) → SideHeld s x → SideHeld t x
  side_grows x h = record { right = right_grows x.right h.right; within = subst (IsWithin (element_of x.element.now)) (sym (right_stays x.right h.right)) h.within }

  pub sides_stay : (xs : List CodeSide) → All (SideHeld s) xs → sides_at t xs ≡ sides_at s xs
  sides_stay xs a = map_agree (side_at t) (side_at s) xs (λ k d h. side_stays (get_or xs k d) (a k d h))

  pub sides_grow : (xs : List CodeSide) → All (SideHeld s) xs → All (SideHeld t) xs
  sides_grow xs a k d h = side_grows (get_or xs k d) (a k d h)

  pub types_for_stay : (ps : List TypeFor) → All (TypeForHeld s) ps → type_pairs_at t ps ≡ type_pairs_at s ps
  types_for_stay ps a = map_agree (type_pair t) (type_pair s) ps (λ k d h. let p = get_or ps k d in ap (λ (e : Tree). let it : ℕ × Tree = (p.symbol, e) in it) (type_stays s t w p.ty (a k d h)))

  pub types_for_grow : (ps : List TypeFor) → All (TypeForHeld s) ps → All (TypeForHeld t) ps
  types_for_grow ps a k d h = type_grows s t w (get_or ps k d).ty (a k d h)
