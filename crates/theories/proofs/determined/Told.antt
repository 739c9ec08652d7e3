-- What is told of the elements of a clone is told once.
use Rattle.std.proofs.Common.{◌≡◌, ℕ, Bool, true, false, List, [], ◌∷◌, Option, Some, None, sym, ap, ◌∙◌, inl, inr}
use Rattle.tasks.specs.Task.{SymbolTree}
use Rattle.elaboration_laws.specs.clones.Mapped.{Map}
use Rattle.elaboration_laws.specs.clones.clone_elements.Left.{Origin}
use Rattle.elaboration_laws.specs.clones.clone_elements.Replacements.{SideTree, PlacedEffects, with_side}
use Rattle.elaboration_laws.specs.clones.clone_elements.Elements.{is_wrong, left_token, right_token, IsRightSide, IsRefusedAt, SideTold, SidesTold}

wrong_or : (b : Bool) (token left right : ℕ) (Right : Type 0) → b ≡ false → Right → IsRefusedAt b token left right Right → ⊥
wrong_or true token left right Right e r h = cc
wrong_or false token left right Right e r h = h.1 r

one_token : (b : Bool) (i j left right : ℕ) (Right : Type 0) → IsRefusedAt b i left right Right → IsRefusedAt b j left right Right → i ≡ j
one_token true i j left right Right h k = h ∙ sym k
one_token false i j left right Right h k = h.0 ∙ sym k.0

module _ (symbols : List SymbolTree) (o : Origin) (m : Map) where
  side_or : (effects : PlacedEffects) (x : SideTree) (token : ℕ) → SideTold symbols o m effects x None → SideTold symbols o m effects x (Some token) → ⊥
  side_or effects x token h k =
      wrong_or (is_wrong symbols o effects x.element x.right x.left) token (left_token x.element) (right_token x.element) (IsRightSide symbols o m x.element x.left x.right) h.0 h.1 k

  pub told_once : (effects : PlacedEffects) (xs : List SideTree) (a b : Option ℕ) → SidesTold symbols o m effects xs a → SidesTold symbols o m effects xs b → a ≡ b
  told_once effects [] a b h k = h ∙ sym k
  told_once effects (x ∷ xs) a b (inl h) (inl k) = told_once (with_side x effects) xs a b h.1 k.1
  told_once effects (x ∷ xs) a b (inl h) (inr k) = absurd (side_or effects x k.0 h.0 k.2)
  told_once effects (x ∷ xs) a b (inr h) (inl k) = absurd (side_or effects x h.0 k.0 h.2)
  told_once effects (x ∷ xs) a b (inr h) (inr k) =
      h.1 ∙ ap (λ (i : ℕ). Some i) (one_token (is_wrong symbols o effects x.element x.right x.left) h.0 k.0 (left_token x.element) (right_token x.element) (IsRightSide symbols o m x.element x.left x.right) h.2 k.2) ∙ sym k.1
