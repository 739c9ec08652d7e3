-- The image of a tree whose variables are changed is the changed image: shifts, and open terms put in, whose images then are.
use Rattle.std.proofs.Common.{◌≡◌, ℕ, ◌+◌, ◌-◌, ◌<◌, ◌≤◌, ◌⊎◌, inl, inr, List, ◌++◌, map, length, get_or, refl, sym, ap, ◌∙◌, arith}
use Rattle.tasks.specs.trees.declared.Sort.TheVariants.{Kind}
use Rattle.tasks.specs.trees.Tree.{Tree, Leaf, One, Two, Three, Head, HTyVar, HBound, HParam, HArm, binders_over}
use Rattle.tasks.specs.trees.Binding.{Change, change, leaf_by, Bound, shifting, shift, instantiating_many, inst_many, AreNoPatterns}
use Rattle.tasks.specs.trees.Sorts.{sort_of}
use Rattle.trees.proofs.Above.{types_left}
use Rattle.trees.proofs.Many.{many_below, many_at, many_above, cases_many, mapped_at, length_map}
use Rattle.tasks.specs.trees.laws.Indices.{shifted}
use Rattle.tasks.specs.Vocabulary.{Vocabulary}
use Rattle.tasks.specs.Typing.{bound_types}
use Rattle.evidence.specs.images.Images.{image}
use Rattle.evidence.specs.images.typing_laws.HasTyping.{HasTyping, IsTypedRule}
use Rattle.images.proofs.typing_laws.Sorted.{has_sorts, kinds_only}
use Rattle.images.proofs.TypedImages.{image_type, image_patterns, over_typed}
use Rattle.inlining.proofs.OpenInstances.{IsNatural, shifting_natural, many_natural}

abbrev pub IsNoVariable : Tree → Type 0
IsNoVariable (One (HBound i) a) = ⊥
IsNoVariable _ = Unit {0}

-- a rule that leaves variables, and acts alike at other nodes before and after a change
pub record ActsAlike (v : Vocabulary) (f : Tree → Tree) (g : Change) : Type 0 where
  pub variables : (i : ℕ) (a : Tree) → f (Bound i a) ≡ Bound i a
  pub nodes : (types : List Tree) (e : Tree) (d : ℕ) → IsNoVariable e → HasTyping v types e → f (change g d e) ≡ change g d (f e)

module _ (v : Vocabulary) (f : Tree → Tree) (r : IsTypedRule v f) where
  -- a node's operator binds as many variables over the image of its first child
  same_binders : (types : List Tree) (h : Head) (a b : Tree) → HasTyping v types (Two h a b) → binders_over h (image f a) ≡ binders_over h a
  same_binders types HArm a b x = ap (binders_over HArm) (image_patterns v f r types a x.2 (inl x.0.0.0))
  same_binders types _ a b x = refl

  module _ (g k : Change) (from : IsNatural g) (to : IsNatural k) (alike : ActsAlike v f k)
      (put : (types : List Tree) (d i : ℕ) (a : Tree) → HasTyping v types (Bound i a) → image f (g.bound d i a) ≡ k.bound d i a) where
    leaf_from : (c : Change) → IsNatural c → (h : Head) → leaf_by c h ≡ Leaf h
    leaf_from c n (HTyVar j) = n.keeps.ty_var j
    leaf_from c n _ = refl

    type_stays : (c : Change) → IsNatural c → (types : List Tree) (d : ℕ) (a : Tree) → sort_of a ≡ Kind → HasTyping v types a → change c d a ≡ a
    type_stays c n types d a q x = types_left c n.keeps.ty_var d a (kinds_only a (has_sorts v types a x) (inl q))

    one_changed : (types : List Tree) (d : ℕ) (h : Head) (a : Tree) → HasTyping v types (One h a) → image f (change g d a) ≡ change k d (image f a) → image f (change g d (One h a)) ≡ change k d (image f (One h a))
    one_changed types d (HBound i) a x e =
        let t : image f a ≡ a = image_type v f r a (has_sorts v types a x.2) (inl x.0.0) in
        let left : change g d (One (HBound i) a) ≡ g.bound d i a = ap (g.bound d i) (type_stays g from types d a x.0.0 x.2) in
        let there : image f (One (HBound i) a) ≡ Bound i a = ap (λ (z : Tree). f (Bound i z)) t ∙ alike.variables i a in
        ap (image f) left ∙ put types d i a x ∙ sym (ap (k.bound d i) (type_stays k to types d a x.0.0 x.2)) ∙ sym (ap (change k d) there)
    one_changed types d (HParam n) a x e =
        ap (image f) (from.keeps.param d n (change g d a)) ∙ ap (λ (z : Tree). f (One (HParam n) z)) e
        ∙ ap f (sym (to.keeps.param d n (change k d (image f a)))) ∙ alike.nodes types (One (HParam n) (image f a)) d tt (over_typed v f r types (One (HParam n) a) x)
    one_changed types d h a x e = ap (λ (z : Tree). f (One h z)) e ∙ alike.nodes types (One h (image f a)) d tt (over_typed v f r types (One h a) x)

    pub image_changed : (types : List Tree) (d : ℕ) (e : Tree) → HasTyping v types e → image f (change g d e) ≡ change k d (image f e)
    image_changed types d (Leaf h) x = ap (image f) (leaf_from g from h) ∙ ap f (sym (leaf_from k to h)) ∙ alike.nodes types (Leaf h) d tt x
    image_changed types d (One h a) x = one_changed types d h a x (image_changed types d a x.2)
    image_changed types d (Two h a b) x =
        let n : d + binders_over h (image f a) ≡ d + binders_over h a = ap (λ (m : ℕ). d + m) (same_binders types h a b x) in
        let u = image_changed types d a x.2 in
        let w = image_changed (bound_types h a ++ types) (d + binders_over h a) b x.3 in
        ap (λ (z : Tree). f (Two h z (image f (change g (d + binders_over h a) b)))) u
        ∙ ap (λ (z : Tree). f (Two h (change k d (image f a)) z)) (w ∙ ap (λ (m : ℕ). change k m (image f b)) (sym n))
        ∙ alike.nodes types (Two h (image f a) (image f b)) d tt (over_typed v f r types (Two h a b) x)
    image_changed types d (Three h a b c) x =
        ap (λ (z : Tree). f (Three h z (image f (change g d b)) (image f (change g d c)))) (image_changed types d a x.2)
        ∙ ap (λ (z : Tree). f (Three h (change k d (image f a)) z (image f (change g d c)))) (image_changed types d b x.3)
        ∙ ap (λ (z : Tree). f (Three h (change k d (image f a)) (change k d (image f b)) z)) (image_changed types d c x.4)
        ∙ alike.nodes types (Three h (image f a) (image f b) (image f c)) d tt (over_typed v f r types (Three h a b c) x)

  -- ---- variables and their images
  variable_image : ((i : ℕ) (a : Tree) → f (Bound i a) ≡ Bound i a) → (types : List Tree) (i j : ℕ) (a : Tree) → HasTyping v types (Bound i a) → image f (Bound j a) ≡ Bound j a
  variable_image fixed types i j a x = ap (λ (z : Tree). f (Bound j z)) (image_type v f r a (has_sorts v types a x.2) (inl x.0.0)) ∙ fixed j a

  -- a shifted tree
  pub image_of_shift : (up from : ℕ) → ActsAlike v f (shifting up from) → (types : List Tree) (e : Tree) → HasTyping v types e → image f (shift e up from) ≡ shift (image f e) up from
  image_of_shift up from alike types e x =
      image_changed (shifting up from) (shifting up from) (shifting_natural up from) (shifting_natural up from) alike
      (λ ts d i a y. variable_image alike.variables ts i (shifted up from d i) a y) types 0 e x

  -- open terms put in
  module _ (us : List Tree) (terms : AreNoPatterns us) (images : AreNoPatterns (map (image f) us)) (alike : ActsAlike v f (instantiating_many (map (image f) us)))
      (shifts : (d : ℕ) → ActsAlike v f (shifting d 0)) (typed : (j : ℕ) (e : Tree) → j < length us → (types : List Tree) × HasTyping v types (get_or us j e)) where
    many_put : (types : List Tree) (d i : ℕ) (a : Tree) → HasTyping v types (Bound i a) → (i < d) ⊎ (((j : ℕ) × ((d ≤ i) × (i + j + 1 ≡ d + length us))) ⊎ (d + length us ≤ i))
        → image f ((instantiating_many us).bound d i a) ≡ (instantiating_many (map (image f) us)).bound d i a
    many_put types d i a x (inl l) = ap (image f) (many_below us d i a l) ∙ variable_image alike.variables types i i a x ∙ sym (many_below (map (image f) us) d i a l)
    many_put types d i a x (inr (inl j)) =
        let h : j.0 < length us = omega (arith, j.1.0, j.1.1) in
        let n : length (map (image f) us) ≡ length us = length_map (image f) us in
        let t = typed j.0 a h in
        ap (image f) (many_at us d i j.0 a j.1.0 j.1.1) ∙ image_of_shift d 0 (shifts d) t.0 (get_or us j.0 a) t.1
        ∙ ap (λ (z : Tree). shift z d 0) (sym (mapped_at (image f) us j.0 a a h)) ∙ sym (many_at (map (image f) us) d i j.0 a j.1.0 (omega (arith, j.1.1, n)))
    many_put types d i a x (inr (inr l)) =
        let n : length (map (image f) us) ≡ length us = length_map (image f) us in
        ap (image f) (many_above us d i a l) ∙ variable_image alike.variables types i (i - length us) a x ∙ ap (λ (m : ℕ). Bound (i - m) a) (sym n) ∙ sym (many_above (map (image f) us) d i a (omega (arith, n)))

    pub image_of_many : (types : List Tree) (e : Tree) → HasTyping v types e → image f (inst_many e us) ≡ inst_many (image f e) (map (image f) us)
    image_of_many types e x =
        image_changed (instantiating_many us) (instantiating_many (map (image f) us)) (many_natural us terms) (many_natural (map (image f) us) images) alike
        (λ ts d i a y. many_put ts d i a y (cases_many i d (length us))) types 0 e x
