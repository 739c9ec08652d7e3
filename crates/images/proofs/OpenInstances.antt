-- Instances of open trees one after another: open terms put in and then closed ones, quantifiers at terms, a variable that isn't
-- there, and images at types.
use Rattle.std.proofs.Common.{◌≡◌, ℕ, ◌+◌, ◌<◌, ◌≤◌, ◌⊎◌, false, inl, inr, List, [], ◌∷◌, ◌++◌, map, length, get_or, refl, sym, ap, ◌∙◌, arith}
use Rattle.std.proofs.lemmas.Bool.{cases_lt}
use Rattle.trees.specs.declared.Sort.TheVariants.{Kind}
use Rattle.trees.specs.Tree.{Tree, Leaf, One, Two, Three, Head, HTyVar, HBound, HParam, HForall, head_of, loose, pat_vars, binders_over}
use Rattle.trees.specs.Binding.{change, leaf_by, one_by, Bound, inst, instantiating_many, inst_many, inst_types, TyVar, AreClosed, AreNoPatterns}
use Rattle.trees.specs.Sorts.{WellSorted, sort_of}
use Rattle.trees.specs.Facts.{is_open}
use Rattle.trees.specs.laws.Changes.{change_closed}
use Rattle.trees.proofs.Instances.{inst_two}
use Rattle.trees.proofs.Many.{many_below, many_above, keeps_many, inst_many_closed, inst_many_under, inst_many_inst_many, inst_many_inst, inst_under, inst_is_many, inst_not_open, length_map}
use Rattle.tasks.specs.Equations.{for_all}
use Rattle.images.specs.Images.{image, IsOtherHead}
use Rattle.images.specs.Instances.{for_all_at, AreTypesClosed, CommutesWith}
use Rattle.images.proofs.Images.{others_type}

-- ---- open terms for all open variables of a tree, and then closed ones
pub composed : (us ts : List Tree) (e : Tree) → AreClosed us → AreNoPatterns ts → loose e ≤ length ts → inst_many (inst_many e ts) us ≡ inst_many e (map (λ t. inst_many t us) ts)
composed us ts e c w l =
    let rs : List Tree = map (λ t. inst_many t us) ts in
    let n : length rs ≡ length ts = length_map (λ t. inst_many t us) ts in
    let same : change (instantiating_many us) (length rs) e ≡ e = change_closed (instantiating_many us) (keeps_many us) (length rs) e (omega (arith, n, l)) in
    inst_many_inst_many us c ts w e ∙ sym (inst_many_under us rs (length rs) c refl e) ∙ ap (λ (z : Tree). inst_many z rs) same

-- ---- quantifiers at closed terms, one after another
under_all : (ts : List Tree) (d : ℕ) (types : List Tree) (e : Tree) → AreTypesClosed types → change (instantiating_many ts) d (for_all types e) ≡ for_all types (change (instantiating_many ts) (d + length types) e)
under_all ts d [] e c = ap (λ n. change (instantiating_many ts) n e) (omega arith)
under_all ts d (ty ∷ types) e c =
    ap (λ (z : Tree). Two HForall z (change (instantiating_many ts) (d + 1) (for_all types e))) (inst_many_closed ts d ty c.0)
    ∙ ap (Two HForall ty) (under_all ts (d + 1) types e c.1 ∙ ap (λ n. for_all types (change (instantiating_many ts) n e)) (omega arith))

no_bound : (d i : ℕ) (x y : Tree) → x ≡ y → (i < d) ⊎ (d ≤ i) → (instantiating_many []).bound d i x ≡ Bound i y
no_bound d i x y q (inl l) = many_below [] d i x l ∙ ap (Bound i) q
no_bound d i x y q (inr l) = many_above [] d i x (omega (arith, l)) ∙ ap (λ n. Bound n x) (omega arith) ∙ ap (Bound i) q

no_one : (d : ℕ) (h : Head) (x y : Tree) → x ≡ y → one_by (instantiating_many []) d h x ≡ One h y
no_one d (HBound i) x y q = no_bound d i x y q (cases_lt i d)
no_one d (HParam n) x y q = ap (One (HParam n)) q
no_one d h x y q = ap (One h) q

no_leaf : (h : Head) → leaf_by (instantiating_many []) h ≡ Leaf h
no_leaf (HTyVar j) = refl
no_leaf _ = refl

no_terms : (d : ℕ) (e : Tree) → change (instantiating_many []) d e ≡ e
no_terms d (Leaf h) = no_leaf h
no_terms d (One h a) = no_one d h (change (instantiating_many []) d a) a (no_terms d a)
no_terms d (Two h a b) = cc (no_terms d a, no_terms (d + binders_over h a) b)
no_terms d (Three h a b c) = cc (no_terms d a, no_terms d b, no_terms d c)

pub for_all_opens : (types ts : List Tree) (e : Tree) → AreTypesClosed types → AreClosed ts → length ts ≡ length types → for_all_at (for_all types e) ts ≡ inst_many e ts
for_all_opens [] [] e c k n = sym (no_terms 0 e)
for_all_opens [] (t ∷ ts) e c k n = absurd (omega (arith, n))
for_all_opens (ty ∷ types) [] e c k n = absurd (omega (arith, n))
for_all_opens (ty ∷ types) (t ∷ ts) e c k n =
    let m : length ts ≡ length types = omega (arith, n) in
    ap (λ (z : Tree). for_all_at z ts) (sym (inst_is_many (for_all types e) t) ∙ under_all (t ∷ []) 0 types e c.1)
    ∙ for_all_opens types ts (change (instantiating_many (t ∷ [])) (0 + length types) e) c.1 k.1 m
    ∙ inst_many_under (t ∷ []) ts (0 + length types) (k.0, tt) (omega (arith, m)) e

-- ---- a variable that isn't there
pub lowered : (env : List Tree) (b x c : Tree) → AreClosed env → is_open 0 b ≡ false → loose c ≡ 0 → pat_vars c ≡ 0 → inst_many (inst b x) env ≡ inst (change (instantiating_many env) 1 b) c
lowered env b x c k o l w =
    ap (λ (z : Tree). inst_many z env) (inst_not_open x c b o) ∙ inst_many_inst env k b c w
    ∙ ap (λ (z : Tree). inst_many b (env ++ z ∷ [])) (inst_many_closed env 0 c l) ∙ sym (inst_under env k b c)

-- ---- images at types
module _ (f : Tree → Tree) (others : (e : Tree) → IsOtherHead (head_of e) → f e ≡ e) (tys : List Tree) (kinds : (j : ℕ) → WellSorted (get_or tys j (TyVar j)) × (sort_of (get_or tys j (TyVar j)) ≡ Kind)) where
  one_at : (h : Head) (a : Tree) → inst_types (One h a) tys ≡ One h (inst_types a tys)
  one_at (HBound i) a = refl
  one_at (HParam n) a = refl
  one_at _ a = refl

  leaf_image : (h : Head) → CommutesWith f tys (Leaf h) → image f (inst_types (Leaf h) tys) ≡ inst_types (image f (Leaf h)) tys
  leaf_image (HTyVar j) c =
      let k = kinds j in
      others_type f others (get_or tys j (TyVar j)) k.0 (inl k.1) ∙ ap (λ (z : Tree). inst_types z tys) (sym (others (Leaf (HTyVar j)) tt))
  leaf_image _ c = c

  pub image_at_types : (e : Tree) → CommutesWith f tys e → image f (inst_types e tys) ≡ inst_types (image f e) tys
  image_at_types (Leaf h) c = leaf_image h c
  image_at_types (One h a) c = ap (image f) (one_at h a) ∙ ap (λ (z : Tree). f (One h z)) (image_at_types a c.1) ∙ ap f (sym (one_at h (image f a))) ∙ c.0
  image_at_types (Two h a b) c =
      ap (image f) (inst_two tys h a b) ∙ cc (image_at_types a c.1, image_at_types b c.2) ∙ ap f (sym (inst_two tys h (image f a) (image f b))) ∙ c.0
  image_at_types (Three h a b d) c = cc (image_at_types a c.1, image_at_types b c.2, image_at_types d c.3) ∙ c.0
