-- A term that is put in changes the parts of a formula, and not how it is split.
use Rattle.std.proofs.Common.{◌≡◌, ℕ, ◌+◌, List, [], ◌∷◌, ◌++◌, map, refl, ap, ◌∙◌, arith}
use Rattle.std.proofs.lemmas.List.{map-append}
use Rattle.tasks.specs.trees.declared.Op.TheVariants.{And, AndThen, Imp, Iff}
use Rattle.tasks.specs.trees.declared.Sort.TheVariants.{Formula}
use Rattle.tasks.specs.trees.Tree.{Tree, Leaf, One, Two, Three, Head, HTrue, HFalse, HNot, HJoin, HForall, HLet, HIf, binders_over}
use Rattle.tasks.specs.trees.Binding.{Change, change, instantiating, inst}
use Rattle.tasks.specs.trees.Sorts.{WellSorted, sort_of}
use Rattle.tasks.specs.Task.{neg}
use Rattle.tr_split.specs.parts.Split.{imp, split}
use Rattle.tr_split.specs.parts.Kept.{let_sentence, then_sentence, else_sentence}
use Rattle.tr_split.specs.Goals.{splits}

module _ (f : Change) where
  abbrev at : ℕ → Tree → Tree
  at d e = change f d e

  -- formulas under one operator
  wrapped : (d c : ℕ) (h : Head) (a : Tree) (xs : List Tree) → c ≡ d + binders_over h a → map (Two h (at d a)) (map (at c) xs) ≡ map (at d) (map (Two h a) xs)
  wrapped d c h a [] q = refl
  wrapped d c h a (x ∷ xs) q = let e : at c x ≡ at (d + binders_over h a) x = ap (λ (n : ℕ). at n x) q in cc (e, wrapped d c h a xs q)

  same_depth : (d : ℕ) (xs : List Tree) → map (at (d + 0)) xs ≡ map (at d) xs
  same_depth d xs = let e : d + 0 ≡ d = omega arith in ap (λ (n : ℕ). map (at n) xs) e

  pub split_change : (d : ℕ) (e : Tree) → WellSorted e → sort_of e ≡ Formula → split (at d e) ≡ map (at d) (split e)
  split_change d (Leaf HTrue) w q = refl
  split_change d (Leaf HFalse) w q = refl
  split_change d (Leaf _) w q = absurd (cc)
  split_change d (One HNot a) w q = refl
  split_change d (One _ a) w q = absurd (cc)
  split_change d (Two (HJoin And) a b) w q =
      let l = split_change d a w.1 w.0.0.0 in
      let r = split_change (d + 0) b w.2 w.0.0.1 in
      let m : map (at (d + 0)) (split b) ≡ map (at d) (split b) = same_depth d (split b) in
      let j : map (at d) (split a ++ split b) ≡ map (at d) (split a) ++ map (at d) (split b) = map-append (at d) (split a) (split b) in
      cc
  split_change d (Two (HJoin AndThen) a b) w q =
      let l = split_change d a w.1 w.0.0.0 in
      let r : map (imp (at d a)) (split (at (d + 0) b)) ≡ map (at d) (map (imp a) (split b)) = ap (map (imp (at d a))) (split_change (d + 0) b w.2 w.0.0.1) ∙ wrapped d (d + 0) (HJoin Imp) a (split b) refl in
      let j : map (at d) (split a ++ map (imp a) (split b)) ≡ map (at d) (split a) ++ map (at d) (map (imp a) (split b)) = map-append (at d) (split a) (map (imp a) (split b)) in
      cc
  split_change d (Two (HJoin Imp) a b) w q = ap (map (imp (at d a))) (split_change (d + 0) b w.2 w.0.0.1) ∙ wrapped d (d + 0) (HJoin Imp) a (split b) refl
  split_change d (Two (HJoin Iff) a b) w q =
      let e : d + 0 ≡ d = omega arith in
      let x : at (d + 0) b ≡ at d b = ap (λ (n : ℕ). at n b) e in
      let y : at (d + 0) a ≡ at d a = ap (λ (n : ℕ). at n a) e in
      cc
  split_change d (Two HForall ty a) w q = ap (map (Two HForall (at d ty))) (split_change (d + 1) a w.2 w.0.0.1) ∙ wrapped d (d + 1) HForall ty (split a) refl
  split_change d (Two HLet t a) w q = ap (map (Two HLet (at d t))) (split_change (d + 1) a w.2 (let_sentence t a w.0 q)) ∙ wrapped d (d + 1) HLet t (split a) refl
  split_change d (Two _ a b) w q = refl
  split_change d (Three HIf c a b) w q =
      let z : d ≡ d + 0 = omega arith in
      let l : map (imp (at d c)) (split (at d a)) ≡ map (at d) (map (imp c) (split a)) = ap (map (imp (at d c))) (split_change d a w.2 (then_sentence c a b w.0 q)) ∙ wrapped d d (HJoin Imp) c (split a) z in
      let r : map (imp (neg (at d c))) (split (at d b)) ≡ map (at d) (map (imp (neg c)) (split b)) = ap (map (imp (neg (at d c)))) (split_change d b w.3 (else_sentence c a b w.0 q)) ∙ wrapped d d (HJoin Imp) (neg c) (split b) z in
      let j : map (at d) (map (imp c) (split a) ++ map (imp (neg c)) (split b)) ≡ map (at d) (map (imp c) (split a)) ++ map (at d) (map (imp (neg c)) (split b)) = map-append (at d) (map (imp c) (split a)) (map (imp (neg c)) (split b)) in
      cc
  split_change d (Three _ a b c) w q = refl

  pub splits_change : (d : ℕ) (e : Tree) → WellSorted e → sort_of e ≡ Formula → splits (at d e) ≡ splits e
  splits_change d (Leaf HTrue) w q = refl
  splits_change d (Leaf HFalse) w q = refl
  splits_change d (Leaf _) w q = absurd (cc)
  splits_change d (One HNot a) w q = refl
  splits_change d (One _ a) w q = absurd (cc)
  splits_change d (Two (HJoin And) a b) w q = omega (arith, splits_change d a w.1 w.0.0.0, splits_change (d + 0) b w.2 w.0.0.1)
  splits_change d (Two (HJoin AndThen) a b) w q = omega (arith, splits_change d a w.1 w.0.0.0, splits_change (d + 0) b w.2 w.0.0.1)
  splits_change d (Two (HJoin Imp) a b) w q = omega (arith, splits_change (d + 0) b w.2 w.0.0.1)
  splits_change d (Two HForall ty a) w q = omega (arith, splits_change (d + 1) a w.2 w.0.0.1)
  splits_change d (Two HLet t a) w q = omega (arith, splits_change (d + 1) a w.2 (let_sentence t a w.0 q))
  splits_change d (Two _ a b) w q = refl
  splits_change d (Three HIf c a b) w q = omega (arith, splits_change d a w.2 (then_sentence c a b w.0 q), splits_change d b w.3 (else_sentence c a b w.0 q))
  splits_change d (Three _ a b c) w q = refl

-- a term put in
pub split_inst : (e t : Tree) → WellSorted e → sort_of e ≡ Formula → split (inst e t) ≡ map (λ x. inst x t) (split e)
split_inst e t w q = split_change (instantiating t) 0 e w q

pub splits_inst : (e t : Tree) → WellSorted e → sort_of e ≡ Formula → splits (inst e t) ≡ splits e
splits_inst e t w q = splits_change (instantiating t) 0 e w q
