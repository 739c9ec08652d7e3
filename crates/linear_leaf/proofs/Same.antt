-- Readings at two valuations have the same weight and the same atoms, and the same value where they have no atom.
use Rattle.std.proofs.Common.{◌≡◌, ℕ, ◌+◌, ◌*◌, Bool, true, false, List, [], ◌∷◌, ◌++◌, refl, sym, ap, subst, ◌∙◌}
use Rattle.std.proofs.Math.IntN.{ℤ, pos, ◌+ℤ◌, ◌*ℤ◌, neg_ℤ}
use Rattle.trees.specs.Tree.{Tree, Leaf, One, Two, Three, HEnd, HNum, HCell, HFun}
use Rattle.trees.specs.declared.ints.Ints.{Ints}
use Rattle.linear_leaf.specs.Linear.{Sum, negated_or_same, with_two, product_by, both_have, sum, negated_sum, atom, reading, SumOperation, Add, Subtract, Multiply, Other, sum_operation}

pub record Same (a b : Sum) : Type 0 where
  pub weight : a.weight ≡ b.weight
  pub atoms : a.atoms ≡ b.atoms
  pub fixed : a.atoms ≡ [] → a.value ≡ b.value

pub left_empty : (xs ys : List Tree) → xs ++ ys ≡ [] → xs ≡ []
left_empty [] ys h = refl
left_empty (x ∷ xs) ys h = absurd (cc h)

pub right_empty : (xs ys : List Tree) → xs ++ ys ≡ [] → ys ≡ []
right_empty [] ys h = h
right_empty (x ∷ xs) ys h = absurd (cc h)

pub both_same : (a b x y : Sum) → Same a b → Same x y → both_have a.atoms x.atoms ≡ both_have b.atoms y.atoms
both_same a b x y h k = let p = h.atoms in let q = k.atoms in cc

module _ (v w : Tree → ℤ) where
  atom_same : (e : Tree) → Same (atom v e) (atom w e)
  atom_same e = record { weight = refl; atoms = refl; fixed = λ h. absurd (cc h) }

  one_same : (c : Bool) (e : Tree) (a b : Sum) → Same a b → Same (negated_or_same v c e a) (negated_or_same w c e b)
  one_same true e a b h = record { weight = h.weight; atoms = h.atoms; fixed = λ n. ap neg_ℤ (h.fixed n) }
  one_same false e a b h = atom_same e

  product_same : (c : Bool) (e : Tree) (a b x y : Sum) → Same a b → Same x y → Same (product_by v c e a x) (product_by w c e b y)
  product_same true e a b x y h k = atom_same e
  product_same false e a b x y h k = record {
    weight = let p = h.weight in let q = k.weight in cc;
    atoms = let p = h.atoms in let q = k.atoms in cc;
    fixed = λ n. let p = h.fixed (left_empty a.atoms x.atoms n) in let q = k.fixed (right_empty a.atoms x.atoms n) in cc;
  }

  two_same : (op : SumOperation) (e : Tree) (a b x y : Sum) → Same a b → Same x y → Same (with_two v op e a x) (with_two w op e b y)
  two_same Add e a b x y h k = record {
    weight = let p = h.weight in let q = k.weight in cc;
    atoms = let p = h.atoms in let q = k.atoms in cc;
    fixed = λ n. let p = h.fixed (left_empty a.atoms x.atoms n) in let q = k.fixed (right_empty a.atoms x.atoms n) in cc;
  }
  two_same Subtract e a b x y h k = record {
    weight = let p = h.weight in let q = k.weight in cc;
    atoms = let p = h.atoms in let q = k.atoms in cc;
    fixed = λ n. let p = h.fixed (left_empty a.atoms x.atoms n) in let q = k.fixed (right_empty a.atoms x.atoms n) in cc;
  }
  two_same Multiply e a b x y h k =
      subst (λ (c : Bool). Same (product_by v (both_have a.atoms x.atoms) e a x) (product_by w c e b y)) (both_same a b x y h k) (product_same (both_have a.atoms x.atoms) e a b x y h k)
  two_same Other e a b x y h k = atom_same e

pub same : (z : Ints) (v w : Tree → ℤ) (e : Tree) → Same (reading z v e) (reading z w e)
unfolding reading
same z v w (Leaf (HNum n)) = record { weight = refl; atoms = refl; fixed = λ h. refl }
same z v w (Three (HFun f) types (Two HCell a (Leaf HEnd)) ty) = one_same v w _ _ _ _ (same z v w a)
same z v w (Three (HFun f) types (Two HCell a (Two HCell b (Leaf HEnd))) ty) = two_same v w _ _ _ _ _ _ (same z v w a) (same z v w b)
same z v w e = atom_same v w _
