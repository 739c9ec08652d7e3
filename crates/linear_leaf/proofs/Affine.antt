-- The value of a term rises with its atoms' values as a line does.
use Rattle.std.proofs.Common.{◌≡◌, ℕ, Bool, true, false, List, [], ◌∷◌, ◌++◌, refl, sym, ap, ◌∙◌, ◌⊎◌, inl, inr, arith}
use Rattle.std.proofs.Math.IntN.{ℤ, pos, negsuc, ◌+ℤ◌, ◌-ℤ◌, ◌*ℤ◌, neg_ℤ, *ℤ_comm}
use Rattle.std.proofs.lemmas.Int.{ints}
use Rattle.trees.specs.Tree.{Tree, Leaf, One, Two, Three, HEnd, HNum, HCell, HFun}
use Rattle.trees.specs.declared.ints.Ints.{Ints}
use Rattle.trees.specs.Facts.{Each}
use Rattle.linear_leaf.specs.Linear.{Sum, constant_sum, negated_or_same, with_two, product_by, both_have, sum, negated_sum, atom, reading, SumOperation, Add, Subtract, Multiply, Other, sum_operation}
use Rattle.linear_leaf.proofs.Integers.{mul-add, mul-sub, mul-swap}
use Rattle.linear_leaf.proofs.Same.{Same, same, both_same}

-- u = w + k (i - o)
pub record Line (k u w i o : ℤ) : Type 0 where
  pub line : u ≡ w +ℤ k *ℤ (i -ℤ o)

pub line_flat : (k c : ℤ) → Line k c c c c
line_flat k c = record { line = let e = mul-sub k c c in omega (arith, ints) }

pub line_add : (k u w i o u' w' i' o' : ℤ) → Line k u w i o → Line k u' w' i' o' → Line k (u +ℤ u') (w +ℤ w') (i +ℤ i') (o +ℤ o')
line_add k u w i o u' w' i' o' h h' = record { line = let e = mul-sub k i o in let e' = mul-sub k i' o' in let f = mul-sub k (i +ℤ i') (o +ℤ o') in let g = mul-add k i i' in let g' = mul-add k o o' in omega (arith, ints, h.line, h'.line) }

pub line_by : (c k u w i o : ℤ) → Line k u w i o → Line k (c *ℤ u) (c *ℤ w) (c *ℤ i) (c *ℤ o)
line_by c k u w i o h = record { line = ap (λ (x : ℤ). c *ℤ x) h.line ∙ mul-add c w (k *ℤ (i -ℤ o)) ∙ ap (λ (x : ℤ). c *ℤ w +ℤ x) (mul-swap c k (i -ℤ o) ∙ ap (λ (x : ℤ). k *ℤ x) (mul-sub c i o)) }

minus-one : (a : ℤ) → negsuc 0 *ℤ a ≡ neg_ℤ a
minus-one a = grind (arith, ints)

pub line_neg : (k u w i o : ℤ) → Line k u w i o → Line k (neg_ℤ u) (neg_ℤ w) (neg_ℤ i) (neg_ℤ o)
line_neg k u w i o h = rw (← minus-one u, ← minus-one w, ← minus-one i, ← minus-one o) (line_by (negsuc 0) k u w i o h)

pub line_of : (c k u w i o : ℤ) → Line k u w i o → Line k (u *ℤ c) (w *ℤ c) (i *ℤ c) (o *ℤ c)
line_of c k u w i o h = rw (*ℤ_comm u c, *ℤ_comm w c, *ℤ_comm i c, *ℤ_comm o c) (line_by c k u w i o h)

pub all_left : (P : Tree → Type 0) (xs ys : List Tree) → Each P (xs ++ ys) → Each P xs
all_left P [] ys h = tt
all_left P (x ∷ xs) ys h = (h.0, all_left P xs ys h.1)

pub all_right : (P : Tree → Type 0) (xs ys : List Tree) → Each P (xs ++ ys) → Each P ys
all_right P [] ys h = h
all_right P (x ∷ xs) ys h = all_right P xs ys h.1

one_empty : (xs ys : List Tree) → both_have xs ys ≡ false → (xs ≡ []) ⊎ (ys ≡ [])
one_empty [] ys h = inl refl
one_empty (x ∷ xs) [] h = inr refl
one_empty (x ∷ xs) (y ∷ ys) h = absurd (cc h)

-- four readings of one term, of which the last one says what they share
pub record Four (k : ℤ) (P : Tree → Type 0) (u w i o : Sum) : Type 0 where
  pub same_u : Same o u
  pub same_w : Same o w
  pub same_i : Same o i
  pub line : Each P o.atoms → Line k u.value w.value i.value o.value

module _ (u w i o : Tree → ℤ) (k : ℤ) where
  abbrev pub Lies : Tree → Type 0
  Lies q = Line k (u q) (w q) (i q) (o q)

  abbrev Fours : Sum → Sum → Sum → Sum → Type 0
  Fours = Four k Lies

  one_line : (c : Bool) (e : Tree) (a b c' d : Sum) → Fours a b c' d → Each Lies (negated_or_same o c e d).atoms
      → Line k (negated_or_same u c e a).value (negated_or_same w c e b).value (negated_or_same i c e c').value (negated_or_same o c e d).value
  one_line true e a b c' d h l = line_neg k _ _ _ _ (h.line l)
  one_line false e a b c' d h l = l.0

  flat_left : (a b c d x y z t : Sum) → Fours a b c d → Fours x y z t → d.atoms ≡ [] → Each Lies t.atoms
      → Line k (a.value *ℤ x.value) (b.value *ℤ y.value) (c.value *ℤ z.value) (d.value *ℤ t.value)
  flat_left a b c d x y z t h g n l = rw (← h.same_u.fixed n, ← h.same_w.fixed n, ← h.same_i.fixed n) (line_by d.value k _ _ _ _ (g.line l))

  flat_right : (a b c d x y z t : Sum) → Fours a b c d → Fours x y z t → t.atoms ≡ [] → Each Lies d.atoms
      → Line k (a.value *ℤ x.value) (b.value *ℤ y.value) (c.value *ℤ z.value) (d.value *ℤ t.value)
  flat_right a b c d x y z t h g n l = rw (← g.same_u.fixed n, ← g.same_w.fixed n, ← g.same_i.fixed n) (line_of t.value k _ _ _ _ (h.line l))

  product_line : (m : Bool) (e : Tree) (a b c d x y z t : Sum) → Fours a b c d → Fours x y z t → both_have d.atoms t.atoms ≡ m → Each Lies (product_by o m e d t).atoms
      → Line k (product_by u m e a x).value (product_by w m e b y).value (product_by i m e c z).value (product_by o m e d t).value
  product_line true e a b c d x y z t h g n l = l.0
  product_line false e a b c d x y z t h g n l = elim (one_empty d.atoms t.atoms n) [
    | inl p ↦ flat_left a b c d x y z t h g p (all_right Lies d.atoms t.atoms l)
    | inr p ↦ flat_right a b c d x y z t h g p (all_left Lies d.atoms t.atoms l)
  ]

  products_line : (m mu mw mi : Bool) → m ≡ mu → m ≡ mw → m ≡ mi → (e : Tree) (a b c d x y z t : Sum) → Fours a b c d → Fours x y z t → both_have d.atoms t.atoms ≡ m → Each Lies (product_by o m e d t).atoms
      → Line k (product_by u mu e a x).value (product_by w mw e b y).value (product_by i mi e c z).value (product_by o m e d t).value
  products_line m mu mw mi pu pw pi e a b c d x y z t h g n l = rw (← pu, ← pw, ← pi) (product_line m e a b c d x y z t h g n l)

  two_line : (op : SumOperation) (e : Tree) (a b c d x y z t : Sum) → Fours a b c d → Fours x y z t → Each Lies (with_two o op e d t).atoms
      → Line k (with_two u op e a x).value (with_two w op e b y).value (with_two i op e c z).value (with_two o op e d t).value
  two_line Add e a b c d x y z t h g l = line_add k _ _ _ _ _ _ _ _ (h.line (all_left Lies d.atoms t.atoms l)) (g.line (all_right Lies d.atoms t.atoms l))
  two_line Subtract e a b c d x y z t h g l = line_add k _ _ _ _ _ _ _ _ (h.line (all_left Lies d.atoms t.atoms l)) (line_neg k _ _ _ _ (g.line (all_right Lies d.atoms t.atoms l)))
  two_line Multiply e a b c d x y z t h g l =
      products_line (both_have d.atoms t.atoms) (both_have a.atoms x.atoms) (both_have b.atoms y.atoms) (both_have c.atoms z.atoms) (both_same d a t x h.same_u g.same_u) (both_same d b t y h.same_w g.same_w) (both_same d c t z h.same_i g.same_i)
      e a b c d x y z t h g refl l
  two_line Other e a b c d x y z t h g l = l.0

  four : (z : Ints) (e : Tree) → (Each Lies (reading z o e).atoms → Line k (reading z u e).value (reading z w e).value (reading z i e).value (reading z o e).value)
      → Fours (reading z u e) (reading z w e) (reading z i e) (reading z o e)
  four z e h = record { same_u = same z o u e; same_w = same z o w e; same_i = same z o i e; line = h }

  pub affine : (z : Ints) (e : Tree) → Each Lies (reading z o e).atoms → Line k (reading z u e).value (reading z w e).value (reading z i e).value (reading z o e).value
  unfolding reading
  affine z (Leaf (HNum n)) l = line_flat k n
  affine z (Three (HFun f) types (Two HCell a (Leaf HEnd)) ty) l = one_line _ _ _ _ _ _ (four z a (affine z a)) l
  affine z (Three (HFun f) types (Two HCell a (Two HCell b (Leaf HEnd))) ty) l = two_line _ _ _ _ _ _ _ _ _ _ (four z a (affine z a)) (four z b (affine z b)) l
  affine z e l = l.0
