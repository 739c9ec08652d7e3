-- Laws of assignments and of the substitution that bindings make.
use Rattle.std.proofs.Common.{◌≡◌, ◌≢◌, ℕ, ◌<◌, ◌≤◌, Bool, true, false, cond, nat_lt, nat_eq, List, [], ◌∷◌, inl, inr, sym, refl, ap, ◌∙◌, arith}
use Rattle.trees.specs.Tree.{Tree, Leaf, One, Two, Three, Head, HTyVar, HTyRigid, size}
use Rattle.open_types.specs.unify_types.Assigned.{Variable, leaf_assigned, assign, leaf_typed, IsTypeOrTypes, IsType, Has}
use Rattle.open_types.specs.unify_types.Bound.{Binding, replacing, resolve, IsTriangular, Agrees}

-- an unknown's assigned type
pub assign-unknown : (r : ℕ) (f : ℕ → Tree) (j : ℕ) → r ≤ j → assign r f (Variable j) ≡ f j
assign-unknown r f j h = let e : nat_lt j r ≡ false = grind arith in ap (λ (b : Bool). cond b (Variable j) (f j)) e

pub assign-rigid : (r : ℕ) (f : ℕ → Tree) (j : ℕ) → j < r → assign r f (Variable j) ≡ Variable j
assign-rigid r f j h = let e : nat_lt j r ≡ true = grind arith in ap (λ (b : Bool). cond b (Variable j) (f j)) e

leaf_by : (P : Head → Type 0) → ((j : ℕ) → P (HTyVar j)) → ((h : Head) → ((j : ℕ) → h ≡ HTyVar j → ⊥) → P h) → (h : Head) → P h
leaf_by P var other (HTyVar j) = var j
leaf_by P var other h = other h (λ j e. cc)

-- assignments that agree at the unknowns
pub assign-same : (r : ℕ) (f g : ℕ → Tree) → ((j : ℕ) → r ≤ j → f j ≡ g j) → (t : Tree) → assign r f t ≡ assign r g t
assign-same r f g same (Leaf (HTyVar j)) = same_at (nat_lt j r) refl where
  same_at : (b : Bool) → nat_lt j r ≡ b → cond b (Variable j) (f j) ≡ cond b (Variable j) (g j)
  same_at true e = refl
  same_at false e = let above : r ≤ j = grind arith in same j above
assign-same r f g same (Leaf h) = refl
assign-same r f g same (One h a) = ap (One h) (assign-same r f g same a)
assign-same r f g same (Two h a b) = cc (assign-same r f g same a, assign-same r f g same b)
assign-same r f g same (Three h a b c) = cc (assign-same r f g same a, assign-same r f g same b, assign-same r f g same c)

-- one assignment after another
pub assign-assign : (r : ℕ) (f g : ℕ → Tree) (t : Tree) → assign r f (assign r g t) ≡ assign r (λ j. assign r f (g j)) t
assign-assign r f g (Leaf (HTyVar j)) = at (nat_lt j r) refl where
  at : (b : Bool) → nat_lt j r ≡ b → assign r f (cond b (Variable j) (g j)) ≡ cond b (Variable j) (assign r f (g j))
  at true e = let below : j < r = grind arith in assign-rigid r f j below
  at false e = refl
assign-assign r f g (Leaf h) = refl
assign-assign r f g (One h a) = ap (One h) (assign-assign r f g a)
assign-assign r f g (Two h a b) = cc (assign-assign r f g a, assign-assign r f g b)
assign-assign r f g (Three h a b c) = cc (assign-assign r f g a, assign-assign r f g b, assign-assign r f g c)

pub assign-variables : (r : ℕ) (t : Tree) → assign r (λ j. Variable j) t ≡ t
assign-variables r (Leaf (HTyVar j)) = at (nat_lt j r) where
  at : (b : Bool) → cond b (Variable j) (Variable j) ≡ Variable j
  at true = refl
  at false = refl
assign-variables r (Leaf h) = refl
assign-variables r (One h a) = ap (One h) (assign-variables r a)
assign-variables r (Two h a b) = cc (assign-variables r a, assign-variables r b)
assign-variables r (Three h a b c) = cc (assign-variables r a, assign-variables r b, assign-variables r c)

replacing-other : (b : Binding) (w : ℕ) → w ≢ b.unknown → replacing b w ≡ Variable w
replacing-other b w ne = let e : nat_eq w b.unknown ≡ false = grind arith in ap (λ (t : Bool). cond t b.type (Variable w)) e

replacing-same : (b : Binding) → replacing b b.unknown ≡ b.type
replacing-same b = let e : nat_eq b.unknown b.unknown ≡ true = grind arith in ap (λ (t : Bool). cond t b.type (Variable b.unknown)) e

-- what doesn't occur isn't replaced
pub replacing-absent : (r : ℕ) (b : Binding) (t : Tree) → (Has b.unknown t → ⊥) → assign r (replacing b) t ≡ t
replacing-absent r b (Leaf (HTyVar j)) h = at (nat_lt j r) where
  at : (c : Bool) → cond c (Variable j) (replacing b j) ≡ Variable j
  at true = refl
  at false = replacing-other b j h
replacing-absent r b (Leaf h') h = refl
replacing-absent r b (One h' a) h = ap (One h') (replacing-absent r b a h)
replacing-absent r b (Two h' x y) h = cc (replacing-absent r b x (λ p. h (inl p)), replacing-absent r b y (λ p. h (inr p)))
replacing-absent r b (Three h' x y z) h = cc (replacing-absent r b x (λ p. h (inl p)), replacing-absent r b y (λ p. h (inr (inl p))), replacing-absent r b z (λ p. h (inr (inr p))))

-- an assignment that agrees with a binding is left by the replacement
replaced : (r : ℕ) (f : ℕ → Tree) (b : Binding) → f b.unknown ≡ assign r f b.type → (t : Tree) → assign r f (assign r (replacing b) t) ≡ assign r f t
replaced r f b agrees t = assign-assign r f (replacing b) t ∙ assign-same r (λ j. assign r f (replacing b j)) f at t where
  split : (j : ℕ) (c : Bool) → r ≤ j → nat_eq j b.unknown ≡ c → assign r f (cond c b.type (Variable j)) ≡ f j
  split j true above e = let same : b.unknown ≡ j = grind arith in sym agrees ∙ ap f same
  split j false above e = assign-unknown r f j above

  at : (j : ℕ) → r ≤ j → assign r f (replacing b j) ≡ f j
  at j above = split j (nat_eq j b.unknown) above refl

-- every assignment that agrees with the bindings is an instance of what they make of the unknowns
pub agrees-resolve : (r : ℕ) (f : ℕ → Tree) (bs : List Binding) → Agrees r f bs → (j : ℕ) → r ≤ j → assign r f (resolve r bs j) ≡ f j
agrees-resolve r f [] h j above = assign-unknown r f j above
agrees-resolve r f (b ∷ bs) h j above = replaced r f b h.0 (resolve r bs j) ∙ agrees-resolve r f bs h.1 j above

pub assign-resolve : (r : ℕ) (f : ℕ → Tree) (bs : List Binding) → Agrees r f bs → (t : Tree) → assign r f (assign r (resolve r bs) t) ≡ assign r f t
assign-resolve r f bs h t = assign-assign r f (resolve r bs) t ∙ assign-same r (λ j. assign r f (resolve r bs j)) f (agrees-resolve r f bs h) t

-- a further assignment agrees with what the first agrees with
pub agrees-after : (r : ℕ) (f g : ℕ → Tree) (bs : List Binding) → Agrees r g bs → Agrees r (λ j. assign r f (g j)) bs
agrees-after r f g [] h = tt
agrees-after r f g (b ∷ bs) h = (ap (assign r f) h.0 ∙ assign-assign r f g b.type, agrees-after r f g bs h.1)

-- the bindings' own substitution agrees with them
pub resolve-agrees : (r : ℕ) (bs : List Binding) → IsTriangular r bs → Agrees r (resolve r bs) bs
resolve-agrees r [] h = tt
resolve-agrees r (b ∷ bs) h = (
  ap (assign r (replacing b)) h.1 ∙ assign-unknown r (replacing b) b.unknown h.0 ∙ replacing-same b
      ∙ sym (sym (assign-assign r (replacing b) (resolve r bs) b.type) ∙ ap (assign r (replacing b)) h.3 ∙ replacing-absent r b b.type h.2),
  agrees-after r (replacing b) (resolve r bs) bs (resolve-agrees r bs h.5),
)

-- resolving twice is resolving once
pub resolve-twice : (r : ℕ) (bs : List Binding) → IsTriangular r bs → (t : Tree) → assign r (resolve r bs) (assign r (resolve r bs) t) ≡ assign r (resolve r bs) t
resolve-twice r bs h t = assign-resolve r (resolve r bs) bs (resolve-agrees r bs h) t

-- an occurrence is no larger than the whole
pub size-Has : (r : ℕ) (f : ℕ → Tree) (x : ℕ) (t : Tree) → r ≤ x → Has x t → size (f x) ≤ size (assign r f t)
size-Has r f x (Leaf (HTyVar j)) above h = let e : assign r f (Variable j) ≡ f x = ap (λ (n : ℕ). assign r f (Variable n)) h ∙ assign-unknown r f x above in omega (arith, ap size e)
size-Has r f x (Leaf h') above h = absurd h
size-Has r f x (One h' a) above h = omega (arith, size-Has r f x a above h)
size-Has r f x (Two h' a b) above (inl h) = omega (arith, size-Has r f x a above h)
size-Has r f x (Two h' a b) above (inr h) = omega (arith, size-Has r f x b above h)
size-Has r f x (Three h' a b c) above (inl h) = omega (arith, size-Has r f x a above h)
size-Has r f x (Three h' a b c) above (inr (inl h)) = omega (arith, size-Has r f x b above h)
size-Has r f x (Three h' a b c) above (inr (inr h)) = omega (arith, size-Has r f x c above h)

-- an unknown is not a type in which it occurs, unless it is that type
pub occurs_fails : (r : ℕ) (f : ℕ → Tree) (x : ℕ) (t : Tree) → r ≤ x → Has x t → (t ≡ Variable x → ⊥) → f x ≡ assign r f t → ⊥
occurs_fails r f x (Leaf (HTyVar j)) above h ne e = ne (ap Variable h)
occurs_fails r f x (Leaf h') above h ne e = absurd h
occurs_fails r f x (One h' a) above h ne e = let p = ap size e in let q : size (f x) ≤ size (assign r f a) = size-Has r f x a above h in omega arith
occurs_fails r f x (Two h' a b) above (inl h) ne e = let p = ap size e in let q : size (f x) ≤ size (assign r f a) = size-Has r f x a above h in omega arith
occurs_fails r f x (Two h' a b) above (inr h) ne e = let p = ap size e in let q : size (f x) ≤ size (assign r f b) = size-Has r f x b above h in omega arith
occurs_fails r f x (Three h' a b c) above (inl h) ne e = let p = ap size e in let q : size (f x) ≤ size (assign r f a) = size-Has r f x a above h in omega arith
occurs_fails r f x (Three h' a b c) above (inr (inl h)) ne e = let p = ap size e in let q : size (f x) ≤ size (assign r f b) = size-Has r f x b above h in omega arith
occurs_fails r f x (Three h' a b c) above (inr (inr h)) ne e = let p = ap size e in let q : size (f x) ≤ size (assign r f c) = size-Has r f x c above h in omega arith

-- types stay types
typed_leaf : (k : Bool) (h : Head) (f : ℕ → Tree) (r : ℕ) → ((j : ℕ) → IsType (f j)) → leaf_typed k h → IsTypeOrTypes k (leaf_assigned r f h)
typed_leaf true (HTyVar j) f r types h = at (nat_lt j r) where
  at : (b : Bool) → IsTypeOrTypes true (cond b (Variable j) (f j))
  at true = tt
  at false = types j
typed_leaf false (HTyVar j) f r types h = absurd h
typed_leaf true (HTyRigid s) f r types h = h
typed_leaf false (HTyRigid s) f r types h = h
typed_leaf k h' f r types h = h

pub typed-assign : (k : Bool) (r : ℕ) (f : ℕ → Tree) → ((j : ℕ) → IsType (f j)) → (t : Tree) → IsTypeOrTypes k t → IsTypeOrTypes k (assign r f t)
typed-assign k r f types (Leaf h') h = typed_leaf k h' f r types h
typed-assign k r f types (One h' a) h = (h.0, typed-assign false r f types a h.1)
typed-assign k r f types (Two h' a b) h = (h.0, typed-assign true r f types a h.1, typed-assign false r f types b h.2)
typed-assign k r f types (Three h' a b c) h = h

pub resolve-types : (r : ℕ) (bs : List Binding) → IsTriangular r bs → (j : ℕ) → IsType (resolve r bs j)
resolve-types r [] h j = tt
resolve-types r (b ∷ bs) h j = typed-assign true r (replacing b) types (resolve r bs j) (resolve-types r bs h.5 j) where
  at : (w : ℕ) (c : Bool) → IsType (cond c b.type (Variable w))
  at w true = h.4
  at w false = tt

  types : (w : ℕ) → IsType (replacing b w)
  types w = at w (nat_eq w b.unknown)
