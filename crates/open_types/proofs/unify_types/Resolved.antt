-- Bindings over a store that grows, and what is known of numbers under them.
use Rattle.std.proofs.Common.{◌≡◌, ℕ, ◌<◌, ◌≤◌, ◌⊎◌, Bool, true, false, cond, nat_lt, nat_eq, List, [], ◌∷◌, length, get_or, inl, inr, Some, None, Result, Ok, Err, OnOk, sym, refl, ap, ◌∙◌, subst, arith}
use Rattle.std.specs.HashMap.{HashMap, get}
use Rattle.trees.specs.declared.TermId.{TermId}
use Rattle.trees.specs.declared.Sort.TheVariants.{Kind, List as ListSort}
use Rattle.trees.specs.Tree.{Tree, Leaf, One, Two, Three, Head, HTyVar, HTyRigid, HTyApp, HEnd, HCell}
use Rattle.trees.specs.Node.{tree_at, Holds, Grows}
use Rattle.trees.specs.Sorts.{sort_of, first_sort, IsList}
use Rattle.open_types.specs.declared.unify_types.bindings.Bound.{Bound}
use Rattle.open_types.specs.unify_types.Assigned.{Variable, assign, IsTypeOrTypes, IsType}
use Rattle.open_types.specs.unify_types.Bound.{Binding, replacing, resolve, IsTriangular, Agrees, type_bound, bound_over, BindingsHeld, AreUnderSubstitution}
use Rattle.open_types.proofs.unify_types.Assigning.{assign-unknown, resolve-agrees, resolve-types, typed-assign}
pub use Rattle.trees.proofs.binders.Rebuilt.{some_same as some_is}
pub use Rattle.trees.proofs.binders.Rebuilt.{held_later as held_grown}

pub on_ok : {T E : Type 0} (r : Result T E) (P : Type 0) → P → OnOk r P
on_ok (Ok x) P p = p
on_ok (Err e) P p = tt

pub tree_grown : (s s' : List Tree) (id : TermId) → Grows s s' → Holds s id → tree_at s' id ≡ tree_at s id
tree_grown s s' id g h = g.same id.0 h

pub over_grown : (s s' : List Tree) (bs : List Bound) → Grows s s' → BindingsHeld s bs → bound_over s' bs ≡ bound_over s bs
over_grown s s' [] g h = refl
over_grown s s' (b ∷ bs) g h =
    let first : tree_at s' b.ty ≡ tree_at s b.ty = tree_grown s s' b.ty g h.0 in
    let rest : bound_over s' bs ≡ bound_over s bs = over_grown s s' bs g h.1 in
    ap (λ (t : Tree). let x : Binding = record { unknown = b.unknown; type = t } in x ∷ bound_over s' bs) first ∙ ap (λ (l : List Binding). let x : Binding = record { unknown = b.unknown; type = tree_at s b.ty } in x ∷ l) rest

pub are_held_grown : (s s' : List Tree) (bs : List Bound) → Grows s s' → BindingsHeld s bs → BindingsHeld s' bs
are_held_grown s s' [] g h = tt
are_held_grown s s' (b ∷ bs) g h = (held_grown s s' b.ty g h.0, are_held_grown s s' bs g h.1)

-- the type that an unknown is bound to
pub bound_held : (s : List Tree) (u : ℕ) (ty : TermId) (bs : List Bound) → BindingsHeld s bs → type_bound u bs ≡ Some ty → Holds s ty
bound_held s u ty [] h e = cc
bound_held s u ty (b ∷ bs) h e = at (nat_eq b.unknown u) h.0 (bound_held s u ty bs h.1) e where
  at : (c : Bool) → Holds s b.ty → (type_bound u bs ≡ Some ty → Holds s ty) → cond c (Some b.ty) (type_bound u bs) ≡ Some ty → Holds s ty
  at true first rest e = subst (λ (x : TermId). Holds s x) (some_is b.ty ty e) first
  at false first rest e = rest e

pub bound_type : (r : ℕ) (s : List Tree) (u : ℕ) (ty : TermId) (bs : List Bound) → IsTriangular r (bound_over s bs) → type_bound u bs ≡ Some ty → IsType (tree_at s ty)
bound_type r s u ty [] h e = cc
bound_type r s u ty (b ∷ bs) h e = at (nat_eq b.unknown u) h.4 (bound_type r s u ty bs h.5) e where
  at : (c : Bool) → IsType (tree_at s b.ty) → (type_bound u bs ≡ Some ty → IsType (tree_at s ty)) → cond c (Some b.ty) (type_bound u bs) ≡ Some ty → IsType (tree_at s ty)
  at true first rest e = subst (λ (x : TermId). IsType (tree_at s x)) (some_is b.ty ty e) first
  at false first rest e = rest e

pub bound_unknown : (r : ℕ) (s : List Tree) (u : ℕ) (ty : TermId) (bs : List Bound) → IsTriangular r (bound_over s bs) → type_bound u bs ≡ Some ty → r ≤ u
bound_unknown r s u ty [] h e = cc
bound_unknown r s u ty (b ∷ bs) h e = at (nat_eq b.unknown u) refl h.0 (bound_unknown r s u ty bs h.5) e where
  at : (c : Bool) → nat_eq b.unknown u ≡ c → r ≤ b.unknown → (type_bound u bs ≡ Some ty → r ≤ u) → cond c (Some b.ty) (type_bound u bs) ≡ Some ty → r ≤ u
  at true is first rest e = let same : b.unknown ≡ u = grind arith in omega arith
  at false is first rest e = rest e

-- an assignment that agrees with the bindings takes an unknown to what its type becomes
pub agrees_at : (r : ℕ) (f : ℕ → Tree) (s : List Tree) (u : ℕ) (ty : TermId) (bs : List Bound) → Agrees r f (bound_over s bs) → type_bound u bs ≡ Some ty → f u ≡ assign r f (tree_at s ty)
agrees_at r f s u ty [] h e = cc
agrees_at r f s u ty (b ∷ bs) h e = at (nat_eq b.unknown u) refl h.0 (agrees_at r f s u ty bs h.1) e where
  at : (c : Bool) → nat_eq b.unknown u ≡ c → f b.unknown ≡ assign r f (tree_at s b.ty) → (type_bound u bs ≡ Some ty → f u ≡ assign r f (tree_at s ty)) → cond c (Some b.ty) (type_bound u bs) ≡ Some ty → f u ≡ assign r f (tree_at s ty)
  at true is first rest e =
      let same : b.unknown ≡ u = grind arith in
      let types : b.ty ≡ ty = some_is b.ty ty e in
      sym (ap f same) ∙ first ∙ ap (λ (x : TermId). assign r f (tree_at s x)) types
  at false is first rest e = rest e

-- an unknown without a binding stands for itself
pub resolve-free : (r : ℕ) (s : List Tree) (u : ℕ) (bs : List Bound) → type_bound u bs ≡ None → resolve r (bound_over s bs) u ≡ Variable u
resolve-free r s u [] e = refl
resolve-free r s u (b ∷ bs) e = at (nat_eq b.unknown u) refl (resolve-free r s u bs) e where
  x : Binding
  x = record { unknown = b.unknown; type = tree_at s b.ty }

  low : (c : Bool) → nat_eq u b.unknown ≡ false → cond c (Variable u) (replacing x u) ≡ Variable u
  low true is = refl
  low false is = ap (λ (t : Bool). cond t (tree_at s b.ty) (Variable u)) is

  at : (c : Bool) → nat_eq b.unknown u ≡ c → (type_bound u bs ≡ None → resolve r (bound_over s bs) u ≡ Variable u) → cond c (Some b.ty) (type_bound u bs) ≡ None → assign r (replacing x) (resolve r (bound_over s bs) u) ≡ Variable u
  at true is rest e = cc
  at false is rest e = let other : nat_eq u b.unknown ≡ false = grind arith in ap (assign r (replacing x)) (rest e) ∙ low (nat_lt u r) other

-- the type of a bound unknown, and an unknown without a binding, under the bindings
pub assign-bound : (r : ℕ) (s : List Tree) (u : ℕ) (ty : TermId) (bs : List Bound) (t : Tree) → IsTriangular r (bound_over s bs) → Some ty ≡ type_bound u bs → t ≡ Variable u → assign r (resolve r (bound_over s bs)) (tree_at s ty) ≡ assign r (resolve r (bound_over s bs)) t
assign-bound r s u ty bs t h e is =
    sym (agrees_at r (resolve r (bound_over s bs)) s u ty bs (resolve-agrees r (bound_over s bs) h) (sym e))
    ∙ sym (assign-unknown r (resolve r (bound_over s bs)) u (bound_unknown r s u ty bs h (sym e))) ∙ ap (assign r (resolve r (bound_over s bs))) (sym is)

pub assign-free : (r : ℕ) (s : List Tree) (u : ℕ) (bs : List Bound) (t : Tree) → None ≡ type_bound u bs → t ≡ Variable u → t ≡ assign r (resolve r (bound_over s bs)) t
assign-free r s u bs t e is = is ∙ sym (at (nat_lt u r)) ∙ ap (assign r (resolve r (bound_over s bs))) (sym is) where
  at : (c : Bool) → cond c (Variable u) (resolve r (bound_over s bs) u) ≡ Variable u
  at true = refl
  at false = resolve-free r s u bs (sym e)

-- sorts
pub list_sort : (t : Tree) → IsTypeOrTypes false t → sort_of t ≡ ListSort
list_sort (Leaf HEnd) h = refl
list_sort (Leaf h') h = absurd h
list_sort (One h' a) h = absurd h.0
list_sort (Two HCell a b) h = refl
list_sort (Two h' a b) h = absurd h.0
list_sort (Three h' a b c) h = absurd h

pub type_sort : (t : Tree) → IsTypeOrTypes true t → sort_of t ≡ Kind
type_sort (Leaf (HTyVar j)) h = refl
type_sort (Leaf (HTyRigid j)) h = refl
type_sort (Leaf h') h = absurd h
type_sort (One (HTyApp s) a) h = refl
type_sort (One h' a) h = absurd h.0
type_sort (Two h' a b) h = absurd h.0
type_sort (Three h' a b c) h = absurd h

pub type_no_list : (t : Tree) → IsTypeOrTypes true t → sort_of t ≡ ListSort → ⊥
type_no_list t h e = let k : sort_of t ≡ Kind = type_sort t h in cc

-- a list of types has types alone
pub first_kind : (t : Tree) → IsTypeOrTypes false t → (first_sort t ≡ None) ⊎ (first_sort t ≡ Some Kind)
first_kind (Leaf HEnd) h = inl refl
first_kind (Leaf h') h = absurd h
first_kind (One h' a) h = absurd h.0
first_kind (Two HCell a b) h = inr (ap Some (type_sort a h.1))
first_kind (Two h' a b) h = absurd h.0
first_kind (Three h' a b c) h = absurd h

pub first_like : (a t : Tree) → IsTypeOrTypes true a → IsTypeOrTypes false t → (first_sort t ≡ None) ⊎ (first_sort t ≡ Some (sort_of a))
first_like a t ha ht = rw (type_sort a ha) (first_kind t ht)

pub one_list : (t : Tree) (h : Head) (a : Tree) → t ≡ One h a → (k : Bool) × IsTypeOrTypes k t → IsTypeOrTypes false a
one_list t h a e p = let q : IsTypeOrTypes p.0 (One h a) = subst (λ (x : Tree). IsTypeOrTypes p.0 x) e p.1 in q.1

pub two_first : (t : Tree) (h : Head) (a b : Tree) → t ≡ Two h a b → (k : Bool) × IsTypeOrTypes k t → IsTypeOrTypes true a
two_first t h a b e p = let q : IsTypeOrTypes p.0 (Two h a b) = subst (λ (x : Tree). IsTypeOrTypes p.0 x) e p.1 in q.1

pub two_rest : (t : Tree) (h : Head) (a b : Tree) → t ≡ Two h a b → (k : Bool) × IsTypeOrTypes k t → IsTypeOrTypes false b
two_rest t h a b e p = let q : IsTypeOrTypes p.0 (Two h a b) = subst (λ (x : Tree). IsTypeOrTypes p.0 x) e p.1 in q.2

pub resolved_list : (r : ℕ) (bs : List Binding) (t made : Tree) → IsTriangular r bs → IsTypeOrTypes false t → made ≡ assign r (resolve r bs) t → IsList Kind made
resolved_list r bs t made h typed e =
    let typed' : IsTypeOrTypes false (assign r (resolve r bs) t) = typed-assign false r (resolve r bs) (resolve-types r bs h) t typed in
    rw e (list_sort (assign r (resolve r bs) t) typed', first_kind (assign r (resolve r bs) t) typed')

pub resolved_type : (r : ℕ) (bs : List Binding) (t made : Tree) → IsTriangular r bs → IsTypeOrTypes true t → made ≡ assign r (resolve r bs) t → sort_of made ≡ Kind
resolved_type r bs t made h typed e = ap sort_of e ∙ type_sort (assign r (resolve r bs) t) (typed-assign true r (resolve r bs) (resolve-types r bs h) t typed)

-- the rest of a list of types is a list of what its first member is
pub resolved_rest : (r : ℕ) (bs : List Binding) (a b made rest : Tree) → IsTriangular r bs → IsTypeOrTypes true a → IsTypeOrTypes false b → made ≡ assign r (resolve r bs) a → rest ≡ assign r (resolve r bs) b → IsList (sort_of made) rest
resolved_rest r bs a b made rest h ta tb ea eb = rw (resolved_type r bs a made h ta ea) (resolved_list r bs b rest h tb eb)

pub resolved_no_list : (r : ℕ) (bs : List Binding) (t made : Tree) → IsTriangular r bs → IsTypeOrTypes true t → made ≡ assign r (resolve r bs) t → sort_of made ≡ ListSort → ⊥
resolved_no_list r bs t made h typed e is = type_no_list (assign r (resolve r bs) t) (typed-assign true r (resolve r bs) (resolve-types r bs h) t typed) (sym (ap sort_of e) ∙ is)

module _ {S : Type 0} where
  pub resolved_grown : (r : ℕ) (bs : List Binding) (s s' : List Tree) (m : HashMap ℕ TermId S) → Grows s s' → AreUnderSubstitution r bs s m → AreUnderSubstitution r bs s' m
  resolved_grown r bs s s' m g h k v e =
      let p : (k < length s) × (v.0 < length s) × (tree_at s v ≡ assign r (resolve r bs) (get_or s k (Leaf HEnd))) = h k v e in
      let longer : length s ≤ length s' = g.longer in
      let q : k < length s = p.0 in
      let w : v.0 < length s = p.1 in
      (omega arith, omega arith, g.same v.0 w ∙ p.2 ∙ ap (assign r (resolve r bs)) (sym (g.same k q)))

  pub resolved_insert : (r : ℕ) (bs : List Binding) (s : List Tree) (old new : HashMap ℕ TermId S) (e made : TermId) → AreUnderSubstitution r bs s old → e.0 < length s → made.0 < length s → tree_at s made ≡ assign r (resolve r bs) (tree_at s e)
      → ((q : ℕ) → get nat_eq new q ≡ cond (nat_eq e.0 q) (Some made) (get nat_eq old q)) → AreUnderSubstitution r bs s new
  resolved_insert r bs s old new e made h e_held made_held is updates k v found = at (nat_eq e.0 k) refl (sym (updates k) ∙ found) where
    at : (c : Bool) → nat_eq e.0 k ≡ c → cond c (Some made) (get nat_eq old k) ≡ Some v → (k < length s) × (v.0 < length s) × (tree_at s v ≡ assign r (resolve r bs) (get_or s k (Leaf HEnd)))
    at true same there =
        let number : e.0 ≡ k = grind arith in
        let value : made ≡ v = some_is made v there in
        let id : made.0 ≡ v.0 = ap (λ (x : TermId). x.0) value in
        (omega arith, omega arith, sym (ap (tree_at s) value) ∙ is ∙ ap (λ (n : ℕ). assign r (resolve r bs) (get_or s n (Leaf HEnd))) number)
    at false same there = h k v there
