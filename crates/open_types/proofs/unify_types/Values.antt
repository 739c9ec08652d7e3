-- Which unknowns are determined, and two solutions that differ where one isn't.
use Rattle.std.proofs.Common.{◌≡◌, ℕ, zero, suc, ◌+◌, ◌<◌, ◌≤◌, Bool, true, false, cond, nat_eq, nat_lt, nat_le, ◌||◌, inl, inr, List, [], ◌∷◌, Option, Some, None, length, get_or, sym, refl, ap, ◌∙◌, subst, arith}
use Rattle.std.specs.HashMap.{HashMap, get}
use Rattle.trees.specs.declared.TermId.{TermId}
use Rattle.trees.specs.Tree.{Tree, Leaf, One, Two, Three, HTyVar, HTyApp, HCell, HEnd, size}
use Rattle.trees.specs.Node.{tree_at, Grows}
use Rattle.open_types.specs.declared.unify_types.bindings.Bound.{Bound}
use Rattle.open_types.specs.unify_types.Assigned.{Variable, assign, Has, IsType}
use Rattle.open_types.specs.unify_types.Bound.{Binding, replacing, resolve, IsTriangular, Agrees, type_bound, bound_over, AreUnderSubstitution, has_sought}
use Rattle.open_types.specs.unify_types.Valued.{AreValues, IsTreated, AreValued}
use Rattle.open_types.proofs.unify_types.Assigning.{assign-unknown, resolve-agrees, resolve-types, typed-assign, size-Has, agrees-after}
use Rattle.open_types.proofs.unify_types.Resolved.{over_grown, are_held_grown, resolve-free, some_is}
use Rattle.std.proofs.lemmas.Bool.{or_parts as or_false}
use Rattle.open_types.proofs.unify_types.Unified.{or_true, either}

module _ {S : Type 0} where
  pub values_grown : (r : ℕ) (bs : List Binding) (s s' : List Tree) (m : HashMap ℕ TermId S) → Grows s s' → AreValues r bs s m → AreValues r bs s' m
  values_grown r bs s s' m g h u id e =
      let p : (id.0 < length s) × (tree_at s id ≡ assign r (resolve r bs) (Variable u)) × (has_sought r None (tree_at s id) ≡ false) = h u id e in
      let longer : length s ≤ length s' = g.longer in
      let held : id.0 < length s = p.0 in
      let same : tree_at s' id ≡ tree_at s id = g.same id.0 held in
      (omega arith, same ∙ p.1, ap (has_sought r None) same ∙ p.2)

  pub values_insert : (r : ℕ) (bs : List Binding) (s : List Tree) (old new : HashMap ℕ TermId S) (u : ℕ) (made : TermId) → AreValues r bs s old → made.0 < length s → tree_at s made ≡ assign r (resolve r bs) (Variable u) → has_sought r None (tree_at s made) ≡ false
      → ((q : ℕ) → get nat_eq new q ≡ cond (nat_eq u q) (Some made) (get nat_eq old q)) → AreValues r bs s new
  values_insert r bs s old new u made h held is closed updates q v found = at (nat_eq u q) refl (sym (updates q) ∙ found) where
    at : (c : Bool) → nat_eq u q ≡ c → cond c (Some made) (get nat_eq old q) ≡ Some v → (v.0 < length s) × (tree_at s v ≡ assign r (resolve r bs) (Variable q)) × (has_sought r None (tree_at s v) ≡ false)
    at true same there =
        let number : u ≡ q = grind arith in
        let value : made ≡ v = some_is made v there in
        let id : made.0 ≡ v.0 = ap (λ (x : TermId). x.0) value in
        (omega arith, sym (ap (tree_at s) value) ∙ is ∙ ap (λ (n : ℕ). assign r (resolve r bs) (Variable n)) number, sym (ap (λ (x : TermId). has_sought r None (tree_at s x)) value) ∙ closed)
    at false same there = h q v there

  pub treated_open : (r : ℕ) (bs : List Binding) (m : HashMap ℕ TermId S) (u : ℕ) (t : Tree) → t ≡ assign r (resolve r bs) (Variable u) → has_sought r None t ≡ true → IsTreated r bs m u
  treated_open r bs m u t e sought absent = sym (ap (has_sought r None) e) ∙ sought

  pub treated_free : (r : ℕ) (s : List Tree) (bs : List Bound) (m : HashMap ℕ TermId S) (u : ℕ) → r ≤ u → type_bound u bs ≡ None → IsTreated r (bound_over s bs) m u
  treated_free r s bs m u above free absent =
      let le : nat_le r u ≡ true = grind arith in
      ap (has_sought r None) (assign-unknown r (resolve r (bound_over s bs)) u above ∙ resolve-free r s u bs free) ∙ le

  pub treated_insert : (r : ℕ) (bs : List Binding) (old new : HashMap ℕ TermId S) (u : ℕ) (made : TermId) → ((q : ℕ) → get nat_eq new q ≡ cond (nat_eq u q) (Some made) (get nat_eq old q)) → IsTreated r bs new u
  treated_insert r bs old new u made updates absent =
      let same : nat_eq u u ≡ true = grind arith in
      let there : get nat_eq new u ≡ Some made = updates u ∙ ap (λ (c : Bool). cond c (Some made) (get nat_eq old u)) same in
      absurd (let none : Some made ≡ None = sym there ∙ absent in cc)

  pub treated_kept : (r : ℕ) (bs : List Binding) (old new : HashMap ℕ TermId S) (u : ℕ) (made : TermId) → ((q : ℕ) → get nat_eq new q ≡ cond (nat_eq u q) (Some made) (get nat_eq old q)) → (q : ℕ) → IsTreated r bs old q → IsTreated r bs new q
  treated_kept r bs old new u made updates q h absent = at (nat_eq u q) (sym (updates q) ∙ absent) where
    at : (c : Bool) → cond c (Some made) (get nat_eq old q) ≡ None → has_sought r None (assign r (resolve r bs) (Variable q)) ≡ true
    at true e = absurd (cc)
    at false e = h e

pub bound_index : (u : ℕ) (ty : TermId) (bs : List Bound) → type_bound u bs ≡ Some ty → (i : ℕ) × (i < length bs) × ((d : Bound) → (get_or bs i d).unknown ≡ u)
bound_index u ty [] e = absurd (cc)
bound_index u ty (b ∷ bs) e = at (nat_eq b.unknown u) refl (bound_index u ty bs) e where
  at : (c : Bool) → nat_eq b.unknown u ≡ c → (type_bound u bs ≡ Some ty → (i : ℕ) × (i < length bs) × ((d : Bound) → (get_or bs i d).unknown ≡ u)) → cond c (Some b.ty) (type_bound u bs) ≡ Some ty → (i : ℕ) × (i < length (b ∷ bs)) × ((d : Bound) → (get_or (b ∷ bs) i d).unknown ≡ u)
  at true same rest there = let number : b.unknown ≡ u = grind arith in (zero, omega arith, λ d. number)
  at false same rest there = let p : (i : ℕ) × (i < length bs) × ((d : Bound) → (get_or bs i d).unknown ≡ u) = rest there in let below : p.0 < length bs = p.1 in (suc p.0, omega arith, p.2)

pub unknown_above : (r : ℕ) (s : List Tree) (bs : List Bound) (i : ℕ) (d : Bound) → IsTriangular r (bound_over s bs) → i < length bs → r ≤ (get_or bs i d).unknown
unknown_above r s [] i d h l = absurd (omega arith)
unknown_above r s (b ∷ bs) zero d h l = h.0
unknown_above r s (b ∷ bs) (suc i) d h l = unknown_above r s bs i d h.5 (omega arith)

-- the values after one more binding
pub valued_next : {S T : Type 0} (r : ℕ) (s s' : List Tree) (bs : List Bound) (known known' : HashMap ℕ TermId S) (values values' : HashMap ℕ TermId T) (i u : ℕ)
    → AreValued r s bs known values i → Grows s s' → AreUnderSubstitution r (bound_over s bs) s' known' → AreValues r (bound_over s bs) s' values'
    → IsTreated r (bound_over s bs) values' u → ((q : ℕ) → IsTreated r (bound_over s bs) values q → IsTreated r (bound_over s bs) values' q)
    → ((d : Bound) → (get_or bs i d).unknown ≡ u) → AreValued r s' bs known' values' (i + 1)
valued_next r s s' bs known known' values values' i u v g resolved valued treated kept is =
    let same : bound_over s' bs ≡ bound_over s bs = over_grown s s' bs g v.bound in
    record {
      bound = are_held_grown s s' bs g v.bound;
      triangular = subst (λ (l : List Binding). IsTriangular r l) (sym same) v.triangular;
      resolved = subst (λ (l : List Binding). AreUnderSubstitution r l s' known') (sym same) resolved;
      found = subst (λ (l : List Binding). AreValues r l s' values') (sym same) valued;
      treated = λ j d l. subst (λ (l : List Binding). IsTreated r l values' (get_or bs j d).unknown) (sym same) (at j d l (nat_eq j i) refl);
    } where
      at : (j : ℕ) (d : Bound) → j < i + 1 → (c : Bool) → nat_eq j i ≡ c → IsTreated r (bound_over s bs) values' (get_or bs j d).unknown
      at j d l true e = let number : j ≡ i = grind arith in subst (λ (n : ℕ). IsTreated r (bound_over s bs) values' n) (sym (ap (λ (n : ℕ). (get_or bs n d).unknown) number ∙ is d)) treated
      at j d l false e = let below : j < i = grind arith in kept (get_or bs j d).unknown (v.treated j d below)

-- every unknown is treated once all bindings are
pub all_treated : {S T : Type 0} (r : ℕ) (s : List Tree) (bs : List Bound) (known : HashMap ℕ TermId S) (values : HashMap ℕ TermId T) (count : ℕ) → AreValued r s bs known values count → count ≡ length bs → (u : ℕ) → r ≤ u → IsTreated r (bound_over s bs) values u
all_treated r s bs known values count v whole u above = at (type_bound u bs) refl where
  at : (o : Option TermId) → type_bound u bs ≡ o → IsTreated r (bound_over s bs) values u
  at None e = treated_free r s bs values u above e
  at (Some ty) e =
      let p : (i : ℕ) × (i < length bs) × ((d : Bound) → (get_or bs i d).unknown ≡ u) = bound_index u ty bs e in
      let d : Bound = record { unknown = 0; ty = ty } in
      let below : p.0 < length bs = p.1 in
      let within : p.0 < count = omega arith in
      subst (λ (n : ℕ). IsTreated r (bound_over s bs) values n) (p.2 d) (v.treated p.0 d within)

abbrev Left : ℕ → Tree → Type 0
Left r t = (x : ℕ) × (r ≤ x) × Has x t

pub unknown_left : (r : ℕ) (t : Tree) → has_sought r None t ≡ true → Left r t
unknown_left r (Leaf (HTyVar j)) e = let le : r ≤ j = grind arith in (j, le, refl)
unknown_left r (Leaf h') e = absurd (cc)
unknown_left r (One h' a) e = let p : Left r a = unknown_left r a e in (p.0, p.1, p.2)
unknown_left r (Two h' a b) e = either (λ q. let p : Left r a = unknown_left r a q in (p.0, p.1, inl p.2)) (λ q. let p : Left r b = unknown_left r b q in (p.0, p.1, inr p.2)) (or_true (has_sought r None a) (has_sought r None b) e)
unknown_left r (Three h' a b c) e =
    either (λ q. let p : Left r a = unknown_left r a q in (p.0, p.1, inl p.2))
    (λ w. either (λ q. let p : Left r b = unknown_left r b q in (p.0, p.1, inr (inl p.2))) (λ q. let p : Left r c = unknown_left r c q in (p.0, p.1, inr (inr p.2))) (or_true (has_sought r None b) (has_sought r None c) w))
    (or_true (has_sought r None a) (has_sought r None b || has_sought r None c) e)

-- no unknown is left
pub assign-closed : (r : ℕ) (f : ℕ → Tree) (t : Tree) → has_sought r None t ≡ false → assign r f t ≡ t
assign-closed r f (Leaf (HTyVar j)) e = let lt : nat_lt j r ≡ true = grind arith in ap (λ (c : Bool). cond c (Variable j) (f j)) lt
assign-closed r f (Leaf h') e = refl
assign-closed r f (One h' a) e = ap (One h') (assign-closed r f a e)
assign-closed r f (Two h' a b) e = let p = or_false (has_sought r None a) (has_sought r None b) e in cc (assign-closed r f a p.0, assign-closed r f b p.1)
assign-closed r f (Three h' a b c) e =
    let p = or_false (has_sought r None a) (has_sought r None b || has_sought r None c) e in
    let q = or_false (has_sought r None b) (has_sought r None c) p.1 in
    cc (assign-closed r f a p.0, assign-closed r f b q.0, assign-closed r f c q.1)

-- types as large as one likes
tower : ℕ → Tree
tower zero = One (HTyApp 0) (Leaf HEnd)
tower (suc n) = One (HTyApp 0) (Two HCell (tower n) (Leaf HEnd))

size-tower : (n : ℕ) → n < size (tower n)
unfolding tower
size-tower zero = omega arith
size-tower (suc n) = omega (arith, size-tower n)

tower-type : (n : ℕ) → IsType (tower n)
unfolding tower
tower-type zero = (tt, tt)
tower-type (suc n) = (tt, (tt, tower-type n, tt))

-- two assignments of types that agree with the bindings and differ at the unknown
pub record Differ (r : ℕ) (bs : List Binding) (u : ℕ) : Type 0 where
  pub first : ℕ → Tree
  pub second : ℕ → Tree
  pub first_types : (j : ℕ) → IsType (first j)
  pub second_types : (j : ℕ) → IsType (second j)
  pub first_agrees : Agrees r first bs
  pub second_agrees : Agrees r second bs
  pub differ : first u ≡ second u → ⊥

pub open_differs : (r : ℕ) (bs : List Binding) (u : ℕ) → IsTriangular r bs → r ≤ u → has_sought r None (assign r (resolve r bs) (Variable u)) ≡ true → Differ r bs u
open_differs r bs u h above sought =
    let p : Left r (assign r (resolve r bs) (Variable u)) = unknown_left r (assign r (resolve r bs) (Variable u)) sought in
    differs p.0 p.1 (subst (λ (t : Tree). Has p.0 t) (assign-unknown r (resolve r bs) u above) p.2) where
      big : ℕ → Binding
      big x = record { unknown = x; type = tower (size (resolve r bs u)) }

      types : (x w : ℕ) (c : Bool) → IsType (cond c (tower (size (resolve r bs u))) (Variable w))
      types x w true = tower-type (size (resolve r bs u))
      types x w false = tt

      differs : (x : ℕ) → r ≤ x → Has x (resolve r bs u) → Differ r bs u
      differs x low has = record {
        first = resolve r bs;
        second = λ j. assign r (replacing (big x)) (resolve r bs j);
        first_types = resolve-types r bs h;
        second_types = λ j. typed-assign true r (replacing (big x)) (λ w. types x w (nat_eq w x)) (resolve r bs j) (resolve-types r bs h j);
        first_agrees = resolve-agrees r bs h;
        second_agrees = agrees-after r (replacing (big x)) (resolve r bs) bs (resolve-agrees r bs h);
        differ = λ e.
            let larger : size (replacing (big x) x) ≤ size (assign r (replacing (big x)) (resolve r bs u)) = size-Has r (replacing (big x)) x (resolve r bs u) low has in
            let same : nat_eq x x ≡ true = grind arith in
            let at : size (replacing (big x) x) ≡ size (tower (size (resolve r bs u))) = ap (λ (c : Bool). size (cond c (tower (size (resolve r bs u))) (Variable x))) same in
            let tall : size (resolve r bs u) < size (tower (size (resolve r bs u))) = size-tower (size (resolve r bs u)) in
            let sizes : size (resolve r bs u) ≡ size (assign r (replacing (big x)) (resolve r bs u)) = ap size e in
            omega arith;
      }
