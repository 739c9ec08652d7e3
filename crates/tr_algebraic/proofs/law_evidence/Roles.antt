-- What the symbols of an algebraic group of a valid task are made as: each type, constructor and projection as the group says.
use Rattle.std.specs.List.{Contains, position_from}
use Rattle.std.proofs.Common.{◌≡◌, ◌≢◌, inl, inr, AllPairs, Bool, true, false, ◌==◌, if◌then◌else◌, cond, IsTrue, ℕ, ◌+◌, ◌<◌, zero, suc, List, [], ◌∷◌, ◌++◌, length, slice_get, Some, None, refl, sym, ap, subst, ◌∙◌, arith}
use Rattle.std.proofs.lemmas.Bool.{ne_eqb, eq-eqb}
use Rattle.std.proofs.lemmas.List.{get_or_append_left, length-append}
use Rattle.std.proofs.lemmas.List.Elements.{Contains-append_left, Contains-append_right}
use Rattle.tasks.specs.Task.{ConstructorTree, AlgebraicTree, BodyTree, Constructs, DeclarationTree, TaskTree, made, made_by, made_by_cons, made_by_types}
use Rattle.tasks.specs.Roles.{RoleTree, PlainRole, AlgebraicRole, ConstructorRole, ProjectionRole, is_plain, or_role, maker, role, role_by, role_in, is_made_by, constructed_as, algebraic_as, projected_as, projection_at}
use Rattle.tasks.specs.Valid.{IsValid}
use Rattle.tasks.proofs.Declared.{contains_cases, contains_step, none_in, any_iff}
use Rattle.evidence.proofs.FactNames.{first_or_rest, rest_contains, nothing_in}

-- ---- no number is twice in a list
abbrev pub Apart : List ℕ → Type 0
Apart ks = AllPairs (λ j k. j ≢ k) ks

rest_apart : (x : ℕ) (xs : List ℕ) → Apart (x ∷ xs) → Apart xs
rest_apart x xs a i j d l w = a (suc i) (suc j) d (omega (arith, l)) (omega (arith, w))

pub head_apart : (x : ℕ) (xs : List ℕ) (k : ℕ) → Apart (x ∷ xs) → Contains xs k → x ≡ k → ⊥
head_apart x xs k a h e = a 0 (suc h.0) k (omega arith) (omega (arith, h.1)) (e ∙ sym h.2)

pub right_apart : (xs ys : List ℕ) → Apart (xs ++ ys) → Apart ys
right_apart [] ys a = a
right_apart (x ∷ xs) ys a = right_apart xs ys (rest_apart x (xs ++ ys) a)

left_apart : (xs ys : List ℕ) → Apart (xs ++ ys) → Apart xs
left_apart xs ys a i j d l w =
    let k : j < length xs = w in
    let n : i < length xs = omega arith in
    let m : j < length (xs ++ ys) = omega (arith, length-append xs ys) in
    λ e. a i j d l m (get_or_append_left xs ys d i n ∙ e ∙ sym (get_or_append_left xs ys d j k))

halves_apart : (xs ys : List ℕ) (k : ℕ) → Apart (xs ++ ys) → Contains xs k → Contains ys k → ⊥
halves_apart [] ys k a h m = none_in k h
halves_apart (x ∷ xs) ys k a h m = elim (contains_cases x k xs h) [
  | inl e ↦ head_apart x (xs ++ ys) k a (Contains-append_right xs ys k m) (sym e)
  | inr n ↦ halves_apart xs ys k (rest_apart x (xs ++ ys) a) n m
]

not_true : (b : Bool) → (IsTrue b → ⊥) → b ≡ false
not_true true n = absurd (n refl)
not_true false n = refl

-- ---- the declaration that makes a symbol
made_here : (k : ℕ) (d : DeclarationTree) → Contains (made_by d.body) k → is_made_by k d.body ≡ true
made_here k d c = (any_iff k (made_by d.body)).1 c

made_elsewhere : (k : ℕ) (d : DeclarationTree) → (Contains (made_by d.body) k → ⊥) → is_made_by k d.body ≡ false
made_elsewhere k d n = not_true (is_made_by k d.body) (λ e. n ((any_iff k (made_by d.body)).0 e))

module _ (k : ℕ) where
  made_in : (ds : List DeclarationTree) (d : DeclarationTree) → Contains ds d → Contains (made_by d.body) k → Contains (made ds) k
  made_in [] d h c = absurd (nothing_in d h)
  made_in (x ∷ ds) d h c = elim (first_or_rest d x ds h) [
    | inl e ↦ Contains-append_left (made_by x.body) (made ds) k (subst (λ (z : DeclarationTree). Contains (made_by z.body) k) (sym e) c)
    | inr r ↦ Contains-append_right (made_by x.body) (made ds) k (made_in ds d r c)
  ]

maker_is : (ds : List DeclarationTree) (d : DeclarationTree) (k : ℕ) → Apart (made ds) → Contains ds d → Contains (made_by d.body) k → maker ds k ≡ Some d
maker_is [] d k a h c = absurd (nothing_in d h)
maker_is (x ∷ ds) d k a h c = elim (first_or_rest d x ds h) [
  | inl e ↦ ap (λ (b : Bool). if b then Some x else maker ds k) (made_here k x (subst (λ (z : DeclarationTree). Contains (made_by z.body) k) (sym e) c)) ∙ ap (λ (z : DeclarationTree). Some z) e
  | inr r ↦ ap (λ (b : Bool). if b then Some x else maker ds k) (made_elsewhere k x (λ m. halves_apart (made_by x.body) (made ds) k a m (made_in k ds d r c))) ∙ maker_is ds d k (right_apart (made_by x.body) (made ds) a) r c
]

-- ---- in a group
module _ (k : ℕ) where
  place_missing : (n : ℕ) (ps : List ℕ) → (Contains ps k → ⊥) → position_from (λ j. j == k) n ps ≡ None
  place_missing n [] h = refl
  place_missing n (p ∷ ps) h = ap (λ (b : Bool). cond b (Some n) (position_from (λ j. j == k) (n + 1) ps)) (ne_eqb p k (λ e. h (contains_step p k ps (inl (sym e))))) ∙ place_missing (n + 1) ps (λ c. h (contains_step p k ps (inr c)))

got_there : {A : Type 0} (xs : List A) (j : ℕ) (a : A) → slice_get xs j ≡ Some a → Contains xs a
got_there [] j a e = absurd (cc)
got_there (x ∷ xs) zero a e = let q : x ≡ a = cc in (0, omega arith, q)
got_there (x ∷ xs) (suc j) a e = rest_contains a x xs (got_there xs j a e)

place_is : (p n : ℕ) (ps : List ℕ) (j : ℕ) → Apart ps → slice_get ps j ≡ Some p → position_from (λ k. k == p) n ps ≡ Some (n + j)
place_is p n [] j a e = absurd (cc)
place_is p n (x ∷ ps) zero a e =
    let q : x ≡ p = cc in
    let z : n + 0 ≡ n = omega arith in
    ap (λ (b : Bool). cond b (Some n) (position_from (λ k. k == p) (n + 1) ps)) (eq-eqb x p q) ∙ ap (λ (m : ℕ). Some m) (sym z)
place_is p n (x ∷ ps) (suc j) a e =
    let z : n + 1 + j ≡ n + suc j = omega arith in
    ap (λ (b : Bool). cond b (Some n) (position_from (λ k. k == p) (n + 1) ps)) (ne_eqb x p (head_apart x ps p a (got_there ps j p e))) ∙ place_is p (n + 1) ps j (rest_apart x ps a) e ∙ ap (λ (m : ℕ). Some m) z

module _ (k : ℕ) where
  cons_missing : (cs : List ConstructorTree) → (Contains (made_by_cons cs) k → ⊥) → constructed_as k cs ≡ PlainRole
  cons_missing [] h = refl
  cons_missing (c ∷ cs) h =
      let own = c.symbol ∷ c.projections in
      let here : (c.symbol == k) ≡ false = ne_eqb c.symbol k (λ e. h (Contains-append_left own (made_by_cons cs) k (contains_step c.symbol k c.projections (inl (sym e))))) in
      let none : projected_as k c ≡ PlainRole = ap (projection_at c) (place_missing k 0 c.projections (λ m. h (Contains-append_left own (made_by_cons cs) k (contains_step c.symbol k c.projections (inr m))))) in
      ap (λ (b : Bool). if b then ConstructorRole c else or_role (projected_as k c) (constructed_as k cs)) here ∙ ap (λ (r : RoleTree). or_role r (constructed_as k cs)) none ∙ cons_missing cs (λ m. h (Contains-append_right own (made_by_cons cs) k m))

  -- of a type that makes it
  type_found : (ts : List AlgebraicTree) (a : AlgebraicTree) → Apart (made_by_types ts) → Contains ts a → a.symbol ≡ k → algebraic_as k ts ≡ AlgebraicRole a.cons
  type_found [] a p h q = absurd (nothing_in a h)
  type_found (x ∷ ts) a p h q = elim (first_or_rest a x ts h) [
    | inl e ↦ ap (λ (b : Bool). if b then AlgebraicRole x.cons else or_role (constructed_as k x.cons) (algebraic_as k ts)) (eq-eqb x.symbol k (ap (λ (z : AlgebraicTree). z.symbol) e ∙ q)) ∙ ap (λ (z : AlgebraicTree). AlgebraicRole z.cons) e
    | inr r ↦
        let own = x.symbol ∷ made_by_cons x.cons in
        let c : Contains (made_by_types ts) k = subst (Contains (made_by_types ts)) q (type_in ts a r) in
        let here : (x.symbol == k) ≡ false = ne_eqb x.symbol k (head_apart x.symbol (made_by_cons x.cons ++ made_by_types ts) k p (Contains-append_right (made_by_cons x.cons) (made_by_types ts) k c)) in
        let none : constructed_as k x.cons ≡ PlainRole = cons_missing x.cons (λ m. halves_apart own (made_by_types ts) k p (contains_step x.symbol k (made_by_cons x.cons) (inr m)) c) in
        ap (λ (b : Bool). if b then AlgebraicRole x.cons else or_role (constructed_as k x.cons) (algebraic_as k ts)) here ∙ ap (λ (z : RoleTree). or_role z (algebraic_as k ts)) none ∙ type_found ts a (right_apart own (made_by_types ts) p) r q
  ]
    where
      type_in : (us : List AlgebraicTree) (b : AlgebraicTree) → Contains us b → Contains (made_by_types us) b.symbol
      type_in [] b m = absurd (nothing_in b m)
      type_in (y ∷ us) b m = elim (first_or_rest b y us m) [
        | inl e ↦ contains_step y.symbol b.symbol (made_by_cons y.cons ++ made_by_types us) (inl (ap (λ (z : AlgebraicTree). z.symbol) (sym e)))
        | inr r ↦ Contains-append_right (y.symbol ∷ made_by_cons y.cons) (made_by_types us) b.symbol (type_in us b r)
      ]

  -- of a constructor, or a projection, of a type
  cons_found : (ts : List AlgebraicTree) (a : AlgebraicTree) (r : RoleTree) → Apart (made_by_types ts) → Contains ts a → Contains (made_by_cons a.cons) k → constructed_as k a.cons ≡ r → is_plain r ≡ false → algebraic_as k ts ≡ r
  cons_found [] a r p h m q n = absurd (nothing_in a h)
  cons_found (x ∷ ts) a r p h m q n = elim (first_or_rest a x ts h) [
    | inl e ↦
        let own : Contains (made_by_cons x.cons) k = subst (λ (z : AlgebraicTree). Contains (made_by_cons z.cons) k) (sym e) m in
        let here : (x.symbol == k) ≡ false = ne_eqb x.symbol k (head_apart x.symbol (made_by_cons x.cons ++ made_by_types ts) k p (Contains-append_left (made_by_cons x.cons) (made_by_types ts) k own)) in
        let is : constructed_as k x.cons ≡ r = ap (λ (z : AlgebraicTree). constructed_as k z.cons) e ∙ q in
        ap (λ (b : Bool). if b then AlgebraicRole x.cons else or_role (constructed_as k x.cons) (algebraic_as k ts)) here ∙ ap (λ (z : RoleTree). or_role z (algebraic_as k ts)) is ∙ ap (λ (b : Bool). if b then algebraic_as k ts else r) n
    | inr c ↦
        let own = x.symbol ∷ made_by_cons x.cons in
        let there : Contains (made_by_types ts) k = cons_in ts a c m in
        let here : (x.symbol == k) ≡ false = ne_eqb x.symbol k (head_apart x.symbol (made_by_cons x.cons ++ made_by_types ts) k p (Contains-append_right (made_by_cons x.cons) (made_by_types ts) k there)) in
        let none : constructed_as k x.cons ≡ PlainRole = cons_missing x.cons (λ z. halves_apart own (made_by_types ts) k p (contains_step x.symbol k (made_by_cons x.cons) (inr z)) there) in
        ap (λ (b : Bool). if b then AlgebraicRole x.cons else or_role (constructed_as k x.cons) (algebraic_as k ts)) here ∙ ap (λ (z : RoleTree). or_role z (algebraic_as k ts)) none ∙ cons_found ts a r (right_apart own (made_by_types ts) p) c m q n
  ]
    where
      cons_in : (us : List AlgebraicTree) (b : AlgebraicTree) → Contains us b → Contains (made_by_cons b.cons) k → Contains (made_by_types us) k
      cons_in [] b z w = absurd (nothing_in b z)
      cons_in (y ∷ us) b z w = elim (first_or_rest b y us z) [
        | inl e ↦ Contains-append_left (y.symbol ∷ made_by_cons y.cons) (made_by_types us) k (contains_step y.symbol k (made_by_cons y.cons) (inr (subst (λ (v : AlgebraicTree). Contains (made_by_cons v.cons) k) (sym e) w)))
        | inr v ↦ Contains-append_right (y.symbol ∷ made_by_cons y.cons) (made_by_types us) k (cons_in us b v w)
      ]

-- among the constructors of a type
pub con_in : (cs : List ConstructorTree) (c : ConstructorTree) (k : ℕ) → Contains cs c → Contains (c.symbol ∷ c.projections) k → Contains (made_by_cons cs) k
con_in [] c k h m = absurd (nothing_in c h)
con_in (x ∷ cs) c k h m = elim (first_or_rest c x cs h) [
  | inl e ↦ Contains-append_left (x.symbol ∷ x.projections) (made_by_cons cs) k (subst (λ (z : ConstructorTree). Contains (z.symbol ∷ z.projections) k) (sym e) m)
  | inr r ↦ Contains-append_right (x.symbol ∷ x.projections) (made_by_cons cs) k (con_in cs c k r m)
]

con_found : (cs : List ConstructorTree) (c : ConstructorTree) → Apart (made_by_cons cs) → Contains cs c → constructed_as c.symbol cs ≡ ConstructorRole c
con_found [] c a h = absurd (nothing_in c h)
con_found (x ∷ cs) c a h = elim (first_or_rest c x cs h) [
  | inl e ↦ ap (λ (b : Bool). if b then ConstructorRole x else or_role (projected_as c.symbol x) (constructed_as c.symbol cs)) (eq-eqb x.symbol c.symbol (ap (λ (z : ConstructorTree). z.symbol) e)) ∙ ap (λ (z : ConstructorTree). ConstructorRole z) e
  | inr r ↦
      let own = x.symbol ∷ x.projections in
      let m : Contains (made_by_cons cs) c.symbol = con_in cs c c.symbol r (contains_step c.symbol c.symbol c.projections (inl refl)) in
      let here : (x.symbol == c.symbol) ≡ false = ne_eqb x.symbol c.symbol (head_apart x.symbol (x.projections ++ made_by_cons cs) c.symbol a (Contains-append_right x.projections (made_by_cons cs) c.symbol m)) in
      let none : projected_as c.symbol x ≡ PlainRole = ap (projection_at x) (place_missing c.symbol 0 x.projections (λ z. halves_apart own (made_by_cons cs) c.symbol a (contains_step x.symbol c.symbol x.projections (inr z)) m)) in
      ap (λ (b : Bool). if b then ConstructorRole x else or_role (projected_as c.symbol x) (constructed_as c.symbol cs)) here ∙ ap (λ (z : RoleTree). or_role z (constructed_as c.symbol cs)) none ∙ con_found cs c (right_apart own (made_by_cons cs) a) r
]

projection_found : (cs : List ConstructorTree) (c : ConstructorTree) (j p : ℕ) → Apart (made_by_cons cs) → Contains cs c → slice_get c.projections j ≡ Some p → constructed_as p cs ≡ ProjectionRole c j
projection_found [] c j p a h q = absurd (nothing_in c h)
projection_found (x ∷ cs) c j p a h q = elim (first_or_rest c x cs h) [
  | inl e ↦
      let own : slice_get x.projections j ≡ Some p = ap (λ (z : ConstructorTree). slice_get z.projections j) e ∙ q in
      let m : Contains x.projections p = got_there x.projections j p own in
      let here : (x.symbol == p) ≡ false = ne_eqb x.symbol p (head_apart x.symbol (x.projections ++ made_by_cons cs) p a (Contains-append_left x.projections (made_by_cons cs) p m)) in
      let is : projected_as p x ≡ ProjectionRole x (0 + j) = ap (projection_at x) (place_is p 0 x.projections j (left_apart x.projections (made_by_cons cs) (rest_apart x.symbol (x.projections ++ made_by_cons cs) a)) own) in
      let z : 0 + j ≡ j = omega arith in
      ap (λ (b : Bool). if b then ConstructorRole x else or_role (projected_as p x) (constructed_as p cs)) here ∙ ap (λ (r : RoleTree). or_role r (constructed_as p cs)) is ∙ ap (ProjectionRole x) z ∙ ap (λ (v : ConstructorTree). ProjectionRole v j) e
  | inr r ↦
      let own = x.symbol ∷ x.projections in
      let m : Contains (made_by_cons cs) p = con_in cs c p r (contains_step c.symbol p c.projections (inr (got_there c.projections j p q))) in
      let here : (x.symbol == p) ≡ false = ne_eqb x.symbol p (head_apart x.symbol (x.projections ++ made_by_cons cs) p a (Contains-append_right x.projections (made_by_cons cs) p m)) in
      let none : projected_as p x ≡ PlainRole = ap (projection_at x) (place_missing p 0 x.projections (λ z. halves_apart own (made_by_cons cs) p a (contains_step x.symbol p x.projections (inr z)) m)) in
      ap (λ (b : Bool). if b then ConstructorRole x else or_role (projected_as p x) (constructed_as p cs)) here ∙ ap (λ (z : RoleTree). or_role z (constructed_as p cs)) none ∙ projection_found cs c j p (right_apart own (made_by_cons cs) a) r q
]

-- ---- in a valid task
types_part : (ts : List AlgebraicTree) (a : AlgebraicTree) → Apart (made_by_types ts) → Contains ts a → Apart (made_by_cons a.cons)
types_part [] a p h = absurd (nothing_in a h)
types_part (x ∷ ts) a p h = elim (first_or_rest a x ts h) [
  | inl e ↦ subst (λ (z : AlgebraicTree). Apart (made_by_cons z.cons)) e (left_apart (made_by_cons x.cons) (made_by_types ts) (rest_apart x.symbol (made_by_cons x.cons ++ made_by_types ts) p))
  | inr r ↦ types_part ts a (right_apart (x.symbol ∷ made_by_cons x.cons) (made_by_types ts) p) r
]

own_part : (ds : List DeclarationTree) (d : DeclarationTree) → Apart (made ds) → Contains ds d → Apart (made_by d.body)
own_part [] d a h = absurd (nothing_in d h)
own_part (x ∷ ds) d a h = elim (first_or_rest d x ds h) [
  | inl e ↦ subst (λ (z : DeclarationTree). Apart (made_by z.body)) e (left_apart (made_by x.body) (made ds) a)
  | inr r ↦ own_part ds d (right_apart (made_by x.body) (made ds) a) r
]

module _ (t : TaskTree) (valid : IsValid t) (d : DeclarationTree) (there : Contains t.decls d) (ts : List AlgebraicTree) (is : d.body ≡ Constructs ts) (a : AlgebraicTree) (member : Contains ts a) where
  all_apart : Apart (made t.decls)
  all_apart = right_apart (0 ∷ t.rigid) (made t.decls) valid.once

  group_apart : Apart (made_by_types ts)
  group_apart = subst (λ (b : BodyTree). Apart (made_by b)) is (own_part t.decls d all_apart there)

  role_of : (k : ℕ) → Contains (made_by_types ts) k → role t k ≡ algebraic_as k ts
  role_of k m = ap (role_by k) (maker_is t.decls d k all_apart there (subst (λ (b : BodyTree). Contains (made_by b) k) (sym is) m)) ∙ ap (role_in k) is

  in_types : (us : List AlgebraicTree) (k : ℕ) → Contains us a → Contains (a.symbol ∷ made_by_cons a.cons) k → Contains (made_by_types us) k
  in_types [] k h m = absurd (nothing_in a h)
  in_types (y ∷ us) k h m = elim (first_or_rest a y us h) [
    | inl e ↦ Contains-append_left (y.symbol ∷ made_by_cons y.cons) (made_by_types us) k (subst (λ (z : AlgebraicTree). Contains (z.symbol ∷ made_by_cons z.cons) k) (sym e) m)
    | inr r ↦ Contains-append_right (y.symbol ∷ made_by_cons y.cons) (made_by_types us) k (in_types us k r m)
  ]

  pub cons_apart : Apart (made_by_cons a.cons)
  cons_apart = types_part ts a group_apart member

  pub type_role : role t a.symbol ≡ AlgebraicRole a.cons
  type_role = role_of a.symbol (in_types ts a.symbol member (contains_step a.symbol a.symbol (made_by_cons a.cons) (inl refl))) ∙ type_found a.symbol ts a group_apart member refl

  pub con_role : (c : ConstructorTree) → Contains a.cons c → role t c.symbol ≡ ConstructorRole c
  con_role c h =
      let m : Contains (made_by_cons a.cons) c.symbol = con_in a.cons c c.symbol h (contains_step c.symbol c.symbol c.projections (inl refl)) in
      role_of c.symbol (in_types ts c.symbol member (contains_step a.symbol c.symbol (made_by_cons a.cons) (inr m))) ∙ cons_found c.symbol ts a (ConstructorRole c) group_apart member m (con_found a.cons c cons_apart h) refl

  pub projection_role : (c : ConstructorTree) (j p : ℕ) → Contains a.cons c → slice_get c.projections j ≡ Some p → role t p ≡ ProjectionRole c j
  projection_role c j p h q =
      let m : Contains (made_by_cons a.cons) p = con_in a.cons c p h (contains_step c.symbol p c.projections (inr (got_there c.projections j p q))) in
      role_of p (in_types ts p member (contains_step a.symbol p (made_by_cons a.cons) (inr m))) ∙ cons_found p ts a (ProjectionRole c j) group_apart member m (projection_found a.cons c j p cons_apart h q) refl
