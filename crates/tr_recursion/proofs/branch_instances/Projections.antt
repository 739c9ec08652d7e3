-- The projections of a constructor of a valid task: each is made as the projection to its field.
use Rattle.std.proofs.Common.{◌≡◌, ◌≢◌, inl, inr, AllPairs, ℕ, zero, suc, ◌+◌, ◌==◌, Bool, true, false, cond, List, [], ◌∷◌, ◌++◌, slice_get, Option, Some, None, refl, sym, subst, ap, ◌∙◌, arith}
use Rattle.std.proofs.lemmas.Bool.Decides.{nat_tests}
use Rattle.std.specs.List.{position_from, Contains}
use Rattle.std.proofs.lemmas.List.Elements.{Contains-append_left, Contains-append_right}
use Rattle.tasks.specs.Task.{DefinitionTree, InductiveTree, ConstructorTree, AlgebraicTree, BodyTree, MakesType, Makes, Defines, Induces, Constructs, Says, DeclarationTree, TaskTree, made, made_by, made_by_cons, made_by_types}
use Rattle.tasks.specs.Roles.{RoleTree, PlainRole, DefinedRole, InductiveRole, AlgebraicRole, ConstructorRole, ProjectionRole, or_role, defined_as, inductive_as, projection_at, projected_as, constructed_as, algebraic_as, role_in, is_made_by, maker, role, role_by}
use Rattle.tasks.specs.Valid.{IsValid}
use Rattle.tasks.proofs.Declared.{contains_cases, contains_step, none_in, any_iff}
use Rattle.tasks.proofs.plain_laws.Lists.{got_contained as at_place}

-- ---- no number is twice in a list
abbrev AreOnce : List ℕ → Type 0
AreOnce [] = Unit {0}
AreOnce (k ∷ ks) = (Contains ks k → ⊥) × AreOnce ks

once_of : (ks : List ℕ) → AllPairs (λ j k. j ≢ k) ks → AreOnce ks
once_of [] a = tt
once_of (k ∷ ks) a = (λ h. a 0 (suc h.0) k (omega arith) (omega (arith, h.1)) (sym h.2), once_of ks (λ i j d l w. a (suc i) (suc j) d (omega (arith, l)) (omega (arith, w))))

once_right : (xs ys : List ℕ) → AreOnce (xs ++ ys) → AreOnce ys
once_right [] ys a = a
once_right (x ∷ xs) ys a = once_right xs ys a.1

once_left : (xs ys : List ℕ) → AreOnce (xs ++ ys) → AreOnce xs
once_left [] ys a = tt
once_left (x ∷ xs) ys a = (λ h. a.0 (Contains-append_left xs ys x h), once_left xs ys a.1)

once_both : (xs ys : List ℕ) (k : ℕ) → AreOnce (xs ++ ys) → Contains xs k → Contains ys k → ⊥
once_both [] ys k a h m = none_in k h
once_both (x ∷ xs) ys k a h m = elim (contains_cases x k xs h) [
  | inl e ↦ a.0 (Contains-append_right xs ys x (subst (Contains ys) e m))
  | inr n ↦ once_both xs ys k a.1 n m
]

tested : (k j : ℕ) → k ≡ j → (k == j) ≡ true
tested k j e = grind (arith, nat_tests)

untested : (k j : ℕ) → (k ≡ j → ⊥) → (k == j) ≡ false
untested k j n = grind (arith, nat_tests)

-- ---- the place of a projection
place_of : (p n j : ℕ) (ks : List ℕ) → AreOnce ks → slice_get ks j ≡ Some p → position_from (λ i. i == p) n ks ≡ Some (n + j)
place_of p n j [] a e = absurd (cc)
place_of p n zero (k ∷ ks) a e =
    let s : k ≡ p = cc in
    let i : n ≡ n + 0 = omega arith in
    ap (λ (b : Bool). cond b (Some n) (position_from (λ i. i == p) (n + 1) ks)) (tested k p s) ∙ ap (λ (m : ℕ). Some m) i
place_of p n (suc j) (k ∷ ks) a e =
    let u : (k == p) ≡ false = untested k p (λ s. a.0 (subst (Contains ks) (sym s) (at_place ks j p e))) in
    let i : n + 1 + j ≡ n + suc j = omega arith in
    ap (λ (b : Bool). cond b (Some n) (position_from (λ i. i == p) (n + 1) ks)) u ∙ place_of p (n + 1) j ks a.1 e ∙ ap (λ (m : ℕ). Some m) i

no_place : (p n : ℕ) (ks : List ℕ) → (Contains ks p → ⊥) → position_from (λ i. i == p) n ks ≡ None
no_place p n [] h = refl
no_place p n (k ∷ ks) h =
    ap (λ (b : Bool). cond b (Some n) (position_from (λ i. i == p) (n + 1) ks)) (untested k p (λ s. h (contains_step k p ks (inl (sym s)))))
    ∙ no_place p (n + 1) ks (λ c. h (contains_step k p ks (inr c)))

no_cons : (p : ℕ) (cs : List ConstructorTree) → (Contains (made_by_cons cs) p → ⊥) → constructed_as p cs ≡ PlainRole
no_cons p [] h = refl
no_cons p (c ∷ cs) h =
    let u : (c.symbol == p) ≡ false = untested c.symbol p (λ s. h (Contains-append_left (c.symbol ∷ c.projections) (made_by_cons cs) p (contains_step c.symbol p c.projections (inl (sym s))))) in
    let n : projected_as p c ≡ PlainRole = ap (projection_at c) (no_place p 0 c.projections (λ m. h (Contains-append_left (c.symbol ∷ c.projections) (made_by_cons cs) p (contains_step c.symbol p c.projections (inr m))))) in
    ap (λ (b : Bool). cond b (ConstructorRole c) (or_role (projected_as p c) (constructed_as p cs))) u
    ∙ ap (λ (r : RoleTree). or_role r (constructed_as p cs)) n ∙ no_cons p cs (λ m. h (Contains-append_right (c.symbol ∷ c.projections) (made_by_cons cs) p m))

-- ---- where a symbol is made as a constructor, its projections are made as such
module _ (k p j : ℕ) (con : ConstructorTree) (there : slice_get con.projections j ≡ Some p) where
  -- the symbol is among those made, as the projection
  abbrev IsMade : List ℕ → RoleTree → Type 0
  IsMade ks r = Contains ks p × (r ≡ ProjectionRole con j)

  same_con : (c : ConstructorTree) → ConstructorRole c ≡ ConstructorRole con → c ≡ con
  same_con c e = cc

  own_projection : AreOnce con.projections → projected_as p con ≡ ProjectionRole con j
  own_projection a = let n : 0 + j ≡ j = omega arith in ap (projection_at con) (place_of p 0 j con.projections a there) ∙ ap (ProjectionRole con) n

  in_cons : (cs : List ConstructorTree) → AreOnce (made_by_cons cs) → constructed_as k cs ≡ ConstructorRole con → IsMade (made_by_cons cs) (constructed_as p cs)
  in_cons [] a e = absurd (cc)
  in_cons (c ∷ cs) a e = by (in_cons cs (once_right (c.symbol ∷ c.projections) (made_by_cons cs) a)) (c.symbol == k) e
    where
      after : Contains (made_by_cons cs) p × (constructed_as p cs ≡ ProjectionRole con j) → IsMade ((c.symbol ∷ c.projections) ++ made_by_cons cs) (constructed_as p (c ∷ cs))
      after h =
          let out : Contains (c.symbol ∷ c.projections) p → ⊥ = λ m. once_both (c.symbol ∷ c.projections) (made_by_cons cs) p a m h.0 in
          let u : (c.symbol == p) ≡ false = untested c.symbol p (λ s. out (contains_step c.symbol p c.projections (inl (sym s)))) in
          let n : projected_as p c ≡ PlainRole = ap (projection_at c) (no_place p 0 c.projections (λ m. out (contains_step c.symbol p c.projections (inr m)))) in (
            Contains-append_right (c.symbol ∷ c.projections) (made_by_cons cs) p h.0,
            ap (λ (b : Bool). cond b (ConstructorRole c) (or_role (projected_as p c) (constructed_as p cs))) u ∙ ap (λ (r : RoleTree). or_role r (constructed_as p cs)) n ∙ h.1,
          )

      here : c ≡ con → IsMade ((c.symbol ∷ c.projections) ++ made_by_cons cs) (constructed_as p (c ∷ cs))
      here s =
          let m : Contains c.projections p = subst (λ (z : ConstructorTree). Contains z.projections p) (sym s) (at_place con.projections j p there) in
          let o : AreOnce (c.symbol ∷ c.projections) = once_left (c.symbol ∷ c.projections) (made_by_cons cs) a in
          let u : (c.symbol == p) ≡ false = untested c.symbol p (λ q. o.0 (subst (Contains c.projections) (sym q) m)) in
          let r : projected_as p c ≡ ProjectionRole con j = ap (projected_as p) s ∙ own_projection (subst (λ (z : ConstructorTree). AreOnce z.projections) s o.1) in (
            Contains-append_left (c.symbol ∷ c.projections) (made_by_cons cs) p (contains_step c.symbol p c.projections (inr m)),
            ap (λ (b : Bool). cond b (ConstructorRole c) (or_role (projected_as p c) (constructed_as p cs))) u ∙ ap (λ (z : RoleTree). or_role z (constructed_as p cs)) r,
          )

      by_place : (constructed_as k cs ≡ ConstructorRole con → IsMade (made_by_cons cs) (constructed_as p cs)) → (o : Option ℕ) → or_role (projection_at c o) (constructed_as k cs) ≡ ConstructorRole con → IsMade ((c.symbol ∷ c.projections) ++ made_by_cons cs) (constructed_as p (c ∷ cs))
      by_place f None q = after (f q)
      by_place f (Some n) q = absurd (cc)

      by : (constructed_as k cs ≡ ConstructorRole con → IsMade (made_by_cons cs) (constructed_as p cs)) → (b : Bool) → cond b (ConstructorRole c) (or_role (projected_as k c) (constructed_as k cs)) ≡ ConstructorRole con → IsMade ((c.symbol ∷ c.projections) ++ made_by_cons cs) (constructed_as p (c ∷ cs))
      by f true q = here (same_con c q)
      by f false q = by_place f (position_from (λ i. i == k) 0 c.projections) q

  in_types : (ts : List AlgebraicTree) → AreOnce (made_by_types ts) → algebraic_as k ts ≡ ConstructorRole con → IsMade (made_by_types ts) (algebraic_as p ts)
  in_types [] a e = absurd (cc)
  in_types (x ∷ ts) a e = by (in_types ts (once_right (x.symbol ∷ made_by_cons x.cons) (made_by_types ts) a)) (x.symbol == k) e
    where
      other : (Contains (x.symbol ∷ made_by_cons x.cons) p → ⊥) → algebraic_as p (x ∷ ts) ≡ algebraic_as p ts
      other out =
          let u : (x.symbol == p) ≡ false = untested x.symbol p (λ s. out (contains_step x.symbol p (made_by_cons x.cons) (inl (sym s)))) in
          ap (λ (b : Bool). cond b (AlgebraicRole x.cons) (or_role (constructed_as p x.cons) (algebraic_as p ts))) u
          ∙ ap (λ (r : RoleTree). or_role r (algebraic_as p ts)) (no_cons p x.cons (λ m. out (contains_step x.symbol p (made_by_cons x.cons) (inr m))))

      here : constructed_as k x.cons ≡ ConstructorRole con → IsMade ((x.symbol ∷ made_by_cons x.cons) ++ made_by_types ts) (algebraic_as p (x ∷ ts))
      here q =
          let o : AreOnce (x.symbol ∷ made_by_cons x.cons) = once_left (x.symbol ∷ made_by_cons x.cons) (made_by_types ts) a in
          let h = in_cons x.cons o.1 q in
          let u : (x.symbol == p) ≡ false = untested x.symbol p (λ s. o.0 (subst (Contains (made_by_cons x.cons)) (sym s) h.0)) in (
            Contains-append_left (x.symbol ∷ made_by_cons x.cons) (made_by_types ts) p (contains_step x.symbol p (made_by_cons x.cons) (inr h.0)),
            ap (λ (b : Bool). cond b (AlgebraicRole x.cons) (or_role (constructed_as p x.cons) (algebraic_as p ts))) u ∙ ap (λ (r : RoleTree). or_role r (algebraic_as p ts)) h.1,
          )

      by_cons : (algebraic_as k ts ≡ ConstructorRole con → IsMade (made_by_types ts) (algebraic_as p ts)) → (r : RoleTree) → constructed_as k x.cons ≡ r → or_role r (algebraic_as k ts) ≡ ConstructorRole con → IsMade ((x.symbol ∷ made_by_cons x.cons) ++ made_by_types ts) (algebraic_as p (x ∷ ts))
      by_cons f PlainRole w q =
          let h = f q in
          (Contains-append_right (x.symbol ∷ made_by_cons x.cons) (made_by_types ts) p h.0, other (λ m. once_both (x.symbol ∷ made_by_cons x.cons) (made_by_types ts) p a m h.0) ∙ h.1)
      by_cons f (DefinedRole z) w q = here (w ∙ q)
      by_cons f (InductiveRole z) w q = here (w ∙ q)
      by_cons f (AlgebraicRole z) w q = here (w ∙ q)
      by_cons f (ConstructorRole z) w q = here (w ∙ q)
      by_cons f (ProjectionRole z n) w q = here (w ∙ q)

      by : (algebraic_as k ts ≡ ConstructorRole con → IsMade (made_by_types ts) (algebraic_as p ts)) → (b : Bool) → cond b (AlgebraicRole x.cons) (or_role (constructed_as k x.cons) (algebraic_as k ts)) ≡ ConstructorRole con → IsMade ((x.symbol ∷ made_by_cons x.cons) ++ made_by_types ts) (algebraic_as p (x ∷ ts))
      by f true q = absurd (cc)
      by f false q = by_cons f (constructed_as k x.cons) refl q

  no_defined : (ds : List DefinitionTree) → defined_as k ds ≡ ConstructorRole con → ⊥
  no_defined [] e = cc
  no_defined (d ∷ ds) e = by (no_defined ds) (d.symbol == k) e
    where
      by : (defined_as k ds ≡ ConstructorRole con → ⊥) → (b : Bool) → cond b (DefinedRole d.equation) (defined_as k ds) ≡ ConstructorRole con → ⊥
      by f true q = cc
      by f false q = f q

  no_inductive : (is : List InductiveTree) → inductive_as k is ≡ ConstructorRole con → ⊥
  no_inductive [] e = cc
  no_inductive (i ∷ is) e = by (no_inductive is) (i.symbol == k) e
    where
      by : (inductive_as k is ≡ ConstructorRole con → ⊥) → (b : Bool) → cond b (InductiveRole i.clauses) (inductive_as k is) ≡ ConstructorRole con → ⊥
      by f true q = cc
      by f false q = f q

  in_body : (b : BodyTree) → AreOnce (made_by b) → role_in k b ≡ ConstructorRole con → IsMade (made_by b) (role_in p b)
  in_body (Constructs ts) a e = in_types ts a e
  in_body (Defines ds) a e = absurd (no_defined ds e)
  in_body (Induces is) a e = absurd (no_inductive is e)
  in_body (MakesType i) a e = absurd (cc)
  in_body (Makes i) a e = absurd (cc)
  in_body (Says z) a e = absurd (cc)

  in_decls : (ds : List DeclarationTree) → AreOnce (made ds) → role_by k (maker ds k) ≡ ConstructorRole con → IsMade (made ds) (role_by p (maker ds p))
  in_decls [] a e = absurd (cc)
  in_decls (d ∷ ds) a e = by (in_decls ds (once_right (made_by d.body) (made ds) a)) (is_made_by k d.body) e
    where
      by : (role_by k (maker ds k) ≡ ConstructorRole con → IsMade (made ds) (role_by p (maker ds p))) → (b : Bool) → role_by k (cond b (Some d) (maker ds k)) ≡ ConstructorRole con → IsMade (made_by d.body ++ made ds) (role_by p (maker (d ∷ ds) p))
      by f true q =
          let h = in_body d.body (once_left (made_by d.body) (made ds) a) q in
          (Contains-append_left (made_by d.body) (made ds) p h.0, ap (λ (b : Bool). role_by p (cond b (Some d) (maker ds p))) ((any_iff p (made_by d.body)).1 h.0) ∙ h.1)
      by f false q =
          let h = f q in
          (Contains-append_right (made_by d.body) (made ds) p h.0, by_test (is_made_by p d.body) refl h)
        where
          by_test : (b : Bool) → is_made_by p d.body ≡ b → IsMade (made ds) (role_by p (maker ds p)) → role_by p (cond b (Some d) (maker ds p)) ≡ ProjectionRole con j
          by_test true w h = absurd (once_both (made_by d.body) (made ds) p a ((any_iff p (made_by d.body)).0 w) h.0)
          by_test false w h = h.1

  pub projection_role : (t : TaskTree) → IsValid t → role t k ≡ ConstructorRole con → role t p ≡ ProjectionRole con j
  projection_role t valid e = (in_decls t.decls (once_right t.rigid (made t.decls) (once_of (0 ∷ t.rigid ++ made t.decls) valid.once).1) e).1
