-- A group of algebraic types makes each entry of its types, constructors and projections, and each constructor as one.
use Rattle.std.proofs.Common.{◌≡◌, inl, inr, ◌⊎◌, ℕ, ◌+◌, ◌-◌, ◌<◌, ◌≤◌, ◌==◌, zero, suc, true, false, List, [], ◌∷◌, ◌++◌, length, slice_get, All, Some, None, IsTrue, refl, sym, ap, subst, arith, length-append, append-nil}
use Rattle.std.specs.List.{Contains, position_from}
use Rattle.std.proofs.lemmas.Bool.{cases_lt}
use Rattle.std.proofs.lemmas.Bool.Decides.{nat_tests}
use Rattle.std.proofs.lemmas.List.Elements.{All-nil, All-cons, All-append, Contains-append_left, Contains-append_right}
use Rattle.elab_groups.specs.trees.Tree.{Tree}
use Rattle.elab_groups.specs.tasks.declared.signature.SymbolKind.TheVariants.{Constructor}
use Rattle.elab_groups.specs.tasks.Task.{SymbolTree, ConstructorTree, Constructs, DeclarationTree, made, made_by, made_by_cons, made_by_types}
use Rattle.elab_groups.specs.tasks.Roles.{RoleTree, PlainRole, or_role, projected_as, constructed_as, algebraic_as, is_constructor, is_made_by, maker, role_by}
use Rattle.elab_groups.specs.tasks.Roles as roles
use Rattle.elab_groups.specs.tasks.Valid.{own_type}
use Rattle.elab_groups.proofs.tasks.Declared.{contains_step, any_iff}
use Rattle.elab_groups.specs.surface.Lexeme.{Word}
use Rattle.elab_groups.specs.name_resolution.Where.{Where}
use Rattle.elab_declarations.specs.elab_groups.members.Members.{parameter_types, words_of_parameters}
use Rattle.elab_declarations.proofs.elab_groups.members.MembersScoped.{types_count}
use Rattle.elab_groups.specs.parts.Declarations.{AlgebraicConstructor as ConstructorOf, AlgebraicType, words, with_vars}
use Rattle.elab_groups.specs.parts.Entries.{other_words, field_entries}
use Rattle.elab_declarations.specs.type_declarations.Algebraics.{count_fields, entry_count, group_count, numbering_from, type_entries, constructor_trees, algebraic_trees, constructors_entries, group_entries}
use Rattle.elaboration_laws.proofs.Extended.{in_either, slice_all}
use Rattle.elaboration_laws.proofs.Made.{HasFrom, from_step, AreBetween, wider, one_between, no_numbers, AreNew}
use Rattle.elab_declarations.proofs.type_declarations.Made.{fields_length as count_entries, cons_length as count_cons}
use Rattle.elab_groups.specs.trees.laws.Indices.{eqb_true as equal}
use Rattle.elaboration_laws.proofs.Declarations.{below as slice_below}

-- ---- numbers in order
both_from : (xs ys : List ℕ) (n m a b : ℕ) → m ≡ n + a → HasFrom xs n a → HasFrom ys m b → HasFrom (xs ++ ys) n (a + b)
both_from xs ys n m a b q h k = λ j l. of j l (cases_lt j a)
  where
    of : (j : ℕ) → j < a + b → (j < a) ⊎ (a ≤ j) → Contains (xs ++ ys) (n + j)
    of j l (inl z) = Contains-append_left xs ys (n + j) (h j z)
    of j l (inr z) =
        let s : m + (j - a) ≡ n + j = omega (arith, q, z) in
        Contains-append_right xs ys (n + j) (subst (λ (i : ℕ). Contains ys i) s (k (j - a) (omega (arith, l, z))))

with_one : (x : ℕ) (xs : List ℕ) (n m : ℕ) → HasFrom xs n m → HasFrom (x ∷ xs) n m
with_one x xs n m h = λ j l. contains_step x (n + j) xs (inr (h j l))

numbers_has : (n : ℕ) (ts : List Tree) → HasFrom (numbering_from n ts) n (length ts)
numbers_has n [] = λ j l. absurd (omega arith)
numbers_has n (t ∷ ts) =
    let next : n + 1 ≡ suc n = omega arith in
    from_step n (numbering_from (n + 1) ts) (length ts) (subst (λ (i : ℕ). HasFrom (numbering_from (n + 1) ts) i (length ts)) next (numbers_has (n + 1) ts))

cons_has : (w : Where) (n : ℕ) (ks : List ConstructorOf) → HasFrom (made_by_cons (constructor_trees w n ks)) n (entry_count ks)
cons_has w n [] = λ j l. absurd (omega arith)
cons_has w n (k ∷ ks) =
    let fs = parameter_types w k.fields in
    let c = count_fields k.fields + 1 in
    let own = numbering_from (n + 1) fs in
    let next : n + 1 ≡ suc n = omega arith in
    let count : suc (length fs) ≡ c = let q = types_count w k.fields in omega (arith, q) in
    let one : HasFrom (n ∷ own) n (suc (length fs)) = from_step n own (length fs) (subst (λ (i : ℕ). HasFrom own i (length fs)) next (numbers_has (n + 1) fs)) in
    both_from (n ∷ own) (made_by_cons (constructor_trees w (n + c) ks)) n (n + c) c (entry_count ks) refl (subst (λ (m : ℕ). HasFrom (n ∷ own) n m) count one) (cons_has w (n + c) ks)

group_has : (w : Where) (i n : ℕ) (ts : List AlgebraicType) → HasFrom (made_by_types (algebraic_trees w i n ts)) n (group_count ts)
group_has w i n [] = λ j l. absurd (omega arith)
group_has w i n (a ∷ ts) =
    let wa = with_vars w (words a.vars) in
    let c = entry_count a.constructors in
    let own = made_by_cons (constructor_trees wa n a.constructors) in
    both_from (i ∷ own) (made_by_types (algebraic_trees w (i + 1) (n + c) ts)) n (n + c) c (group_count ts) refl (with_one i own n c (cons_has wa n a.constructors)) (group_has w (i + 1) (n + c) ts)

first_then : (i : ℕ) (own rest : List ℕ) (m : ℕ) → HasFrom rest (suc i) m → HasFrom ((i ∷ own) ++ rest) i (suc m)
first_then i own rest m h zero l = Contains-append_left (i ∷ own) rest (i + 0) (contains_step i (i + 0) own (inl (omega arith)))
first_then i own rest m h (suc j) l = Contains-append_right (i ∷ own) rest (i + suc j) (let q : suc i + j ≡ i + suc j = omega arith in subst (λ (k : ℕ). Contains rest k) q (h j (omega arith)))

types_has : (w : Where) (i n : ℕ) (ts : List AlgebraicType) → HasFrom (made_by_types (algebraic_trees w i n ts)) i (length ts)
types_has w i n [] = λ j l. absurd (omega arith)
types_has w i n (a ∷ ts) =
    let own = made_by_cons (constructor_trees (with_vars w (words a.vars)) n a.constructors) in
    let c = entry_count a.constructors in
    let rest = made_by_types (algebraic_trees w (i + 1) (n + c) ts) in
    let next : i + 1 ≡ suc i = omega arith in
    first_then i own rest (length ts) (subst (λ (k : ℕ). HasFrom rest k (length ts)) next (types_has w (i + 1) (n + c) ts))

-- ---- they are between the first type and the last entry
pub numbers_between : (n m : ℕ) (ts : List Tree) → n + length ts ≤ m → AreBetween n m (numbering_from n ts)
numbers_between n m [] l = no_numbers n m
numbers_between n m (t ∷ ts) l = one_between n n m (numbering_from (n + 1) ts) (omega arith) (omega arith) (wider (n + 1) n m m (numbering_from (n + 1) ts) (omega arith) (omega arith) (numbers_between (n + 1) m ts (omega arith)))

both_between : (n m : ℕ) (xs ys : List ℕ) → AreBetween n m xs → AreBetween n m ys → AreBetween n m (xs ++ ys)
both_between n m xs ys h k = All-append (λ (i : ℕ). (n ≤ i) × (i < m)) xs ys h k

pub cons_between : (w : Where) (n m : ℕ) (ks : List ConstructorOf) → n + entry_count ks ≤ m → AreBetween n m (made_by_cons (constructor_trees w n ks))
cons_between w n m [] l = no_numbers n m
cons_between w n m (k ∷ ks) l =
    let fs = parameter_types w k.fields in
    let c = count_fields k.fields + 1 in
    let q = types_count w k.fields in
    let rest = made_by_cons (constructor_trees w (n + c) ks) in
    both_between n m (n ∷ numbering_from (n + 1) fs) rest
    (one_between n n m (numbering_from (n + 1) fs) (omega arith) (omega (arith, l)) (wider (n + 1) n m m (numbering_from (n + 1) fs) (omega arith) (omega arith) (numbers_between (n + 1) m fs (omega (arith, q, l)))))
    (wider (n + c) n m m rest (omega arith) (omega arith) (cons_between w (n + c) m ks (omega (arith, l))))

pub group_between : (w : Where) (b i n m : ℕ) (ts : List AlgebraicType) → b ≤ i → b ≤ n → i + length ts ≤ m → n + group_count ts ≤ m → AreBetween b m (made_by_types (algebraic_trees w i n ts))
group_between w b i n m [] l o p q = no_numbers b m
group_between w b i n m (a ∷ ts) l o p q =
    let wa = with_vars w (words a.vars) in
    let c = entry_count a.constructors in
    let own = made_by_cons (constructor_trees wa n a.constructors) in
    both_between b m (i ∷ own) (made_by_types (algebraic_trees w (i + 1) (n + c) ts))
    (one_between i b m own l (omega arith) (wider n b m m own o (omega arith) (cons_between wa n m a.constructors (omega (arith, q)))))
    (group_between w b (i + 1) (n + c) m ts (omega arith) (omega arith) (omega arith) (omega (arith, q)))

-- ---- what constructors are made as
differ : (a k : ℕ) → a < k → (a == k) ≡ false
differ a k l = grind (arith, nat_tests)

no_position : (n i k : ℕ) (ts : List Tree) → n + length ts ≤ k → position_from (λ j. j == k) i (numbering_from n ts) ≡ None
no_position n i k [] l = refl
no_position n i k (t ∷ ts) l = let q = differ n k (omega arith) in rw q (no_position (n + 1) (i + 1) k ts (omega arith))

not_projected : (n k : ℕ) (fs : List Tree) (c : ConstructorTree) → c.projections ≡ numbering_from (n + 1) fs → n + 1 + length fs ≤ k → projected_as k c ≡ PlainRole
not_projected n k fs c q l = let z = no_position (n + 1) 0 k fs l in rw (q, z) refl

cons_plain : (w : Where) (n k : ℕ) (ks : List ConstructorOf) → n + entry_count ks ≤ k → constructed_as k (constructor_trees w n ks) ≡ PlainRole
cons_plain w n k [] l = refl
cons_plain w n k (x ∷ ks) l =
    let fs = parameter_types w x.fields in
    let c = count_fields x.fields + 1 in
    let q = types_count w x.fields in
    let tree : ConstructorTree = record { symbol = n; fields = fs; projections = numbering_from (n + 1) fs } in
    let a = differ n k (omega (arith, l)) in
    let b = not_projected n k fs tree refl (omega (arith, q, l)) in
    rw (a, b) (cons_plain w (n + c) k ks (omega (arith, l)))

kinds_differ : (theory within name : Word) (vars : ℕ) (t : Tree) (i : ℕ) (ws : List Word) (fs : List Tree) → All (λ (e : SymbolTree). e.kind ≡ Constructor → ⊥) (field_entries theory within name vars t i ws fs)
kinds_differ theory within name vars t i ws [] = All-nil (λ (e : SymbolTree). e.kind ≡ Constructor → ⊥)
kinds_differ theory within name vars t i ws (f ∷ fs) = All-cons (λ (e : SymbolTree). e.kind ≡ Constructor → ⊥) _ (field_entries theory within name vars t (suc i) (other_words ws) fs) (λ q. cc) (kinds_differ theory within name vars t (suc i) (other_words ws) fs)

module _ (theory within : Word) where
  -- past the first constructor
  module _ (vars : ℕ) (t : Tree) (w : Where) (n : ℕ) (k : ConstructorOf) (ks : List ConstructorOf) where
    abbrev fields : List Tree
    fields = parameter_types w k.fields

    abbrev next : ℕ
    next = n + (count_fields k.fields + 1)

    abbrev own : List SymbolTree
    own = field_entries theory within k.own vars t 1 (words_of_parameters k.fields) fields

    abbrev rest : List SymbolTree
    rest = constructors_entries theory within vars t ks (constructor_trees w next ks)

    cons_step : (j : ℕ) (e : SymbolTree) → e.kind ≡ Constructor → (slice_get own j ≡ Some e) ⊎ ((length own ≤ j) × (slice_get rest (j - length own) ≡ Some e))
        → ((i : ℕ) → slice_get rest i ≡ Some e → IsTrue (is_constructor (constructed_as (next + i) (constructor_trees w next ks)))) → IsTrue (is_constructor (constructed_as (n + suc j) (constructor_trees w n (k ∷ ks))))
    cons_step j e q (inl y) f = absurd (slice_all (λ (i : SymbolTree). i.kind ≡ Constructor → ⊥) own (kinds_differ theory within k.own vars t 1 (words_of_parameters k.fields) fields) j e y q)
    cons_step j e q (inr y) f =
        let count = count_entries theory within k.own vars t 1 (words_of_parameters k.fields) fields in
        let long = types_count w k.fields in
        let tree : ConstructorTree = record { symbol = n; fields = fields; projections = numbering_from (n + 1) fields } in
        let a = differ n (n + suc j) (omega arith) in
        let b = not_projected n (n + suc j) fields tree refl (omega (arith, count, y.0)) in
        let s : next + (j - length own) ≡ n + suc j = omega (arith, count, long, y.0) in
        rw (a, b) (subst (λ (i : ℕ). IsTrue (is_constructor (constructed_as i (constructor_trees w next ks)))) s (f (j - length own) y.1))

  cons_role : (vars : ℕ) (t : Tree) (w : Where) (n : ℕ) (ks : List ConstructorOf) (j : ℕ) (e : SymbolTree) → slice_get (constructors_entries theory within vars t ks (constructor_trees w n ks)) j ≡ Some e → e.kind ≡ Constructor
      → IsTrue (is_constructor (constructed_as (n + j) (constructor_trees w n ks)))
  cons_role vars t w n [] j e z q = absurd (cc)
  cons_role vars t w n (k ∷ ks) zero e z q = let a = equal n (n + 0) (omega arith) in rw a refl
  cons_role vars t w n (k ∷ ks) (suc j) e z q =
      cons_step vars t w n k ks j e q (in_either (own vars t w n k ks) (rest vars t w n k ks) j e z) (λ i y. cons_role vars t w (next vars t w n k ks) ks i e y q)

  keeps_role : (r s : RoleTree) → IsTrue (is_constructor r) → IsTrue (is_constructor (or_role r s))
  keeps_role (roles.ConstructorRole x) s h = refl
  keeps_role PlainRole s h = absurd (let e : true ≡ false = sym h in cc)
  keeps_role (roles.DefinedRole x) s h = absurd (let e : true ≡ false = sym h in cc)
  keeps_role (roles.InductiveRole x) s h = absurd (let e : true ≡ false = sym h in cc)
  keeps_role (roles.AlgebraicRole x) s h = absurd (let e : true ≡ false = sym h in cc)
  keeps_role (roles.ProjectionRole x y) s h = absurd (let e : true ≡ false = sym h in cc)

  -- past the first type
  module _ (w : Where) (i n : ℕ) (a : AlgebraicType) (ts : List AlgebraicType) where
    abbrev inside : Where
    inside = with_vars w (words a.vars)

    abbrev later : ℕ
    later = n + entry_count a.constructors

    abbrev type : Tree
    type = own_type i (length a.vars)

    abbrev cons : List ConstructorTree
    cons = constructor_trees inside n a.constructors

    abbrev first : List SymbolTree
    first = constructors_entries theory within (length a.vars) type a.constructors cons

    abbrev others : List SymbolTree
    others = group_entries theory within ts (algebraic_trees w (i + 1) later ts)

    group_step : (j : ℕ) (e : SymbolTree) → i < n → e.kind ≡ Constructor → (slice_get first j ≡ Some e) ⊎ ((length first ≤ j) × (slice_get others (j - length first) ≡ Some e))
        → ((k : ℕ) → slice_get others k ≡ Some e → IsTrue (is_constructor (algebraic_as (later + k) (algebraic_trees w (i + 1) later ts)))) → IsTrue (is_constructor (algebraic_as (n + j) (algebraic_trees w i n (a ∷ ts))))
    group_step j e l q (inl y) f =
        let d = differ i (n + j) (omega arith) in
        rw d (keeps_role (constructed_as (n + j) cons) (algebraic_as (n + j) (algebraic_trees w (i + 1) later ts)) (cons_role (length a.vars) type inside n a.constructors j e y q))
    group_step j e l q (inr y) f =
        let count = count_cons theory within (length a.vars) type inside n a.constructors in
        let d = differ i (n + j) (omega arith) in
        let b = cons_plain inside n (n + j) a.constructors (omega (arith, count, y.0)) in
        let s : later + (j - length first) ≡ n + j = omega (arith, count, y.0) in
        rw (d, b) (subst (λ (k : ℕ). IsTrue (is_constructor (algebraic_as k (algebraic_trees w (i + 1) later ts)))) s (f (j - length first) y.1))

  group_role : (w : Where) (i n : ℕ) (ts : List AlgebraicType) (j : ℕ) (e : SymbolTree) → i + length ts ≤ n → slice_get (group_entries theory within ts (algebraic_trees w i n ts)) j ≡ Some e → e.kind ≡ Constructor
      → IsTrue (is_constructor (algebraic_as (n + j) (algebraic_trees w i n ts)))
  group_role w i n [] j e l z q = absurd (cc)
  group_role w i n (a ∷ ts) j e l z q =
      group_step w i n a ts j e (omega arith) q (in_either (first w i n a ts) (others w i n a ts) j e z) (λ k y. group_role w (i + 1) (later w i n a ts) ts k e (omega arith) y q)

  pub group_length : (w : Where) (i n : ℕ) (ts : List AlgebraicType) → length (group_entries theory within ts (algebraic_trees w i n ts)) ≡ group_count ts
  group_length w i n [] = refl
  group_length w i n (a ∷ ts) =
      let c = entry_count a.constructors in
      let wa = with_vars w (words a.vars) in
      let own = constructors_entries theory within (length a.vars) (own_type i (length a.vars)) a.constructors (constructor_trees wa n a.constructors) in
      omega (arith, length-append own (group_entries theory within ts (algebraic_trees w (i + 1) (n + c) ts)), count_cons theory within (length a.vars) (own_type i (length a.vars)) wa n a.constructors, group_length w (i + 1) (n + c) ts)

  type_kinds : (ts : List AlgebraicType) → All (λ (e : SymbolTree). e.kind ≡ Constructor → ⊥) (type_entries theory within ts)
  type_kinds [] = All-nil (λ (e : SymbolTree). e.kind ≡ Constructor → ⊥)
  type_kinds (a ∷ ts) = All-cons (λ (e : SymbolTree). e.kind ≡ Constructor → ⊥) _ (type_entries theory within ts) (λ q. cc) (type_kinds ts)

  pub count_types : (ts : List AlgebraicType) → length (type_entries theory within ts) ≡ length ts
  count_types [] = refl
  count_types (a ∷ ts) = ap suc (count_types ts)

  -- ---- the entries of a group, where it is the only declaration
  module _ (w : Where) (i n : ℕ) (ts : List AlgebraicType) (d : DeclarationTree) (is : d.body ≡ Constructs (algebraic_trees w i n ts)) where
    made_are : made (d ∷ []) ≡ made_by_types (algebraic_trees w i n ts)
    made_are = let nil = append-nil (made_by_types (algebraic_trees w i n ts)) in rw is nil

    role_is : (k : ℕ) → Contains (made (d ∷ [])) k → role_by k (maker (d ∷ []) k) ≡ algebraic_as k (algebraic_trees w i n ts)
    role_is k h =
        let here : Contains (made_by d.body) k = let nil = append-nil (made_by d.body) in rw nil at h in
        let t : is_made_by k d.body ≡ true = (any_iff k (made_by d.body)).1 here in
        rw t (rw is refl)

    pub types_new : AreNew (d ∷ []) i (type_entries theory within ts)
    types_new = λ j e z.
        let es = type_entries theory within ts in
        let l = slice_below es j e z in
        let count = count_types ts in
        inr (inr (record { made = rw made_are (types_has w i n ts j (omega (arith, l, count))); constructor = λ q. absurd (slice_all (λ (x : SymbolTree). x.kind ≡ Constructor → ⊥) es (type_kinds ts) j e z q) }))

    pub group_new : i + length ts ≤ n → AreNew (d ∷ []) n (group_entries theory within ts (algebraic_trees w i n ts))
    group_new l = λ j e z.
        let es = group_entries theory within ts (algebraic_trees w i n ts) in
        let b = slice_below es j e z in
        let count = group_length w i n ts in
        let made' : Contains (made (d ∷ [])) (n + j) = rw made_are (group_has w i n ts j (omega (arith, b, count))) in
        inr (inr (record { made = made'; constructor = λ q. let r = role_is (n + j) made' in rw r (group_role w i n ts j e l z q) }))
