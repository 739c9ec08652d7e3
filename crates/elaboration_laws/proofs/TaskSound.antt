-- The task of a goal after declarations that are valid where they are is valid.
use Rattle.std.proofs.Common.{◌≡◌, ◌≢◌, ◌⊎◌, inl, inr, ℕ, ◌-◌, ◌<◌, ◌&&◌, ◌||◌, zero, suc, Bool, true, false, if◌then◌else◌, List, [], ◌∷◌, ◌++◌, length, get_or, slice_get, All, Option, Some, None, IfSome, IsTrue, refl, sym, ap, subst, ◌∙◌, arith, append-nil}
use Rattle.std.specs.List.{Contains}
use Rattle.std.specs.Option.{is_some, option_or}
use Rattle.std.specs.Str.{bytes_eq}
use Rattle.std.proofs.lemmas.List.Elements.{All-nil, All-cons, All-append, All-contains, Contains-append_left, Contains-append_right, Contains-append_cases}
use Rattle.elab_groups.specs.tasks.declared.signature.SymbolKind.TheVariants.{Kind, Constructor}
use Rattle.elab_groups.specs.tasks.Task.{SymbolTree, symbol_or, int_symbol, DeclarationTree, TaskTree, made, made_by, declared}
use Rattle.elab_groups.specs.tasks.Roles.{is_constructor, is_made_by, maker, role_in, role_by}
use Rattle.elab_groups.specs.tasks.Rigid.{rigid_symbol}
use Rattle.elab_groups.specs.tasks.Vocabulary.{Vocabulary, of_task, passes, is_empty, is_constructor_kind}
use Rattle.elab_groups.specs.tasks.Valid.{IsFormula, IsTypeOver, IsValidDecl, IsRigidEntry, AreInts, IsValid}
use Rattle.elab_groups.proofs.tasks.Declared.{contains_step, any_iff, maker_made, made_maker, made_usable, con_maker}
use Rattle.theory_states.specs.goal_tasks.Named.{named, body_named, declarations_named, is_among}
use Rattle.elab_groups.specs.parts.Entries.{builtin}
use Rattle.elaboration_laws.specs.Lists.{is_built, after}
use Rattle.elaboration_laws.proofs.Algebraics.{got}
use Rattle.elaboration_laws.proofs.Lists.{maker_both, list_valid}
use Rattle.theory_states.specs.goal_tasks.Tuples.{tuple_declaration, tuple_occurs, tuples_in}
use Rattle.theory_states.specs.goal_tasks.Theories.{GoalTree, KnownTheoryTree, TheoriesTree}
use Rattle.theory_states.specs.goal_tasks.Tasks.{declarations_before, task_named, task_for}
use Rattle.elaboration_laws.specs.Built.{IsOfTuple}
use Rattle.elaboration_laws.specs.Tasks.{IsOwnSymbol, AreSound, IsQuotedAt, IsSoundGoal}
use Rattle.elaboration_laws.proofs.Names.{or_left, or_right, Within, left_in, right_in, declaration_named, formula_named}
use Rattle.elaboration_laws.proofs.Distinct.{IsDistinct, distinct_pairs, pairs_distinct, distinct_both}
use Rattle.elaboration_laws.proofs.TupleDecls.{made_both, made_are, tuple_valid}
use Rattle.elaboration_laws.proofs.TupleLists.{IsTupleDecl, IsTupleEntry, entry_is, tuples_are, occurring_made, tuples_distinct}
use Rattle.elaboration_laws.proofs.Patterns.{constructor_is as con_kind}

-- ---- who makes a symbol
pub each_made : (ds : List DeclarationTree) (i : ℕ) (d : DeclarationTree) → i < length ds → (k : ℕ) → Contains (made_by (get_or ds i d).body) k → Contains (made ds) k
each_made [] i d l k h = absurd (omega (arith, l))
each_made (x ∷ ds) zero d l k h = Contains-append_left (made_by x.body) (made ds) k h
each_made (x ∷ ds) (suc i) d l k h = Contains-append_right (made_by x.body) (made ds) k (each_made ds i d (omega (arith, l)) k h)

pub maker_all : (P : DeclarationTree → Type 0) (ds : List DeclarationTree) (k : ℕ) (d : DeclarationTree) → All P ds → maker ds k ≡ Some d → P d × Contains (made_by d.body) k
maker_all P [] k d a q = absurd (cc)
maker_all P (x ∷ ds) k d a q = of (is_made_by k x.body) refl q (λ z. maker_all P ds k d (λ i e l. a (suc i) e (omega (arith, l))) z)
  where
    of : (b : Bool) → is_made_by k x.body ≡ b → (if b then Some x else maker ds k) ≡ Some d → (maker ds k ≡ Some d → P d × Contains (made_by d.body) k) → P d × Contains (made_by d.body) k
    of true z y f = let e : x ≡ d = cc in let p : P x = a 0 x (omega arith) in subst (λ (i : DeclarationTree). P i × Contains (made_by i.body) k) e (p, (any_iff k (made_by x.body)).0 z)
    of false z y f = f y

maker_some : (ds : List DeclarationTree) (k : ℕ) → Contains (made ds) k → (d : DeclarationTree) × (maker ds k ≡ Some d)
maker_some ds k h = of (maker ds k) (made_maker k ds h)
  where
    of : (o : Option DeclarationTree) → IsTrue (is_some o) → (d : DeclarationTree) × (o ≡ Some d)
    of None t = absurd (let e : true ≡ false = sym t in cc)
    of (Some d) t = (d, refl)

-- the constructor of a width is made as one
tuple_role : (n c k : ℕ) → 0 < c → k ≡ c → IsTrue (is_constructor (role_in k (tuple_declaration n (c - 1)).body))
tuple_role n zero k l q = absurd (omega (arith, l))
tuple_role n (suc c) k l q = grind arith

module _ (all : TheoriesTree) (t : KnownTheoryTree) (g : GoalTree) (sound : AreSound all.symbols (declarations_before t g)) (goal : IsSoundGoal all.symbols (declarations_before t g) g) where
  abbrev symbols : List SymbolTree
  symbols = all.symbols

  abbrev ds : List DeclarationTree
  ds = declarations_before t g

  abbrev ks : List ℕ
  ks = task_named all t g

  abbrev Ts : List DeclarationTree
  Ts = tuples_in symbols ks

  abbrev T : TaskTree
  T = task_for all t g

  abbrev w : Vocabulary
  w = of_task T

  abbrev over : List ℕ → Vocabulary
  over r = after symbols r ds

  -- ---- what tuples make, and what declarations make
  tuple_made : (d : DeclarationTree) → IsTupleDecl symbols d → (k : ℕ) → Contains (made_by d.body) k → (n : ℕ) × (c : ℕ) × IsTupleEntry symbols n c k
  tuple_made d x k h =
      let at = sound.built.tuples x.width x.constructor x.found in
      let same = x.is in
      let i = subst (λ (e : DeclarationTree). Contains (made_by e.body) k) same h in
      let nil = append-nil (made_by (tuple_declaration x.width (x.constructor - 1)).body) in
      (x.width, x.constructor, entry_is symbols sound.built x.width x.constructor at k (subst (λ (xs : List ℕ). Contains xs k) (sym nil) i))

  tuple_entry : (k : ℕ) → Contains (made Ts) k → (n : ℕ) × (c : ℕ) × IsTupleEntry symbols n c k
  tuple_entry k h =
      let s = maker_some Ts k h in
      let p = maker_all (IsTupleDecl symbols) Ts k s.0 (tuples_are symbols sound.built ks) s.1 in
      tuple_made s.0 p.0 k p.1

  own_entry : (k : ℕ) → Contains (made ds) k → IsOwnSymbol symbols k
  own_entry k h = All-contains (IsOwnSymbol symbols) (made ds) k sound.own h

  clash : (k : ℕ) → Contains (made Ts) k → Contains (made ds) k → ⊥
  clash k a b =
      let x = (tuple_entry k a).2.theory in
      let y = (own_entry k b).other in
      let z : bytes_eq builtin builtin ≡ false = sym (ap (λ (n : List ℕ). bytes_eq n builtin) x) ∙ y in
      let u : true ≡ false = z in cc

  -- ---- what the task may name
  of_tuple_made : (k : ℕ) → IsTrue (is_among ks k) → IsOfTuple symbols k → Contains (made Ts) k
  of_tuple_made k i o = occurring_made symbols sound.built ks o.width o.constructor k o.found (of o.is) o.is
    where
      of : (k ≡ o.constructor) ⊎ (suc k ≡ o.constructor) → IsTrue (tuple_occurs ks o.constructor)
      of (inl q) = or_left (is_among ks o.constructor) (is_among ks (o.constructor - 1)) (subst (λ (j : ℕ). IsTrue (is_among ks j)) q i)
      of (inr q) = let z : k ≡ o.constructor - 1 = omega (arith, q) in or_right (is_among ks o.constructor) (is_among ks (o.constructor - 1)) (subst (λ (j : ℕ). IsTrue (is_among ks j)) z i)

  in_first : (k : ℕ) → Contains (made Ts) k → Contains (made (Ts ++ ds)) k
  in_first k h = let e = made_both Ts ds in subst (λ (xs : List ℕ). Contains xs k) (sym e) (Contains-append_left (made Ts) (made ds) k h)

  in_last : (k : ℕ) → Contains (made ds) k → Contains (made (Ts ++ ds)) k
  in_last k h = let e = made_both Ts ds in subst (λ (xs : List ℕ). Contains xs k) (sym e) (Contains-append_right (made Ts) (made ds) k h)

  named_made : (k : ℕ) → IsTrue (is_among ks k) → IsTrue ((over []).usable k) → Contains (0 ∷ made (Ts ++ ds)) k
  named_made k i h = of (slice_get symbols k) refl h
    where
      own : IsTrue (is_some (maker ds k)) → Contains (0 ∷ made (Ts ++ ds)) k
      own h = contains_step 0 k (made (Ts ++ ds)) (inr (in_last k (maker_made k ds h)))

      built_in : (k ≡ 0) ⊎ IsOfTuple symbols k → Contains (0 ∷ made (Ts ++ ds)) k
      built_in (inl q) = contains_step 0 k (made (Ts ++ ds)) (inl q)
      built_in (inr o) = contains_step 0 k (made (Ts ++ ds)) (inr (in_first k (of_tuple_made k i o)))

      by : (e : SymbolTree) (b : Bool) → slice_get symbols k ≡ Some e → is_built e ≡ b → IsTrue (b || is_some (maker ds k)) → Contains (0 ∷ made (Ts ++ ds)) k
      by e true q z h = built_in (sound.built.alone k e q z)
      by e false q z h = own h

      of : (o : Option SymbolTree) → slice_get symbols k ≡ o → IsTrue (passes is_built o || is_some (maker ds k)) → Contains (0 ∷ made (Ts ++ ds)) k
      of None q h = own h
      of (Some e) q h = by e (is_built e) q refl h

  usable : (k : ℕ) → IsTrue (is_among ks k) → IsTrue ((over []).usable k) → IsTrue (w.usable k)
  usable k i h = made_usable T k (named_made k i h)

  matched_cases : (k : ℕ) → IsTrue (is_among ks k) → IsTrue ((over []).matched k) → (Contains (made Ts) k × ((symbol_or symbols k).kind ≡ Constructor)) ⊎ IsTrue (is_constructor (role_by k (maker ds k)))
  matched_cases k i h = of (slice_get symbols k) refl h
    where
      built_in : (e : SymbolTree) → slice_get symbols k ≡ Some e → e.kind ≡ Constructor → (k ≡ 0) ⊎ IsOfTuple symbols k → Contains (made Ts) k
      built_in e q z (inl x) =
          let y : Some e ≡ Some int_symbol = sym q ∙ (ap (slice_get symbols) x ∙ sound.built.int) in
          let same : e ≡ int_symbol = cc in
          absurd (let u : Kind ≡ Constructor = sym (ap (λ (d : SymbolTree). d.kind) same) ∙ z in cc)
      built_in e q z (inr o) = of_tuple_made k i o

      by : (e : SymbolTree) (a b : Bool) → slice_get symbols k ≡ Some e → is_built e ≡ a → is_constructor_kind e.kind ≡ b → IsTrue ((a && b) || is_constructor (role_by k (maker ds k)))
          → (Contains (made Ts) k × ((symbol_or symbols k).kind ≡ Constructor)) ⊎ IsTrue (is_constructor (role_by k (maker ds k)))
      by e true true q y z h =
          let c = con_kind e.kind z in
          let same = (got symbols k e q).1 in
          inl (built_in e q c (sound.built.alone k e q y), ap (λ (d : SymbolTree). d.kind) same ∙ c)
      by e true false q y z h = inr h
      by e false b q y z h = inr h

      of : (o : Option SymbolTree) → slice_get symbols k ≡ o → IsTrue (passes (λ e. is_built e && is_constructor_kind e.kind) o || is_constructor (role_by k (maker ds k)))
          → (Contains (made Ts) k × ((symbol_or symbols k).kind ≡ Constructor)) ⊎ IsTrue (is_constructor (role_by k (maker ds k)))
      of None q h = inr h
      of (Some e) q h = by e (is_built e) (is_constructor_kind e.kind) q refl refl h

  matched : (k : ℕ) → IsTrue (is_among ks k) → IsTrue ((over []).matched k) → IsTrue (w.matched k)
  matched k i h =
      let e = maker_both Ts ds k in
      subst (λ (o : Option DeclarationTree). IsTrue (is_constructor (role_by k o))) (sym e) (of (maker Ts k) refl (matched_cases k i h))
    where
      of : (o : Option DeclarationTree) → maker Ts k ≡ o → (Contains (made Ts) k × ((symbol_or symbols k).kind ≡ Constructor)) ⊎ IsTrue (is_constructor (role_by k (maker ds k))) → IsTrue (is_constructor (role_by k (option_or o (maker ds k))))
      of None q (inl x) = absurd (let s = maker_some Ts k x.0 in cc)
      of None q (inr x) = x
      of (Some d) q (inl x) =
          let p = maker_all (IsTupleDecl symbols) Ts k d (tuples_are symbols sound.built ks) q in
          let at = sound.built.tuples p.0.width p.0.constructor p.0.found in
          let c : k ≡ p.0.constructor = (entry_of d p.0 p.1).constructor x.1 in
          subst (λ (b : DeclarationTree). IsTrue (is_constructor (role_in k b.body))) (sym p.0.is) (tuple_role p.0.width p.0.constructor k at.type_before c)
        where
          entry_of : (d : DeclarationTree) (y : IsTupleDecl symbols d) → Contains (made_by d.body) k → IsTupleEntry symbols y.width y.constructor k
          entry_of d y h =
              let nil = append-nil (made_by (tuple_declaration y.width (y.constructor - 1)).body) in
              entry_is symbols sound.built y.width y.constructor (sound.built.tuples y.width y.constructor y.found) k (subst (λ (xs : List ℕ). Contains xs k) (sym nil) (subst (λ (e : DeclarationTree). Contains (made_by e.body) k) y.is h))
      of (Some d) q (inr x) =
          absurd (clash k (maker_made k Ts (subst (λ (o : Option DeclarationTree). IsTrue (is_some o)) (sym q) refl)) (maker_made k ds (con_maker k (maker ds k) x)))

  -- ---- its declarations
  tuples_valid : All (IsValidDecl w) Ts
  tuples_valid = λ i d l. one i d l (tuples_are symbols sound.built ks i d l)
    where
      one : (i : ℕ) (d : DeclarationTree) → i < length Ts → IsTupleDecl symbols (get_or Ts i d) → IsValidDecl w (get_or Ts i d)
      one i d l x =
          let at = sound.built.tuples x.width x.constructor x.found in
          let are = made_are symbols x.width x.constructor at in
          let type = x.constructor - 1 in
          let first : Contains (made (tuple_declaration x.width type ∷ [])) type = subst (λ (xs : List ℕ). Contains xs type) (sym are) (0, omega arith, refl) in
          let nil = append-nil (made_by (tuple_declaration x.width type).body) in
          let here : Contains (made_by (get_or Ts i d).body) type = subst (λ (e : DeclarationTree). Contains (made_by e.body) type) (sym x.is) (subst (λ (xs : List ℕ). Contains xs type) nil first) in
          let may = made_usable T type (contains_step 0 type (made (Ts ++ ds)) (inr (in_first type (each_made Ts i d l type here)))) in
          subst (IsValidDecl w) (sym x.is) (tuple_valid symbols x.width x.constructor at w refl may)

  no_rigid : (k : ℕ) → IsTrue ((over []).rigid k) → IsTrue (w.rigid k)
  no_rigid k h = absurd (let e : true ≡ false = sym h in cc)

  others_valid : (xs : List DeclarationTree) → Within ks (declarations_named symbols xs) → All (IsValidDecl (over [])) xs → All (IsValidDecl w) xs
  others_valid [] i h = All-nil (IsValidDecl w)
  others_valid (d ∷ xs) i h =
      let one : IsValidDecl (over []) d = h 0 d (omega arith) in
      All-cons (IsValidDecl w) d xs (declaration_named ks (over []) w no_rigid usable matched refl d (left_in ks (body_named symbols d.body) (declarations_named symbols xs) i) one)
      (others_valid xs (right_in ks (body_named symbols d.body) (declarations_named symbols xs) i) (λ k e l. h (suc k) e (omega (arith, l))))

  decls_valid : All (IsValidDecl w) (Ts ++ ds)
  decls_valid = All-append (IsValidDecl w) Ts ds tuples_valid (others_valid ds (left_in ks (declarations_named symbols ds) (named g.prop) (λ k h. h)) (list_valid symbols [] ds sound.valid))

  goal_valid : IsFormula T [] 0 g.prop
  goal_valid = formula_named ks (over g.rigid) w (λ k h. h) usable matched refl 0 g.prop (right_in ks (declarations_named symbols ds) (named g.prop) (λ k h. h)) goal.formula

  -- ---- no symbol is made twice
  made_is : (k : ℕ) → Contains (made (Ts ++ ds)) k → (is_empty (symbol_or symbols k).theory ≡ false) × (k ≢ 0)
  made_is k h = let e = made_both Ts ds in of (Contains-append_cases (made Ts) (made ds) k (subst (λ (xs : List ℕ). Contains xs k) e h))
    where
      of : Contains (made Ts) k ⊎ Contains (made ds) k → (is_empty (symbol_or symbols k).theory ≡ false) × (k ≢ 0)
      of (inl c) = let x = (tuple_entry k c).2 in (ap is_empty x.theory, x.first)
      of (inr c) =
          let x = own_entry k c in (
            x.stands,
            λ z.
                let first : symbol_or symbols k ≡ int_symbol = ap (symbol_or symbols) z ∙ (got symbols 0 int_symbol sound.built.int).1 in
                let y : bytes_eq builtin builtin ≡ false = sym (ap (λ (e : SymbolTree). bytes_eq e.theory builtin) first) ∙ x.other in
                let u : true ≡ false = y in cc,
          )

  rigid_is : (k : ℕ) → Contains g.rigid k → is_empty (symbol_or symbols k).theory ≡ true
  rigid_is k c =
      let x = All-contains (IsQuotedAt symbols) g.rigid k goal.rigid c in
      ap (λ (e : SymbolTree). is_empty e.theory) (got symbols k (rigid_symbol x.name) x.entry).1

  distinct : IsDistinct (declared T)
  distinct = ((λ c. zero_in (Contains-append_cases g.rigid (made (Ts ++ ds)) 0 c)), distinct_both g.rigid (made (Ts ++ ds)) (pairs_distinct g.rigid goal.once) both apart)
    where
      both : IsDistinct (made (Ts ++ ds))
      both = subst IsDistinct (sym (made_both Ts ds)) (distinct_both (made Ts) (made ds) (tuples_distinct symbols sound.built ks) (pairs_distinct (made ds) sound.once) clash)

      apart : (k : ℕ) → Contains g.rigid k → Contains (made (Ts ++ ds)) k → ⊥
      apart k a b = let x = rigid_is k a in let y = (made_is k b).0 in let u : true ≡ false = sym x ∙ y in cc

      zero_in : Contains g.rigid 0 ⊎ Contains (made (Ts ++ ds)) 0 → ⊥
      zero_in (inl a) =
          let x = rigid_is 0 a in
          let first : symbol_or symbols 0 ≡ int_symbol = (got symbols 0 int_symbol sound.built.int).1 in
          let y : is_empty builtin ≡ true = sym (ap (λ (e : SymbolTree). is_empty e.theory) first) ∙ x in
          let u : false ≡ true = y in cc
      zero_in (inr b) = (made_is 0 b).1 refl

  rigid_entry : (k : ℕ) → IsQuotedAt symbols k → IsRigidEntry T k
  rigid_entry k x =
      let e = got symbols k (rigid_symbol x.name) x.entry in
      record {
        entry = e.0;
        kind = ap (λ (s : SymbolTree). s.kind) e.1;
        vars = ap (λ (s : SymbolTree). s.vars) e.1;
        theory = ap (λ (s : SymbolTree). s.theory) e.1;
        name = let q : (symbol_or symbols k).name ≡ x.name = ap (λ (s : SymbolTree). s.name) e.1 in rw q x.quoted;
        args = ap (λ (s : SymbolTree). s.args) e.1;
        result = ap (λ (s : SymbolTree). s.result) e.1;
      }

  pub task_valid : IfSome all.ints (AreInts symbols) → IsValid T
  task_valid ints = record {
    int = sound.built.int;
    ints = ints;
    once = distinct_pairs (declared T) distinct;
    rigid = λ i d l. rigid_entry (get_or g.rigid i d) (goal.rigid i d l);
    decls = decls_valid;
    params = All-nil (IsTypeOver T 0);
    locals = All-nil (IsFormula T [] 0);
    goal = goal_valid;
  }
