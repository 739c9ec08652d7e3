-- What occurs in a task that is printed is in the table of its problem.
use Rattle.std.proofs.Common.{◌≡◌, ℕ, ◌==◌, ◌||◌, Bool, true, false, cond, if◌then◌else◌, List, [], ◌∷◌, ◌++◌, length, slice_get, filter, flat_map, Contains, Option, Some, None, IfSome, IsTrue, refl, sym, ap, subst, ◌∙◌, arith, inl, inr, ◌⊎◌}
use Rattle.std.proofs.lemmas.Bool.Decides.{Decides-eqb}
use Rattle.std.proofs.lemmas.Option.{get_or_from_slice_get}
use Rattle.std.proofs.lemmas.List.Elements.{Contains-append_left, Contains-append_right}
use Rattle.std.proofs.lemmas.List.Folds.{list_any-append}
use Rattle.tasks.specs.trees.declared.ints.Ints.{Ints}
use Rattle.tasks.specs.trees.declared.Sort.TheVariants.{Kind}
use Rattle.tasks.specs.trees.Tree.{Tree, Leaf, One, Two, Three, Head, HTyRigid, HTyApp, HEnd, HCell, HArm, HBound, HParam, HNum, HFun, HPred, HEq, HForall, HExists, HLet, HIf, HCase, HPatAny, HPatVar, HPatCon, HPatAlias, above_ty_vars, head_of}
use Rattle.tasks.specs.trees.Sorts.{IsList, WellSorted, yield_type, top_type, type_of}
use Rattle.tasks.specs.declared.signature.SymbolKind.TheVariants as kinds
use Rattle.tasks.specs.Task.{SymbolTree, int_symbol, TaskTree, symbol_or, declared, made}
use Rattle.tasks.specs.Vocabulary.{of_task}
use Rattle.tasks.specs.Typing.{members, IsUse, HasResult, MakesTerms, bound_types, TypedUnder}
use Rattle.tasks.specs.Valid.{AreInts, IsValid}
use Rattle.tasks.proofs.Closing.{typed_sorted}
use Rattle.tasks.proofs.Declared.{any_iff, usable_made, matched_made, contains_cases, contains_step}
use Rattle.name_tables.specs.Occurrences.{Occurrence, occurrence, whole_occurrence, in_type, in_option, in_types_of, occurrences_at, of_leaf, of_one, of_two, of_three, occurrences, task_occurrences}
use Rattle.name_tables.specs.Tables.{is_same, is_interpreted, is_of_ints, symbols_of_ints, is_in, is_instance_of, symbol_instances, distinct, problem_things}
use Rattle.name_tables.specs.Seen.{has, AreIn}
use Rattle.name_tables.proofs.Gathering.{same_occurrence, same_itself, added_in}
use Rattle.name_tables.proofs.Distinct.{distinct_is}
use Rattle.part_texts.proofs.smt_law.Found.{entry_has, empty_types}
use Rattle.name_tables.proofs.Grouped.{has_in as there_in, has_filter as in_filter}
use Rattle.std.proofs.lemmas.Bool.{or_left, or_right, and_from as and_true}

-- ---- lists

pub in_distinct : (xs : List Occurrence) (o : Occurrence) → has xs o ≡ true → has (distinct xs) o ≡ true
in_distinct xs o h = there_in (distinct xs) xs o (subst (λ (z : List Occurrence). AreIn z xs) (distinct_is xs) (added_in [] xs)) h

in_one_of : (f : ℕ → List Occurrence) (ks : List ℕ) (k : ℕ) (o : Occurrence) → is_in k ks ≡ true → has (f k) o ≡ true → has (flat_map f ks) o ≡ true
in_one_of f [] k o i h = absurd (cc)
in_one_of f (j ∷ js) k o i h = elim (j == k) as (λ b. (j == k) ≡ b → (b || is_in k js) ≡ true → has (f j ++ flat_map f js) o ≡ true) [
  | true ↦ λ e _.
      let same : j ≡ k = (Decides-eqb j k).0 e in
      list_any-append (is_same o) (f j) (flat_map f js) ∙ or_left (has (f j) o) (has (flat_map f js) o) (ap (λ (n : ℕ). has (f n) o) same ∙ h)
  | false ↦ λ e q. list_any-append (is_same o) (f j) (flat_map f js) ∙ or_right (has (f j) o) (has (flat_map f js) o) (in_one_of f js k o q h)
] refl i

itself_in : (xs : List Occurrence) → AreIn xs xs
itself_in [] = tt
itself_in (x ∷ xs) = (or_left (is_same x x) (has xs x) (same_itself x), further x xs xs (itself_in xs))
  where
    further : (o : Occurrence) (os ys : List Occurrence) → AreIn os ys → AreIn (o ∷ os) ys
    further o os [] h = tt
    further o os (y ∷ ys) h = (or_right (is_same y o) (has os y) h.0, further o os ys h.1)

module _ (t : TaskTree) (valid : IsValid t) where
  -- ---- what may be in the table: of a declared symbol, at ground types, and at none where it is interpreted
  pub record IsGood (o : Occurrence) : Type 0 where
    pub declared : is_in o.symbol (declared t) ≡ true
    pub none : is_interpreted t.ints o.symbol ≡ true → o.types ≡ Leaf HEnd
    pub ground : above_ty_vars o.types ≡ 0

  abbrev pub AreGood : List Occurrence → Type 0
  AreGood [] = Unit {0}
  AreGood (o ∷ os) = IsGood o × AreGood os

  pub good_join : (xs ys : List Occurrence) → AreGood xs → AreGood ys → AreGood (xs ++ ys)
  good_join [] ys h k = k
  good_join (x ∷ xs) ys h k = (h.0, good_join xs ys h.1 k)

  by_instances : (os : List Occurrence) (o : Occurrence) → IsGood o → has os o ≡ true → (b : Bool) → is_interpreted t.ints o.symbol ≡ b → has (if b then whole_occurrence o.symbol ∷ [] else filter (is_instance_of o.symbol) os) o ≡ true
  by_instances os o g h true e =
      let n = g.none e in
      or_left (is_same o (whole_occurrence o.symbol)) false (ap (λ (z : Tree). is_same o (occurrence o.symbol z)) (sym n) ∙ same_itself o)
  by_instances os o g h false e =
      in_filter (is_instance_of o.symbol) os o (and_true (o.symbol == o.symbol) (above_ty_vars o.types == 0) ((Decides-eqb o.symbol o.symbol).1 refl) ((Decides-eqb (above_ty_vars o.types) 0).1 g.ground)) h

  good_stands : (o : Occurrence) → IsGood o → has (task_occurrences t) o ≡ true → has (problem_things t) o ≡ true
  good_stands o g h =
      let os = task_occurrences t in
      in_distinct (flat_map (symbol_instances t.ints os) (declared t)) o (in_one_of (symbol_instances t.ints os) (declared t) o.symbol o g.declared (by_instances os o g h (is_interpreted t.ints o.symbol) refl))

  all_stand : (xs : List Occurrence) → AreGood xs → AreIn (task_occurrences t) xs → AreIn (problem_things t) xs
  all_stand [] g h = tt
  all_stand (x ∷ xs) g h = (good_stands x g.0 h.0, all_stand xs g.1 h.1)

  pub task_stands : AreGood (task_occurrences t) → AreIn (problem_things t) (task_occurrences t)
  task_stands g = all_stand (task_occurrences t) g (itself_in (task_occurrences t))

  -- ---- symbols
  entry_vars : (k : ℕ) (e : SymbolTree) → slice_get t.symbols k ≡ Some e → e.vars ≡ 0 → (symbol_or t.symbols k).vars ≡ 0
  entry_vars k e h v = ap (λ (z : SymbolTree). z.vars) (get_or_from_slice_get t.symbols k e int_symbol h) ∙ v

  at_symbol : (j k : ℕ) → (j == k) ≡ true → (symbol_or t.symbols j).vars ≡ 0 → (symbol_or t.symbols k).vars ≡ 0
  at_symbol j k e v = subst (λ (n : ℕ). (symbol_or t.symbols n).vars ≡ 0) ((Decides-eqb j k).0 e) v

  AllNoVars : List ℕ → Type 0
  AllNoVars [] = Unit {0}
  AllNoVars (k ∷ ks) = ((symbol_or t.symbols k).vars ≡ 0) × AllNoVars ks

  one_of_them : (ks : List ℕ) (k : ℕ) → AllNoVars ks → is_in k ks ≡ true → (symbol_or t.symbols k).vars ≡ 0
  unfolding AllNoVars
  one_of_them [] k a h = absurd (cc)
  one_of_them (j ∷ js) k a h = elim (j == k) as (λ b. (j == k) ≡ b → (b || is_in k js) ≡ true → (symbol_or t.symbols k).vars ≡ 0) [
    | true ↦ λ e _. at_symbol j k e a.0
    | false ↦ λ e q. one_of_them js k a.1 q
  ] refl h

  of_ints : (k : ℕ) (ints : Option Ints) → IfSome ints (AreInts t.symbols) → is_of_ints ints k ≡ true → (symbol_or t.symbols k).vars ≡ 0
  unfolding AllNoVars
  of_ints k None a h = absurd (cc)
  of_ints k (Some z) a h =
      one_of_them (symbols_of_ints z) k
      (entry_vars z.neg _ a.neg refl, (entry_vars z.add _ a.add refl, (entry_vars z.sub _ a.sub refl, (entry_vars z.mul _ a.mul refl, (entry_vars z.lt _ a.lt refl, (entry_vars z.le _ a.le refl, (entry_vars z.gt _ a.gt refl, (entry_vars z.ge _ a.ge refl, tt)))))))) h

  interpreted_vars : (k : ℕ) → is_interpreted t.ints k ≡ true → (symbol_or t.symbols k).vars ≡ 0
  interpreted_vars k h = elim (k == 0) as (λ b. (k == 0) ≡ b → (b || is_of_ints t.ints k) ≡ true → (symbol_or t.symbols k).vars ≡ 0) [
    | true ↦ λ e _. subst (λ (n : ℕ). (symbol_or t.symbols n).vars ≡ 0) (sym ((Decides-eqb k 0).0 e)) (entry_vars 0 int_symbol valid.int refl)
    | false ↦ λ e q. of_ints k t.ints valid.ints q
  ] refl h

  within : (k : ℕ) → Contains (0 ∷ (t.rigid ++ made t.decls)) k → is_in k (declared t) ≡ true
  within k c = (any_iff k (declared t)).1 c

  rigid_declared : (k : ℕ) → is_in k t.rigid ≡ true → is_in k (declared t) ≡ true
  rigid_declared k h = within k (contains_step 0 k (t.rigid ++ made t.decls) (inr (Contains-append_left t.rigid (made t.decls) k ((any_iff k t.rigid).0 h))))

  made_declared : (k : ℕ) → (k ≡ 0) ⊎ Contains (made t.decls) k → is_in k (declared t) ≡ true
  made_declared k (inl z) = within k (contains_step 0 k (t.rigid ++ made t.decls) (inl z))
  made_declared k (inr c) = within k (contains_step 0 k (t.rigid ++ made t.decls) (inr (Contains-append_right t.rigid (made t.decls) k c)))

  usable_declared : (k : ℕ) → IsTrue ((of_task t).usable k) → is_in k (declared t) ≡ true
  usable_declared k u = made_declared k (contains_cases 0 k (made t.decls) (usable_made t k u))

  matched_declared : (k : ℕ) → IsTrue ((of_task t).matched k) → is_in k (declared t) ≡ true
  matched_declared k u = made_declared k (inr (matched_made t k u))

  good_at : (k : ℕ) (types : Tree) → is_in k (declared t) ≡ true → WellSorted types → IsList Kind types → length (members types) ≡ (symbol_or t.symbols k).vars → above_ty_vars types ≡ 0 → IsGood (occurrence k types)
  good_at k types d w l n g = record { declared = d; none = (λ h. empty_types types w l (n ∙ interpreted_vars k h)); ground = g }

  good_whole : (k : ℕ) → is_in k (declared t) ≡ true → IsGood (whole_occurrence k)
  good_whole k d = record { declared = d; none = (λ _. refl); ground = refl }

  good_int : IsGood (whole_occurrence 0)
  good_int = good_whole 0 (made_declared 0 (inl refl))

  -- ---- types
  pub good_types : (types : List Tree) (e : Tree) → TypedUnder (of_task t) types e → above_ty_vars e ≡ 0 → AreGood (in_type e)
  good_types types (Leaf (HTyRigid k)) x g = (good_whole k (rigid_declared k x.1.0), tt)
  good_types types (Leaf _) x g = tt
  good_types types (One (HTyApp k) a) x g =
      let e = entry_has t.symbols k (λ e. (e.kind ≡ kinds.Kind) × (length (members a) ≡ e.vars)) x.1.1 in
      good_join (in_type a) (occurrence k a ∷ []) (good_types types a x.2 g) (good_at k a (usable_declared k x.1.0) (typed_sorted (of_task t) types a x.2) x.0 e.1 g, tt)
  good_types types (One _ a) x g = tt
  good_types types (Two HCell a b) x g = good_join (in_type a) (in_type b) (good_types types a x.2 (omega (arith, g))) (good_types types b x.3 (omega (arith, g)))
  good_types types (Two _ a b) x g = tt
  good_types types (Three h a b c) x g = tt

  good_yield : (types : List Tree) (e : Tree) → TypedUnder (of_task t) types e → above_ty_vars e ≡ 0 → AreGood (in_option (yield_type e))
  good_yield types (Leaf (HNum z)) x g = (good_int, tt)
  good_yield types (Leaf _) x g = tt
  good_yield types (One (HBound i) a) x g = good_types types a x.2 g
  good_yield types (One (HParam n) a) x g = good_types types a x.2 g
  good_yield types (One HPatAny a) x g = good_types types a x.2 g
  good_yield types (One HPatVar a) x g = good_types types a x.2 g
  good_yield types (One HPatAlias a) x g = good_yield types a x.2 g
  good_yield types (One _ a) x g = tt
  good_yield types (Two HCell a b) x g = good_yield types a x.2 (omega (arith, g))
  good_yield types (Two HLet a b) x g = good_yield (bound_types HLet a ++ types) b x.3 (omega (arith, g))
  good_yield types (Two HCase a b) x g = good_yield (bound_types HCase a ++ types) b x.3 (omega (arith, g))
  good_yield types (Two HArm a b) x g = good_yield (bound_types HArm a ++ types) b x.3 (omega (arith, g))
  good_yield types (Two _ a b) x g = tt
  good_yield types (Three (HFun k) a b c) x g = good_types types c x.4 (omega (arith, g))
  good_yield types (Three HIf a b c) x g = good_yield types b x.3 (omega (arith, g))
  good_yield types (Three (HPatCon k) a b c) x g = good_types types c x.4 (omega (arith, g))
  good_yield types (Three _ a b c) x g = tt

  top_good : (h : Head) (o : Option Tree) → AreGood (in_option o) → AreGood (in_option (top_type h o))
  top_good HCell o g = tt
  top_good HArm o g = tt
  top_good _ o g = g

  good_type_of : (types : List Tree) (e : Tree) → TypedUnder (of_task t) types e → above_ty_vars e ≡ 0 → AreGood (in_option (type_of e))
  good_type_of types e x g = top_good (head_of e) (yield_type e) (good_yield types e x g)

  good_types_of : (types : List Tree) (e : Tree) → TypedUnder (of_task t) types e → above_ty_vars e ≡ 0 → AreGood (in_types_of e)
  good_types_of types (Leaf h) x g = tt
  good_types_of types (One h a) x g = tt
  good_types_of types (Two HCell a b) x g = good_join (in_option (type_of a)) (in_types_of b) (good_type_of types a x.2 (omega (arith, g))) (good_types_of types b x.3 (omega (arith, g)))
  good_types_of types (Two _ a b) x g = tt
  good_types_of types (Three h a b c) x g = tt

  -- ---- terms and formulas
  good_leaf : (h : Head) → AreGood (of_leaf h)
  good_leaf (HNum z) = (good_int, tt)
  good_leaf _ = tt

  good_one : (types : List Tree) (h : Head) (a : Tree) → TypedUnder (of_task t) types (One h a) → above_ty_vars a ≡ 0 → AreGood (of_one h a)
  good_one types (HParam n) a x g = good_types types a x.2 g
  good_one types _ a x g = tt

  good_use : (types : List Tree) (k : ℕ) (ts : Tree) → is_in k (declared t) ≡ true → TypedUnder (of_task t) types ts → IsList Kind ts → length (members ts) ≡ (symbol_or t.symbols k).vars → above_ty_vars ts ≡ 0 → AreGood (occurrences_at k ts)
  good_use types k ts d x l n g = good_join (in_type ts) (occurrence k ts ∷ []) (good_types types ts x g) (good_at k ts d (typed_sorted (of_task t) types ts x) l n g, tt)

  good_two : (types : List Tree) (h : Head) (a b : Tree) → TypedUnder (of_task t) types (Two h a b) → above_ty_vars a ≡ 0 → above_ty_vars b ≡ 0 → AreGood (of_two h a b)
  good_two types (HPred k) a b x g f =
      let e = entry_has t.symbols k (λ e. (e.kind ≡ kinds.Predicate) × IsUse e a b) x.1.1 in
      let u = e.1 in
      good_join (in_types_of b) (occurrences_at k a) (good_types_of types b x.3 f) (good_use types k a (usable_declared k x.1.0) x.2 x.0.0.0 u.as_many g)
  good_two types HEq a b x g f = good_type_of types a x.2 g
  good_two types HForall a b x g f = good_types types a x.2 g
  good_two types HExists a b x g f = good_types types a x.2 g
  good_two types _ a b x g f = tt

  good_three : (types : List Tree) (h : Head) (a b c : Tree) → TypedUnder (of_task t) types (Three h a b c) → above_ty_vars a ≡ 0 → above_ty_vars b ≡ 0 → above_ty_vars c ≡ 0 → AreGood (of_three h a b c)
  good_three types (HFun k) a b c x g f i =
      let e = entry_has t.symbols k (λ e. MakesTerms e.kind × IsUse e a b × HasResult e a c) x.1.1 in
      let u = e.1 in
      good_join (in_types_of b) (in_type c ++ occurrences_at k a) (good_types_of types b x.3 f)
      (good_join (in_type c) (occurrences_at k a) (good_types types c x.4 i) (good_use types k a (usable_declared k x.1.0) x.2 x.0.0 u.as_many g))
  good_three types (HPatCon k) a b c x g f i =
      let e = entry_has t.symbols k (λ e. (e.kind ≡ kinds.Constructor) × IsUse e a b × HasResult e a c) x.1.1 in
      let u = e.1 in
      good_join (in_types_of b) (in_type c ++ occurrences_at k a) (good_types_of types b x.3 f)
      (good_join (in_type c) (occurrences_at k a) (good_types types c x.4 i) (good_use types k a (matched_declared k x.1.0) x.2 x.0.0 u.as_many g))
  good_three types _ a b c x g f i = tt

  pub good_occurrences : (types : List Tree) (e : Tree) → TypedUnder (of_task t) types e → above_ty_vars e ≡ 0 → AreGood (occurrences e)
  good_occurrences types (Leaf h) x g = good_leaf h
  good_occurrences types (One h a) x g = good_join (of_one h a) (occurrences a) (good_one types h a x g) (good_occurrences types a x.2 g)
  good_occurrences types (Two h a b) x g =
      let p : above_ty_vars a ≡ 0 = omega (arith, g) in
      let q : above_ty_vars b ≡ 0 = omega (arith, g) in
      good_join (of_two h a b) (occurrences a ++ occurrences b) (good_two types h a b x p q)
      (good_join (occurrences a) (occurrences b) (good_occurrences types a x.2 p) (good_occurrences (bound_types h a ++ types) b x.3 q))
  good_occurrences types (Three h a b c) x g =
      let p : above_ty_vars a ≡ 0 = omega (arith, g) in
      let q : above_ty_vars b ≡ 0 = omega (arith, g) in
      let r : above_ty_vars c ≡ 0 = omega (arith, g) in
      good_join (of_three h a b c) (occurrences a ++ (occurrences b ++ occurrences c)) (good_three types h a b c x p q r)
      (good_join (occurrences a) (occurrences b ++ occurrences c) (good_occurrences types a x.2 p)
      (good_join (occurrences b) (occurrences c) (good_occurrences types b x.3 q) (good_occurrences types c x.4 r)))
