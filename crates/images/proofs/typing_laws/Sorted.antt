-- Typing with and without the bound on indices; what sorts tell without it.
use Rattle.std.proofs.Common.{◌≡◌, ℕ, ◌+◌, ◌≤◌, inl, inr, List, [], ◌++◌, length, Option, Some, None, subst, refl, sym, ap, ◌∙◌, arith, append_assoc}
use Rattle.std.proofs.lemmas.List.{length-append}
use Rattle.trees.specs.declared.Sort.{Sort}
use Rattle.trees.specs.declared.Sort.TheVariants.{Kind, Term, Formula, Pattern}
use Rattle.trees.specs.Tree.{Tree, Leaf, One, Two, Three, Head, HTyVar, HTyApp, HEnd, HNum, HTrue, HFalse, HBound, HParam, HNot, HPatAny, HPatVar, HPatAlias, HCell, HLet, HCase, HArm, HForall, HExists, HFun, HIf, HPatCon, pat_vars, binders_over, head_of, size, above_params, loose}
use Rattle.trees.specs.Binding.{Change, change, leaf_by, one_by, Bound, Param, TyVar}
use Rattle.trees.specs.Sorts.{Fits, OneFits, WellSorted, sort_of, yield, yield_type, type_of, top_sort, top_type, first_sort, IsListOf}
use Rattle.trees.specs.Facts.{PutsSorts, IndicesFit, index_fits}
use Rattle.trees.specs.laws.Sorts.{sort_of-change, two_fits, three_fits, top_kind}
use Rattle.trees.proofs.Sizes.{small_indices}
use Rattle.trees.proofs.Types.{OnlyTypes, only_types, AreKinds}
use Rattle.tasks.specs.Vocabulary.{Vocabulary}
use Rattle.tasks.specs.Typing.{TypedUnder, OneTyped, option_list, pattern_types, bound_types, members, BranchesFit}
use Rattle.tasks.specs.Valid.{ParametersOf}
use Rattle.tasks.proofs.Counts.{HasType, IsThing}
use Rattle.tasks.proofs.TypeInstances.{one_further}
use Rattle.tasks.proofs.KeptInstances.{slot}
use Rattle.images.proofs.Images.{expression_sort}
use Rattle.images.specs.typing_laws.HasTyping.{OneSuits, Suits, HasSorts, HasTyping}
pub use Rattle.images.proofs.TypesAt.{types_parameters}
pub use Rattle.images.proofs.TypesAt.{types_above}

-- ---- with the bound, and without it
one_suits : (h : Head) (a : Sort) (x : Option Sort) → OneFits h a x → OneSuits h a x
one_suits (HBound i) a x f = (f.0, tt)
one_suits _ a x f = f

one_bounded : (h : Head) (a : Sort) (x : Option Sort) → OneSuits h a x → index_fits h → OneFits h a x
one_bounded (HBound i) a x f b = (f.0, b)
one_bounded _ a x f b = f

pub typed_has : (v : Vocabulary) (types : List Tree) (e : Tree) → TypedUnder v types e → HasTyping v types e
typed_has v types (Leaf h) x = x
typed_has v types (One h a) x = (one_suits h (sort_of a) (first_sort a) x.0, x.1, typed_has v types a x.2)
typed_has v types (Two h a b) x = (x.0, x.1, typed_has v types a x.2, typed_has v (bound_types h a ++ types) b x.3)
typed_has v types (Three h a b c) x = (x.0, x.1, typed_has v types a x.2, typed_has v types b x.3, typed_has v types c x.4)

pub has_typed : (v : Vocabulary) (types : List Tree) (e : Tree) → HasTyping v types e → IndicesFit e → TypedUnder v types e
has_typed v types (Leaf h) x f = x
has_typed v types (One h a) x f = (one_bounded h (sort_of a) (first_sort a) x.0 f.0, x.1, has_typed v types a x.2 f.1)
has_typed v types (Two h a b) x f = (x.0, x.1, has_typed v types a x.2 f.0, has_typed v (bound_types h a ++ types) b x.3 f.1)
has_typed v types (Three h a b c) x f = (x.0, x.1, has_typed v types a x.2 f.0, has_typed v types b x.3 f.1, has_typed v types c x.4 f.2)

pub has_sorts : (v : Vocabulary) (types : List Tree) (e : Tree) → HasTyping v types e → HasSorts e
has_sorts v types (Leaf h) x = x.0
has_sorts v types (One h a) x = (x.0, has_sorts v types a x.2)
has_sorts v types (Two h a b) x = (x.0, has_sorts v types a x.2, has_sorts v (bound_types h a ++ types) b x.3)
has_sorts v types (Three h a b c) x = (x.0, has_sorts v types a x.2, has_sorts v types b x.3, has_sorts v types c x.4)

-- ---- with all indices 0
abbrev level : Change
level = record { bound = λ d i ty. Bound 0 ty; param = λ d n ty. Param n ty; ty_var = λ j. TyVar j }

level_puts : PutsSorts level
level_puts = record { bound = λ _ _ _. refl; param = λ _ _ _. refl; ty_var = λ _. refl }

abbrev flat : ℕ → Tree → Tree
flat d e = change level d e

flat_sort : (d : ℕ) (e : Tree) → sort_of (flat d e) ≡ sort_of e
flat_sort d e = sort_of-change level level_puts d e

flat_leaf : (h : Head) → leaf_by level h ≡ Leaf h
flat_leaf (HTyVar j) = refl
flat_leaf _ = refl

one_first : (d : ℕ) (h : Head) (x : Tree) → first_sort (one_by level d h x) ≡ None
one_first d (HBound i) x = refl
one_first d (HParam n) x = refl
one_first d _ x = refl

flat_first : (d : ℕ) (e : Tree) → first_sort (flat d e) ≡ first_sort e
flat_first d (Leaf h) = ap first_sort (flat_leaf h)
flat_first d (One h a) = one_first d h (flat d a)
flat_first d (Two HCell a b) = ap Some (flat_sort d a)
flat_first d (Two _ a b) = refl
flat_first d (Three h a b c) = refl

flat_one : (d : ℕ) (h : Head) (a : Tree) → Suits (One h a) → WellSorted (flat d a) → WellSorted (flat d (One h a))
flat_one d (HBound i) a f w = ((flat_sort d a ∙ f.0, omega arith), w)
flat_one d (HParam n) a f w = (flat_sort d a ∙ f, w)
flat_one d (HTyApp n) a f w = (subst (λ (s : Sort). IsListOf Kind s (first_sort (flat d a))) (sym (flat_sort d a)) (subst (λ (o : Option Sort). IsListOf Kind (sort_of a) o) (sym (flat_first d a)) f), w)
flat_one d h a f w = (subst (λ (s : Sort). OneFits h s (first_sort (flat d a))) (sym (flat_sort d a)) (subst (λ (o : Option Sort). OneFits h (sort_of a) o) (sym (flat_first d a)) f), w)

flat_sorted : (d : ℕ) (e : Tree) → HasSorts e → WellSorted (flat d e)
flat_sorted d (Leaf h) w = subst WellSorted (sym (flat_leaf h)) w
flat_sorted d (One h a) w = flat_one d h a w.0 (flat_sorted d a w.1)
flat_sorted d (Two h a b) w = (two_fits level level_puts d (d + binders_over h a) h a b w.0, flat_sorted d a w.1, flat_sorted (d + binders_over h a) b w.2)
flat_sorted d (Three h a b c) w = (three_fits level level_puts d h a b c w.0, flat_sorted d a w.1, flat_sorted d b w.2, flat_sorted d c w.3)

only_one : (d : ℕ) (h : Head) (a : Tree) → OnlyTypes (flat d (One h a)) → ((n : ℕ) × (h ≡ HTyApp n)) × OnlyTypes (flat d a)
only_one d (HBound i) a o = absurd (let q = o.0.1 in cc)
only_one d (HParam n) a o = absurd (let q = o.0.1 in cc)
only_one d _ a o = o

only_flat : (d : ℕ) (e : Tree) → OnlyTypes (flat d e) → OnlyTypes e
only_flat d (Leaf h) o = tt
only_flat d (One h a) o = let p = only_one d h a o in (p.0, only_flat d a p.1)
only_flat d (Two h a b) o = (o.0, only_flat d a o.1, only_flat (d + binders_over h a) b o.2)
only_flat d (Three h a b c) o = absurd o

-- types and lists of types are built of type variables, type symbols and cells alone
pub kinds_only : (e : Tree) → HasSorts e → AreKinds e → OnlyTypes e
kinds_only e w k = only_flat 0 e (only_types (flat 0 e) (flat_sorted 0 e w) (by k))
  where
    by : AreKinds e → AreKinds (flat 0 e)
    by (inl q) = inl (flat_sort 0 e ∙ q)
    by (inr l) = inr (subst (λ (s : Sort). IsListOf Kind s (first_sort (flat 0 e))) (sym (flat_sort 0 e)) (subst (λ (o : Option Sort). IsListOf Kind (sort_of e) o) (sym (flat_first 0 e)) l))

one_only : (h : Head) (a : Tree) (n : ℕ) → h ≡ HTyApp n → Suits (One h a) → Fits (One h a)
one_only (HBound i) a n q f = absurd (cc)
one_only _ a n q f = f

-- and are sorted
only_sorted : (e : Tree) → OnlyTypes e → HasSorts e → WellSorted e
only_sorted (Leaf h) o w = w
only_sorted (One h a) o w = (one_only h a o.0.0 o.0.1 w.0, only_sorted a o.1 w.1)
only_sorted (Two h a b) o w = (w.0, only_sorted a o.1 w.1, only_sorted b o.2 w.2)
only_sorted (Three h a b c) o w = absurd o

pub kinds_sorted : (e : Tree) → HasSorts e → AreKinds e → WellSorted e
kinds_sorted e w k = only_sorted e (kinds_only e w k) w

pub one_is_no_cell : (h : Head) (a : Tree) → Suits (One h a) → h ≡ HCell → ⊥
one_is_no_cell HCell a f e = f
one_is_no_cell _ a f e = cc

-- ---- a term or a pattern has a type
one_option : (o : Option Tree) → HasType o → length (option_list o) ≡ 1
one_option (Some ty) h = refl
one_option None h = absurd h

top_thing : (h : Head) (s : Sort) → IsThing (top_sort h s) → IsThing s
top_thing HEnd s t = absurd t
top_thing HCell s t = absurd t
top_thing HArm s t = absurd t
top_thing _ s t = t

yields : (e : Tree) → HasSorts e → IsThing (yield e) → HasType (yield_type e)
yields (Leaf (HNum z)) w h = tt
yields (Leaf HTrue) w h = absurd h
yields (Leaf HFalse) w h = absurd h
yields (Leaf _) w h = absurd h
yields (One (HBound i) a) w h = tt
yields (One (HParam n) a) w h = tt
yields (One HPatAny a) w h = tt
yields (One HPatVar a) w h = tt
yields (One HPatAlias a) w h = yields a w.1 (top_thing (head_of a) (yield a) (subst IsThing (sym w.0) tt))
yields (One HNot a) w h = absurd h
yields (One _ a) w h = absurd h
yields (Two HCell a b) w h = yields a w.1 h
yields (Two HLet a b) w h = yields b w.2 h
yields (Two HCase a b) w h = yields b w.2 h
yields (Two HArm a b) w h = yields b w.2 h
yields (Two _ a b) w h = absurd h
yields (Three (HFun f) a b c) w h = tt
yields (Three HIf a b c) w h = yields b w.2 h
yields (Three (HPatCon k) a b c) w h = tt
yields (Three _ a b c) w h = absurd w.0

top_typed : (h : Head) (s : Sort) (o : Option Tree) → IsThing (top_sort h s) → HasType o → HasType (top_type h o)
top_typed HEnd s o t x = absurd t
top_typed HCell s o t x = absurd t
top_typed HArm s o t x = absurd t
top_typed _ s o t x = x

thing_typed : (e : Tree) → HasSorts e → IsThing (sort_of e) → HasType (type_of e)
thing_typed e w t = top_typed (head_of e) (yield e) (yield_type e) t (yields e w (top_thing (head_of e) (yield e) t))

-- what is neither has none
abbrev IsOther : Sort → Type 0
IsOther Term = ⊥
IsOther Pattern = ⊥
IsOther _ = Unit {0}

others_yield : (e : Tree) → IsOther (yield e) → yield_type e ≡ None
others_yield (Leaf (HNum z)) u = absurd u
others_yield (Leaf _) u = refl
others_yield (One (HBound i) a) u = absurd u
others_yield (One (HParam n) a) u = absurd u
others_yield (One HPatAny a) u = absurd u
others_yield (One HPatVar a) u = absurd u
others_yield (One HPatAlias a) u = absurd u
others_yield (One _ a) u = refl
others_yield (Two HCell a b) u = others_yield a u
others_yield (Two HLet a b) u = others_yield b u
others_yield (Two HCase a b) u = others_yield b u
others_yield (Two HArm a b) u = others_yield b u
others_yield (Two _ a b) u = refl
others_yield (Three (HFun f) a b c) u = absurd u
others_yield (Three HIf a b c) u = others_yield b u
others_yield (Three (HPatCon k) a b c) u = absurd u
others_yield (Three _ a b c) u = refl

none_on_top : (h : Head) (o : Option Tree) → o ≡ None → top_type h o ≡ None
none_on_top HCell o q = refl
none_on_top HArm o q = refl
none_on_top _ o q = q

pub kind_yields_none : (e : Tree) → sort_of e ≡ Kind → yield_type e ≡ None
kind_yields_none e k = others_yield e (subst IsOther (sym (top_kind (head_of e) (yield e) k)) tt)

pub kind_no_type : (e : Tree) → sort_of e ≡ Kind → type_of e ≡ None
kind_no_type e k = none_on_top (head_of e) (yield_type e) (kind_yields_none e k)

pub formula_no_type : (e : Tree) → sort_of e ≡ Formula → type_of e ≡ None
formula_no_type e k = none_on_top (head_of e) (yield_type e) (others_yield e (subst IsOther (sym (expression_sort e (inr k) ∙ k)) tt))

-- a type has no members, no variables as a pattern has them, and no branches
pub record IsBare (e : Tree) : Type 0 where
  pub no_members : members e ≡ []
  pub no_variables : pattern_types e ≡ []
  pub no_branches : (type : Option Tree) (first : Tree) → BranchesFit type first e

pub kind_bare : (e : Tree) → sort_of e ≡ Kind → IsBare e
kind_bare (Leaf h) k = record { no_members = refl; no_variables = refl; no_branches = λ type first. tt }
kind_bare (One HPatVar a) k = absurd (cc)
kind_bare (One HPatAlias a) k = absurd (cc)
kind_bare (One _ a) k = record { no_members = refl; no_variables = refl; no_branches = λ type first. tt }
kind_bare (Two HCell a b) k = absurd (cc)
kind_bare (Two _ a b) k = record { no_members = refl; no_variables = refl; no_branches = λ type first. tt }
kind_bare (Three (HPatCon n) a b c) k = absurd (cc)
kind_bare (Three _ a b c) k = record { no_members = refl; no_variables = refl; no_branches = λ type first. tt }

-- an operator binds as many variables as it has types for them
pattern_count : (e : Tree) → HasSorts e → length (pattern_types e) ≡ pat_vars e
pattern_count (Leaf h) w = refl
pattern_count (One HPatVar a) w = refl
pattern_count (One HPatAlias a) w =
    let t = one_option (type_of a) (thing_typed a w.1 (subst IsThing (sym w.0) tt)) in
    let n = length-append (option_list (type_of a)) (pattern_types a) in
    omega (arith, t, n, pattern_count a w.1)
pattern_count (One _ a) w = refl
pattern_count (Two HCell a b) w = omega (arith, length-append (pattern_types b) (pattern_types a), pattern_count a w.1, pattern_count b w.2)
pattern_count (Two _ a b) w = refl
pattern_count (Three (HPatCon k) a b c) w = pattern_count b w.2
pattern_count (Three _ a b c) w = refl

pub bound_count : (h : Head) (a b : Tree) → Suits (Two h a b) → HasSorts a → length (bound_types h a) ≡ binders_over h a
bound_count HForall a b f w = refl
bound_count HExists a b f w = refl
bound_count HLet a b f w = one_option (type_of a) (thing_typed a w (subst IsThing (sym f.0.0) tt))
bound_count HArm a b f w = pattern_count a w
bound_count _ a b f w = refl

-- ---- under more binders
pub has_further : (t : Vocabulary) (types more : List Tree) (e : Tree) → HasTyping t types e → HasTyping t (types ++ more) e
has_further t types more (Leaf h) x = x
has_further t types more (One h a) x = (x.0, one_further t types more h a x.1, has_further t types more a x.2)
has_further t types more (Two h a b) x =
    let under : HasTyping t ((bound_types h a ++ types) ++ more) b = has_further t (bound_types h a ++ types) more b x.3 in
    (x.0, x.1, has_further t types more a x.2, rw append_assoc at under)
has_further t types more (Three h a b c) x = (x.0, x.1, has_further t types more a x.2, has_further t types more b x.3, has_further t types more c x.4)

only_typed : (t : Vocabulary) (types more : List Tree) (e : Tree) → OnlyTypes e → HasTyping t types e → HasTyping t more e
only_typed t types more (Leaf h) o x = x
only_typed t types more (One h a) o x = (x.0, subst (λ (g : Head). OneTyped t types g a → OneTyped t more g a) (sym o.0.1) (λ y. y) x.1, only_typed t types more a o.1 x.2)
only_typed t types more (Two h a b) o x = (x.0, x.1, only_typed t types more a o.1 x.2, only_typed t (bound_types h a ++ types) (bound_types h a ++ more) b o.2 x.3)
only_typed t types more (Three h a b c) o x = absurd o

-- a type is typed under any binders
pub kind_has : (t : Vocabulary) (types more : List Tree) (e : Tree) → sort_of e ≡ Kind → HasTyping t types e → HasTyping t more e
kind_has t types more e k x = only_typed t types more e (kinds_only e (has_sorts t types e x) (inl k)) x

-- ---- closed trees that aren't too large
one_closed : (t : Vocabulary) (types : List Tree) (h : Head) (a : Tree) → OneTyped t types h a → loose a ≤ length types → loose (One h a) ≤ length types
one_closed t types (HBound i) a x l = omega (arith, slot types i a x)
one_closed t types _ a x l = l

-- what has its typing under binders has no other open variables
pub has_closed : (t : Vocabulary) (types : List Tree) (e : Tree) → HasTyping t types e → loose e ≤ length types
has_closed t types (Leaf h) x = omega arith
has_closed t types (One h a) x = one_closed t types h a x.1 (has_closed t types a x.2)
has_closed t types (Two h a b) x =
    let n = bound_count h a b x.0 (has_sorts t types a x.2) in
    omega (arith, n, length-append (bound_types h a) types, has_closed t types a x.2, has_closed t (bound_types h a ++ types) b x.3)
has_closed t types (Three h a b c) x = omega (arith, has_closed t types a x.2, has_closed t types b x.3, has_closed t types c x.4)

-- so a closed tree of no more nodes than those of a stage is typed
pub small_typed : (t : Vocabulary) (e : Tree) → HasTyping t [] e → size e ≤ 1048576 → TypedUnder t [] e
small_typed t e x l = has_typed t [] e x (small_indices e (omega (arith, has_closed t [] e x)))
