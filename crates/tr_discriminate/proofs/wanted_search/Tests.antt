-- Tests over lists, and what they say of instances.
use Rattle.std.specs.Prelude.{IsTrue, ◌↔◌}
use Rattle.std.proofs.Common.{◌≡◌, ℕ, zero, suc, ◌<◌, ◌≤◌, ◌+◌, Bool, true, false, cond, ◌&&◌, ◌||◌, ◌==◌, nat_eq, if◌then◌else◌, List, [], ◌∷◌, ◌++◌, map, filter, length, get_or, slice_get, drop, Some, None, inl, inr, refl, sym, ap, subst, ◌∙◌, arith}
use Rattle.std.specs.List.{list_any}
use Rattle.std.proofs.lemmas.Bool.{cases_lt}
use Rattle.std.proofs.lemmas.List.{at_drop_more, drop_all}
use Rattle.std.proofs.lemmas.List.Folds.{list_any-append}
use Rattle.std.proofs.lemmas.Option.{slice_get-map}
use Rattle.std.specs.Option.{option_map}
use Rattle.linear_leaf.specs.Valuations.{same_tree}
use Rattle.trees.specs.declared.TermId.{TermId}
use Rattle.trees.specs.Node.{tree_at, trees_at}
use Rattle.trees.specs.Tree.{Tree, Leaf, One, Two, Three, Head, HTyVar, HTyRigid, HTyApp}
use Rattle.name_tables.specs.Occurrences.{Occurrence}
use Rattle.name_tables.specs.Tables.{is_same}
use Rattle.name_tables.specs.Seen.{occurrence_at, seen_occurrences, has, with_one, with_all, GainsKeys}
use Rattle.name_tables.proofs.Gathering.{same_occurrence, same_itself}
use Rattle.tr_discriminate.specs.wanted_instances.Instances.{equality_at, leaf_types, one_types, types_within, has_variable, mentions}
use Rattle.tr_discriminate.specs.wanted_instances.Wanted.{each_below, is_of_symbol, occurring, of_symbols, named_suffice, driving}
use Rattle.tr_discriminate.specs.wanted_instances.Search.{known_fits, may_fit, matches}
use Rattle.tr_discriminate.specs.declared.wanted_search.asking.AskingInstance.{AskingInstance}
use Rattle.tr_discriminate.specs.declared.wanted_search.asking.Asking.{Asking}
use Rattle.tr_discriminate.specs.wanted_search.Asking.{is_type_variable, asking_at, IsAsking}
use Rattle.tr_discriminate.specs.wanted_search.Search.{may_ask}
use Rattle.tr_discriminate.proofs.wanted_instances.Searching.{same_tests as told}
use Rattle.tasks.proofs.outside.Bools.{or_grouped as either_way}
use Rattle.name_tables.proofs.Gathering.{or_none}

-- ---- tests over lists
pub any_map : {A B : Type 0} (f : B → Bool) (g : A → B) (xs : List A) → list_any f (map g xs) ≡ list_any (λ x. f (g x)) xs
any_map f g [] = refl
any_map f g (x ∷ xs) = ap (λ b. f (g x) || b) (any_map f g xs)

pub any_of_filter : {A : Type 0} (f p : A → Bool) (xs : List A) → list_any f (filter p xs) ≡ list_any (λ x. p x && f x) xs
any_of_filter f p [] = refl
any_of_filter f p (x ∷ xs) = by (p x) (any_of_filter f p xs)
  where
    by : (b : Bool) → list_any f (filter p xs) ≡ list_any (λ y. p y && f y) xs → list_any f (cond b (x ∷ filter p xs) (filter p xs)) ≡ ((b && f x) || list_any (λ y. p y && f y) xs)
    by true e = ap (λ b. f x || b) e
    by false e = e

-- a member adds nothing to a test
any_there : (f : Occurrence → Bool) (os : List Occurrence) (p : Occurrence) → has os p ≡ true → list_any f os ≡ (list_any f os || f p)
any_there f [] p h = absurd (cc)
any_there f (o ∷ os) p h = by (is_same p o) refl (any_there f os p) h
  where
    twice : (a b : Bool) → (a || b) ≡ ((a || b) || a)
    twice true b = refl
    twice false b = sym (or_none b)

    by : (b : Bool) → is_same p o ≡ b → (has os p ≡ true → list_any f os ≡ (list_any f os || f p)) → (b || has os p) ≡ true → (f o || list_any f os) ≡ ((f o || list_any f os) || f p)
    by true e again k = subst (λ (z : Occurrence). (f o || list_any f os) ≡ ((f o || list_any f os) || f z)) (sym (same_occurrence p o e)) (twice (f o) (list_any f os))
    by false e again k = ap (λ b. f o || b) (again k) ∙ sym (either_way (f o) (list_any f os) (f p))

any_with_one : (f : Occurrence → Bool) (os : List Occurrence) (p : Occurrence) → list_any f (with_one os p) ≡ (list_any f os || f p)
any_with_one f os p = by (has os p) refl
  where
    by : (b : Bool) → has os p ≡ b → list_any f (if b then os else os ++ p ∷ []) ≡ (list_any f os || f p)
    by true e = any_there f os p e
    by false e = list_any-append f os (p ∷ []) ∙ ap (λ b. list_any f os || b) (or_none (f p))

pub any_with_all : (f : Occurrence → Bool) (os ps : List Occurrence) → list_any f (with_all os ps) ≡ (list_any f os || list_any f ps)
any_with_all f os [] = sym (or_none (list_any f os))
any_with_all f os (p ∷ ps) = any_with_all f (with_one os p) ps ∙ ap (λ b. b || list_any f ps) (any_with_one f os p) ∙ either_way (list_any f os) (f p) (list_any f ps)

pub and_none : (a : Bool) → (a && false) ≡ false
and_none true = refl
and_none false = refl

-- a test of each number below n
pub each_fails : (n j : ℕ) (p : ℕ → Bool) → j < n → p j ≡ false → each_below n p ≡ false
each_fails zero j p l e = absurd (omega arith)
each_fails (suc n) j p l e = elim (cases_lt j n) [
  | inl k ↦ ap (λ b. b && p n) (each_fails n j p k e)
  | inr k ↦ let same : j ≡ n = omega arith in ap (λ b. each_below n p && b) (subst (λ i. p i ≡ false) same e) ∙ and_none (each_below n p)
]

-- ---- type variables, by the types in a tree
module _ (j : ℕ) where
  abbrev here : Occurrence → Bool
  here o = is_type_variable j o.types

  leaf_here : (h : Head) → list_any here (leaf_types h) ≡ has_variable j (Leaf h)
  leaf_here (HTyVar i) = or_none (j == i)
  leaf_here (HTyRigid k) = refl
  leaf_here _ = refl

  one_here : (h : Head) (a : Tree) → list_any here (one_types h a) ≡ false
  one_here (HTyApp k) a = refl
  one_here _ a = refl

  types_here : (e : Tree) → list_any here (types_within e) ≡ has_variable j e
  types_here (Leaf h) = leaf_here h
  types_here (One h a) = list_any-append here (types_within a) (one_types h a) ∙ ap (λ b. list_any here (types_within a) || b) (one_here h a) ∙ or_none (list_any here (types_within a)) ∙ types_here a
  types_here (Two h a b) = list_any-append here (types_within a) (types_within b) ∙ ap (λ c. c || list_any here (types_within b)) (types_here a) ∙ ap (λ c. has_variable j a || c) (types_here b)
  types_here (Three h a b c) =
      list_any-append here (types_within a) (types_within b ++ types_within c) ∙ ap (λ x. x || list_any here (types_within b ++ types_within c)) (types_here a)
      ∙ ap (λ x. has_variable j a || x) (list_any-append here (types_within b) (types_within c) ∙ ap (λ x. x || list_any here (types_within c)) (types_here b) ∙ ap (λ x. has_variable j b || x) (types_here c))

  pub variable_inside : (s : List Tree) (keys : List (ℕ × ℕ)) (e : Tree) → GainsKeys s [] (types_within e) keys → list_any (λ k. is_type_variable j (occurrence_at s k).types) keys ≡ has_variable j e
  variable_inside s keys e g = sym (any_map here (occurrence_at s) keys) ∙ ap (list_any here) g.is ∙ any_with_all here [] (types_within e) ∙ types_here e

-- ---- instances of a set with the symbol of an instance
pub matched_among : (s : List Tree) (set : List (ℕ × ℕ)) (known : List Tree) (o : Occurrence)
    → list_any (λ (k : ℕ × ℕ). may_fit known o.types (occurrence_at s k).types) (filter (λ (k : ℕ × ℕ). nat_eq o.symbol k.0) set) ≡ list_any (matches known o) (seen_occurrences s set)
matched_among s set known o =
    any_of_filter (λ (k : ℕ × ℕ). may_fit known o.types (occurrence_at s k).types) (λ (k : ℕ × ℕ). nat_eq o.symbol k.0) set ∙ sym (any_map (matches known o) (occurrence_at s) set)

-- ---- the instances that drive a formula
pub any_named : (a : Tree) (f : Occurrence → Bool) (os : List Occurrence) → list_any f (filter is_of_symbol os) ≡ list_any (λ o. is_of_symbol o && f o) os
any_named a f os = any_of_filter f is_of_symbol os

pub any_driving : (a : Tree) (s : List Occurrence) (known : List Tree) (j : ℕ) → list_any (may_ask s (named_suffice a) known j) (occurring a) ≡ list_any (λ o. mentions j o && list_any (matches known o) s) (driving a)
any_driving a s known j = by (named_suffice a)
  where
    by : (b : Bool) → list_any (may_ask s b known j) (occurring a) ≡ list_any (λ o. mentions j o && list_any (matches known o) s) (if b then of_symbols a else occurring a)
    by true = sym (any_of_filter (λ o. mentions j o && list_any (matches known o) s) is_of_symbol (occurring a))
    by false = refl

-- ---- loops that look for a member with a test
pub any_now : {A : Type 0} (f : A → Bool) (xs : List A) (i : ℕ) (d : A) → i < length xs → f (get_or xs i d) ≡ true → list_any f (drop i xs) ≡ true
any_now f xs i d l t = at_drop_more (list_any f) xs i d l ∙ ap (λ b. b || list_any f (drop (i + 1) xs)) t

pub any_later : {A : Type 0} (f : A → Bool) (xs : List A) (i : ℕ) (d : A) → i < length xs → f (get_or xs i d) ≡ false → list_any f (drop i xs) ≡ list_any f (drop (i + 1) xs)
any_later f xs i d l t = at_drop_more (list_any f) xs i d l ∙ ap (λ b. b || list_any f (drop (i + 1) xs)) t

pub any_over : {A : Type 0} (f : A → Bool) (xs : List A) (i : ℕ) → length xs ≤ i → list_any f (drop i xs) ≡ false
any_over f xs i l = ap (list_any f) (drop_all i xs l)

-- ---- tests that tell equal trees
pub tree_told : (r : Bool) (x y : Tree) → IsTrue r ↔ (x ≡ y) → r ≡ same_tree x y
tree_told r x y h =
    told r (same_tree x y) (λ t. subst (λ z. same_tree x z ≡ true) (h.0 t) (same_itself (equality_at x))) (λ e. h.1 (ap (λ (o : Occurrence). o.types) (same_occurrence (equality_at x) (equality_at y) e)))

-- what a known type is, against a ground one
pub known_told : (s : List Tree) (known : List TermId) (j : ℕ) (id : TermId) (e : Tree) (r : Bool) → slice_get known j ≡ Some id → IsTrue r ↔ (tree_at s id ≡ e) → r ≡ known_fits (slice_get (trees_at s known) j) e
known_told s known j id e r q h = tree_told r (tree_at s id) e h ∙ ap (λ o. known_fits o e) (sym (slice_get-map (tree_at s) known j ∙ ap (option_map (tree_at s)) q))

pub none_told : (s : List Tree) (known : List TermId) (j : ℕ) (e : Tree) → slice_get known j ≡ None → true ≡ known_fits (slice_get (trees_at s known) j) e
none_told s known j e q = ap (λ o. known_fits o e) (sym (slice_get-map (tree_at s) known j ∙ ap (option_map (tree_at s)) q))

-- an instance of a symbol that mentions a type variable
abbrev pub named_mentions : List Tree → ℕ → AskingInstance → Bool
named_mentions s j d = is_of_symbol (asking_at s d) && mentions j (asking_at s d)

pub named_as : (s : List Tree) (j : ℕ) (ds : List AskingInstance) → list_any (named_mentions s j) ds ≡ list_any (mentions j) (filter is_of_symbol (map (asking_at s) ds))
named_as s j ds = sym (any_map (λ o. is_of_symbol o && mentions j o) (asking_at s) ds) ∙ sym (any_of_filter (mentions j) is_of_symbol (map (asking_at s) ds))

-- what the search's test says of the instances that drive a formula
pub asked_driving : (s : List Tree) (set : List (ℕ × ℕ)) (a : Tree) (m : Asking) (known : List Tree) (j : ℕ) → IsAsking s set a m
    → list_any (may_ask (seen_occurrences s set) m.named_only known j) (map (asking_at s) m.instances) ≡ list_any (λ o. mentions j o && list_any (matches known o) (seen_occurrences s set)) (driving a)
asked_driving s set a m known j q =
    ap (λ b. list_any (may_ask (seen_occurrences s set) b known j) (map (asking_at s) m.instances)) q.named_only
    ∙ ap (list_any (may_ask (seen_occurrences s set) (named_suffice a) known j)) q.occurring ∙ any_driving a (seen_occurrences s set) known j

-- a test of one number more
pub each_more : (n : ℕ) (p : ℕ → Bool) → each_below n p ≡ true → p n ≡ true → each_below (n + 1) p ≡ true
each_more n p h e =
    let next : n + 1 ≡ suc n = omega arith in
    ap (λ k. each_below k p) next ∙ (ap (λ b. b && p n) h ∙ e)
