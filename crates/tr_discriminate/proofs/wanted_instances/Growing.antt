-- What is wanted at some instances is wanted at more of them; so the wanted instances of a proposition have no fewer nodes there.
use Rattle.std.proofs.Common.{◌≡◌, ◌≤◌, ◌+◌, ℕ, zero, suc, Bool, true, false, ◌&&◌, ◌||◌, not, cond, if◌then◌else◌, List, [], ◌∷◌, ◌++◌, map, filter, refl, sym, ap, ◌∙◌, arith, append_assoc, sum_by}
use Rattle.std.specs.List.{flat_map, list_any}
use Rattle.std.proofs.lemmas.Bool.{or_left, or_right}
use Rattle.std.proofs.lemmas.List.{append-nil, map-append}
use Rattle.std.proofs.lemmas.List.Concat.{flat_map-append}
use Rattle.std.proofs.lemmas.List.Elements.{filter-append}
use Rattle.std.proofs.lemmas.List.Folds.{list_any-append}
use Rattle.std.proofs.lemmas.List.Sums.{sum_by-cons, sum_by-append}
use Rattle.tasks.specs.trees.Tree.{Tree, size, above_ty_vars}
use Rattle.tasks.specs.trees.Sorts.{int_type}
use Rattle.tasks.specs.trees.Binding.{inst_types}
use Rattle.tasks.specs.Task.{PropositionTree}
use Rattle.name_tables.specs.Occurrences.{Occurrence}
use Rattle.name_tables.specs.Tables.{is_same}
use Rattle.name_tables.specs.Seen.{has, with_one, with_all}
use Rattle.name_tables.proofs.Gathering.{with_all-append}
use Rattle.tr_discriminate.specs.wanted_instances.Instances.{at_types, instance_types, types_of, has_variable, mentions}
use Rattle.tr_discriminate.specs.wanted_instances.Wanted.{each_below, driving, type_choices, assignments, is_wanted, wanted_types}
use Rattle.tr_discriminate.specs.wanted_instances.Growing.{GoesOn, wanted_nodes}

-- ---- one list goes on where another ends
goes_on_refl : {A : Type 0} (xs : List A) → GoesOn xs xs
goes_on_refl xs = record { more = []; is = sym (append-nil xs) }

pub goes_on_trans : {A : Type 0} (xs ys zs : List A) → GoesOn xs ys → GoesOn ys zs → GoesOn xs zs
goes_on_trans xs ys zs g h = record { more = g.more ++ h.more; is = h.is ∙ ap (λ z. z ++ h.more) g.is ∙ append_assoc xs g.more h.more }

one_if : {A : Type 0} (b : Bool) (xs : List A) (x : A) → GoesOn xs (if b then xs else xs ++ x ∷ [])
one_if true xs x = goes_on_refl xs
one_if false xs x = record { more = x ∷ []; is = refl }

pub all_go_on : (s os : List Occurrence) → GoesOn s (with_all s os)
all_go_on s [] = goes_on_refl s
all_go_on s (o ∷ os) = goes_on_trans s (with_one s o) (with_all (with_one s o) os) (one_if (has s o) s o) (all_go_on (with_one s o) os)

abbrev type_at : Occurrence → Tree
type_at o = o.types

-- so do their types
pub types_of_more : (s u : List Occurrence) → GoesOn s u → GoesOn (types_of s) (types_of u)
types_of_more s u g =
    let first = flat_map instance_types s in
    let h = all_go_on (with_all [] first) (flat_map instance_types g.more) in
    let e : types_of u ≡ map type_at (with_all (with_all [] first) (flat_map instance_types g.more)) =
    ap types_of g.is ∙ ap (λ z. map type_at (with_all [] z)) (flat_map-append instance_types s g.more) ∙ ap (map type_at) (with_all-append [] first (flat_map instance_types g.more)) in
    record { more = map type_at h.more; is = e ∙ ap (map type_at) h.is ∙ map-append type_at (with_all [] first) h.more }

-- ---- what is wanted stays wanted
among_more : (s u : List Occurrence) → GoesOn s u → (o : Occurrence) → has s o ≡ true → has u o ≡ true
among_more s u g o e = ap (λ (z : List Occurrence). has z o) g.is ∙ list_any-append (is_same o) s g.more ∙ or_left (has s o) (has g.more o) e

or_weaker : (a b c : Bool) → (b ≡ true → c ≡ true) → (a || b) ≡ true → (a || c) ≡ true
or_weaker true b c w e = refl
or_weaker false b c w e = w e

and_weaker : (a b c d : Bool) → (a ≡ true → c ≡ true) → (b ≡ true → d ≡ true) → (a && b) ≡ true → (c && d) ≡ true
and_weaker true true c d v w e = ap (λ x. x && d) (v refl) ∙ w refl
and_weaker true false c d v w e = absurd (cc)
and_weaker false b c d v w e = absurd (cc)

-- a filter by a weaker test finds what the stronger finds
any_step : {A : Type 0} (f : A → Bool) (x : A) (ps qs : List A) (b c : Bool) → (b ≡ true → c ≡ true) → (list_any f ps ≡ true → list_any f qs ≡ true) → list_any f (cond b (x ∷ ps) ps) ≡ true → list_any f (cond c (x ∷ qs) qs) ≡ true
any_step f x ps qs true true i again h = or_weaker (f x) (list_any f ps) (list_any f qs) again h
any_step f x ps qs true false i again h = absurd (let e = i refl in cc)
any_step f x ps qs false true i again h = or_right (f x) (list_any f qs) (again h)
any_step f x ps qs false false i again h = again h

any_weaker : {A : Type 0} (f p q : A → Bool) → ((x : A) → p x ≡ true → q x ≡ true) → (xs : List A) → list_any f (filter p xs) ≡ true → list_any f (filter q xs) ≡ true
any_weaker f p q w [] e = e
any_weaker f p q w (x ∷ xs) e = any_step f x (filter p xs) (filter q xs) (p x) (q x) (w x) (any_weaker f p q w xs) e

pub each_weaker : (n : ℕ) (p q : ℕ → Bool) → ((j : ℕ) → p j ≡ true → q j ≡ true) → each_below n p ≡ true → each_below n q ≡ true
each_weaker zero p q w e = e
each_weaker (suc n) p q w e = and_weaker (each_below n p) (p n) (each_below n q) (q n) (each_weaker n p q w) (w n) e

-- what is wanted at some instances is wanted at more
pub wanted_more : (s u : List Occurrence) → GoesOn s u → (a : Tree) (ys : List Tree) → is_wanted s a ys ≡ true → is_wanted u a ys ≡ true
wanted_more s u g a ys e =
    each_weaker (above_ty_vars a) _ _ (λ j. or_weaker (not (has_variable j a)) _ _
    (any_weaker (mentions j) (λ o. has s (at_types ys o)) (λ o. has u (at_types ys o)) (λ o. among_more s u g (at_types ys o)) (driving a))) e

-- ---- sums over what is wanted
sum_two : {A : Type 0} (f : A → ℕ) (p : A → Bool) (xs ys : List A) → sum_by f (filter p (xs ++ ys)) ≡ sum_by f (filter p xs) + sum_by f (filter p ys)
sum_two f p xs ys = ap (sum_by f) (filter-append p xs ys) ∙ sum_by-append f (filter p xs) (filter p ys)

sum_cond : {A : Type 0} (f : A → ℕ) (x : A) (xs : List A) (b : Bool) (n : ℕ) → sum_by f xs ≡ n → sum_by f (cond b (x ∷ xs) xs) ≡ cond b (f x + n) n
sum_cond f x xs true n e = sum_by-cons f x xs ∙ ap (λ (k : ℕ). f x + k) e
sum_cond f x xs false n e = e

sum_map : {A B : Type 0} (f : B → ℕ) (p : B → Bool) (g : A → B) (xs : List A) → sum_by f (filter p (map g xs)) ≡ sum_by (λ x. f (g x)) (filter (λ x. p (g x)) xs)
sum_map f p g [] = refl
sum_map f p g (x ∷ xs) =
    sum_cond f (g x) (filter p (map g xs)) (p (g x)) (sum_by (λ y. f (g y)) (filter (λ y. p (g y)) xs)) (sum_map f p g xs)
    ∙ sym (sum_cond (λ y. f (g y)) x (filter (λ y. p (g y)) xs) (p (g x)) (sum_by (λ y. f (g y)) (filter (λ y. p (g y)) xs)) refl)

one_weaker : {A : Type 0} (f : A → ℕ) (x : A) (b c : Bool) → (b ≡ true → c ≡ true) → sum_by f (cond b (x ∷ []) []) ≤ sum_by f (cond c (x ∷ []) [])
one_weaker f x true true i = omega arith
one_weaker f x true false i = absurd (let e = i refl in cc)
one_weaker f x false c i = omega arith

choices_more : (types more : List Tree) (a : Tree) (j : ℕ) → GoesOn (type_choices types a j) (type_choices (types ++ more) a j)
choices_more types more a j = by (has_variable j a)
  where
    by : (b : Bool) → GoesOn (if b then types else int_type ∷ []) (if b then types ++ more else int_type ∷ [])
    by true = record { more = more; is = refl }
    by false = goes_on_refl (int_type ∷ [])

module _ (types more : List Tree) (a : Tree) where
  -- each assignment of some types is one of more types
  sum_more : (n from : ℕ) (f : List Tree → ℕ) (p q : List Tree → Bool) → ((ys : List Tree) → p ys ≡ true → q ys ≡ true) → sum_by f (filter p (assignments types a from n)) ≤ sum_by f (filter q (assignments (types ++ more) a from n))
  sum_more zero from f p q w = one_weaker f [] (p []) (q []) (w [])
  sum_more (suc n) from f p q w =
      let g = choices_more types more a from in
      let few = λ (ty : Tree). map (λ ys. ty ∷ ys) (assignments types a (from + 1) n) in
      let many = λ (ty : Tree). map (λ ys. ty ∷ ys) (assignments (types ++ more) a (from + 1) n) in
      let e : sum_by f (filter q (flat_map many (type_choices (types ++ more) a from))) ≡ sum_by f (filter q (flat_map many (type_choices types a from))) + sum_by f (filter q (flat_map many g.more)) =
      ap (λ (z : List Tree). sum_by f (filter q (flat_map many z))) g.is ∙ ap (λ (z : List (List Tree)). sum_by f (filter q z)) (flat_map-append many (type_choices types a from) g.more) ∙ sum_two f q (flat_map many (type_choices types a from)) (flat_map many g.more) in
      omega (arith, e, along n from f p q w (λ f' p' q' w'. sum_more n (from + 1) f' p' q' w') (type_choices types a from))
    where
      along : (n from : ℕ) (f : List Tree → ℕ) (p q : List Tree → Bool) → ((ys : List Tree) → p ys ≡ true → q ys ≡ true)
          → ((f' : List Tree → ℕ) (p' q' : List Tree → Bool) → ((ys : List Tree) → p' ys ≡ true → q' ys ≡ true) → sum_by f' (filter p' (assignments types a (from + 1) n)) ≤ sum_by f' (filter q' (assignments (types ++ more) a (from + 1) n)))
          → (cs : List Tree) → sum_by f (filter p (flat_map (λ ty. map (λ ys. ty ∷ ys) (assignments types a (from + 1) n)) cs)) ≤ sum_by f (filter q (flat_map (λ ty. map (λ ys. ty ∷ ys) (assignments (types ++ more) a (from + 1) n)) cs))
      along n from f p q w again [] = omega arith
      along n from f p q w again (ty ∷ cs) =
          let few = λ (t : Tree). map (λ ys. t ∷ ys) (assignments types a (from + 1) n) in
          let many = λ (t : Tree). map (λ ys. t ∷ ys) (assignments (types ++ more) a (from + 1) n) in
          let l = sum_two f p (few ty) (flat_map few cs) in
          let r = sum_two f q (many ty) (flat_map many cs) in
          let lm = sum_map f p (λ ys. ty ∷ ys) (assignments types a (from + 1) n) in
          let rm = sum_map f q (λ ys. ty ∷ ys) (assignments (types ++ more) a (from + 1) n) in
          omega (arith, l, r, lm, rm, again (λ ys. f (ty ∷ ys)) (λ ys. p (ty ∷ ys)) (λ ys. q (ty ∷ ys)) (λ ys. w (ty ∷ ys)), along n from f p q w again cs)

pub sum_of_map : {A B : Type 0} (f : B → ℕ) (g : A → B) (xs : List A) → sum_by f (map g xs) ≡ sum_by (λ x. f (g x)) xs
sum_of_map f g [] = refl
sum_of_map f g (x ∷ xs) = sum_by-cons f (g x) (map g xs) ∙ ap (λ (k : ℕ). f (g x) + k) (sum_of_map f g xs) ∙ sym (sum_by-cons (λ y. f (g y)) x xs)

pub nodes_more : (s u : List Occurrence) → GoesOn s u → (p : PropositionTree) → wanted_nodes s p ≤ wanted_nodes u p
nodes_more s u g p =
    let t = types_of_more s u g in
    let f = λ (ys : List Tree). size (inst_types p.formula ys) in
    let l : wanted_nodes s p ≡ sum_by f (wanted_types s p) = sum_of_map size (inst_types p.formula) (wanted_types s p) in
    let r : wanted_nodes u p ≡ sum_by f (wanted_types u p) = sum_of_map size (inst_types p.formula) (wanted_types u p) in
    let m : sum_by f (wanted_types u p) ≡ sum_by f (filter (is_wanted u p.formula) (assignments (types_of s ++ t.more) p.formula 0 p.vars)) = ap (λ (z : List Tree). sum_by f (filter (is_wanted u p.formula) (assignments z p.formula 0 p.vars))) t.is in
    omega (arith, l, r, m, sum_more (types_of s) t.more p.formula p.vars 0 f (is_wanted s p.formula) (is_wanted u p.formula) (wanted_more s u g p.formula))
