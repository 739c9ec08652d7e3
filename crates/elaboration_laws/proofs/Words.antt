-- Names that differ, and lists of them with the same names.
use Rattle.std.proofs.Common.{◌≡◌, ℕ, ◌+◌, ◌≤◌, ◌||◌, suc, Bool, true, false, cond, List, [], ◌∷◌, ◌++◌, reverse, length, Option, Some, None, option_map, refl, sym, ap, subst, ◌∙◌, arith, append_assoc, append-nil}
use Rattle.std.specs.Option.{is_some}
use Rattle.std.specs.Str.{bytes_eq}
use Rattle.std.specs.List.{AllByRecursion}
use Rattle.std.proofs.lemmas.Slice.Eq.{bytes_eq-Decides}
use mathlib.Core.List.{reverse-cons}
use Rattle.elab_groups.specs.surface.Lexeme.{Word}
use Rattle.elab_groups.specs.name_resolution.Abstract.{Pattern, Patterns, wildcard_pattern, variable_pattern, constructor_pattern, tuple_pattern, alias_pattern, record_pattern, no_patterns, more_patterns, count_patterns}
use Rattle.elab_groups.specs.name_resolution.declared.NamingFault.TheVariants.{Duplicate}
use Rattle.elab_groups.specs.name_resolution.Faults.{fault_if, pattern_names, patterns_names, constructor_fault, record_fault, pattern_fault, patterns_fault, all_among}
use Rattle.elab_groups.specs.name_resolution.Where.{Where, place_of}
use Rattle.elab_groups.proofs.name_resolution.SameNames.{occurrences, occurs_both, is_positive, occurs_in, SameNames, same_in}
use Rattle.elab_groups.proofs.open_types.Walking.{none_both, not_if}
use Rattle.elab_declarations.proofs.type_declarations.Declared.{or_assoc}
use Rattle.elab_groups.proofs.plain_laws.Bools.{and_both as both_true}
use Rattle.std.proofs.lemmas.Bool.{or_parts as neither}

pub same_word : (x y : Word) → bytes_eq x y ≡ true → x ≡ y
same_word x y h = (bytes_eq-Decides x y).0 h

pub self_word : (x : Word) → bytes_eq x x ≡ true
self_word x = (bytes_eq-Decides x x).1 refl

abbrev pub is_in : Word → List Word → Bool
is_in x ys = is_some (place_of x ys)

is_in_cons : (x y : Word) (ys : List Word) → is_in x (y ∷ ys) ≡ (bytes_eq y x || is_in x ys)
is_in_cons x y ys = of (bytes_eq y x) (place_of x ys)
  where
    of : (b : Bool) (o : Option ℕ) → is_some (cond b (Some 0) (option_map suc o)) ≡ (b || is_some o)
    of true o = refl
    of false None = refl
    of false (Some k) = refl

pub is_in_both : (x : Word) (ys zs : List Word) → is_in x (ys ++ zs) ≡ (is_in x ys || is_in x zs)
is_in_both x [] zs = refl
is_in_both x (y ∷ ys) zs = is_in_cons x y (ys ++ zs) ∙ ap (λ (b : Bool). bytes_eq y x || b) (is_in_both x ys zs) ∙ or_assoc (bytes_eq y x) (is_in x ys) (is_in x zs) ∙ ap (λ (b : Bool). b || is_in x zs) (sym (is_in_cons x y ys))

or_swap : (a b : Bool) → (a || (b || false)) ≡ (b || a)
or_swap true true = refl
or_swap true false = refl
or_swap false true = refl
or_swap false false = refl

pub is_in_reverse : (x : Word) (ys : List Word) → is_in x (reverse ys) ≡ is_in x ys
is_in_reverse x [] = refl
is_in_reverse x (y ∷ ys) =
    ap (is_in x) (reverse-cons y ys) ∙ is_in_both x (reverse ys) (y ∷ []) ∙ ap (λ (b : Bool). is_in x (reverse ys) || b) (is_in_cons x y [])
    ∙ or_swap (is_in x (reverse ys)) (bytes_eq y x) ∙ ap (λ (b : Bool). bytes_eq y x || b) (is_in_reverse x ys) ∙ sym (is_in_cons x y ys)

-- ---- new names
-- each is new after those that are seen and the earlier ones
abbrev pub AreNew : List Word → List Word → Type 0
AreNew seen [] = Unit {0}
AreNew seen (x ∷ xs) = (is_in x seen ≡ false) × AreNew (seen ++ x ∷ []) xs

new_both : (seen xs ys : List Word) → AreNew seen xs → AreNew (seen ++ xs) ys → AreNew seen (xs ++ ys)
new_both seen [] ys h k = rw append-nil at k
new_both seen (x ∷ xs) ys h k = (h.0, new_both (seen ++ x ∷ []) xs ys h.1 (subst (λ (s : List Word). AreNew s ys) (sym (append_assoc seen (x ∷ []) xs)) k))

module _ (w : Where) where
  mutual
    pub pattern_new : (p : Pattern) (seen : List Word) → pattern_fault w seen p ≡ None → AreNew seen (pattern_names p)
    pattern_new (wildcard_pattern i) seen h = tt
    pattern_new (variable_pattern i x) seen h = (not_if (is_in x seen) (Duplicate i) h, tt)
    pattern_new (constructor_pattern i qs x ps) seen h = patterns_new ps seen (none_both (constructor_fault w i (count_patterns ps) (w.names qs x)) (patterns_fault w seen ps) h).1
    pattern_new (tuple_pattern i ps) seen h = patterns_new ps seen h
    pattern_new (alias_pattern p i x) seen h =
        let n = none_both (pattern_fault w seen p) (fault_if (is_in x (seen ++ pattern_names p)) (Duplicate i)) h in
        new_both seen (pattern_names p) (x ∷ []) (pattern_new p seen n.0) (not_if (is_in x (seen ++ pattern_names p)) (Duplicate i) n.1, tt)
    pattern_new (record_pattern i fs ps) seen h = patterns_new ps seen (none_both (record_fault w false i (count_patterns ps) fs) (patterns_fault w seen ps) h).1

    patterns_new : (ps : Patterns) (seen : List Word) → patterns_fault w seen ps ≡ None → AreNew seen (patterns_names ps)
    patterns_new no_patterns seen h = tt
    patterns_new (more_patterns p ps) seen h =
        let n = none_both (pattern_fault w seen p) (patterns_fault w (seen ++ pattern_names p) ps) h in
        new_both seen (pattern_names p) (patterns_names ps) (pattern_new p seen n.0) (patterns_new ps (seen ++ pattern_names p) n.1)

-- none of new names is seen
new_apart : (seen xs : List Word) → AreNew seen xs → AllByRecursion (λ y. is_in y seen ≡ false) xs
new_apart seen [] h = tt
new_apart seen (x ∷ xs) h = (h.0, fewer xs (new_apart (seen ++ x ∷ []) xs h.1))
  where
    fewer : (ys : List Word) → AllByRecursion (λ y. is_in y (seen ++ x ∷ []) ≡ false) ys → AllByRecursion (λ y. is_in y seen ≡ false) ys
    fewer [] k = tt
    fewer (y ∷ ys) k = ((neither (is_in y seen) (is_in y (x ∷ [])) (sym (is_in_both y seen (x ∷ [])) ∙ k.0)).0, fewer ys k.1)

new_last : (seen : List Word) (x : Word) (xs : List Word) → AreNew (seen ++ x ∷ []) xs → AllByRecursion (λ y. bytes_eq x y ≡ false) xs
new_last seen x xs h = of xs (new_apart (seen ++ x ∷ []) xs h)
  where
    of : (ys : List Word) → AllByRecursion (λ y. is_in y (seen ++ x ∷ []) ≡ false) ys → AllByRecursion (λ y. bytes_eq x y ≡ false) ys
    of [] k = tt
    of (y ∷ ys) k =
        let a = (neither (is_in y seen) (is_in y (x ∷ [])) (sym (is_in_both y seen (x ∷ [])) ∙ k.0)).1 in
        ((neither (bytes_eq x y) false (sym (is_in_cons y x []) ∙ a)).0, of ys k.1)

-- ---- new names are those that occur once
new_once : (seen xs : List Word) → AreNew seen xs → (x : Word) → (occurrences x xs ≤ 1) × (is_in x seen ≡ true → occurrences x xs ≡ 0)
new_once seen [] h x = (omega arith, λ k. refl)
new_once seen (y ∷ ys) h x = of (bytes_eq y x) refl (new_once (seen ++ y ∷ []) ys h.1 x)
  where
    or_true : (b : Bool) → (b || true) ≡ true
    or_true true = refl
    or_true false = refl

    of : (b : Bool) → bytes_eq y x ≡ b → (occurrences x ys ≤ 1) × (is_in x (seen ++ y ∷ []) ≡ true → occurrences x ys ≡ 0)
        → (cond b (suc (occurrences x ys)) (occurrences x ys) ≤ 1) × (is_in x seen ≡ true → cond b (suc (occurrences x ys)) (occurrences x ys) ≡ 0)
    of true q k =
        let there : is_in x (seen ++ y ∷ []) ≡ true = is_in_both x seen (y ∷ []) ∙ ap (λ (b : Bool). is_in x seen || b) (is_in_cons x y [] ∙ ap (λ (b : Bool). b || false) q) ∙ or_true (is_in x seen) in
        let none = k.1 there in
        (omega (arith, none), λ i. absurd (let z : true ≡ false = sym i ∙ ap (λ (v : Word). is_in v seen) (sym (same_word y x q)) ∙ h.0 in cc (z)))
    of false q k = (k.0, λ i. k.1 (is_in_both x seen (y ∷ []) ∙ ap (λ (b : Bool). b || is_in x (y ∷ [])) i))

once_new : (seen xs : List Word) → ((x : Word) → occurrences x seen + occurrences x xs ≤ 1) → AreNew seen xs
once_new seen [] h = tt
once_new seen (y ∷ ys) h = (apart, once_new (seen ++ y ∷ []) ys later)
  where
    here : occurrences y (y ∷ ys) ≡ suc (occurrences y ys)
    here = ap (λ (b : Bool). cond b (suc (occurrences y ys)) (occurrences y ys)) (self_word y)

    apart : is_in y seen ≡ false
    apart = let z : occurrences y seen ≡ 0 = omega (arith, h y, here) in occurs_in y seen ∙ ap is_positive z

    one : (x : Word) (b : Bool) → cond b 1 0 + occurrences x ys ≡ cond b (suc (occurrences x ys)) (occurrences x ys)
    one x true = omega arith
    one x false = omega arith

    later : (x : Word) → occurrences x (seen ++ y ∷ []) + occurrences x ys ≤ 1
    later x = omega (arith, h x, occurs_both x seen (y ∷ []), one x (bytes_eq y x))

-- and so they are in another order
pub same_new : (xs ys : List Word) → SameNames xs ys → AreNew [] ys → AreNew [] xs
same_new xs ys h k = once_new [] xs (λ x. let l = (new_once [] ys k x).0 in omega (arith, l, h x))

-- ---- names among others, in another order
among_each : (xs ys : List Word) → all_among xs ys ≡ true → (x : Word) → is_in x xs ≡ true → is_in x ys ≡ true
among_each [] ys h x i = absurd (cc (i))
among_each (y ∷ xs) ys h x i = let p = both_true (is_in y ys) (all_among xs ys) h in of (bytes_eq y x) refl p.0 (sym (is_in_cons x y xs) ∙ i) (among_each xs ys p.1 x)
  where
    of : (b : Bool) → bytes_eq y x ≡ b → is_in y ys ≡ true → (b || is_in x xs) ≡ true → (is_in x xs ≡ true → is_in x ys ≡ true) → is_in x ys ≡ true
    of true q k j f = ap (λ (v : Word). is_in v ys) (sym (same_word y x q)) ∙ k
    of false q k j f = f j

each_among : (xs ys : List Word) → ((x : Word) → is_in x xs ≡ true → is_in x ys ≡ true) → all_among xs ys ≡ true
each_among [] ys f = refl
each_among (y ∷ xs) ys f = rw (f y here) (each_among xs ys later)
  where
    here : is_in y (y ∷ xs) ≡ true
    here = is_in_cons y y xs ∙ ap (λ (b : Bool). b || is_in y xs) (self_word y)

    or_later : (a b : Bool) → b ≡ true → (a || b) ≡ true
    or_later true b h = refl
    or_later false b h = h

    later : (x : Word) → is_in x xs ≡ true → is_in x ys ≡ true
    later x i = f x (is_in_cons x y xs ∙ or_later (bytes_eq y x) (is_in x xs) i)

pub same_among : (us vs us' vs' : List Word) → SameNames us us' → SameNames vs vs' → all_among us' vs' ≡ true → all_among us vs ≡ true
same_among us vs us' vs' h k a = each_among us vs (λ x i. same_in vs vs' k x ∙ among_each us' vs' a x (sym (same_in us us' h x) ∙ i))

-- ---- names that differ, of which each is among others, are no more than these
abbrev without : Word → List Word → List Word
without x [] = []
without x (y ∷ ys) = cond (bytes_eq y x) ys (y ∷ without x ys)

one_fewer : (x : Word) (ys : List Word) → is_in x ys ≡ true → length ys ≡ suc (length (without x ys))
one_fewer x [] h = absurd (cc)
one_fewer x (y ∷ ys) h = of (bytes_eq y x) (sym (is_in_cons x y ys) ∙ h) (λ k. one_fewer x ys k)
  where
    of : (b : Bool) → (b || is_in x ys) ≡ true → (is_in x ys ≡ true → length ys ≡ suc (length (without x ys))) → suc (length ys) ≡ suc (length (cond b ys (y ∷ without x ys)))
    of true k f = refl
    of false k f = ap suc (f k)

still_in : (x y : Word) (ys : List Word) → bytes_eq x y ≡ false → is_in y ys ≡ true → is_in y (without x ys) ≡ true
still_in x y [] n h = absurd (cc)
still_in x y (z ∷ zs) n h = of (bytes_eq z x) refl (sym (is_in_cons y z zs) ∙ h) (λ k. still_in x y zs n k)
  where
    kept : (c : Bool) → (c || is_in y zs) ≡ true → (is_in y zs ≡ true → is_in y (without x zs) ≡ true) → (c || is_in y (without x zs)) ≡ true
    kept true k f = refl
    kept false k f = f k

    of : (b : Bool) → bytes_eq z x ≡ b → (bytes_eq z y || is_in y zs) ≡ true → (is_in y zs ≡ true → is_in y (without x zs) ≡ true) → is_in y (cond b zs (z ∷ without x zs)) ≡ true
    of true q k f = let e : z ≡ x = same_word z x q in let m : bytes_eq z y ≡ false = rw e n in rw m at k
    of false q k f = is_in_cons y z (without x zs) ∙ kept (bytes_eq z y) k f

all_still : (x : Word) (xs ys : List Word) → AllByRecursion (λ y. bytes_eq x y ≡ false) xs → all_among xs ys ≡ true → all_among xs (without x ys) ≡ true
all_still x [] ys a h = refl
all_still x (z ∷ zs) ys a h =
    let p = both_true (is_in z ys) (all_among zs ys) h in
    rw (still_in x z ys a.0 p.0) (all_still x zs ys a.1 p.1)

pub among_count : (seen xs ys : List Word) → AreNew seen xs → all_among xs ys ≡ true → length xs ≤ length ys
among_count seen [] ys h k = omega arith
among_count seen (x ∷ xs) ys h k =
    let p = both_true (is_in x ys) (all_among xs ys) k in
    let a = all_still x xs ys (new_last seen x xs h.1) p.1 in
    omega (arith, among_count (seen ++ x ∷ []) xs (without x ys) h.1 a, one_fewer x ys p.0)
