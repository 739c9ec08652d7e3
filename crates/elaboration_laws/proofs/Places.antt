-- Declarations at places: those that are joined to others are the ones of theories that aren't there.
use Rattle.std.proofs.Common.{◌≡◌, ◌⊎◌, inl, inr, ℕ, nat_eq, ◌<◌, not, ◌||◌, zero, suc, cond, Bool, true, false, List, [], ◌∷◌, ◌++◌, length, get_or, slice_get, take, All, Option, Some, None, refl, sym, ap, subst, ◌∙◌, arith, append_assoc, append-nil}
use Rattle.std.specs.List.{filter, list_any, Contains}
use Rattle.std.specs.Option.{option_to_list}
use Rattle.std.specs.Str.{bytes_eq}
use Rattle.std.proofs.lemmas.Bool.Decides.{nat_tests}
use Rattle.std.proofs.lemmas.List.Concat.{flat_map-append}
use Rattle.std.proofs.lemmas.List.Elements.{All-head, All-tail, Contains-get_or, Contains-append_left, Contains-append_right, Contains-append_cases}
use Rattle.elab_groups.specs.tasks.Task.{DeclarationTree}
use Rattle.elaboration_laws.proofs.Words.{same_word}
use Rattle.theory_states.specs.States.{at_places, joined_places}
use Rattle.elaboration_laws.specs.Joined.{has_theory, fresh, Agree}
use Rattle.elaboration_laws.proofs.Distinct.{IsDistinct}
use Rattle.elaboration_laws.specs.Whole.{IsWhole}
use Rattle.elaboration_laws.proofs.Joined.{theory_there as in_theory}
use Rattle.elaboration_laws.proofs.Names.{same_number as itself}
use Rattle.elaboration_laws.proofs.Numbers.{later}
pub use Rattle.elaboration_laws.proofs.Numbers.{here}

-- ---- lists of numbers
pub none_here : {X : Type 0} (x : X) → Contains [] x → ⊥
none_here x c = omega (arith, c.1)

pub cases_of : {X : Type 0} (y x : X) (xs : List X) → Contains (y ∷ xs) x → (y ≡ x) ⊎ Contains xs x
cases_of y x xs (zero, l, e) = inl e
cases_of y x xs (suc j, l, e) = inr (j, omega (arith, l), e)

same_number : (a b : ℕ) → nat_eq a b ≡ true → a ≡ b
same_number a b q = grind (arith, nat_tests)

any_in : (k : ℕ) (ks : List ℕ) → list_any (nat_eq k) ks ≡ true → Contains ks k
any_in k [] q = absurd (cc)
any_in k (j ∷ ks) q = of (nat_eq k j) refl q (λ h. any_in k ks h)
  where
    of : (b : Bool) → nat_eq k j ≡ b → (b || list_any (nat_eq k) ks) ≡ true → (list_any (nat_eq k) ks ≡ true → Contains ks k) → Contains (j ∷ ks) k
    of true z h f = subst (λ (i : ℕ). Contains (j ∷ ks) i) (sym (same_number k j z)) (here j ks)
    of false z h f = later j k ks (f h)

pub in_any : (k : ℕ) (ks : List ℕ) → Contains ks k → list_any (nat_eq k) ks ≡ true
in_any k [] c = absurd (none_here k c)
in_any k (j ∷ ks) c = of (cases_of j k ks c) (λ h. in_any k ks h)
  where
    right : (b c : Bool) → c ≡ true → (b || c) ≡ true
    right true c q = refl
    right false c q = q

    of : (j ≡ k) ⊎ Contains ks k → (Contains ks k → list_any (nat_eq k) ks ≡ true) → (nat_eq k j || list_any (nat_eq k) ks) ≡ true
    of (inl e) f = let q : nat_eq k j ≡ true = ap (nat_eq k) e ∙ itself k in rw q refl
    of (inr h) f = right (nat_eq k j) (list_any (nat_eq k) ks) (f h)

-- ---- places joined to others
pub joined_cases : (ks more : List ℕ) (j : ℕ) → Contains (joined_places ks more) j → Contains ks j ⊎ Contains more j
joined_cases ks [] j c = inl c
joined_cases ks (k ∷ more) j c = of (list_any (nat_eq k) ks) c (λ h. joined_cases ks more j h) (λ h. joined_cases (ks ++ k ∷ []) more j h)
  where
    after_both : Contains (ks ++ k ∷ []) j ⊎ Contains more j → Contains ks j ⊎ Contains (k ∷ more) j
    after_both (inr h) = inr (later k j more h)
    after_both (inl h) = pick (Contains-append_cases ks (k ∷ []) j h)
      where
        pick : Contains ks j ⊎ Contains (k ∷ []) j → Contains ks j ⊎ Contains (k ∷ more) j
        pick (inl i) = inl i
        pick (inr i) = first (cases_of k j [] i)
          where
            first : (k ≡ j) ⊎ Contains [] j → Contains ks j ⊎ Contains (k ∷ more) j
            first (inl e) = inr (0, omega arith, e)
            first (inr n) = absurd (none_here j n)

    after_old : Contains ks j ⊎ Contains more j → Contains ks j ⊎ Contains (k ∷ more) j
    after_old (inl h) = inl h
    after_old (inr h) = inr (later k j more h)

    of : (b : Bool) → Contains (joined_places (cond b ks (ks ++ k ∷ [])) more) j → (Contains (joined_places ks more) j → Contains ks j ⊎ Contains more j) → (Contains (joined_places (ks ++ k ∷ []) more) j → Contains (ks ++ k ∷ []) j ⊎ Contains more j)
        → Contains ks j ⊎ Contains (k ∷ more) j
    of true h f g = after_old (f h)
    of false h f g = after_both (g h)

pub joined_old : (ks more : List ℕ) (j : ℕ) → Contains ks j → Contains (joined_places ks more) j
joined_old ks [] j c = c
joined_old ks (k ∷ more) j c = of (list_any (nat_eq k) ks) (joined_old ks more j c) (joined_old (ks ++ k ∷ []) more j (Contains-append_left ks (k ∷ []) j c))
  where
    of : (b : Bool) → Contains (joined_places ks more) j → Contains (joined_places (ks ++ k ∷ []) more) j → Contains (joined_places (cond b ks (ks ++ k ∷ [])) more) j
    of true x y = x
    of false x y = y

pub joined_new : (ks more : List ℕ) (j : ℕ) → Contains more j → Contains (joined_places ks more) j
joined_new ks [] j c = absurd (none_here j c)
joined_new ks (k ∷ more) j c = of (list_any (nat_eq k) ks) refl (cases_of k j more c) (λ h. joined_new ks more j h) (λ h. joined_new (ks ++ k ∷ []) more j h)
  where
    of : (b : Bool) → list_any (nat_eq k) ks ≡ b → (k ≡ j) ⊎ Contains more j → (Contains more j → Contains (joined_places ks more) j) → (Contains more j → Contains (joined_places (ks ++ k ∷ []) more) j)
        → Contains (joined_places (cond b ks (ks ++ k ∷ [])) more) j
    of true q (inl e) f g = joined_old ks more j (subst (λ (i : ℕ). Contains ks i) e (any_in k ks q))
    of true q (inr h) f g = f h
    of false q (inl e) f g = joined_old (ks ++ k ∷ []) more j (Contains-append_right ks (k ∷ []) j (0, omega arith, e))
    of false q (inr h) f g = g h

distinct_more : (ks : List ℕ) (k : ℕ) → IsDistinct ks → (Contains ks k → ⊥) → IsDistinct (ks ++ k ∷ [])
distinct_more [] k d n = ((λ c. none_here k c), tt)
distinct_more (j ∷ ks) k d n = ((λ c. of (Contains-append_cases ks (k ∷ []) j c)), distinct_more ks k d.1 (λ c. n (later j k ks c)))
  where
    of : Contains ks j ⊎ Contains (k ∷ []) j → ⊥
    of (inl c) = d.0 c
    of (inr c) = first (cases_of k j [] c)
      where
        first : (k ≡ j) ⊎ Contains [] j → ⊥
        first (inl e) = n (0, omega arith, sym e)
        first (inr h) = none_here j h

pub joined_distinct : (ks more : List ℕ) → IsDistinct ks → IsDistinct (joined_places ks more)
joined_distinct ks [] d = d
joined_distinct ks (k ∷ more) d = of (list_any (nat_eq k) ks) refl (joined_distinct ks more d) (λ n. joined_distinct (ks ++ k ∷ []) more (distinct_more ks k d n))
  where
    absent : list_any (nat_eq k) ks ≡ false → Contains ks k → ⊥
    absent q c = let z : true ≡ false = sym (in_any k ks c) ∙ q in cc

    of : (b : Bool) → list_any (nat_eq k) ks ≡ b → IsDistinct (joined_places ks more) → ((Contains ks k → ⊥) → IsDistinct (joined_places (ks ++ k ∷ []) more)) → IsDistinct (joined_places (cond b ks (ks ++ k ∷ [])) more)
    of true q x f = x
    of false q x f = f (absent q)

-- the places that were there are in front
pub joined_front : (ks more : List ℕ) → (rest : List ℕ) × (joined_places ks more ≡ ks ++ rest)
joined_front ks [] = ([], sym (append-nil ks))
joined_front ks (k ∷ more) = of (list_any (nat_eq k) ks) (joined_front ks more) (joined_front (ks ++ k ∷ []) more)
  where
    of : (b : Bool) → (rest : List ℕ) × (joined_places ks more ≡ ks ++ rest) → (rest : List ℕ) × (joined_places (ks ++ k ∷ []) more ≡ (ks ++ k ∷ []) ++ rest) → (rest : List ℕ) × (joined_places (cond b ks (ks ++ k ∷ [])) more ≡ ks ++ rest)
    of true x z = x
    of false x z = (k ∷ z.0, z.1 ∙ append_assoc ks (k ∷ []) z.0)

-- ---- declarations
abbrev AreBelow : ℕ → List ℕ → Type 0
AreBelow n ks = All (λ (k : ℕ). k < n) ks

pub there : (ds : List DeclarationTree) (k : ℕ) → k < length ds → (d : DeclarationTree) × (slice_get ds k ≡ Some d)
there [] k l = absurd (omega arith)
there (d ∷ ds) zero l = (d, refl)
there (d ∷ ds) (suc k) l = there ds k (omega arith)

pub further : (xs ys : List DeclarationTree) (k : ℕ) (d : DeclarationTree) → slice_get xs k ≡ Some d → slice_get (xs ++ ys) k ≡ Some d
further [] ys k d q = absurd (cc)
further (x ∷ xs) ys zero d q = q
further (x ∷ xs) ys (suc k) d q = further xs ys k d q

theory_in : (ds : List DeclarationTree) (t : List ℕ) → has_theory ds t ≡ true → (d : DeclarationTree) × (Contains ds d) × (bytes_eq d.theory t ≡ true)
theory_in [] t q = absurd (cc)
theory_in (x ∷ ds) t q = of (bytes_eq x.theory t) refl q (λ h. theory_in ds t h)
  where
    of : (b : Bool) → bytes_eq x.theory t ≡ b → (b || has_theory ds t) ≡ true → (has_theory ds t ≡ true → (d : DeclarationTree) × (Contains ds d) × (bytes_eq d.theory t ≡ true)) → (d : DeclarationTree) × (Contains (x ∷ ds) d) × (bytes_eq d.theory t ≡ true)
    of true z h f = (x, here x ds, z)
    of false z h f = let r = f h in (r.0, later x r.0 ds r.1, r.2)

module _ (ds : List DeclarationTree) where
  abbrev one_at : ℕ → List DeclarationTree
  one_at k = option_to_list (slice_get ds k)

  one_is : (k : ℕ) (d : DeclarationTree) → slice_get ds k ≡ Some d → one_at k ≡ d ∷ []
  one_is k d q = ap option_to_list q

  pub at_both : (xs ys : List ℕ) → at_places ds (xs ++ ys) ≡ at_places ds xs ++ at_places ds ys
  at_both xs ys = flat_map-append one_at xs ys

  pub in_places : (ks : List ℕ) (k : ℕ) (d : DeclarationTree) → Contains ks k → slice_get ds k ≡ Some d → Contains (at_places ds ks) d
  in_places [] k d c q = absurd (none_here k c)
  in_places (j ∷ ks) k d c q = of (cases_of j k ks c) (λ h. in_places ks k d h q)
    where
      of : (j ≡ k) ⊎ Contains ks k → (Contains ks k → Contains (at_places ds ks) d) → Contains (one_at j ++ at_places ds ks) d
      of (inl e) f = Contains-append_left (one_at j) (at_places ds ks) d (subst (λ (xs : List DeclarationTree). Contains xs d) (sym (one_is j d (ap (slice_get ds) e ∙ q))) (here d []))
      of (inr h) f = Contains-append_right (one_at j) (at_places ds ks) d (f h)

  of_one : (k : ℕ) (o : Option DeclarationTree) (d : DeclarationTree) → slice_get ds k ≡ o → Contains (option_to_list o) d → slice_get ds k ≡ Some d
  of_one k None d q c = absurd (none_here d c)
  of_one k (Some e) d q c = pick (cases_of e d [] c)
    where
      pick : (e ≡ d) ⊎ Contains [] d → slice_get ds k ≡ Some d
      pick (inl z) = q ∙ ap (λ (i : DeclarationTree). Some i) z
      pick (inr n) = absurd (none_here d n)

  pub from_places : (ks : List ℕ) (d : DeclarationTree) → Contains (at_places ds ks) d → (k : ℕ) × (Contains ks k) × (slice_get ds k ≡ Some d)
  from_places [] d c = absurd (none_here d c)
  from_places (j ∷ ks) d c = of (Contains-append_cases (one_at j) (at_places ds ks) d c) (λ h. from_places ks d h)
    where
      of : Contains (one_at j) d ⊎ Contains (at_places ds ks) d → (Contains (at_places ds ks) d → (k : ℕ) × (Contains ks k) × (slice_get ds k ≡ Some d)) → (k : ℕ) × (Contains (j ∷ ks) k) × (slice_get ds k ≡ Some d)
      of (inl h) f = (j, here j ks, of_one j (slice_get ds j) d refl h)
      of (inr h) f = let r = f h in (r.0, later j r.0 ks r.1, r.2)

  -- where each theory's declarations are whole, a declaration whose theory is there is there itself
  theory_whole : (ks : List ℕ) → IsWhole ds ks → (k : ℕ) (d : DeclarationTree) → slice_get ds k ≡ Some d → has_theory (at_places ds ks) d.theory ≡ true → Contains ks k
  theory_whole ks whole k d q h =
      let x = theory_in (at_places ds ks) d.theory h in
      let y = from_places ks x.0 x.1 in
      whole k y.0 d x.0 q y.2 y.1 (sym (same_word x.0.theory d.theory x.2))

  pub places_agree : (ks more : List ℕ) → IsWhole ds ks → Agree (at_places ds ks) (at_places ds more)
  places_agree ks more whole = λ i e l h.
      let d = get_or (at_places ds more) i e in
      let z = from_places more d (Contains-get_or (at_places ds more) i e l) in
      in_places ks z.0 d (theory_whole ks whole z.0 d z.2 h) z.2

  module _ (ks : List ℕ) (whole : IsWhole ds ks) where
    abbrev p : DeclarationTree → Bool
    p e = not (has_theory (at_places ds ks) e.theory)

    out : (d : DeclarationTree) (xs : List DeclarationTree) → has_theory (at_places ds ks) d.theory ≡ true → filter p (d ∷ xs) ≡ filter p xs
    out d xs q = ap (λ (b : Bool). cond (not b) (d ∷ filter p xs) (filter p xs)) q

    kept : (d : DeclarationTree) (xs : List DeclarationTree) → has_theory (at_places ds ks) d.theory ≡ false → filter p (d ∷ xs) ≡ d ∷ filter p xs
    kept d xs q = ap (λ (b : Bool). cond (not b) (d ∷ filter p xs) (filter p xs)) q

    joins : (now more : List ℕ) → AreBelow (length ds) more → IsDistinct more
        → ((j : ℕ) → Contains more j → Contains now j → Contains ks j) → ((j : ℕ) → Contains ks j → Contains now j)
        → at_places ds (joined_places now more) ≡ at_places ds now ++ filter p (at_places ds more)
    joins now [] below d same old = sym (append-nil (at_places ds now))
    joins now (k ∷ more) below d same old =
        let x = there ds k (All-head (λ (i : ℕ). i < length ds) k more below) in
        let rest = All-tail (λ (i : ℕ). i < length ds) k more below in
        of x.0 x.1 (list_any (nat_eq k) now) refl (joins now more rest d.1 (λ j c i. same j (later k j more c) i) old)
        (joins (now ++ k ∷ []) more rest d.1 apart (λ j c. Contains-append_left now (k ∷ []) j (old j c)))
      where
        cell : (e : DeclarationTree) → slice_get ds k ≡ Some e → at_places ds (k ∷ more) ≡ e ∷ at_places ds more
        cell e q = ap (λ (xs : List DeclarationTree). xs ++ at_places ds more) (one_is k e q)

        absent : list_any (nat_eq k) now ≡ false → Contains now k → ⊥
        absent q c = let z : true ≡ false = sym (in_any k now c) ∙ q in cc

        no_theory : (e : DeclarationTree) → slice_get ds k ≡ Some e → list_any (nat_eq k) now ≡ false → (b : Bool) → has_theory (at_places ds ks) e.theory ≡ b → b ≡ false
        no_theory e q n true h = absurd (absent n (old k (theory_whole ks whole k e q h)))
        no_theory e q n false h = refl

        apart : (j : ℕ) → Contains more j → Contains (now ++ k ∷ []) j → Contains ks j
        apart j c i = pick (Contains-append_cases now (k ∷ []) j i)
          where
            pick : Contains now j ⊎ Contains (k ∷ []) j → Contains ks j
            pick (inl h) = same j (later k j more c) h
            pick (inr h) = first (cases_of k j [] h)
              where
                first : (k ≡ j) ⊎ Contains [] j → Contains ks j
                first (inl e) = absurd (d.0 (subst (λ (i : ℕ). Contains more i) (sym e) c))
                first (inr n) = absurd (none_here j n)

        of : (e : DeclarationTree) → slice_get ds k ≡ Some e → (b : Bool) → list_any (nat_eq k) now ≡ b
            → at_places ds (joined_places now more) ≡ at_places ds now ++ filter p (at_places ds more)
            → at_places ds (joined_places (now ++ k ∷ []) more) ≡ at_places ds (now ++ k ∷ []) ++ filter p (at_places ds more)
            → at_places ds (joined_places (cond b now (now ++ k ∷ [])) more) ≡ at_places ds now ++ filter p (at_places ds (k ∷ more))
        of e q true n one two =
            let t = in_theory (at_places ds ks) e (in_places ks k e (same k (here k more) (any_in k now n)) q) in
            one ∙ ap (λ (xs : List DeclarationTree). at_places ds now ++ xs) (sym (out e (at_places ds more) t) ∙ ap (filter p) (sym (cell e q)))
        of e q false n one two =
            let t = no_theory e q n (has_theory (at_places ds ks) e.theory) refl in
            let last : at_places ds (now ++ k ∷ []) ≡ at_places ds now ++ e ∷ [] = at_both now (k ∷ []) ∙ ap (λ (xs : List DeclarationTree). at_places ds now ++ (xs ++ [])) (one_is k e q) in
            two
            ∙ ap (λ (xs : List DeclarationTree). xs ++ filter p (at_places ds more)) last
            ∙ append_assoc (at_places ds now) (e ∷ []) (filter p (at_places ds more))
            ∙ ap (λ (xs : List DeclarationTree). at_places ds now ++ xs) (sym (kept e (at_places ds more) t) ∙ ap (filter p) (sym (cell e q)))

    -- joined places have the declarations, and then those of theories that weren't there
    pub places_joined : (more : List ℕ) → AreBelow (length ds) more → IsDistinct more → at_places ds (joined_places ks more) ≡ at_places ds ks ++ fresh (at_places ds ks) (at_places ds more)
    places_joined more below d = joins ks more below d (λ j c i. i) (λ j c. c)

  pub joined_whole : (ks more : List ℕ) → IsWhole ds ks → IsWhole ds more → IsWhole ds (joined_places ks more)
  joined_whole ks more a b = λ j k d e q r c same. of j k d e q r same (joined_cases ks more k c)
    where
      of : (j k : ℕ) (d e : DeclarationTree) → slice_get ds j ≡ Some d → slice_get ds k ≡ Some e → d.theory ≡ e.theory → Contains ks k ⊎ Contains more k → Contains (joined_places ks more) j
      of j k d e q r same (inl c) = joined_old ks more j (a j k d e q r c same)
      of j k d e q r same (inr c) = joined_new ks more j (b j k d e q r c same)

  -- ---- the first of them
  pub places_count : (ks : List ℕ) → AreBelow (length ds) ks → length (at_places ds ks) ≡ length ks
  places_count [] below = refl
  places_count (k ∷ ks) below =
      let x = there ds k (All-head (λ (i : ℕ). i < length ds) k ks below) in
      ap (λ (xs : List DeclarationTree). length (xs ++ at_places ds ks)) (one_is k x.0 x.1) ∙ ap suc (places_count ks (All-tail (λ (i : ℕ). i < length ds) k ks below))

  pub places_taken : (n : ℕ) (ks : List ℕ) → AreBelow (length ds) ks → at_places ds (take n ks) ≡ take n (at_places ds ks)
  places_taken zero ks below = refl
  places_taken (suc n) [] below = refl
  places_taken (suc n) (k ∷ ks) below =
      let x = there ds k (All-head (λ (i : ℕ). i < length ds) k ks below) in
      ap (λ (xs : List DeclarationTree). xs ++ at_places ds (take n ks)) (one_is k x.0 x.1)
      ∙ ap (λ (xs : List DeclarationTree). x.0 ∷ xs) (places_taken n ks (All-tail (λ (i : ℕ). i < length ds) k ks below))
      ∙ sym (ap (λ (xs : List DeclarationTree). take (suc n) (xs ++ at_places ds ks)) (one_is k x.0 x.1))

-- more declarations
pub places_grown : (xs ys : List DeclarationTree) (ks : List ℕ) → AreBelow (length xs) ks → at_places (xs ++ ys) ks ≡ at_places xs ks
places_grown xs ys [] below = refl
places_grown xs ys (k ∷ ks) below =
    let x = there xs k (All-head (λ (i : ℕ). i < length xs) k ks below) in
    ap (λ (zs : List DeclarationTree). zs ++ at_places (xs ++ ys) ks) (ap option_to_list (further xs ys k x.0 x.1 ∙ sym x.1))
    ∙ ap (λ (zs : List DeclarationTree). option_to_list (slice_get xs k) ++ zs) (places_grown xs ys ks (All-tail (λ (i : ℕ). i < length xs) k ks below))

pub slice_in : (ds : List DeclarationTree) (k : ℕ) (d : DeclarationTree) → slice_get ds k ≡ Some d → Contains ds d
slice_in [] k d q = absurd (cc)
slice_in (x ∷ ds) zero d q = let e : x ≡ d = cc in (0, omega arith, e)
slice_in (x ∷ ds) (suc k) d q = later x d ds (slice_in ds k d q)
