-- All that a clone makes is sound beside what is there, by one law for each step.
use Rattle.std.proofs.Common.{◌≡◌, ◌≢◌, ◌⊎◌, inl, inr, ℕ, ◌<◌, zero, suc, cond, Bool, true, false, List, [], ◌∷◌, ◌++◌, length, All, Contains, IsTrue, refl, sym, ap, subst, ◌∙◌, arith, append_assoc, append-nil}
use Rattle.std.proofs.lemmas.List.{map-append, get_or_append_left}
use Rattle.std.proofs.lemmas.List.Elements.{All-nil, All-cons, All-head, All-tail, All-contains, Contains-append_left, Contains-append_right, Contains-append_cases}
use Rattle.elab_groups.specs.tasks.Task.{SymbolTree, symbol_or, int_symbol, DeclarationTree, made, made_by}
use Rattle.elab_groups.specs.tasks.Roles.{is_constructor, role_in}
use Rattle.clones.specs.Mapped.{Map}
use Rattle.clones.specs.Copies.{declaration_copied, entry_copied}
use Rattle.elaboration_laws.specs.Lists.{after}
use Rattle.elaboration_laws.proofs.Lists.{list_part}
use Rattle.elaboration_laws.specs.Tasks.{IsOfTheory, AreSound}
use Rattle.elaboration_laws.specs.Joined.{has_theory}
use Rattle.elaboration_laws.proofs.Distinct.{IsDistinct, pairs_distinct}
use Rattle.elaboration_laws.proofs.TupleDecls.{made_both}
use Rattle.elaboration_laws.proofs.Grown.{front_sound}
use Rattle.elaboration_laws.specs.Cloning.{IsImage, BecomesNew, IsFixed, IsCloning}
use Rattle.elaboration_laws.specs.Steps.{CopyStep, copies, leaves, joins, declaration_of, declarations_of, taken_of, made_of, made_from, StepFits, IsClone, BecomesNumbered}
use Rattle.elaboration_laws.proofs.Vocabularies.{made_below}
use Rattle.elaboration_laws.proofs.Extending.{image_more}
use Rattle.elaboration_laws.proofs.Copied.{made_mapped, in_mapped, cloning_copied}
use Rattle.elaboration_laws.proofs.Taken.{cloning_left}
use Rattle.elaboration_laws.proofs.Others.{cloning_begun}
use Rattle.elaboration_laws.proofs.Joining.{cloning_present, cloning_joined}
use Rattle.elaboration_laws.proofs.Joined.{from_made, theory_there as in_theory, into_made, distinct_apart as apart_from}
use Rattle.elaboration_laws.proofs.Begun.{slice_or}

taken_both : (ss us : List CopyStep) → taken_of (ss ++ us) ≡ taken_of ss ++ taken_of us
taken_both [] us = refl
taken_both (copies d ∷ ss) us = taken_both ss us
taken_both (leaves d ∷ ss) us = taken_both ss us
taken_both (joins d ∷ ss) us = ap (λ (ds : List DeclarationTree). d ∷ ds) (taken_both ss us)

module _ (m : Map) (theory within : List ℕ) (first : List DeclarationTree) where
  abbrev makes : List CopyStep → List DeclarationTree
  makes ss = made_from m theory within first ss

  made_then : (ss : List CopyStep) (s : CopyStep) → first ++ makes (ss ++ s ∷ []) ≡ (first ++ makes ss) ++ made_of m theory within first s
  made_then ss s = ap (λ (ds : List DeclarationTree). first ++ ds) (by ss) ∙ sym (append_assoc first (makes ss) (made_of m theory within first s))
    where
      by : (us : List CopyStep) → makes (us ++ s ∷ []) ≡ makes us ++ made_of m theory within first s
      by [] = append-nil (made_of m theory within first s)
      by (u ∷ us) = ap (λ (ds : List DeclarationTree). made_of m theory within first u ++ ds) (by us) ∙ sym (append_assoc (made_of m theory within first u) (makes us) (made_of m theory within first s))

  -- where a declaration comes from
  abbrev IsMade : List CopyStep → DeclarationTree → Type 0
  IsMade ss b = (Contains (taken_of ss) b × (has_theory first b.theory ≡ false)) ⊎ ((d : DeclarationTree) × (Contains ss (copies d)) × (b ≡ declaration_copied m theory within d))

  later_step : (s : CopyStep) (ss : List CopyStep) (x : CopyStep) → Contains ss x → Contains (s ∷ ss) x
  later_step s ss x c = (suc c.0, let l = c.1 in omega (arith, l), c.2)

  later_taken : (d b : DeclarationTree) (ss : List CopyStep) → Contains (taken_of ss) b → Contains (d ∷ taken_of ss) b
  later_taken d b ss c = (suc c.0, let l = c.1 in omega (arith, l), c.2)

  one_is : (x b : DeclarationTree) → Contains (x ∷ []) b → x ≡ b
  one_is x b (zero, l, q) = q
  one_is x b (suc i, l, q) = absurd (omega (arith, l))

  copied_more : (d : DeclarationTree) (ss : List CopyStep) (b : DeclarationTree) → IsMade ss b → IsMade (copies d ∷ ss) b
  copied_more d ss b (inl h) = inl h
  copied_more d ss b (inr h) = inr (h.0, later_step (copies d) ss (copies h.0) h.1, h.2)

  left_more : (d : DeclarationTree) (ss : List CopyStep) (b : DeclarationTree) → IsMade ss b → IsMade (leaves d ∷ ss) b
  left_more d ss b (inl h) = inl h
  left_more d ss b (inr h) = inr (h.0, later_step (leaves d) ss (copies h.0) h.1, h.2)

  joined_more : (d : DeclarationTree) (ss : List CopyStep) (b : DeclarationTree) → IsMade ss b → IsMade (joins d ∷ ss) b
  joined_more d ss b (inl h) = inl (later_taken d b ss h.0, h.1)
  joined_more d ss b (inr h) = inr (h.0, later_step (joins d) ss (copies h.0) h.1, h.2)

  from_makes : (ss : List CopyStep) (b : DeclarationTree) → Contains (makes ss) b → IsMade ss b
  from_makes [] b c = absurd (omega (arith, c.1))
  from_makes (copies d ∷ ss) b c = of (Contains-append_cases (declaration_copied m theory within d ∷ []) (makes ss) b c) (λ i. from_makes ss b i)
    where
      of : Contains (declaration_copied m theory within d ∷ []) b ⊎ Contains (makes ss) b → (Contains (makes ss) b → IsMade ss b) → IsMade (copies d ∷ ss) b
      of (inl i) f = inr (d, (0, omega arith, refl), sym (one_is (declaration_copied m theory within d) b i))
      of (inr i) f = copied_more d ss b (f i)
  from_makes (leaves d ∷ ss) b c = left_more d ss b (from_makes ss b c)
  from_makes (joins d ∷ ss) b c = by (has_theory first d.theory) refl c (λ i. from_makes ss b i)
    where
      of : has_theory first d.theory ≡ false → Contains (d ∷ []) b ⊎ Contains (makes ss) b → (Contains (makes ss) b → IsMade ss b) → IsMade (joins d ∷ ss) b
      of q (inl i) f = let e : d ≡ b = one_is d b i in inl ((0, omega arith, e), ap (λ (x : DeclarationTree). has_theory first x.theory) (sym e) ∙ q)
      of q (inr i) f = joined_more d ss b (f i)

      by : (t : Bool) → has_theory first d.theory ≡ t → Contains (cond t [] (d ∷ []) ++ makes ss) b → (Contains (makes ss) b → IsMade ss b) → IsMade (joins d ∷ ss) b
      by true q i f = joined_more d ss b (f i)
      by false q i f = of q (Contains-append_cases (d ∷ []) (makes ss) b i) f

  -- those that were taken over are there
  taken_there : (ss : List CopyStep) → ((b : DeclarationTree) → Contains (taken_of ss) b → has_theory first b.theory ≡ true → Contains first b) → (b : DeclarationTree) → Contains (taken_of ss) b → Contains first b ⊎ Contains (makes ss) b
  taken_there [] agree b c = absurd (omega (arith, c.1))
  taken_there (copies d ∷ ss) agree b c = of (taken_there ss agree b c)
    where
      of : Contains first b ⊎ Contains (makes ss) b → Contains first b ⊎ Contains (makes (copies d ∷ ss)) b
      of (inl i) = inl i
      of (inr i) = inr (Contains-append_right (declaration_copied m theory within d ∷ []) (makes ss) b i)
  taken_there (leaves d ∷ ss) agree b c = taken_there ss agree b c
  taken_there (joins d ∷ ss) agree b c = by (has_theory first d.theory) refl (cases c) (λ i. taken_there ss (λ x y z. agree x (later_taken d x ss y) z) b i)
    where
      cases : Contains (d ∷ taken_of ss) b → (d ≡ b) ⊎ Contains (taken_of ss) b
      cases (zero, l, q) = inl q
      cases (suc i, l, q) = inr (i, omega (arith, l), q)

      rest : (t : Bool) → Contains first b ⊎ Contains (makes ss) b → Contains first b ⊎ Contains (cond t [] (d ∷ []) ++ makes ss) b
      rest t (inl i) = inl i
      rest t (inr i) = inr (Contains-append_right (cond t [] (d ∷ [])) (makes ss) b i)

      by : (t : Bool) → has_theory first d.theory ≡ t → (d ≡ b) ⊎ Contains (taken_of ss) b → (Contains (taken_of ss) b → Contains first b ⊎ Contains (makes ss) b) → Contains first b ⊎ Contains (cond t [] (d ∷ []) ++ makes ss) b
      by true q (inl e) f = inl (agree b (0, omega arith, e) (ap (λ (x : DeclarationTree). has_theory first x.theory) (sym e) ∙ q))
      by false q (inl e) f = inr (Contains-append_left (d ∷ []) (makes ss) b (0, omega arith, e))
      by t q (inr i) f = rest t (f i)

  module _ (xs more : List SymbolTree) (ss : List CopyStep) (h : IsClone xs more m theory within first ss) where
    abbrev all : List SymbolTree
    all = xs ++ more

    agrees : (b : DeclarationTree) → Contains (taken_of ss) b → has_theory first b.theory ≡ true → Contains first b
    agrees b c q = All-contains (λ (e : DeclarationTree). IsTrue (has_theory first e.theory) → Contains first e) (taken_of ss) b h.agree c q

    -- a step after others
    module _ (pre rest : List CopyStep) (s : CopyStep) (whole : ss ≡ (pre ++ s ∷ []) ++ rest) (before : IsCloning xs (declarations_of pre) m all (first ++ makes pre)) where
      abbrev now : List DeclarationTree
      now = first ++ makes pre

      abbrev next : List CopyStep
      next = pre ++ s ∷ []

      source_next : AreSound xs (declarations_of pre ++ declaration_of s ∷ [])
      source_next =
          let q : declarations_of ss ≡ (declarations_of pre ++ declaration_of s ∷ []) ++ declarations_of rest =
          ap declarations_of whole ∙ map-append declaration_of next rest ∙ ap (λ (ds : List DeclarationTree). ds ++ declarations_of rest) (map-append declaration_of pre (s ∷ [])) in
          front_sound xs (declarations_of pre ++ declaration_of s ∷ []) (declarations_of rest) (subst (AreSound xs) q h.source)

      taken_split : taken_of ss ≡ (taken_of pre ++ taken_of (s ∷ [])) ++ taken_of rest
      taken_split = ap taken_of whole ∙ taken_both next rest ∙ ap (λ (ds : List DeclarationTree). ds ++ taken_of rest) (taken_both pre (s ∷ []))

      taken_in : (b : DeclarationTree) → Contains (taken_of pre) b → Contains (taken_of ss) b
      taken_in b c = subst (λ (ds : List DeclarationTree). Contains ds b) (sym taken_split) (Contains-append_left (taken_of pre ++ taken_of (s ∷ [])) (taken_of rest) b (Contains-append_left (taken_of pre) (taken_of (s ∷ [])) b c))

      there : (b : DeclarationTree) → Contains (taken_of pre) b → Contains now b
      there b c = of (taken_there pre (λ x i q. agrees x (taken_in x i) q) b c)
        where
          of : Contains first b ⊎ Contains (makes pre) b → Contains now b
          of (inl i) = Contains-append_left first (makes pre) b i
          of (inr i) = Contains-append_right first (makes pre) b i

      step_in : (x : CopyStep) → Contains pre x → Contains ss x
      step_in x c = subst (λ (us : List CopyStep). Contains us x) (sym whole) (Contains-append_left next rest x (Contains-append_left pre (s ∷ []) x c))

      this_in : Contains ss s
      this_in = subst (λ (us : List CopyStep). Contains us s) (sym whole) (Contains-append_left next rest s (Contains-append_right pre (s ∷ []) s (0, omega arith, refl)))

      fits : (x : CopyStep) → Contains ss x → StepFits xs m all theory within first x
      fits x c = All-contains (StepFits xs m all theory within first) ss x h.fit c

      -- what the step's declaration makes, none before it makes
      declared : (x : CopyStep) → Contains pre x → Contains (declarations_of pre) (declaration_of x)
      declared x c = by pre c
        where
          by : (us : List CopyStep) → Contains us x → Contains (declarations_of us) (declaration_of x)
          by [] i = absurd (omega (arith, i.1))
          by (u ∷ us) (zero, l, q) = (0, omega arith, ap declaration_of q)
          by (u ∷ us) (suc i, l, q) = let r = by us (i, omega (arith, l), q) in (suc r.0, let b = r.1 in omega (arith, b), r.2)

      made_once : (x : DeclarationTree) (k : ℕ) → Contains (declarations_of pre) x → Contains (made_by x.body) k → Contains (made_by (declaration_of s).body) k → ⊥
      made_once x k c i j =
          apart_from (made (declarations_of pre)) (made (declaration_of s ∷ [])) k
          (subst IsDistinct (made_both (declarations_of pre) (declaration_of s ∷ [])) (pairs_distinct (made (declarations_of pre ++ declaration_of s ∷ [])) source_next.once))
          (into_made (declarations_of pre) x k c i) (Contains-append_left (made_by (declaration_of s).body) [] k j)

      theory_now : (b : DeclarationTree) (k : ℕ) → Contains now b → Contains (made_by b.body) k → (symbol_or all k).theory ≡ b.theory
      theory_now b k c i = All-contains (λ (j : ℕ). (symbol_or all j).theory ≡ b.theory) (made_by b.body) k (All-contains (IsOfTheory all) now b before.sound.theories c) i

      taken_declared : (b : DeclarationTree) → Contains (taken_of pre) b → Contains (declarations_of pre) b
      taken_declared b c = by pre c
        where
          by : (us : List CopyStep) → Contains (taken_of us) b → Contains (declarations_of us) b
          by [] i = absurd (omega (arith, i.1))
          by (copies d ∷ us) i = let r = by us i in (suc r.0, let l = r.1 in omega (arith, l), r.2)
          by (leaves d ∷ us) i = let r = by us i in (suc r.0, let l = r.1 in omega (arith, l), r.2)
          by (joins d ∷ us) (zero, l, q) = (0, omega arith, q)
          by (joins d ∷ us) (suc i, l, q) = let r = by us (i, omega (arith, l), q) in (suc r.0, let b = r.1 in omega (arith, b), r.2)

      taken_step : (b : DeclarationTree) → Contains (taken_of pre) b → Contains pre (joins b)
      taken_step b c = by pre c
        where
          by : (us : List CopyStep) → Contains (taken_of us) b → Contains us (joins b)
          by [] i = absurd (omega (arith, i.1))
          by (copies d ∷ us) i = later_step (copies d) us (joins b) (by us i)
          by (leaves d ∷ us) i = later_step (leaves d) us (joins b) (by us i)
          by (joins d ∷ us) (zero, l, q) = (0, omega arith, ap joins q)
          by (joins d ∷ us) (suc i, l, q) = later_step (joins d) us (joins b) (by us (i, omega (arith, l), q))

      other_theory : (b : DeclarationTree) → Contains (taken_of pre) b → b.theory ≢ theory
      other_theory b c = (fits (joins b) (step_in (joins b) (taken_step b c))).1

      finished : IsCloning xs (declarations_of pre ++ declaration_of s ∷ []) m all (now ++ made_of m theory within first s) → IsCloning xs (declarations_of next) m all (first ++ makes next)
      finished c =
          subst (λ (ds : List DeclarationTree). IsCloning xs ds m all (first ++ makes next)) (sym (map-append declaration_of pre (s ∷ [])))
          (subst (IsCloning xs (declarations_of pre ++ declaration_of s ∷ []) m all) (sym (made_then pre s)) c)

    -- a copy
    module _ (pre rest : List CopyStep) (d : DeclarationTree) (whole : ss ≡ (pre ++ copies d ∷ []) ++ rest) (before : IsCloning xs (declarations_of pre) m all (first ++ makes pre)) where
      copy_fits : All (λ (k : ℕ). BecomesNew xs all m theory within k × (Contains (made first) (m.symbols k) → ⊥)) (made_by d.body)
      copy_fits = (fits pre rest (copies d) whole before (copies d) (this_in pre rest (copies d) whole before)).0

      copy_numbers : BecomesNumbered m d
      copy_numbers = (fits pre rest (copies d) whole before (copies d) (this_in pre rest (copies d) whole before)).1

      new_at : (k : ℕ) → Contains (made_by d.body) k → BecomesNew xs all m theory within k
      new_at k c = (All-contains (λ (k : ℕ). BecomesNew xs all m theory within k × (Contains (made first) (m.symbols k) → ⊥)) (made_by d.body) k copy_fits c).0

      below_at : (k : ℕ) → Contains (made_by d.body) k → k < length xs
      below_at k c =
          let a = source_next pre rest (copies d) whole before in
          made_below xs (declarations_of pre ++ d ∷ []) a k (into_made (declarations_of pre ++ d ∷ []) d k (Contains-append_right (declarations_of pre) (d ∷ []) d (0, omega arith, refl)) c)

      theory_at : (k : ℕ) → Contains (made_by d.body) k → (symbol_or all (m.symbols k)).theory ≡ theory
      theory_at k c = ap (λ (e : SymbolTree). e.theory) (slice_or all (m.symbols k) (entry_copied m theory within (symbol_or xs k)) (new_at k c).entry)

      not_made : (k : ℕ) → Contains (made_by d.body) k → (b : DeclarationTree) → Contains (first ++ makes pre) b → Contains (made_by b.body) (m.symbols k) → Contains first b ⊎ IsMade pre b → ⊥
      not_made k c b i j (inl f) = (All-contains (λ (k : ℕ). BecomesNew xs all m theory within k × (Contains (made first) (m.symbols k) → ⊥)) (made_by d.body) k copy_fits c).1 (into_made first b (m.symbols k) f j)
      not_made k c b i j (inr (inl t)) = other_theory pre rest (copies d) whole before b t.0 (sym (theory_now pre rest (copies d) whole before b (m.symbols k) i j) ∙ theory_at k c)
      not_made k c b i j (inr (inr z)) =
          let in_copy : Contains (made_by (declaration_copied m theory within z.0).body) (m.symbols k) = subst (λ (x : DeclarationTree). Contains (made_by x.body) (m.symbols k)) z.2 j in
          let r = in_mapped m.symbols (made_by z.0.body) (m.symbols k) (subst (λ (ks : List ℕ). Contains ks (m.symbols k)) (made_mapped m z.0.body) in_copy) in
          let there_before : Contains (declarations_of pre) z.0 = declared pre rest (copies d) whole before (copies z.0) z.1 in
          let low : r.0 < length xs = made_below xs (declarations_of pre) before.source r.0 (into_made (declarations_of pre) z.0 r.0 there_before r.1) in
          let same : r.0 ≡ k = (new_at k c).alone r.0 low r.2 in
          made_once pre rest (copies d) whole before z.0 k there_before (subst (λ (x : ℕ). Contains (made_by z.0.body) x) same r.1) c

      apart_at : (k : ℕ) → Contains (made_by d.body) k → Contains (made (first ++ makes pre)) (m.symbols k) → ⊥
      apart_at k c i =
          let b = from_made (first ++ makes pre) (m.symbols k) i in
          not_made k c b.0 b.1 b.2 (of b.0 (Contains-append_cases first (makes pre) b.0 b.1))
        where
          of : (b : DeclarationTree) → Contains first b ⊎ Contains (makes pre) b → Contains first b ⊎ IsMade pre b
          of b (inl z) = inl z
          of b (inr z) = inr (from_makes pre b z)

      copied_step : IsCloning xs (declarations_of (pre ++ copies d ∷ [])) m all (first ++ makes (pre ++ copies d ∷ []))
      copied_step = finished pre rest (copies d) whole before
          (cloning_copied xs (declarations_of pre) m all (first ++ makes pre) before d (source_next pre rest (copies d) whole before) theory within h.named h.not_built (λ i k l. (copy_fits i k l).0) apart_at copy_numbers)

    -- one that is left out
    left_step : (pre rest : List CopyStep) (d : DeclarationTree) → ss ≡ (pre ++ leaves d ∷ []) ++ rest → IsCloning xs (declarations_of pre) m all (first ++ makes pre) → IsCloning xs (declarations_of (pre ++ leaves d ∷ [])) m all (first ++ makes (pre ++ leaves d ∷ []))
    left_step pre rest d whole before =
        let fit = fits pre rest (leaves d) whole before (leaves d) (this_in pre rest (leaves d) whole before) in
        finished pre rest (leaves d) whole before
        (subst (IsCloning xs (declarations_of pre ++ d ∷ []) m all) (sym (append-nil (first ++ makes pre)))
        (cloning_left xs (declarations_of pre) m all (first ++ makes pre) before d (source_next pre rest (leaves d) whole before)
        (λ k c. image_more (after all [] first) (after all [] (first ++ makes pre)) (list_part all [] first (makes pre)) m (symbol_or xs k) k (is_constructor (role_in k d.body))
        (All-contains (λ (k : ℕ). IsImage (after all [] first) m (symbol_or xs k) k (is_constructor (role_in k d.body))) (made_by d.body) k fit c))))

    -- one of another theory
    module _ (pre rest : List CopyStep) (d : DeclarationTree) (whole : ss ≡ (pre ++ joins d ∷ []) ++ rest) (before : IsCloning xs (declarations_of pre) m all (first ++ makes pre)) where
      alone_here : AreSound xs (taken_of pre ++ d ∷ [])
      alone_here = front_sound xs (taken_of pre ++ d ∷ []) (taken_of rest) (subst (AreSound xs) (taken_split pre rest (joins d) whole before) h.others)

      here_fits : All (IsFixed m) (made_by d.body) × (d.theory ≢ theory)
      here_fits = fits pre rest (joins d) whole before (joins d) (this_in pre rest (joins d) whole before)

      fixed_here : (k : ℕ) → Contains (made (taken_of pre ++ d ∷ [])) k → IsFixed m k
      fixed_here k c = let b = from_made (taken_of pre ++ d ∷ []) k c in of b.0 b.2 (Contains-append_cases (taken_of pre) (d ∷ []) b.0 b.1)
        where
          of : (b : DeclarationTree) → Contains (made_by b.body) k → Contains (taken_of pre) b ⊎ Contains (d ∷ []) b → IsFixed m k
          of b i (inl t) = All-contains (IsFixed m) (made_by b.body) k (fits pre rest (joins d) whole before (joins b) (step_in pre rest (joins d) whole before (joins b) (taken_step pre rest (joins d) whole before b t))).0 i
          of b i (inr t) = All-contains (IsFixed m) (made_by d.body) k here_fits.0 (subst (λ (x : DeclarationTree). Contains (made_by x.body) k) (sym (one_is d b t)) i)

      this_taken : Contains (taken_of ss) d
      this_taken = subst (λ (ds : List DeclarationTree). Contains ds d) (sym (taken_split pre rest (joins d) whole before)) (Contains-append_left (taken_of pre ++ d ∷ []) (taken_of rest) d (Contains-append_right (taken_of pre) (d ∷ []) d (0, omega arith, refl)))

      theory_here : (k : ℕ) → Contains (made_by d.body) k → (symbol_or all k).theory ≡ d.theory
      theory_here k c =
          let place : Contains (taken_of pre ++ d ∷ []) d = Contains-append_right (taken_of pre) (d ∷ []) d (0, omega arith, refl) in
          let low : k < length xs = made_below xs (taken_of pre ++ d ∷ []) alone_here k (into_made (taken_of pre ++ d ∷ []) d k place c) in
          let same : symbol_or all k ≡ symbol_or xs k = get_or_append_left xs more int_symbol k low in
          ap (λ (e : SymbolTree). e.theory) same ∙ All-contains (λ (j : ℕ). (symbol_or xs j).theory ≡ d.theory) (made_by d.body) k (All-contains (IsOfTheory xs) (taken_of pre ++ d ∷ []) d alone_here.theories place) c

      not_here : has_theory first d.theory ≡ false → (k : ℕ) → Contains (made_by d.body) k → (b : DeclarationTree) → Contains (first ++ makes pre) b → Contains (made_by b.body) k → Contains first b ⊎ IsMade pre b → ⊥
      not_here q k c b i j (inl f) =
          let same : b.theory ≡ d.theory = sym (theory_now pre rest (joins d) whole before b k i j) ∙ theory_here k c in
          let z : true ≡ false = sym (in_theory first b f) ∙ ap (has_theory first) same ∙ q in
          cc
      not_here q k c b i j (inr (inl t)) = made_once pre rest (joins d) whole before b k (taken_declared pre rest (joins d) whole before b t.0) j c
      not_here q k c b i j (inr (inr z)) = here_fits.1 (sym (theory_here k c) ∙ theory_now pre rest (joins d) whole before b k i j ∙ ap (λ (x : DeclarationTree). x.theory) z.2)

      apart_here : has_theory first d.theory ≡ false → (k : ℕ) → Contains (made (first ++ makes pre)) k → Contains (made_by d.body) k → ⊥
      apart_here q k i c =
          let b = from_made (first ++ makes pre) k i in
          not_here q k c b.0 b.1 b.2 (of b.0 (Contains-append_cases first (makes pre) b.0 b.1))
        where
          of : (b : DeclarationTree) → Contains first b ⊎ Contains (makes pre) b → Contains first b ⊎ IsMade pre b
          of b (inl z) = inl z
          of b (inr z) = inr (from_makes pre b z)

      by_theory : (t : Bool) → has_theory first d.theory ≡ t → IsCloning xs (declarations_of pre ++ d ∷ []) m all ((first ++ makes pre) ++ cond t [] (d ∷ []))
      by_theory true q = subst (IsCloning xs (declarations_of pre ++ d ∷ []) m all) (sym (append-nil (first ++ makes pre)))
          (cloning_present xs more (declarations_of pre) (taken_of pre) m h.built (first ++ makes pre) before d (source_next pre rest (joins d) whole before) alone_here fixed_here (there pre rest (joins d) whole before)
          (Contains-append_left first (makes pre) d (agrees d this_taken q)))
      by_theory false q = cloning_joined xs more (declarations_of pre) (taken_of pre) m h.built (first ++ makes pre) before d (source_next pre rest (joins d) whole before) alone_here fixed_here (there pre rest (joins d) whole before) (apart_here q)

      joined_step : IsCloning xs (declarations_of (pre ++ joins d ∷ [])) m all (first ++ makes (pre ++ joins d ∷ []))
      joined_step = finished pre rest (joins d) whole before (by_theory (has_theory first d.theory) refl)

    go : (pre rest : List CopyStep) → ss ≡ pre ++ rest → IsCloning xs (declarations_of pre) m all (first ++ makes pre) → IsCloning xs (declarations_of ss) m all (first ++ makes ss)
    go pre [] w b = let q : pre ≡ ss = sym (append-nil pre) ∙ sym w in subst (λ (us : List CopyStep). IsCloning xs (declarations_of us) m all (first ++ makes us)) q b
    go pre (copies d ∷ rest) w b = let w' = w ∙ sym (append_assoc pre (copies d ∷ []) rest) in go (pre ++ copies d ∷ []) rest w' (copied_step pre rest d w' b)
    go pre (leaves d ∷ rest) w b = let w' = w ∙ sym (append_assoc pre (leaves d ∷ []) rest) in go (pre ++ leaves d ∷ []) rest w' (left_step pre rest d w' b)
    go pre (joins d ∷ rest) w b = let w' = w ∙ sym (append_assoc pre (joins d ∷ []) rest) in go (pre ++ joins d ∷ []) rest w' (joined_step pre rest d w' b)

    pub clone_sound : IsCloning xs (declarations_of ss) m all (first ++ makes ss)
    clone_sound = go [] ss refl (subst (IsCloning xs [] m all) (sym (append-nil first)) (cloning_begun xs more first m h.source.built h.first_sound h.built))

-- the first of them
module _ (xs more : List SymbolTree) (m : Map) (theory within : List ℕ) (first : List DeclarationTree) (ss us : List CopyStep) (h : IsClone xs more m theory within first (ss ++ us)) where
  front_all : {X : Type 0} (P : X → Type 0) (as_ bs : List X) → All P (as_ ++ bs) → All P as_
  front_all P [] bs g = All-nil P
  front_all P (x ∷ as_) bs g = All-cons P x as_ (All-head P x (as_ ++ bs) g) (front_all P as_ bs (All-tail P x (as_ ++ bs) g))

  pub clone_front : IsClone xs more m theory within first ss
  clone_front = record {
    source = front_sound xs (declarations_of ss) (declarations_of us) (subst (AreSound xs) (map-append declaration_of ss us) h.source);
    others = front_sound xs (taken_of ss) (taken_of us) (subst (AreSound xs) (taken_both ss us) h.others);
    first_sound = h.first_sound;
    agree = front_all (λ (e : DeclarationTree). IsTrue (has_theory first e.theory) → Contains first e) (taken_of ss) (taken_of us) (subst (All (λ (e : DeclarationTree). IsTrue (has_theory first e.theory) → Contains first e)) (taken_both ss us) h.agree);
    named = h.named;
    not_built = h.not_built;
    built = h.built;
    fit = front_all (StepFits xs m (xs ++ more) theory within first) ss us h.fit;
  }
