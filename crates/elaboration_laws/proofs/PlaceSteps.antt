-- What the places of a theory leave in a clone is what its steps make.
use Rattle.std.proofs.Common.{◌≡◌, ◌≢◌, ◌⊎◌, inl, inr, ℕ, nat_eq, ◌+◌, ◌<◌, ◌≤◌, zero, suc, cond, Bool, true, false, List, [], ◌∷◌, ◌++◌, length, slice_get, All, Contains, Option, Some, None, IsTrue, refl, sym, ap, subst, ◌∙◌, arith, length-append, append_assoc, append-nil}
use Rattle.std.specs.List.{list_any}
use Rattle.std.specs.Option.{option_to_list}
use Rattle.std.specs.Str.{bytes_eq}
use Rattle.std.proofs.lemmas.Bool.{cases_lt}
use Rattle.std.proofs.lemmas.List.Elements.{All-head, All-tail, All-contains, All-append, All-cons, All-nil, Contains-append_left, Contains-append_right, Contains-append_cases}
use Rattle.elab_groups.specs.tasks.Task.{BodyTree, MakesType, Makes, Defines, Induces, Constructs, Says, DeclarationTree}
use Rattle.elab_groups.specs.surface.declared.declarations.PropKind.{PropKind}
use Rattle.elab_groups.specs.surface.declared.declarations.PropKind.TheVariants as kind
use Rattle.clones.specs.Copies.{declaration_copied}
use Rattle.elaboration_laws.proofs.Words.{same_word, self_word}
use Rattle.elaboration_laws.specs.Joined.{has_theory}
use Rattle.elaboration_laws.proofs.Distinct.{IsDistinct, distinct_pairs, distinct_both}
use Rattle.clones.specs.clone_elements.Left.{decl_or}
use Rattle.clones.specs.clone_elements.Replacements.{is_replaced, kind_or}
use Rattle.clones.specs.clone_copies.Origins.{is_own}
use Rattle.clones.specs.clone_copies.Places.{Copying, goal_with, with_copied_goal, with_kind, with_copy, copy_of, with_joined, with_place, with_places}
use Rattle.elaboration_laws.specs.Cloned.{AreClonedPlaces}
use Rattle.theory_states.specs.States.{KnownTree, StateTree, at_places, visible_now}
use Rattle.elaboration_laws.specs.Whole.{IsWhole}
use Rattle.elaboration_laws.proofs.Places.{none_here, cases_of, here, there, further, at_both, in_places, from_places, places_grown, places_agree, joined_new, in_any}
use Rattle.elaboration_laws.specs.Steps.{leaves, joins, made_of, made_from}
use Rattle.elaboration_laws.specs.PlaceSteps.{step_as, step_of, copy_step_at, copy_steps_at}
use Rattle.elaboration_laws.proofs.Numbers.{later}
use Rattle.elaboration_laws.proofs.Joined.{theory_there as in_theory}

-- ---- declarations by places
pub first_of : (xs : List DeclarationTree) (y : DeclarationTree) → slice_get (xs ++ y ∷ []) (length xs) ≡ Some y
first_of [] y = refl
first_of (x ∷ xs) y = first_of xs y

or_is : (ds : List DeclarationTree) (k : ℕ) (d : DeclarationTree) → slice_get ds k ≡ Some d → decl_or ds k ≡ d
or_is [] k d q = absurd (cc)
or_is (x ∷ ds) zero d q = cc
or_is (x ∷ ds) (suc k) d q = or_is ds k d q

-- a goal changes no declarations
goal_same : (vars : List (List ℕ)) (name : List ℕ) (b : BodyTree) (c : StateTree) → ((goal_with vars name b c).decls ≡ c.decls) × ((goal_with vars name b c).opened.visible ≡ c.opened.visible) × ((goal_with vars name b c).opened.path ≡ c.opened.path)
goal_same vars name (Says e) c = (refl, refl, refl)
goal_same vars name (MakesType k) c = (refl, refl, refl)
goal_same vars name (Makes k) c = (refl, refl, refl)
goal_same vars name (Defines ds) c = (refl, refl, refl)
goal_same vars name (Induces ds) c = (refl, refl, refl)
goal_same vars name (Constructs ds) c = (refl, refl, refl)

module _ (x : Copying) (c0 : StateTree) (whole : IsWhole c0.decls c0.opened.visible) where
  abbrev old : List DeclarationTree
  old = c0.decls

  abbrev first : List DeclarationTree
  first = visible_now c0

  abbrev path : List ℕ
  path = c0.opened.path

  -- after some of the places
  record IsReached (done : List ℕ) (c : StateTree) (made : List DeclarationTree) : Type 0 where
    new : List DeclarationTree
    decls : c.decls ≡ old ++ new
    same_path : c.opened.path ≡ path
    below : All (λ (k : ℕ). k < length c.decls) c.opened.visible
    list : at_places c.decls c.opened.visible ≡ first ++ made
    from : (k : ℕ) → k < length old → Contains c.opened.visible k → Contains c0.opened.visible k ⊎ (Contains done k × (is_own old x.path k ≡ false))
    kept : (k : ℕ) → Contains c0.opened.visible k → Contains c.opened.visible k
    taken : (k : ℕ) → Contains done k → is_own old x.path k ≡ false → Contains c.opened.visible k
    news : (k : ℕ) → length old ≤ k → k < length c.decls → Contains c.opened.visible k
    once : IsDistinct c.opened.visible

  module _ (done : List ℕ) (c : StateTree) (made : List DeclarationTree) (h : IsReached done c made) (k : ℕ) (low : k < length old) (fresh : Contains done k → ⊥) where
    found : (d : DeclarationTree) × (slice_get old k ≡ Some d)
    found = there old k low

    abbrev d : DeclarationTree
    d = found.0

    now_at : slice_get c.decls k ≡ Some d
    now_at = ap (λ (ds : List DeclarationTree). slice_get ds k) h.decls ∙ further old h.new k d found.1

    same_here : decl_or c.decls k ≡ decl_or old k
    same_here = or_is c.decls k d now_at ∙ sym (or_is old k d found.1)

    more_done : (j : ℕ) → Contains c0.opened.visible j ⊎ (Contains done j × (is_own old x.path j ≡ false)) → Contains c0.opened.visible j ⊎ (Contains (done ++ k ∷ []) j × (is_own old x.path j ≡ false))
    more_done j (inl i) = inl i
    more_done j (inr i) = inr (Contains-append_left done (k ∷ []) j i.0, i.1)

    last_is : (j : ℕ) → (k ≡ j) ⊎ Contains [] j → k ≡ j
    last_is j (inl e) = e
    last_is j (inr n) = absurd (none_here j n)

    -- those that are taken over, where the last one is there if it is of another theory
    taken_now : (vs : List ℕ) → ((j : ℕ) → Contains c.opened.visible j → Contains vs j) → (is_own old x.path k ≡ false → Contains vs k) → (j : ℕ) → Contains (done ++ k ∷ []) j → is_own old x.path j ≡ false → Contains vs j
    taken_now vs sub last j i o = of (Contains-append_cases done (k ∷ []) j i)
      where
        of : Contains done j ⊎ Contains (k ∷ []) j → Contains vs j
        of (inl z) = sub j (h.taken j z o)
        of (inr z) = let e : k ≡ j = last_is j (cases_of k j [] z) in subst (λ (n : ℕ). Contains vs n) e (last (ap (is_own old x.path) e ∙ o))

    -- nothing is left
    unchanged : (is_own old x.path k ≡ false → Contains c.opened.visible k) → (c1 : StateTree) → c1.decls ≡ c.decls → c1.opened.visible ≡ c.opened.visible → c1.opened.path ≡ c.opened.path → IsReached (done ++ k ∷ []) c1 (made ++ [])
    unchanged last c1 q r u = record {
      new = h.new;
      decls = q ∙ h.decls;
      same_path = u ∙ h.same_path;
      below = subst (λ (ds : List DeclarationTree). All (λ (j : ℕ). j < length ds) c1.opened.visible) (sym q) (subst (All (λ (j : ℕ). j < length c.decls)) (sym r) h.below);
      list = ap (λ (ds : List DeclarationTree). at_places ds c1.opened.visible) q ∙ ap (at_places c.decls) r ∙ h.list ∙ ap (λ (ds : List DeclarationTree). first ++ ds) (sym (append-nil made));
      from = λ j l i. more_done j (h.from j l (subst (λ (ks : List ℕ). Contains ks j) r i));
      kept = λ j i. subst (λ (ks : List ℕ). Contains ks j) (sym r) (h.kept j i);
      taken = λ j i o. subst (λ (ks : List ℕ). Contains ks j) (sym r) (taken_now c.opened.visible (λ n z. z) last j i o);
      news = λ j a l. subst (λ (ks : List ℕ). Contains ks j) (sym r) (h.news j a (subst (λ (ds : List DeclarationTree). j < length ds) q l));
      once = subst IsDistinct (sym r) h.once;
    }

    -- a declaration is added
    added : is_own old x.path k ≡ true → (e : DeclarationTree) (c1 : StateTree) → c1.decls ≡ c.decls ++ e ∷ [] → c1.opened.visible ≡ c.opened.visible ++ length c.decls ∷ [] → c1.opened.path ≡ c.opened.path → IsReached (done ++ k ∷ []) c1 (made ++ e ∷ [])
    added own e c1 q r u = record {
      new = h.new ++ e ∷ [];
      decls = q ∙ ap (λ (ds : List DeclarationTree). ds ++ e ∷ []) h.decls ∙ append_assoc old h.new (e ∷ []);
      same_path = u ∙ h.same_path;
      below = subst (λ (ds : List DeclarationTree). All (λ (j : ℕ). j < length ds) c1.opened.visible) (sym q) (subst (All (λ (j : ℕ). j < length (c.decls ++ e ∷ []))) (sym r) low_now);
      list =
          ap (λ (ds : List DeclarationTree). at_places ds c1.opened.visible) q ∙ ap (at_places (c.decls ++ e ∷ [])) r ∙ at_both (c.decls ++ e ∷ []) c.opened.visible (length c.decls ∷ [])
          ∙ ap (λ (ds : List DeclarationTree). ds ++ at_places (c.decls ++ e ∷ []) (length c.decls ∷ [])) (places_grown c.decls (e ∷ []) c.opened.visible h.below)
          ∙ ap (λ (o : Option DeclarationTree). at_places c.decls c.opened.visible ++ (option_to_list o ++ [])) (first_of c.decls e)
          ∙ ap (λ (ds : List DeclarationTree). ds ++ e ∷ []) h.list ∙ append_assoc first made (e ∷ []);
      from = λ j l i. of j l (Contains-append_cases c.opened.visible (length c.decls ∷ []) j (subst (λ (ks : List ℕ). Contains ks j) r i));
      kept = λ j i. subst (λ (ks : List ℕ). Contains ks j) (sym r) (Contains-append_left c.opened.visible (length c.decls ∷ []) j (h.kept j i));
      taken = λ j i o. subst (λ (ks : List ℕ). Contains ks j) (sym r) (taken_now (c.opened.visible ++ length c.decls ∷ []) (λ n z. Contains-append_left c.opened.visible (length c.decls ∷ []) n z) (λ z. absurd (let y : true ≡ false = sym own ∙ z in cc)) j i o);
      news = λ j a l. subst (λ (ks : List ℕ). Contains ks j) (sym r) (new_at j a (cases_lt j (length c.decls)) (subst (λ (ds : List DeclarationTree). j < length ds) q l));
      once = subst IsDistinct (sym r) (distinct_both c.opened.visible (length c.decls ∷ []) h.once ((λ z. none_here (length c.decls) z), tt) (λ j a b. at_end j a (cases_of (length c.decls) j [] b)));
    }
      where
        new_at : (j : ℕ) → length old ≤ j → (j < length c.decls) ⊎ (length c.decls ≤ j) → j < length (c.decls ++ e ∷ []) → Contains (c.opened.visible ++ length c.decls ∷ []) j
        new_at j a (inl l) m = Contains-append_left c.opened.visible (length c.decls ∷ []) j (h.news j a l)
        new_at j a (inr l) m = Contains-append_right c.opened.visible (length c.decls ∷ []) j (0, omega arith, let n = length-append c.decls (e ∷ []) in omega (arith, l, m, n))

        at_end : (j : ℕ) → Contains c.opened.visible j → (length c.decls ≡ j) ⊎ Contains [] j → ⊥
        at_end j a (inl z) = let b = All-contains (λ (i : ℕ). i < length c.decls) c.opened.visible j h.below a in omega (arith, b, z)
        at_end j a (inr z) = none_here j z

        count : length (c.decls ++ e ∷ []) ≡ length c.decls + 1
        count = length-append c.decls (e ∷ [])

        low_now : All (λ (j : ℕ). j < length (c.decls ++ e ∷ [])) (c.opened.visible ++ length c.decls ∷ [])
        low_now = All-append (λ (j : ℕ). j < length (c.decls ++ e ∷ [])) c.opened.visible (length c.decls ∷ []) (λ i j l. let b = h.below i j l in omega (arith, b, count))
            (All-cons (λ (j : ℕ). j < length (c.decls ++ e ∷ [])) (length c.decls) [] (omega (arith, count)) (All-nil (λ (j : ℕ). j < length (c.decls ++ e ∷ []))))

        long : length c.decls ≡ length old + length h.new
        long = ap length h.decls ∙ length-append old h.new

        past : (j : ℕ) → j < length old → (length c.decls ≡ j) ⊎ Contains [] j → ⊥
        past j l (inl z) = let b = long in omega (arith, l, z, b)
        past j l (inr z) = none_here j z

        of : (j : ℕ) → j < length old → Contains c.opened.visible j ⊎ Contains (length c.decls ∷ []) j → Contains c0.opened.visible j ⊎ (Contains (done ++ k ∷ []) j × (is_own old x.path j ≡ false))
        of j l (inl i) = more_done j (h.from j l i)
        of j l (inr i) = absurd (past j l (cases_of (length c.decls) j [] i))

    -- one of another theory
    theory_there : Contains c.opened.visible k → has_theory first d.theory ≡ true
    theory_there i = of (h.from k low i)
      where
        of : Contains c0.opened.visible k ⊎ (Contains done k × (is_own old x.path k ≡ false)) → has_theory first d.theory ≡ true
        of (inl v) = in_theory first d (in_places old c0.opened.visible k d v found.1)
        of (inr v) = absurd (fresh v.0)

    place_there : has_theory first d.theory ≡ true → Contains c.opened.visible k
    place_there q =
        let e : Contains first d = All-contains (λ (e : DeclarationTree). IsTrue (has_theory first e.theory) → Contains first e) (at_places old (k ∷ [])) d (places_agree old c0.opened.visible (k ∷ []) whole) (in_places old (k ∷ []) k d (here k []) found.1) q in
        let z = from_places old c0.opened.visible d e in
        h.kept k (whole k z.0 d d found.1 z.2 z.1 refl)

    joined_here : is_own old x.path k ≡ false → IsReached (done ++ k ∷ []) (with_joined k c) (made ++ made_of x.mapping path x.within first (joins d))
    joined_here other = of (list_any (nat_eq k) c.opened.visible) refl (has_theory first d.theory) refl
      where
        absent : list_any (nat_eq k) c.opened.visible ≡ false → Contains c.opened.visible k → ⊥
        absent q i = let z : true ≡ false = sym (in_any k c.opened.visible i) ∙ q in cc

        present : list_any (nat_eq k) c.opened.visible ≡ true → Contains c.opened.visible k
        present q = subst (λ (b : Bool). Contains (cond b c.opened.visible (c.opened.visible ++ k ∷ [])) k) q (joined_new c.opened.visible (k ∷ []) k (here k []))

        with_k : (Contains c.opened.visible k → ⊥) → IsReached (done ++ k ∷ []) (record c { opened = record c.opened { visible = c.opened.visible ++ k ∷ [] } }) (made ++ d ∷ [])
        with_k out = record {
          new = h.new;
          decls = h.decls;
          same_path = h.same_path;
          below = All-append (λ (j : ℕ). j < length c.decls) c.opened.visible (k ∷ []) h.below (All-cons (λ (j : ℕ). j < length c.decls) k [] (let b = ap length h.decls ∙ length-append old h.new in omega (arith, low, b)) (All-nil (λ (j : ℕ). j < length c.decls)));
          list =
              at_both c.decls c.opened.visible (k ∷ []) ∙ ap (λ (o : Option DeclarationTree). at_places c.decls c.opened.visible ++ (option_to_list o ++ [])) now_at
              ∙ ap (λ (ds : List DeclarationTree). ds ++ d ∷ []) h.list ∙ append_assoc first made (d ∷ []);
          from = λ j l i. by j l (Contains-append_cases c.opened.visible (k ∷ []) j i);
          kept = λ j i. Contains-append_left c.opened.visible (k ∷ []) j (h.kept j i);
          taken = taken_now (c.opened.visible ++ k ∷ []) (λ n z. Contains-append_left c.opened.visible (k ∷ []) n z) (λ z. Contains-append_right c.opened.visible (k ∷ []) k (here k []));
          news = λ j a l. Contains-append_left c.opened.visible (k ∷ []) j (h.news j a l);
          once = distinct_both c.opened.visible (k ∷ []) h.once ((λ z. none_here k z), tt) (λ j a b. out (subst (λ (n : ℕ). Contains c.opened.visible n) (sym (last_is j (cases_of k j [] b))) a));
        }
          where
            by : (j : ℕ) → j < length old → Contains c.opened.visible j ⊎ Contains (k ∷ []) j → Contains c0.opened.visible j ⊎ (Contains (done ++ k ∷ []) j × (is_own old x.path j ≡ false))
            by j l (inl i) = more_done j (h.from j l i)
            by j l (inr i) = inr (Contains-append_right done (k ∷ []) j i, ap (is_own old x.path) (sym (last_is j (cases_of k j [] i))) ∙ other)

        of : (a : Bool) → list_any (nat_eq k) c.opened.visible ≡ a → (b : Bool) → has_theory first d.theory ≡ b
            → IsReached (done ++ k ∷ []) (record c { opened = record c.opened { visible = cond a c.opened.visible (c.opened.visible ++ k ∷ []) } }) (made ++ cond b [] (d ∷ []))
        of true q true r = unchanged (λ z. present q) c refl refl refl
        of true q false r = absurd (let z : true ≡ false = sym (theory_there (present q)) ∙ r in cc)
        of false q true r = absurd (absent q (place_there r))
        of false q false r = with_k (absent q)

    -- ---- an own declaration
    abbrev own_decl : DeclarationTree
    own_decl = decl_or old k

    abbrev copy : DeclarationTree
    copy = declaration_copied x.mapping path x.within own_decl

    copy_is : copy_of x c k ≡ copy
    copy_is = ap (λ (p : List ℕ). declaration_copied x.mapping p x.within (decl_or c.decls k)) h.same_path ∙ ap (declaration_copied x.mapping path x.within) same_here

    by_kind : is_own old x.path k ≡ true → (w : PropKind) (vars : List (List ℕ)) → IsReached (done ++ k ∷ []) (with_kind w vars (copy_of x c k) c) (made ++ made_of x.mapping path x.within first (step_as w own_decl))
    by_kind own kind.Axiom vars = subst (λ (e : DeclarationTree). IsReached (done ++ k ∷ []) (with_kind kind.Axiom vars (copy_of x c k) c) (made ++ e ∷ [])) copy_is (added own (copy_of x c k) (with_kind kind.Axiom vars (copy_of x c k) c) refl refl refl)
    by_kind own kind.Lemma vars =
        let g = goal_same vars (copy_of x c k).name (copy_of x c k).body c in
        subst (λ (e : DeclarationTree). IsReached (done ++ k ∷ []) (with_kind kind.Lemma vars (copy_of x c k) c) (made ++ e ∷ [])) copy_is
        (added own (copy_of x c k) (with_kind kind.Lemma vars (copy_of x c k) c) (ap (λ (ds : List DeclarationTree). ds ++ copy_of x c k ∷ []) g.0)
        (ap (λ (ds : List DeclarationTree). (with_copied_goal vars (copy_of x c k) c).opened.visible ++ length ds ∷ []) g.0 ∙ ap (λ (ks : List ℕ). ks ++ length c.decls ∷ []) g.1) g.2)
    by_kind own kind.Goal vars = let g = goal_same vars (copy_of x c k).name (copy_of x c k).body c in unchanged (λ z. absurd (let y : true ≡ false = sym own ∙ z in cc)) (with_kind kind.Goal vars (copy_of x c k) c) g.0 g.1 g.2

    copied_here : is_own old x.path k ≡ true → (o : Option (List (List ℕ))) → IsReached (done ++ k ∷ []) (with_copy x k o (copy_of x c k) c) (made ++ made_of x.mapping path x.within first (step_of x k o own_decl))
    copied_here own None = subst (λ (e : DeclarationTree). IsReached (done ++ k ∷ []) (with_copy x k None (copy_of x c k) c) (made ++ e ∷ [])) copy_is (added own (copy_of x c k) (with_copy x k None (copy_of x c k) c) refl refl refl)
    copied_here own (Some vars) = by_kind own (kind_or (x.effects k) x.all) vars

    own_same : is_own c.decls x.path k ≡ is_own old x.path k
    own_same = ap (λ (e : DeclarationTree). bytes_eq e.theory x.path) same_here

    placed : IsReached (done ++ k ∷ []) (with_place x k c) (made ++ made_of x.mapping path x.within first (copy_step_at x old k))
    placed =
        subst (λ (b : Bool). IsReached (done ++ k ∷ []) (with_place x k c) (made ++ made_of x.mapping path x.within first (cond b (cond (is_replaced (x.effects k)) (leaves own_decl) (step_of x k (x.axioms k) own_decl)) (joins own_decl)))) own_same
        (of (is_own c.decls x.path k) (is_replaced (x.effects k)) (sym own_same))
      where
        of : (a r : Bool) → is_own old x.path k ≡ a → IsReached (done ++ k ∷ []) (cond a (cond r c (with_copy x k (x.axioms k) (copy_of x c k) c)) (with_joined k c))
            (made ++ made_of x.mapping path x.within first (cond a (cond r (leaves own_decl) (step_of x k (x.axioms k) own_decl)) (joins own_decl)))
        of true true own = unchanged (λ z. absurd (let y : true ≡ false = sym own ∙ z in cc)) c refl refl refl
        of true false own = copied_here own (x.axioms k)
        of false r own = subst (λ (e : DeclarationTree). IsReached (done ++ k ∷ []) (with_joined k c) (made ++ made_of x.mapping path x.within first (joins e))) (sym (or_is old k d found.1)) (joined_here own)

  run : (ks done : List ℕ) (c : StateTree) (made : List DeclarationTree) → IsReached done c made → All (λ (k : ℕ). k < length old) ks → IsDistinct ks → ((k : ℕ) → Contains ks k → Contains done k → ⊥)
      → IsReached (done ++ ks) (with_places x ks c) (made ++ made_from x.mapping path x.within first (copy_steps_at x old ks))
  run [] done c made h low distinct apart = subst (λ (ds : List ℕ). IsReached ds c (made ++ [])) (sym (append-nil done)) (subst (IsReached done c) (sym (append-nil made)) h)
  run (k ∷ ks) done c made h low distinct apart =
      let here_low = All-head (λ (i : ℕ). i < length old) k ks low in
      let s = placed done c made h k here_low (λ i. apart k (here k ks) i) in
      let step = made_of x.mapping path x.within first (copy_step_at x old k) in
      let rest = run ks (done ++ k ∷ []) (with_place x k c) (made ++ step) s (All-tail (λ (i : ℕ). i < length old) k ks low) distinct.1 (λ j i z. split j i (Contains-append_cases done (k ∷ []) j z)) in
      subst (λ (ds : List ℕ). IsReached ds (with_places x (k ∷ ks) c) (made ++ made_from x.mapping path x.within first (copy_steps_at x old (k ∷ ks)))) (append_assoc done (k ∷ []) ks)
      (subst (IsReached ((done ++ k ∷ []) ++ ks) (with_places x (k ∷ ks) c)) (append_assoc made step (made_from x.mapping path x.within first (copy_steps_at x old ks))) rest)
    where
      split : (j : ℕ) → Contains ks j → Contains done j ⊎ Contains (k ∷ []) j → ⊥
      split j i (inl z) = apart j (later k j ks i) z
      split j i (inr z) = last (cases_of k j [] z)
        where
          last : (k ≡ j) ⊎ Contains [] j → ⊥
          last (inl e) = distinct.0 (subst (λ (n : ℕ). Contains ks n) (sym e) i)
          last (inr n) = none_here j n

  module _ (below : All (λ (k : ℕ). k < length old) c0.opened.visible) (once : IsDistinct c0.opened.visible) (ks : List ℕ) (low : All (λ (k : ℕ). k < length old) ks) (distinct : IsDistinct ks) where
    begun : IsReached [] c0 []
    begun = record { new = []; decls = sym (append-nil old); same_path = refl; below = below; list = sym (append-nil first); from = λ k l i. inl i; kept = λ k i. i; taken = λ k i o. absurd (none_here k i); news = λ k a l. absurd (omega (arith, a, l)); once = once }

    all_reached : IsReached ks (with_places x ks c0) (made_from x.mapping path x.within first (copy_steps_at x old ks))
    all_reached = run ks [] c0 [] begun low distinct (λ k i z. none_here k z)

    pub places_made : visible_now (with_places x ks c0) ≡ first ++ made_from x.mapping path x.within first (copy_steps_at x old ks)
    places_made = all_reached.list

    pub places_decls : (new : List DeclarationTree) × ((with_places x ks c0).decls ≡ old ++ new)
    places_decls = (all_reached.new, all_reached.decls)

-- ---- the places of a theory
module _ (x : Copying) (c : StateTree) (t : KnownTree) (same : x.path ≡ t.path) (whole : IsWhole c.decls c.opened.visible) (below : All (λ (k : ℕ). k < length c.decls) c.opened.visible) (once : IsDistinct c.opened.visible)
    (low : All (λ (k : ℕ). k < length c.decls) t.visible) (distinct : IsDistinct t.visible) where
  reached : IsReached x c whole t.visible (with_places x t.visible c) (made_from x.mapping c.opened.path x.within (visible_now c) (copy_steps_at x c.decls t.visible))
  reached = all_reached x c whole below once t.visible low distinct

  own_is : (k : ℕ) (d : DeclarationTree) → slice_get c.decls k ≡ Some d → is_own c.decls x.path k ≡ bytes_eq d.theory t.path
  own_is k d q = ap (λ (e : DeclarationTree). bytes_eq e.theory x.path) (or_is c.decls k d q) ∙ ap (bytes_eq d.theory) same

  not_own : (k : ℕ) (d : DeclarationTree) → slice_get c.decls k ≡ Some d → d.theory ≢ t.path → is_own c.decls x.path k ≡ false
  not_own k d q n = own_is k d q ∙ of (bytes_eq d.theory t.path) refl
    where
      of : (b : Bool) → bytes_eq d.theory t.path ≡ b → b ≡ false
      of true z = absurd (n (same_word d.theory t.path z))
      of false z = refl

  pub cloned_places : AreClonedPlaces c (with_places x t.visible c) t
  cloned_places = record {
    kept = λ k i. reached.kept k i;
    taken = λ k d i q n. reached.taken k i (not_own k d q n);
    new = λ k a l. reached.news k a l;
    from = λ k i. of k i (cases_lt k (length c.decls));
    apart = λ k d i q e. own_one k d q e (reached.from k (at k d q) i);
    below = reached.below;
    once = distinct_pairs (with_places x t.visible c).opened.visible reached.once;
  }
    where
      at : (k : ℕ) (d : DeclarationTree) → slice_get c.decls k ≡ Some d → k < length c.decls
      at k d q = by c.decls k q
        where
          by : (ds : List DeclarationTree) (k : ℕ) → slice_get ds k ≡ Some d → k < length ds
          by [] k q = absurd (cc)
          by (y ∷ ds) zero q = omega arith
          by (y ∷ ds) (suc k) q = let l = by ds k q in omega arith

      pick : (k : ℕ) → Contains c.opened.visible k ⊎ (Contains t.visible k × (is_own c.decls x.path k ≡ false)) → Contains c.opened.visible k ⊎ (Contains t.visible k ⊎ (length c.decls ≤ k))
      pick k (inl v) = inl v
      pick k (inr v) = inr (inl v.0)

      of : (k : ℕ) → Contains (with_places x t.visible c).opened.visible k → (k < length c.decls) ⊎ (length c.decls ≤ k) → Contains c.opened.visible k ⊎ (Contains t.visible k ⊎ (length c.decls ≤ k))
      of k i (inl l) = pick k (reached.from k l i)
      of k i (inr l) = inr (inr l)

      own_one : (k : ℕ) (d : DeclarationTree) → slice_get c.decls k ≡ Some d → d.theory ≡ t.path → Contains c.opened.visible k ⊎ (Contains t.visible k × (is_own c.decls x.path k ≡ false)) → Contains c.opened.visible k
      own_one k d q e (inl v) = v
      own_one k d q e (inr v) = absurd (let z : bytes_eq d.theory t.path ≡ true = ap (λ (i : List ℕ). bytes_eq i t.path) e ∙ self_word t.path in let y : true ≡ false = sym z ∙ (sym (own_is k d q) ∙ v.1) in cc)
