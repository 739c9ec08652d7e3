-- A theory that is used by a sound one leaves it sound.
use Rattle.std.proofs.Common.{◌≡◌, ◌≢◌, ◌⊎◌, inl, inr, ℕ, ◌<◌, not, ◌||◌, cond, Bool, true, false, List, [], ◌∷◌, ◌++◌, length, get_or, All, Option, IsTrue, refl, sym, ap, subst, ◌∙◌, arith, length-append, append-nil}
use Rattle.std.specs.List.{Contains}
use Rattle.std.specs.Str.{bytes_eq}
use Rattle.std.proofs.lemmas.List.{take-append-le}
use Rattle.std.proofs.lemmas.List.Elements.{All-append, All-contains, All-head, All-tail, Contains-get_or, filter-append}
use Rattle.elab_groups.specs.tasks.Task.{SymbolTree, DeclarationTree}
use Rattle.elab_groups.specs.surface.declared.declarations.Link.{Link}
use Rattle.theory_states.specs.Moves.{brought, handed}
use Rattle.theory_states.specs.goal_tasks.Theories.{GoalTree}
use Rattle.elaboration_laws.specs.Scopes.{IsSubvocabulary, IsTypedSignature, AreTypedScopes}
use Rattle.elaboration_laws.proofs.Words.{same_word, self_word}
use Rattle.elaboration_laws.proofs.Extended.{scopes_part}
use Rattle.elaboration_laws.specs.Moves.{IsTypedMove, AreTypedMoves}
use Rattle.elaboration_laws.proofs.MovedScopes.{brought_typed, handed_typed, moves_more}
use Rattle.elaboration_laws.specs.Lists.{after}
use Rattle.elaboration_laws.specs.Joined.{has_theory, fresh, Agree}
use Rattle.elaboration_laws.specs.Tasks.{AreSound, IsSoundAfter}
use Rattle.elaboration_laws.proofs.Distinct.{distinct_pairs, pairs_distinct}
use Rattle.elaboration_laws.proofs.Joined.{later_sound, first_part, second_part, later_typed}
use Rattle.theory_states.specs.States.{KnownTree, OpenedTree, at_places, joined_places}
use Rattle.theory_states.specs.Uses.{theory_used}
use Rattle.elaboration_laws.specs.Sound.{is_other, others, IsSoundAmong, IsSoundTheory, IsSoundOpened}
use Rattle.elaboration_laws.proofs.Places.{cases_of, here, joined_cases, joined_old, joined_distinct, places_agree, places_joined, joined_whole}
use Rattle.elaboration_laws.proofs.Numbers.{later}

-- ---- declarations of other theories
module _ (path : List ℕ) where
  abbrev p : DeclarationTree → Bool
  p d = is_other path d

  pub other_is : (d : DeclarationTree) → d.theory ≢ path → p d ≡ true
  other_is d n = of (bytes_eq d.theory path) refl
    where
      of : (b : Bool) → bytes_eq d.theory path ≡ b → not b ≡ true
      of true q = absurd (n (same_word d.theory path q))
      of false q = refl

  in_others : (ds : List DeclarationTree) (d : DeclarationTree) → p d ≡ true → Contains ds d → Contains (others path ds) d
  in_others [] d q h = h
  in_others (x ∷ ds) d q h = of (p x) refl (cases_of x d ds h) (λ z. in_others ds d q z)
    where
      of : (b : Bool) → p x ≡ b → (x ≡ d) ⊎ Contains ds d → (Contains ds d → Contains (others path ds) d) → Contains (cond b (x ∷ others path ds) (others path ds)) d
      of true e (inl z) f = (0, omega arith, z)
      of true e (inr z) f = later x d (others path ds) (f z)
      of false e (inl z) f = absurd (let u : p d ≡ false = ap p (sym z) ∙ e in let v : true ≡ false = sym q ∙ u in cc)
      of false e (inr z) f = f z

  -- a theory is there where it is there without this one
  pub theory_other : (ds : List DeclarationTree) (t : List ℕ) → t ≢ path → has_theory (others path ds) t ≡ has_theory ds t
  theory_other [] t n = refl
  theory_other (x ∷ ds) t n = of (bytes_eq x.theory path) refl (theory_other ds t n)
    where
      no : bytes_eq x.theory path ≡ true → (b : Bool) → bytes_eq x.theory t ≡ b → b ≡ false
      no q true z = absurd (n (sym (same_word x.theory t z) ∙ same_word x.theory path q))
      no q false z = refl

      of : (b : Bool) → bytes_eq x.theory path ≡ b → has_theory (others path ds) t ≡ has_theory ds t → has_theory (cond (not b) (x ∷ others path ds) (others path ds)) t ≡ (bytes_eq x.theory t || has_theory ds t)
      of true q z = z ∙ sym (ap (λ (b : Bool). b || has_theory ds t) (no q (bytes_eq x.theory t) refl))
      of false q z = ap (λ (b : Bool). bytes_eq x.theory t || b) z

  -- those that aren't there yet are of other theories
  fresh_others : (ds es : List DeclarationTree) → ((d : DeclarationTree) → Contains es d → d.theory ≢ path) → others path (fresh ds es) ≡ fresh (others path ds) es
  fresh_others ds [] h = refl
  fresh_others ds (e ∷ es) h = of (has_theory ds e.theory) refl (fresh_others ds es (λ d c. h d (later e d es c)))
    where
      other : p e ≡ true
      other = other_is e (h e (here e es))

      same : has_theory (others path ds) e.theory ≡ has_theory ds e.theory
      same = theory_other ds e.theory (h e (here e es))

      of : (b : Bool) → has_theory ds e.theory ≡ b → others path (fresh ds es) ≡ fresh (others path ds) es → others path (cond (not b) (e ∷ fresh ds es) (fresh ds es)) ≡ fresh (others path ds) (e ∷ es)
      of true q z = z ∙ sym (ap (λ (c : Bool). cond (not c) (e ∷ fresh (others path ds) es) (fresh (others path ds) es)) (same ∙ q))
      of false q z =
          ap (λ (c : Bool). cond c (e ∷ others path (fresh ds es)) (others path (fresh ds es))) other
          ∙ ap (λ (xs : List DeclarationTree). e ∷ xs) z
          ∙ sym (ap (λ (c : Bool). cond (not c) (e ∷ fresh (others path ds) es) (fresh (others path ds) es)) (same ∙ q))

  others_joined : (ds es : List DeclarationTree) → ((d : DeclarationTree) → Contains es d → d.theory ≢ path) → others path (ds ++ fresh ds es) ≡ others path ds ++ fresh (others path ds) es
  others_joined ds es h = filter-append p ds (fresh ds es) ∙ ap (λ (xs : List DeclarationTree). others path ds ++ xs) (fresh_others ds es h)

  pub others_agree : (ds es : List DeclarationTree) → ((d : DeclarationTree) → Contains es d → d.theory ≢ path) → Agree ds es → Agree (others path ds) es
  others_agree ds es h agree = λ i e l t.
      let d = get_or es i e in
      let c : Contains es d = Contains-get_or es i e l in
      in_others ds d (other_is d (h d c)) (agree i e l (subst (λ (b : Bool). IsTrue b) (theory_other ds d.theory (h d c)) t))

  -- with more of this theory
  pub others_more : (ds new : List DeclarationTree) → All (λ (d : DeclarationTree). d.theory ≡ path) new → others path (ds ++ new) ≡ others path ds
  others_more ds new h = filter-append p ds new ∙ ap (λ (xs : List DeclarationTree). others path ds ++ xs) (none new h) ∙ append-nil (others path ds)
    where
      none : (xs : List DeclarationTree) → All (λ (d : DeclarationTree). d.theory ≡ path) xs → others path xs ≡ []
      none [] g = refl
      none (x ∷ xs) g =
          let q : bytes_eq x.theory path ≡ true = ap (λ (t : List ℕ). bytes_eq t path) (All-head (λ (d : DeclarationTree). d.theory ≡ path) x xs g) ∙ self_word path in
          ap (λ (b : Bool). cond (not b) (x ∷ others path xs) (others path xs)) q ∙ none xs (All-tail (λ (d : DeclarationTree). d.theory ≡ path) x xs g)

-- ---- more declarations after those before a goal
pub among_more : (symbols : List SymbolTree) (xs ys : List DeclarationTree) (g : GoalTree) → IsSoundAmong symbols xs g → IsSoundAmong symbols (xs ++ ys) g
among_more symbols xs ys g h =
    let l = length-append xs ys in
    let b = h.before in
    record { before = omega (arith, l, b); sound = subst (λ (ds : List DeclarationTree). IsSoundAfter symbols ds g) (sym (take-append-le g.before xs ys h.before)) h.sound }

-- ---- a use
module _ (xs ys : List SymbolTree) (decls : List DeclarationTree) (o : OpenedTree) (h : IsSoundOpened (xs ++ ys) decls o) (t : KnownTree)
    (k : IsSoundTheory (xs ++ ys) xs decls t.path t.visible t.axioms t.goals t.moves) (apart : All (λ (d : DeclarationTree). d.theory ≢ o.path) (at_places decls t.visible)) where
  abbrev all : List SymbolTree
  all = xs ++ ys

  abbrev ds : List DeclarationTree
  ds = at_places decls o.visible

  abbrev es : List DeclarationTree
  es = at_places decls t.visible

  abbrev both : List DeclarationTree
  both = ds ++ fresh ds es

  join : at_places decls (joined_places o.visible t.visible) ≡ both
  join = places_joined decls o.visible h.theory.whole t.visible k.below (pairs_distinct t.visible k.once)

  agree : Agree ds es
  agree = places_agree decls o.visible t.visible h.theory.whole

  strange : (d : DeclarationTree) → Contains es d → d.theory ≢ o.path
  strange d c = All-contains (λ (e : DeclarationTree). e.theory ≢ o.path) es d apart c

  first : IsSubvocabulary (after all [] ds) (after all [] both)
  first = first_part xs ys ds es h.theory.sound k.sound agree

  second : IsSubvocabulary (after xs [] es) (after all [] both)
  second = second_part xs ys ds es h.theory.sound k.sound agree

  abbrev old_others : List DeclarationTree
  old_others = others o.path ds

  new_others : AreSound all (others o.path both)
  new_others = subst (AreSound all) (sym (others_joined o.path ds es strange)) (later_sound xs ys old_others es h.theory.others k.sound (others_agree o.path ds es strange agree))

  handed_on : (link : Link) → AreTypedMoves (after all [] both) (handed link t.moves)
  handed_on link = handed_typed (after all [] both) link t.moves (moves_more (after xs [] es) (after all [] both) second t.moves k.typed_moves)

  below : All (λ (i : ℕ). i < length decls) (joined_places o.visible t.visible)
  below = λ i d l. of (get_or (joined_places o.visible t.visible) i d) (joined_cases o.visible t.visible (get_or (joined_places o.visible t.visible) i d) (Contains-get_or (joined_places o.visible t.visible) i d l))
    where
      of : (j : ℕ) → Contains o.visible j ⊎ Contains t.visible j → j < length decls
      of j (inl c) = All-contains (λ (i : ℕ). i < length decls) o.visible j h.theory.below c
      of j (inr c) = All-contains (λ (i : ℕ). i < length decls) t.visible j k.below c

  used_theory : (link : Link) → IsSoundTheory all all decls o.path (joined_places o.visible t.visible) o.axioms o.goals (o.moves ++ handed link t.moves)
  used_theory link = record {
    sound = subst (AreSound all) (sym join) (later_sound xs ys ds es h.theory.sound k.sound agree);
    others = subst (λ (zs : List DeclarationTree). AreSound all (others o.path zs)) (sym join) new_others;
    signature = subst (λ (zs : List DeclarationTree). IsTypedSignature (after all [] zs) all) (sym join) (later_typed xs ys ds es h.theory.sound k.sound agree h.theory.signature k.signature);
    typed_moves = subst (λ (zs : List DeclarationTree). AreTypedMoves (after all [] zs) (o.moves ++ handed link t.moves)) (sym join)
        (All-append (IsTypedMove (after all [] both)) o.moves (handed link t.moves) (moves_more (after all [] ds) (after all [] both) first o.moves h.theory.typed_moves) (handed_on link));
    sound_goals = λ i g l. subst (λ (zs : List DeclarationTree). IsSoundAmong all zs (get_or o.goals i g)) (sym join) (among_more all ds (fresh ds es) (get_or o.goals i g) (h.theory.sound_goals i g l));
    sound_axioms = h.theory.sound_axioms;
    below = below;
    once = distinct_pairs (joined_places o.visible t.visible) (joined_distinct o.visible t.visible (pairs_distinct o.visible h.theory.once));
    whole = joined_whole decls o.visible t.visible h.theory.whole k.whole;
  }

  pub used_sound : (link : Link) (last : List ℕ) (alias : Option (List ℕ)) → IsSoundOpened all decls (theory_used link last alias t o)
  used_sound link last alias = record {
    named = h.named;
    source = h.source;
    theory = used_theory link;
    scopes = subst (λ (zs : List DeclarationTree). AreTypedScopes (after all [] zs) (brought link last alias t.moves o.scope)) (sym join)
        (brought_typed (after all [] both) link last alias t.moves o.scope (moves_more (after xs [] es) (after all [] both) second t.moves k.typed_moves)
        (scopes_part (after all [] ds) (after all [] both) first o.scope h.scopes));
    own = λ j d q e. joined_old o.visible t.visible j (h.own j d q e);
  }
