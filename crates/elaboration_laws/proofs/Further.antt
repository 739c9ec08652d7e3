-- A theory with further declarations of its own is sound, and so are the theories before it.
use Rattle.std.proofs.Common.{◌≡◌, ◌≢◌, ◌⊎◌, inl, inr, ℕ, ◌+◌, ◌<◌, zero, suc, Bool, true, false, List, [], ◌∷◌, ◌++◌, length, get_or, slice_get, take, All, AllPairs, Option, Some, refl, sym, ap, subst, ◌∙◌, arith, length-append, append_assoc}
use Rattle.std.specs.List.{Contains, range_with_len}
use Rattle.std.specs.Option.{option_to_list}
use Rattle.std.specs.Str.{bytes_eq}
use Rattle.std.proofs.lemmas.List.Elements.{All-append, All-contains, All-head, All-tail, Contains-get_or, Contains-append_left, Contains-append_right, Contains-append_cases}
use Rattle.elab_groups.specs.tasks.Task.{SymbolTree, DeclarationTree}
use Rattle.elab_groups.specs.tasks.Vocabulary.{Vocabulary, is_empty}
use Rattle.elab_groups.specs.parts.Entries.{builtin}
use Rattle.theory_states.specs.goal_tasks.Theories.{GoalTree}
use Rattle.theory_states.specs.Moves.{MoveTree}
use Rattle.elaboration_laws.specs.Scopes.{IsSubvocabulary, IsTypedSignature, AreTypedScopes}
use Rattle.elaboration_laws.proofs.Words.{same_word, self_word}
use Rattle.elaboration_laws.specs.Moves.{IsTypedMove, AreTypedMoves}
use Rattle.elaboration_laws.proofs.MovedScopes.{moves_more}
use Rattle.elaboration_laws.specs.Lists.{after}
use Rattle.elaboration_laws.proofs.Lists.{list_part}
use Rattle.elaboration_laws.specs.Built.{IsBuiltRight}
use Rattle.elaboration_laws.specs.Tasks.{AreSound}
use Rattle.elaboration_laws.proofs.Distinct.{IsDistinct, distinct_pairs, pairs_distinct, distinct_both, range_contains, range_distinct}
use Rattle.elaboration_laws.proofs.TupleDecls.{in_range}
use Rattle.elaboration_laws.proofs.Grown.{more_part, sound_more, after_more}
use Rattle.theory_states.specs.declared.states.AxiomAt.{AxiomAt}
use Rattle.theory_states.specs.States.{KnownTree, OpenedTree, StateTree, at_places, visible_now}
use Rattle.elaboration_laws.specs.Whole.{IsWhole}
use Rattle.elaboration_laws.specs.Sound.{others, IsSoundAmong, IsSoundAxiom, IsSoundTheory, IsSoundKnown, IsApart, IsSoundOpened, paths, AreOf, IsSoundState, IsAfter, IsSoundAddition}
use Rattle.elaboration_laws.proofs.Places.{none_here, cases_of, there, further, at_both, in_places, slice_in, places_grown}
use Rattle.elaboration_laws.proofs.Used.{among_more, others_more}

-- ---- declarations after others
below : (xs : List DeclarationTree) (k : ℕ) (d : DeclarationTree) → slice_get xs k ≡ Some d → k < length xs
below [] k d q = absurd (cc)
below (x ∷ xs) zero d q = omega arith
below (x ∷ xs) (suc k) d q = let l = below xs k d q in omega arith

pub slice_either : (xs ys : List DeclarationTree) (k : ℕ) (d : DeclarationTree) → slice_get (xs ++ ys) k ≡ Some d → (slice_get xs k ≡ Some d) ⊎ ((i : ℕ) × (k ≡ length xs + i) × (slice_get ys i ≡ Some d))
slice_either [] ys k d q = inr (k, omega arith, q)
slice_either (x ∷ xs) ys zero d q = inl q
slice_either (x ∷ xs) ys (suc k) d q = of (slice_either xs ys k d q)
  where
    of : (slice_get xs k ≡ Some d) ⊎ ((i : ℕ) × (k ≡ length xs + i) × (slice_get ys i ≡ Some d)) → (slice_get (x ∷ xs) (suc k) ≡ Some d) ⊎ ((i : ℕ) × (suc k ≡ length (x ∷ xs) + i) × (slice_get ys i ≡ Some d))
    of (inl z) = inl z
    of (inr z) = inr (z.0, omega (arith, z.1), z.2)

first_of : (xs ys : List DeclarationTree) (y : DeclarationTree) → slice_get (xs ++ y ∷ ys) (length xs) ≡ Some y
first_of [] ys y = refl
first_of (x ∷ xs) ys y = first_of xs ys y

at_range : (xs ys : List DeclarationTree) → at_places (xs ++ ys) (range_with_len (length xs) (length ys)) ≡ ys
at_range xs [] = refl
at_range xs (y ∷ ys) =
    let same : (xs ++ y ∷ []) ++ ys ≡ xs ++ y ∷ ys = append_assoc xs (y ∷ []) ys in
    let count : length (xs ++ y ∷ []) ≡ length xs + 1 = length-append xs (y ∷ []) in
    let rest : at_places (xs ++ y ∷ ys) (range_with_len (length xs + 1) (length ys)) ≡ ys =
    ap (λ (zs : List DeclarationTree). at_places zs (range_with_len (length xs + 1) (length ys))) (sym same)
    ∙ ap (λ (n : ℕ). at_places ((xs ++ y ∷ []) ++ ys) (range_with_len n (length ys))) (sym count)
    ∙ at_range (xs ++ y ∷ []) ys in
    ap (λ (o : Option DeclarationTree). option_to_list o ++ at_places (xs ++ y ∷ ys) (range_with_len (length xs + 1) (length ys))) (first_of xs ys y)
    ∙ ap (λ (zs : List DeclarationTree). y ∷ zs) rest

range_below : (a m j : ℕ) → Contains (range_with_len a m) j → j < a + m
range_below a zero j c = absurd (none_here j c)
range_below a (suc m) j c = of (cases_of a j (range_with_len (a + 1) m) c) (λ z. range_below (a + 1) m j z)
  where
    of : (a ≡ j) ⊎ Contains (range_with_len (a + 1) m) j → (Contains (range_with_len (a + 1) m) j → j < a + 1 + m) → j < a + suc m
    of (inl e) f = omega (arith, e)
    of (inr z) f = let l = f z in omega (arith, l)

pub axiom_more : (decls new : List DeclarationTree) (a : AxiomAt) → IsSoundAxiom decls a → IsSoundAxiom (decls ++ new) a
axiom_more decls new a h = record {
  there = let b = h.there in let n = length-append decls new in omega (arith, b, n);
  count = λ d q. let x = there decls a.decl h.there in let z : Some x.0 ≡ Some d = sym (further decls new a.decl x.0 x.1) ∙ q in h.count d (x.1 ∙ z);
  quoted = h.quoted;
}

-- ---- a theory before, as more is known
module _ (all more : List SymbolTree) (built : IsBuiltRight (all ++ more)) (decls new : List DeclarationTree) (path : List ℕ) (of : All (λ (d : DeclarationTree). d.theory ≡ path) new) where
  new_theory : (i : ℕ) (d : DeclarationTree) → slice_get new i ≡ Some d → d.theory ≡ path
  new_theory i d q = by new i d q of
    where
      by : (ds : List DeclarationTree) (i : ℕ) (d : DeclarationTree) → slice_get ds i ≡ Some d → All (λ (x : DeclarationTree). x.theory ≡ path) ds → d.theory ≡ path
      by [] i d q h = absurd (cc)
      by (x ∷ ds) zero d q h = let e : x ≡ d = cc in ap (λ (z : DeclarationTree). z.theory) (sym e) ∙ All-head (λ (z : DeclarationTree). z.theory ≡ path) x ds h
      by (x ∷ ds) (suc i) d q h = by ds i d q (All-tail (λ (z : DeclarationTree). z.theory ≡ path) x ds h)

  module _ (t : KnownTree) (apart : IsApart decls path t) (xs : List SymbolTree) (h : IsSoundTheory all xs decls t.path t.visible t.axioms t.goals t.moves) where
    same : at_places (decls ++ new) t.visible ≡ at_places decls t.visible
    same = places_grown decls new t.visible h.below

    old : (k : ℕ) (e : DeclarationTree) → Contains t.visible k → slice_get (decls ++ new) k ≡ Some e → slice_get decls k ≡ Some e
    old k e c q =
        let x = there decls k (All-contains (λ (i : ℕ). i < length decls) t.visible k h.below c) in
        let z : Some x.0 ≡ Some e = sym (further decls new k x.0 x.1) ∙ q in
        x.1 ∙ z

    still_whole : IsWhole (decls ++ new) t.visible
    still_whole = λ j k d e q r c u. by j k d e (slice_either decls new j d q) (old k e c r) c u
      where
        by : (j k : ℕ) (d e : DeclarationTree) → (slice_get decls j ≡ Some d) ⊎ ((i : ℕ) × (j ≡ length decls + i) × (slice_get new i ≡ Some d)) → slice_get decls k ≡ Some e → Contains t.visible k → d.theory ≡ e.theory → Contains t.visible j
        by j k d e (inl q) r c u = h.whole j k d e q r c u
        by j k d e (inr z) r c u = absurd (All-contains (λ (x : DeclarationTree). x.theory ≢ path) (at_places decls t.visible) e apart (in_places decls t.visible k e c r) (sym u ∙ new_theory z.0 d z.2))

    known_theory : IsSoundTheory (all ++ more) xs (decls ++ new) t.path t.visible t.axioms t.goals t.moves
    known_theory = record {
      sound = subst (AreSound xs) (sym same) h.sound;
      others = subst (λ (ds : List DeclarationTree). AreSound xs (others t.path ds)) (sym same) h.others;
      signature = subst (λ (ds : List DeclarationTree). IsTypedSignature (after xs [] ds) xs) (sym same) h.signature;
      typed_moves = subst (λ (ds : List DeclarationTree). AreTypedMoves (after xs [] ds) t.moves) (sym same) h.typed_moves;
      sound_goals = λ i x l. subst (λ (ds : List DeclarationTree). IsSoundAmong (all ++ more) ds (get_or t.goals i x)) (sym same) (goal_more (get_or t.goals i x) (h.sound_goals i x l));
      sound_axioms = λ i a l. axiom_more decls new (get_or t.axioms i a) (h.sound_axioms i a l);
      below = λ i d l. let b = h.below i d l in let n = length-append decls new in omega (arith, b, n);
      once = h.once;
      whole = still_whole;
    }
      where
        goal_more : (x : GoalTree) → IsSoundAmong all (at_places decls t.visible) x → IsSoundAmong (all ++ more) (at_places decls t.visible) x
        goal_more x y = record { before = y.before; sound = after_more all more (take x.before (at_places decls t.visible)) x y.sound built }

    still_apart : IsApart (decls ++ new) path t
    still_apart = subst (All (λ (d : DeclarationTree). d.theory ≢ path)) (sym same) apart

  pub known_further : (t : KnownTree) → IsApart decls path t → IsSoundKnown all decls t → IsSoundKnown (all ++ more) (decls ++ new) t
  known_further t apart h = record {
    earlier = h.earlier;
    later = h.later ++ more;
    symbols = ap (λ (es : List SymbolTree). es ++ more) h.symbols ∙ append_assoc h.earlier h.later more;
    theory = known_theory t apart h.earlier h.theory;
  }

  pub apart_further : (t : KnownTree) → IsApart decls path t → IsSoundKnown all decls t → IsApart (decls ++ new) path t
  apart_further t apart h = still_apart t apart h.earlier h.theory

-- ---- the open theory
pub part_then : (u v w : Vocabulary) → IsSubvocabulary u v → IsSubvocabulary v w → IsSubvocabulary u w
part_then u v w a b = record {
  entries = λ k e q. b.entries k e (a.entries k e q);
  rigid = λ k e q h. b.rigid k e (a.entries k e q) (a.rigid k e q h);
  usable = λ k e q h. b.usable k e (a.entries k e q) (a.usable k e q h);
  matched = λ k e q h. b.matched k e (a.entries k e q) (a.matched k e q h);
}

module _ (all more : List SymbolTree) (decls new : List DeclarationTree) (o o' : OpenedTree) (h : IsSoundOpened all decls o) (of : All (λ (d : DeclarationTree). d.theory ≡ o.path) new)
    (path : o'.path ≡ o.path) (visible : o'.visible ≡ o.visible ++ range_with_len (length decls) (length new)) where
  abbrev ds : List DeclarationTree
  ds = at_places decls o.visible

  abbrev both : List DeclarationTree
  both = ds ++ new

  abbrev places : List ℕ
  places = range_with_len (length decls) (length new)

  now : at_places (decls ++ new) o'.visible ≡ both
  now =
      ap (at_places (decls ++ new)) visible ∙ at_both (decls ++ new) o.visible places
      ∙ ap (λ (xs : List DeclarationTree). xs ++ at_places (decls ++ new) places) (places_grown decls new o.visible h.theory.below)
      ∙ ap (λ (xs : List DeclarationTree). ds ++ xs) (at_range decls new)

  new_of : (i : ℕ) (d : DeclarationTree) → slice_get new i ≡ Some d → d.theory ≡ o.path
  new_of i d q = All-contains (λ (x : DeclarationTree). x.theory ≡ o.path) new d of (slice_in new i d q)

  -- its places
  own_now : (k : ℕ) (d : DeclarationTree) → slice_get (decls ++ new) k ≡ Some d → d.theory ≡ o.path → Contains (o.visible ++ places) k
  own_now k d q e = by (slice_either decls new k d q)
    where
      by : (slice_get decls k ≡ Some d) ⊎ ((i : ℕ) × (k ≡ length decls + i) × (slice_get new i ≡ Some d)) → Contains (o.visible ++ places) k
      by (inl z) = Contains-append_left o.visible places k (h.own k d z e)
      by (inr z) =
          let l = below new z.0 d z.2 in
          Contains-append_right o.visible places k (in_range (length decls) (length new) k (let p = z.1 in omega arith) (omega (arith, l, z.1)))

  whole_now : IsWhole (decls ++ new) (o.visible ++ places)
  whole_now = λ j k d e q r c u. by j k d e q r c u (bytes_eq d.theory o.path) refl
    where
      old : (j k : ℕ) (d e : DeclarationTree) → (d.theory ≡ o.path → ⊥) → d.theory ≡ e.theory → (slice_get decls j ≡ Some d) ⊎ ((i : ℕ) × (j ≡ length decls + i) × (slice_get new i ≡ Some d))
          → (slice_get decls k ≡ Some e) ⊎ ((i : ℕ) × (k ≡ length decls + i) × (slice_get new i ≡ Some e)) → Contains o.visible k ⊎ Contains places k → Contains (o.visible ++ places) j
      old j k d e n u (inr z) r c = absurd (n (new_of z.0 d z.2))
      old j k d e n u (inl q) (inr z) c = absurd (n (u ∙ new_of z.0 e z.2))
      old j k d e n u (inl q) (inl r) (inl c) = Contains-append_left o.visible places j (h.theory.whole j k d e q r c u)
      old j k d e n u (inl q) (inl r) (inr c) = absurd (let a = range_contains (length decls) (length new) k c in let b = below decls k e r in omega arith)

      by : (j k : ℕ) (d e : DeclarationTree) → slice_get (decls ++ new) j ≡ Some d → slice_get (decls ++ new) k ≡ Some e → Contains (o.visible ++ places) k → d.theory ≡ e.theory → (b : Bool) → bytes_eq d.theory o.path ≡ b → Contains (o.visible ++ places) j
      by j k d e q r c u true z = own_now j d q (same_word d.theory o.path z)
      by j k d e q r c u false z =
          old j k d e (λ w. let x : bytes_eq d.theory o.path ≡ true = ap (λ (t : List ℕ). bytes_eq t o.path) w ∙ self_word o.path in let y : true ≡ false = sym x ∙ z in cc) u
          (slice_either decls new j d q) (slice_either decls new k e r) (Contains-append_cases o.visible places k c)

  below_now : All (λ (k : ℕ). k < length (decls ++ new)) (o.visible ++ places)
  below_now = All-append (λ (k : ℕ). k < length (decls ++ new)) o.visible places (λ i d l. let b = h.theory.below i d l in let n = length-append decls new in omega (arith, b, n))
      (λ i d l. let b = range_below (length decls) (length new) (get_or places i d) (Contains-get_or places i d l) in let n = length-append decls new in omega (arith, b, n))

  once_now : IsDistinct (o.visible ++ places)
  once_now = distinct_both o.visible places (pairs_distinct o.visible h.theory.once) (range_distinct (length decls) (length new))
      (λ k c d. let a = All-contains (λ (i : ℕ). i < length decls) o.visible k h.theory.below c in let b = range_contains (length decls) (length new) k d in omega arith)

  module _ (axioms : List AxiomAt) (goals : List GoalTree) (moves : List MoveTree) (axioms_are : o'.axioms ≡ o.axioms ++ axioms) (assumed : All (IsSoundAxiom (decls ++ new)) axioms) (goals_are : o'.goals ≡ o.goals ++ goals) (moves_are : o'.moves ≡ o.moves ++ moves)
      (sound : AreSound (all ++ more) both) (signature : IsTypedSignature (after (all ++ more) [] both) (all ++ more)) (scopes : AreTypedScopes (after (all ++ more) [] both) o'.scope)
      (typed : AreTypedMoves (after (all ++ more) [] both) moves) (said : All (IsSoundAmong (all ++ more) both) goals) where
    part : IsSubvocabulary (after all [] ds) (after (all ++ more) [] both)
    part = part_then (after all [] ds) (after (all ++ more) [] ds) (after (all ++ more) [] both) (more_part all more [] ds) (list_part (all ++ more) [] ds new)

    goal_still : (x : GoalTree) → IsSoundAmong all ds x → IsSoundAmong (all ++ more) both x
    goal_still x y = among_more (all ++ more) ds new x (record { before = y.before; sound = after_more all more (take x.before ds) x y.sound sound.built })

    other_sound : AreSound (all ++ more) (others o'.path both)
    other_sound =
        subst (λ (p : List ℕ). AreSound (all ++ more) (others p both)) (sym path)
        (subst (AreSound (all ++ more)) (sym (others_more o.path ds new of)) (sound_more all more (others o.path ds) h.theory.others sound.built))

    theory_now : IsSoundTheory (all ++ more) (all ++ more) (decls ++ new) o'.path o'.visible o'.axioms o'.goals o'.moves
    theory_now = record {
      sound = subst (AreSound (all ++ more)) (sym now) sound;
      others = subst (λ (zs : List DeclarationTree). AreSound (all ++ more) (others o'.path zs)) (sym now) other_sound;
      signature = subst (λ (zs : List DeclarationTree). IsTypedSignature (after (all ++ more) [] zs) (all ++ more)) (sym now) signature;
      typed_moves = subst (λ (zs : List DeclarationTree). AreTypedMoves (after (all ++ more) [] zs) o'.moves) (sym now)
          (subst (AreTypedMoves (after (all ++ more) [] both)) (sym moves_are)
          (All-append (IsTypedMove (after (all ++ more) [] both)) o.moves moves (moves_more (after all [] ds) (after (all ++ more) [] both) part o.moves h.theory.typed_moves) typed));
      sound_goals = subst (λ (zs : List DeclarationTree). All (IsSoundAmong (all ++ more) zs) o'.goals) (sym now)
          (subst (All (IsSoundAmong (all ++ more) both)) (sym goals_are)
          (All-append (IsSoundAmong (all ++ more) both) o.goals goals (λ i x l. goal_still (get_or o.goals i x) (h.theory.sound_goals i x l)) said));
      sound_axioms = subst (All (IsSoundAxiom (decls ++ new))) (sym axioms_are) (All-append (IsSoundAxiom (decls ++ new)) o.axioms axioms (λ i a l. axiom_more decls new (get_or o.axioms i a) (h.theory.sound_axioms i a l)) assumed);
      below = subst (All (λ (k : ℕ). k < length (decls ++ new))) (sym visible) below_now;
      once = subst (AllPairs (λ (j k : ℕ). j ≢ k)) (sym visible) (distinct_pairs (o.visible ++ places) once_now);
      whole = subst (IsWhole (decls ++ new)) (sym visible) whole_now;
    }

    pub opened_further : IsSoundOpened (all ++ more) (decls ++ new) o'
    opened_further = record {
      named = ap is_empty path ∙ h.named;
      source = ap (λ (p : List ℕ). bytes_eq p builtin) path ∙ h.source;
      theory = theory_now;
      scopes = subst (λ (zs : List DeclarationTree). AreTypedScopes (after (all ++ more) [] zs) o'.scope) (sym now) scopes;
      own = λ k d q e. subst (λ (ks : List ℕ). Contains ks k) (sym visible) (own_now k d q (e ∙ path));
    }

-- ---- a state
pub state_further : (c c' : StateTree) (more : List SymbolTree) (new : List DeclarationTree) (axioms : List AxiomAt) (goals : List GoalTree) (moves : List MoveTree) → IsSoundState c → IsAfter c c' more new axioms goals moves → IsSoundAddition c c' new axioms goals moves → IsSoundState c'
state_further c c' more new axioms goals moves h a add = record {
  opened = subst (λ (es : List SymbolTree). IsSoundOpened es c'.decls c'.opened) (sym a.symbols)
      (subst (λ (zs : List DeclarationTree). IsSoundOpened (c.symbols ++ more) zs c'.opened) (sym a.decls) opened);
  known = subst (λ (es : List SymbolTree). All (IsSoundKnown es c'.decls) c'.known) (sym a.symbols)
      (subst (λ (zs : List DeclarationTree). All (IsSoundKnown (c.symbols ++ more) zs) c'.known) (sym a.decls)
      (subst (All (IsSoundKnown (c.symbols ++ more) (c.decls ++ new))) (sym a.known)
      (λ i t l. known_further c.symbols more built c.decls new c.opened.path a.of (get_or c.known i t) (h.apart i t l) (h.known i t l))));
  apart = subst (λ (p : List ℕ). All (IsApart c'.decls p) c'.known) (sym a.path)
      (subst (λ (zs : List DeclarationTree). All (IsApart zs c.opened.path) c'.known) (sym a.decls)
      (subst (All (IsApart (c.decls ++ new) c.opened.path)) (sym a.known)
      (λ i t l. apart_further c.symbols more built c.decls new c.opened.path a.of (get_or c.known i t) (h.apart i t l) (h.known i t l))));
  of = subst (λ (p : List ℕ). AreOf (p ∷ paths c'.known) c'.decls) (sym a.path)
      (subst (λ (ts : List KnownTree). AreOf (c.opened.path ∷ paths ts) c'.decls) (sym a.known)
      (subst (AreOf (c.opened.path ∷ paths c.known)) (sym a.decls)
      (All-append (λ (d : DeclarationTree). Contains (c.opened.path ∷ paths c.known) d.theory) c.decls new h.of (λ i d l. (0, omega arith, sym (a.of i d l))))));
}
  where
    built : IsBuiltRight (c.symbols ++ more)
    built = subst IsBuiltRight a.symbols add.sound.built

    opened : IsSoundOpened (c.symbols ++ more) (c.decls ++ new) c'.opened
    opened = opened_further c.symbols more c.decls new c.opened c'.opened h.opened a.of a.path a.visible axioms goals moves a.axioms_are (subst (λ (zs : List DeclarationTree). All (IsSoundAxiom zs) axioms) a.decls add.sound_axioms) a.goals_are a.moves_are
        (subst (λ (es : List SymbolTree). AreSound es (visible_now c ++ new)) a.symbols add.sound)
        (subst (λ (es : List SymbolTree). IsTypedSignature (after es [] (visible_now c ++ new)) es) a.symbols add.signature)
        (subst (λ (es : List SymbolTree). AreTypedScopes (after es [] (visible_now c ++ new)) c'.opened.scope) a.symbols add.scopes)
        (subst (λ (es : List SymbolTree). AreTypedMoves (after es [] (visible_now c ++ new)) moves) a.symbols add.typed_moves)
        (subst (λ (es : List SymbolTree). All (IsSoundAmong es (visible_now c ++ new)) goals) a.symbols add.sound_goals)
