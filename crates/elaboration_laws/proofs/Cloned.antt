-- A state after a clone is sound.
use Rattle.std.proofs.Common.{◌≡◌, ◌≢◌, ◌⊎◌, inl, inr, ℕ, ◌+◌, ◌<◌, ◌≤◌, zero, suc, Bool, true, false, List, [], ◌∷◌, ◌++◌, length, get_or, slice_get, take, All, Contains, Option, Some, IsTrue, refl, sym, ap, subst, ◌∙◌, arith, append_assoc}
use Rattle.std.specs.List.{filter}
use Rattle.std.specs.Str.{bytes_eq}
use Rattle.std.proofs.lemmas.List.Elements.{All-append, All-contains, All-filter, Contains-get_or, filter-append}
use Rattle.elab_groups.specs.tasks.Task.{SymbolTree, DeclarationTree, made_by}
use Rattle.elab_groups.specs.tasks.Vocabulary.{is_empty}
use Rattle.clones.specs.Mapped.{Map}
use Rattle.elab_groups.specs.surface.declared.declarations.Link.{Link}
use Rattle.theory_states.specs.Moves.{MoveTree, handed}
use Rattle.elab_groups.specs.open_types.Scoped.{IsScopedEntry}
use Rattle.elab_groups.specs.parts.Entries.{builtin}
use Rattle.elaboration_laws.specs.Scopes.{IsSubvocabulary, IsTypedSignature, AreTypedScopes}
use Rattle.elaboration_laws.proofs.Words.{same_word, self_word}
use Rattle.elaboration_laws.proofs.Extended.{scopes_part}
use Rattle.elaboration_laws.specs.Moves.{IsTypedMove, AreTypedMoves}
use Rattle.elaboration_laws.proofs.MovedScopes.{brought_typed, handed_typed, moves_more}
use Rattle.elaboration_laws.specs.Lists.{after}
use Rattle.elaboration_laws.proofs.Lists.{list_part}
use Rattle.theory_states.specs.goal_tasks.Theories.{GoalTree}
use Rattle.elaboration_laws.specs.Built.{IsBuiltRight}
use Rattle.elaboration_laws.specs.Joined.{has_theory, fresh, Agree}
use Rattle.elaboration_laws.specs.Tasks.{AreSound}
use Rattle.elaboration_laws.proofs.Grown.{more_part, sound_more, after_more}
use Rattle.elaboration_laws.proofs.Joined.{later_sound, into_made}
use Rattle.theory_states.specs.declared.states.AxiomAt.{AxiomAt}
use Rattle.theory_states.specs.States.{KnownTree, StateTree, visible_in, visible_now}
use Rattle.elaboration_laws.specs.Whole.{IsWhole}
use Rattle.elaboration_laws.specs.Sound.{is_other, others, IsSoundAmong, IsSoundAxiom, IsSoundTheory, IsSoundKnown, IsApart, IsSoundOpened, paths, AreOf, IsSoundState}
use Rattle.elaboration_laws.proofs.Places.{places_agree, slice_in}
use Rattle.elaboration_laws.proofs.Used.{others_agree, among_more}
use Rattle.elaboration_laws.proofs.Further.{slice_either, known_further, apart_further, axiom_more}
use Rattle.elaboration_laws.specs.Cloning.{IsMadeRight, AreMadeRight, IsCloning}
use Rattle.elaboration_laws.specs.Steps.{CopyStep, declarations_of, taken_of, made_from, IsClone}
use Rattle.elaboration_laws.proofs.Vocabularies.{made_below}
use Rattle.elaboration_laws.proofs.CopiedSignatures.{made_right, signature_of}
use Rattle.elaboration_laws.proofs.ClonedGoals.{right_more}
use Rattle.elaboration_laws.proofs.CloneSteps.{clone_sound}
use Rattle.elaboration_laws.specs.Cloned.{IsAfterClone, IsSoundClone}
use Rattle.elaboration_laws.proofs.StateOthers.{others_made, made_right_of}

filtered_in : (p : DeclarationTree → Bool) (ds : List DeclarationTree) (d : DeclarationTree) → Contains (filter p ds) d → Contains ds d
filtered_in p ds d c = All-contains (Contains ds) (filter p ds) d (All-filter p (Contains ds) ds (λ i e l. Contains-get_or ds i e l)) c

module _ (c c' : StateTree) (t : KnownTree) (tuples more : List SymbolTree) (new : List DeclarationTree) (m : Map) (within : List ℕ) (ss : List CopyStep) (axioms : List AxiomAt) (goals : List GoalTree) (link : Link) (last : List ℕ) (alias : Option (List ℕ)) (moves : List MoveTree)
    (h : IsSoundState c) (known : IsSoundKnown c.symbols c.decls t) (apart : IsApart c.decls c.opened.path t)
    (a : IsAfterClone c c' t tuples more new m within ss axioms goals link last alias moves) (s : IsSoundClone c c' tuples more m within ss axioms goals moves) where
  abbrev p : List ℕ
  p = c.opened.path

  abbrev first : List DeclarationTree
  first = visible_now c

  abbrev es : List DeclarationTree
  es = visible_in c t

  abbrev xs : List SymbolTree
  xs = c.symbols ++ tuples

  abbrev all : List SymbolTree
  all = xs ++ more

  abbrev now : List DeclarationTree
  now = first ++ made_from m p within first ss

  -- ---- what was there, over the signature afterwards
  built_all : IsBuiltRight all
  built_all = subst IsBuiltRight a.symbols s.built

  grown : all ≡ c.symbols ++ (tuples ++ more)
  grown = append_assoc c.symbols tuples more

  earlier_is : xs ≡ known.earlier ++ (known.later ++ tuples)
  earlier_is = ap (λ (zs : List SymbolTree). zs ++ tuples) known.symbols ∙ append_assoc known.earlier known.later tuples

  sound_here : (ds : List DeclarationTree) → AreSound c.symbols ds → AreSound all ds
  sound_here ds g = subst (λ (zs : List SymbolTree). AreSound zs ds) (sym grown) (sound_more c.symbols (tuples ++ more) ds g (subst IsBuiltRight grown built_all))

  sound_there : (ds : List DeclarationTree) → AreSound known.earlier ds → AreSound xs ds
  sound_there ds g = subst (λ (zs : List SymbolTree). AreSound zs ds) (sym earlier_is) (sound_more known.earlier (known.later ++ tuples) ds g (subst IsBuiltRight earlier_is s.tupled))

  es_sound : AreSound xs es
  es_sound = sound_there es known.theory.sound

  strange : (d : DeclarationTree) → Contains (taken_of ss) d → d.theory ≢ p
  strange d i = All-contains (λ (x : DeclarationTree). x.theory ≢ p) es d apart (filtered_in (is_other t.path) es d (subst (λ (ds : List DeclarationTree). Contains ds d) a.taken_are i))

  agree : Agree first (taken_of ss)
  agree = subst (Agree first) (sym a.taken_are) (All-filter (is_other t.path) (λ (e : DeclarationTree). IsTrue (has_theory first e.theory) → Contains first e) es (places_agree c.decls c.opened.visible t.visible h.opened.theory.whole))

  is_clone : IsClone xs more m p within first ss
  is_clone = record {
    source = subst (AreSound xs) (sym a.steps) es_sound;
    others = subst (AreSound xs) (sym a.taken_are) (sound_there (others t.path es) known.theory.others);
    first_sound = sound_here first h.opened.theory.sound;
    agree = agree;
    named = h.opened.named;
    not_built = h.opened.source;
    built = s.keeps;
    fit = s.fit;
  }

  cloning : IsCloning xs (declarations_of ss) m all now
  cloning = clone_sound m p within first xs more ss is_clone

  -- ---- the signature
  right_there : AreMadeRight xs (declarations_of ss)
  right_there =
      subst (AreMadeRight xs) (sym a.steps)
      (subst (λ (zs : List SymbolTree). AreMadeRight zs es) (sym earlier_is) (right_more known.earlier (known.later ++ tuples) es known.theory.sound (made_right known.earlier es known.theory.sound known.theory.signature)))

  right_first : AreMadeRight all first
  right_first = subst (λ (zs : List SymbolTree). AreMadeRight zs first) (sym grown) (right_more c.symbols (tuples ++ more) first h.opened.theory.sound (made_right c.symbols first h.opened.theory.sound h.opened.theory.signature))

  right_now : AreMadeRight all now
  right_now = All-append (λ (d : DeclarationTree). All (IsMadeRight all d) (made_by d.body)) first (made_from m p within first ss) right_first
      (made_right_of m p within first xs all ss right_there (right_more xs more (declarations_of ss) is_clone.source right_there)
      (λ i d l k z. made_below xs (declarations_of ss) is_clone.source k (into_made (declarations_of ss) (get_or (declarations_of ss) i d) k (Contains-get_or (declarations_of ss) i d l) z)) s.fit)

  signature_now : IsTypedSignature (after all [] now) all
  signature_now = signature_of all now cloning.sound (subst (All IsScopedEntry) a.symbols s.scoped) right_now

  -- ---- those of other theories
  others_now : AreSound all (others p now)
  others_now =
      let q : others p now ≡ others p first ++ fresh (others p first) (taken_of ss) =
      filter-append (is_other p) first (made_from m p within first ss) ∙ ap (λ (ds : List DeclarationTree). others p first ++ ds) (others_made m p within first ss strange) in
      subst (AreSound all) (sym q)
      (later_sound xs more (others p first) (taken_of ss) (sound_here (others p first) h.opened.theory.others) is_clone.others (others_agree p first (taken_of ss) strange agree))

  -- ---- what could be named may be named
  part : IsSubvocabulary (after c.symbols [] first) (after all [] now)
  part =
      let x = more_part c.symbols (tuples ++ more) [] first in
      let y : IsSubvocabulary (after c.symbols [] first) (after all [] first) = subst (λ (zs : List SymbolTree). IsSubvocabulary (after c.symbols [] first) (after zs [] first)) (sym grown) x in
      let z = list_part all [] first (made_from m p within first ss) in
      record {
        entries = λ k e q. z.entries k e (y.entries k e q);
        rigid = λ k e q u. z.rigid k e (y.entries k e q) (y.rigid k e q u);
        usable = λ k e q u. z.usable k e (y.entries k e q) (y.usable k e q u);
        matched = λ k e q u. z.matched k e (y.entries k e q) (y.matched k e q u);
      }

  -- over the state afterwards
  over_next : (P : List SymbolTree → List DeclarationTree → Type 0) → P all now → P c'.symbols (visible_now c')
  over_next P x = subst (λ (zs : List SymbolTree). P zs (visible_now c')) (sym a.symbols) (subst (P all) (sym a.visible) x)

  part_next : IsSubvocabulary (after c.symbols [] first) (after c'.symbols [] (visible_now c'))
  part_next = over_next (λ (zs : List SymbolTree) (ds : List DeclarationTree). IsSubvocabulary (after c.symbols [] first) (after zs [] ds)) part

  goal_next : (g : GoalTree) → IsSoundAmong c.symbols first g → IsSoundAmong c'.symbols (visible_now c') g
  goal_next g y =
      over_next (λ (zs : List SymbolTree) (ds : List DeclarationTree). IsSoundAmong zs ds g)
      (among_more all first (made_from m p within first ss) g
      (subst (λ (zs : List SymbolTree). IsSoundAmong zs first g) (sym grown) (record { before = y.before; sound = after_more c.symbols (tuples ++ more) (take g.before first) g y.sound (subst IsBuiltRight grown built_all) })))

  -- ---- places
  new_theory : (i : ℕ) (d : DeclarationTree) → slice_get new i ≡ Some d → d.theory ≡ p
  new_theory i d q = All-contains (λ (x : DeclarationTree). x.theory ≡ p) new d a.of (slice_in new i d q)

  either_at : (k : ℕ) (d : DeclarationTree) → slice_get c'.decls k ≡ Some d → (slice_get c.decls k ≡ Some d) ⊎ ((i : ℕ) × (k ≡ length c.decls + i) × (slice_get new i ≡ Some d))
  either_at k d q = slice_either c.decls new k d (subst (λ (ds : List DeclarationTree). slice_get ds k ≡ Some d) a.decls q)

  below_at : (ds : List DeclarationTree) (k : ℕ) (d : DeclarationTree) → slice_get ds k ≡ Some d → k < length ds
  below_at [] k d q = absurd (cc)
  below_at (x ∷ ds) zero d q = omega arith
  below_at (x ∷ ds) (suc k) d q = let l = below_at ds k d q in omega arith

  own_next : (k : ℕ) (d : DeclarationTree) → slice_get c'.decls k ≡ Some d → d.theory ≡ p → Contains c'.opened.visible k
  own_next k d q e = of (either_at k d q)
    where
      of : (slice_get c.decls k ≡ Some d) ⊎ ((i : ℕ) × (k ≡ length c.decls + i) × (slice_get new i ≡ Some d)) → Contains c'.opened.visible k
      of (inl z) = a.places.kept k (h.opened.own k d z e)
      of (inr z) = a.places.new k (let y = z.1 in omega arith) (below_at c'.decls k d q)

  old_of : (k : ℕ) (d : DeclarationTree) → d.theory ≢ p → slice_get c'.decls k ≡ Some d → slice_get c.decls k ≡ Some d
  old_of k d n q = of (either_at k d q)
    where
      of : (slice_get c.decls k ≡ Some d) ⊎ ((i : ℕ) × (k ≡ length c.decls + i) × (slice_get new i ≡ Some d)) → slice_get c.decls k ≡ Some d
      of (inl z) = z
      of (inr z) = absurd (n (new_theory z.0 d z.2))

  whole_next : IsWhole c'.decls c'.opened.visible
  whole_next = λ j k d e q r v u. by j k d e q r v u (bytes_eq d.theory p) refl
    where
      taken : (j k : ℕ) (d e : DeclarationTree) → slice_get c.decls j ≡ Some d → slice_get c.decls k ≡ Some e → Contains t.visible k → Contains c'.opened.visible k → d.theory ≡ e.theory → (b : Bool) → bytes_eq d.theory t.path ≡ b → Contains c'.opened.visible j
      taken j k d e q r v w u true z = a.places.kept j (h.opened.theory.whole j k d e q r (a.places.apart k e w r (sym u ∙ same_word d.theory t.path z)) u)
      taken j k d e q r v w u false z =
          a.places.taken j d (known.theory.whole j k d e q r v u) q (λ y. let x : bytes_eq d.theory t.path ≡ true = ap (λ (i : List ℕ). bytes_eq i t.path) y ∙ self_word t.path in let o : true ≡ false = sym x ∙ z in cc)

      old : (j k : ℕ) (d e : DeclarationTree) → slice_get c.decls j ≡ Some d → slice_get c.decls k ≡ Some e → Contains c'.opened.visible k → d.theory ≡ e.theory → Contains c.opened.visible k ⊎ (Contains t.visible k ⊎ (length c.decls ≤ k)) → Contains c'.opened.visible j
      old j k d e q r w u (inl v) = a.places.kept j (h.opened.theory.whole j k d e q r v u)
      old j k d e q r w u (inr (inl v)) = taken j k d e q r v w u (bytes_eq d.theory t.path) refl
      old j k d e q r w u (inr (inr v)) = absurd (let l = below_at c.decls k e r in omega arith)

      by : (j k : ℕ) (d e : DeclarationTree) → slice_get c'.decls j ≡ Some d → slice_get c'.decls k ≡ Some e → Contains c'.opened.visible k → d.theory ≡ e.theory → (b : Bool) → bytes_eq d.theory p ≡ b → Contains c'.opened.visible j
      by j k d e q r v u true z = own_next j d q (same_word d.theory p z)
      by j k d e q r v u false z =
          let n : d.theory ≢ p = λ y. let x : bytes_eq d.theory p ≡ true = ap (λ (i : List ℕ). bytes_eq i p) y ∙ self_word p in let o : true ≡ false = sym x ∙ z in cc in
          old j k d e (old_of j d n q) (old_of k e (λ y. n (u ∙ y)) r) v u (a.places.from k v)

  -- ---- the state
  theory_next : IsSoundTheory c'.symbols c'.symbols c'.decls c'.opened.path c'.opened.visible c'.opened.axioms c'.opened.goals c'.opened.moves
  theory_next = record {
    sound = over_next AreSound cloning.sound;
    others = subst (λ (i : List ℕ). AreSound c'.symbols (others i (visible_now c'))) (sym a.path) (over_next (λ (zs : List SymbolTree) (ds : List DeclarationTree). AreSound zs (others p ds)) others_now);
    signature = over_next (λ (zs : List SymbolTree) (ds : List DeclarationTree). IsTypedSignature (after zs [] ds) zs) signature_now;
    typed_moves = subst (AreTypedMoves (after c'.symbols [] (visible_now c'))) (sym a.moves_are)
        (All-append (IsTypedMove (after c'.symbols [] (visible_now c'))) c.opened.moves (handed link moves)
        (moves_more (after c.symbols [] first) (after c'.symbols [] (visible_now c')) part_next c.opened.moves h.opened.theory.typed_moves)
        (handed_typed (after c'.symbols [] (visible_now c')) link moves s.typed_moves));
    sound_goals = subst (All (IsSoundAmong c'.symbols (visible_now c'))) (sym a.goals_are)
        (All-append (IsSoundAmong c'.symbols (visible_now c')) c.opened.goals goals (λ i g l. goal_next (get_or c.opened.goals i g) (h.opened.theory.sound_goals i g l)) s.sound_goals);
    sound_axioms = subst (All (IsSoundAxiom c'.decls)) (sym a.axioms_are)
        (All-append (IsSoundAxiom c'.decls) c.opened.axioms axioms
        (subst (λ (ds : List DeclarationTree). All (IsSoundAxiom ds) c.opened.axioms) (sym a.decls) (λ i x l. axiom_more c.decls new (get_or c.opened.axioms i x) (h.opened.theory.sound_axioms i x l))) s.sound_axioms);
    below = a.places.below;
    once = a.places.once;
    whole = whole_next;
  }

  opened_next : IsSoundOpened c'.symbols c'.decls c'.opened
  opened_next = record {
    named = ap is_empty a.path ∙ h.opened.named;
    source = ap (λ (i : List ℕ). bytes_eq i builtin) a.path ∙ h.opened.source;
    theory = theory_next;
    scopes = subst (AreTypedScopes (after c'.symbols [] (visible_now c'))) (sym a.scope_is)
        (brought_typed (after c'.symbols [] (visible_now c')) link last alias moves c.opened.scope s.typed_moves
        (scopes_part (after c.symbols [] first) (after c'.symbols [] (visible_now c')) part_next c.opened.scope h.opened.scopes));
    own = λ k d q e. own_next k d q (e ∙ a.path);
  }

  symbols_are : c'.symbols ≡ c.symbols ++ (tuples ++ more)
  symbols_are = a.symbols ∙ grown

  built_later : IsBuiltRight (c.symbols ++ (tuples ++ more))
  built_later = subst IsBuiltRight grown built_all

  pub state_cloned : IsSoundState c'
  state_cloned = record {
    opened = opened_next;
    known = subst (λ (zs : List SymbolTree). All (IsSoundKnown zs c'.decls) c'.known) (sym symbols_are)
        (subst (λ (ds : List DeclarationTree). All (IsSoundKnown (c.symbols ++ (tuples ++ more)) ds) c'.known) (sym a.decls)
        (subst (All (IsSoundKnown (c.symbols ++ (tuples ++ more)) (c.decls ++ new))) (sym a.known)
        (λ i x l. known_further c.symbols (tuples ++ more) built_later c.decls new p a.of (get_or c.known i x) (h.apart i x l) (h.known i x l))));
    apart = subst (λ (i : List ℕ). All (IsApart c'.decls i) c'.known) (sym a.path)
        (subst (λ (ds : List DeclarationTree). All (IsApart ds p) c'.known) (sym a.decls)
        (subst (All (IsApart (c.decls ++ new) p)) (sym a.known)
        (λ i x l. apart_further c.symbols (tuples ++ more) built_later c.decls new p a.of (get_or c.known i x) (h.apart i x l) (h.known i x l))));
    of = subst (λ (i : List ℕ). AreOf (i ∷ paths c'.known) c'.decls) (sym a.path)
        (subst (λ (ts : List KnownTree). AreOf (p ∷ paths ts) c'.decls) (sym a.known)
        (subst (AreOf (p ∷ paths c.known)) (sym a.decls)
        (All-append (λ (d : DeclarationTree). Contains (p ∷ paths c.known) d.theory) c.decls new h.of (λ i d l. (0, omega arith, sym (a.of i d l))))));
  }
