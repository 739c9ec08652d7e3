-- A sound state stays sound where a theory is cloned.
use Rattle.std.proofs.Common.{◌≡◌, ◌⊎◌, inl, inr, ℕ, ◌<◌, ◌==◌, if◌then◌else◌, suc, Bool, true, false, List, [], ◌∷◌, ◌++◌, map, length, slice_get, All, Contains, Option, Some, None, option_to_list, refl, sym, ap, subst, ◌∙◌, arith, append_assoc}
use Rattle.std.proofs.lemmas.List.Elements.{All-head, All-tail, All-append, All-contains}
use Rattle.tasks.specs.trees.Tree.{Tree}
use Rattle.tasks.specs.Task.{SymbolTree, BodyTree, MakesType, Makes, Defines, Induces, Constructs, Says, DeclarationTree}
use Rattle.tasks.specs.Rigid.{rigid_symbol}
use Rattle.elaboration_laws.specs.clones.Mapped.{Map}
use Rattle.surface.specs.Lexeme.{Word}
use Rattle.surface.specs.declared.names.Name.{Name}
use Rattle.surface.specs.declared.names.Path.{Path}
use Rattle.surface.specs.declared.declarations.Link.{Link}
use Rattle.surface.specs.Declarations.{Element}
use Rattle.theory_states.specs.Moves.{MoveTree, brought, handed}
use Rattle.elaboration_laws.specs.open_types.Scoped.{IsScopedEntry}
use Rattle.elaboration_laws.specs.Scopes.{IsSubvocabulary}
use Rattle.elaboration_laws.specs.Moves.{AreTypedMoves}
use Rattle.elaboration_laws.proofs.MovedScopes.{moves_more}
use Rattle.elaboration_laws.specs.Lists.{after}
use Rattle.elaboration_laws.specs.Built.{IsBuiltRight}
use Rattle.elaboration_laws.proofs.Distinct.{IsDistinct, pairs_distinct}
use Rattle.elaboration_laws.proofs.Grown.{more_part, front_distinct}
use Rattle.theory_states.specs.declared.states.AxiomAt.{AxiomAt}
use Rattle.theory_states.specs.States.{KnownTree, StateTree, at_places, visible_in, visible_now}
use Rattle.theory_states.specs.Uses.{path_text, last_part, alias_text}
use Rattle.elaboration_laws.specs.TypedStates.{IsTypedState}
use Rattle.elaboration_laws.specs.Sound.{IsSoundAmong, IsSoundAxiom, IsSoundKnown, IsApart, IsSoundState}
use Rattle.elaboration_laws.specs.Steps.{CopyStep, declarations_of, made_from}
use Rattle.elaboration_laws.proofs.CloneSteps.{clone_sound}
use Rattle.elaboration_laws.specs.Cloned.{IsAfterClone, IsSoundClone}
use Rattle.elaboration_laws.proofs.Cloned.{state_cloned}
use Rattle.elaboration_laws.specs.clones.clone_elements.Left.{no_declaration, decl_or}
use Rattle.elaboration_laws.specs.clones.clone_elements.Rights.{rights_tuples, rights_fault}
use Rattle.elaboration_laws.specs.clones.clone_elements.Replacements.{effects_of, kept}
use Rattle.elaboration_laws.specs.clones.clone_copies.Origins.{Axioms, no_axioms, with_axioms, axioms_at, origin_of}
use Rattle.elaboration_laws.specs.clones.clone_copies.Entries.{entries_copied}
use Rattle.elaboration_laws.specs.clones.clone_copies.Moves.{moves_mapped}
use Rattle.elaboration_laws.specs.clones.clone_copies.Places.{Copying, with_places}
use Rattle.elaboration_laws.specs.Placed.{ArePlaced}
use Rattle.theories.specs.cloning.Cloned.{symbols_tupled, sides_in, map_in, AreTold, within_of, copying_in, with_copied_entries, with_names, IsCloned}
use Rattle.elaboration_laws.specs.PlaceSteps.{copy_steps_at}
use Rattle.elaboration_laws.proofs.PlaceSteps.{places_made, cloned_places}
use Rattle.elaboration_laws.proofs.Moves.{moves_become}
use Rattle.theories.specs.Plain.{IsSaid, IsPlainAxiom, ArePlainAxioms, ArePlainTheories, IsPlainState}
use Rattle.theories.proofs.Steps.{steps_declarations, steps_taken}
use Rattle.theories.proofs.Fits.{tupled_built, keeps}
use Rattle.theories.proofs.Plain.{axioms_more, known_more}
use Rattle.theories.proofs.Goals.{IsSaidAt, IsReached, all_reached, built, scoped, is_clone}
use Rattle.std.proofs.lemmas.Option.{slice_get-get_or as some_at}
use Rattle.elaboration_laws.proofs.Numbers.{later}
use Rattle.tasks.proofs.plain_laws.Lists.{All-left as front_all}
use Rattle.elaboration_laws.proofs.Scoped.{found_in}
use Rattle.tasks.proofs.plain_laws.Bools.{same_number}

-- ---- lists
count_places : (ds : List DeclarationTree) (ks : List ℕ) → All (λ (k : ℕ). k < length ds) ks → length (at_places ds ks) ≡ length ks
count_places ds [] low = refl
count_places ds (k ∷ ks) low =
    let q : option_to_list (slice_get ds k) ≡ decl_or ds k ∷ [] = ap option_to_list (some_at ds k no_declaration (All-head (λ (i : ℕ). i < length ds) k ks low)) in
    let h = count_places ds ks (All-tail (λ (i : ℕ). i < length ds) k ks low) in
    ap (λ (es : List DeclarationTree). length (es ++ at_places ds ks)) q ∙ ap suc h

-- ---- the axioms of a theory
pub record IsAxiomOf (as_ : List AxiomAt) (p : ℕ) (vars : List Word) : Type 0 where
  pub found : AxiomAt
  pub there : Contains as_ found
  pub place : found.decl ≡ p
  pub vars_are : found.vars ≡ vars

pub axiom_found : (as_ : List AxiomAt) (f : Axioms) (p : ℕ) (vars : List Word) → with_axioms as_ f p ≡ Some vars → IsAxiomOf as_ p vars ⊎ (f p ≡ Some vars)
axiom_found [] f p vars q = inr q
axiom_found (a ∷ as_) f p vars q = of (axiom_found as_ (λ (j : ℕ). if a.decl == j then Some a.vars else f j) p vars q)
  where
    own : (b : Bool) → (a.decl == p) ≡ b → (if b then Some a.vars else f p) ≡ Some vars → IsAxiomOf (a ∷ as_) p vars ⊎ (f p ≡ Some vars)
    own true z e = let same : a.vars ≡ vars = cc in inl (record { found = a; there = (0, omega arith, refl); place = same_number a.decl p z; vars_are = same })
    own false z e = inr e

    of : IsAxiomOf as_ p vars ⊎ ((if a.decl == p then Some a.vars else f p) ≡ Some vars) → IsAxiomOf (a ∷ as_) p vars ⊎ (f p ≡ Some vars)
    of (inl h) = inl (record { found = h.found; there = later a h.found as_ h.there; place = h.place; vars_are = h.vars_are })
    of (inr h) = own (a.decl == p) refl h

formula_in : (b : BodyTree) → IsSaid b → (e : Tree) × (b ≡ Says e)
formula_in (Says e) h = (e, refl)
formula_in (MakesType k) h = absurd h
formula_in (Makes k) h = absurd h
formula_in (Defines ds) h = absurd h
formula_in (Induces ds) h = absurd h
formula_in (Constructs ds) h = absurd h

said_at : (decls : List DeclarationTree) (as_ : List AxiomAt) → All (IsSoundAxiom decls) as_ → All (IsPlainAxiom decls) as_ → (p : ℕ) (vars : List Word) → axioms_at as_ p ≡ Some vars → IsSaidAt decls p vars
said_at decls as_ sound plain p vars q = of (axiom_found as_ no_axioms p vars q)
  where
    by : (h : IsAxiomOf as_ p vars) → IsSaidAt decls h.found.decl h.found.vars
    by h =
        let s = All-contains (IsSoundAxiom decls) as_ h.found sound h.there in
        let z = All-contains (IsPlainAxiom decls) as_ h.found plain h.there in
        let at : slice_get decls h.found.decl ≡ Some (decl_or decls h.found.decl) = some_at decls h.found.decl no_declaration s.there in
        let f = formula_in (decl_or decls h.found.decl).body (z.said (decl_or decls h.found.decl) at) in
        record { formula = f.0; body = f.1; count = s.count (decl_or decls h.found.decl) at; quoted = s.quoted }

    of : IsAxiomOf as_ p vars ⊎ (no_axioms p ≡ Some vars) → IsSaidAt decls p vars
    of (inl h) = subst (λ (j : ℕ). IsSaidAt decls j vars) h.place (subst (IsSaidAt decls h.found.decl) h.vars_are (by h))
    of (inr z) = absurd (let y : None ≡ Some vars = z in cc)

-- ---- a clone
module _ (c : StateTree) (t : KnownTree) (es : List Element) (typed : IsTypedState c) (placed : ArePlaced c.symbols) (sound : IsSoundState c) (known : IsSoundKnown c.symbols c.decls t) (apart : IsApart c.decls c.opened.path t) (plain : ArePlainAxioms c.decls t.axioms)
    (names : rights_fault c.symbols c.opened.scope es ≡ None) (told : AreTold c t es None) (within : Word) where
  abbrev xs : List SymbolTree
  xs = symbols_tupled c es

  abbrev m : Map
  m = map_in c t es

  abbrev path : Word
  path = c.opened.path

  abbrev copies : List SymbolTree
  copies = entries_copied xs m path within (kept (origin_of c.decls t) (effects_of (sides_in c t es)))

  abbrev x : Copying
  x = copying_in c t es within

  abbrev begin : StateTree
  begin = with_copied_entries c t es within

  abbrev first : List DeclarationTree
  first = visible_now c

  abbrev ss : List CopyStep
  ss = copy_steps_at x c.decls t.visible

  said : (p : ℕ) (vars : List Word) → axioms_at t.axioms p ≡ Some vars → IsSaidAt c.decls p vars
  said p vars q = said_at c.decls t.axioms known.theory.sound_axioms plain p vars q

  -- ---- places
  once : IsDistinct c.opened.visible
  once = pairs_distinct c.opened.visible sound.opened.theory.once

  module _ (done rest : List ℕ) (whole : done ++ rest ≡ t.visible) where
    low : All (λ (k : ℕ). k < length c.decls) done
    low = front_all (λ (k : ℕ). k < length c.decls) done rest (subst (All (λ (k : ℕ). k < length c.decls)) (sym whole) known.theory.below)

    distinct : IsDistinct done
    distinct = front_distinct done rest (subst IsDistinct (sym whole) (pairs_distinct t.visible known.theory.once))

    counted : length (with_places x done begin).opened.visible ≡ length (first ++ made_from m path within first (copy_steps_at x c.decls done))
    counted =
        let s = with_places x done begin in
        let p = cloned_places x begin (record t { visible = done }) refl sound.opened.theory.whole sound.opened.theory.below once low distinct in
        let made : visible_now s ≡ first ++ made_from m path within first (copy_steps_at x c.decls done) = places_made x begin sound.opened.theory.whole sound.opened.theory.below once done low distinct in
        sym (count_places s.decls s.opened.visible p.below) ∙ ap length made

  abbrev end : StateTree
  end = with_places x t.visible begin

  reached : IsReached c t es typed placed sound known apart names told within said t.visible end
  reached = all_reached c t es typed placed sound known apart names told within said counted

  abbrev more : List SymbolTree
  more = copies ++ map rigid_symbol reached.us

  symbols_are : end.symbols ≡ xs ++ more
  symbols_are = reached.grew.symbols ∙ append_assoc xs copies (map rigid_symbol reached.us)

  all_low : All (λ (k : ℕ). k < length c.decls) t.visible
  all_low = known.theory.below

  all_distinct : IsDistinct t.visible
  all_distinct = pairs_distinct t.visible known.theory.once

  visible_are : visible_now end ≡ first ++ made_from m path within first ss
  visible_are = places_made x begin sound.opened.theory.whole sound.opened.theory.below once t.visible all_low all_distinct

  -- ---- names
  abbrev ms : List MoveTree
  ms = moves_mapped xs m t.moves

  there_part : IsSubvocabulary (after known.earlier [] (visible_in c t)) (after xs [] (declarations_of ss))
  there_part =
      let e : xs ≡ known.earlier ++ (known.later ++ rights_tuples c.symbols es) = ap (λ (zs : List SymbolTree). zs ++ rights_tuples c.symbols es) known.symbols ∙ append_assoc known.earlier known.later (rights_tuples c.symbols es) in
      subst (λ (ds : List DeclarationTree). IsSubvocabulary (after known.earlier [] (visible_in c t)) (after xs [] ds)) (sym (steps_declarations x c.decls t.visible all_low))
      (subst (λ (zs : List SymbolTree). IsSubvocabulary (after known.earlier [] (visible_in c t)) (after zs [] (visible_in c t))) (sym e) (more_part known.earlier (known.later ++ rights_tuples c.symbols es) [] (visible_in c t)))

  moves_typed : AreTypedMoves (after (xs ++ more) [] (first ++ made_from m path within first ss)) ms
  moves_typed =
      let v = after xs [] (declarations_of ss) in
      let h = clone_sound m path within first xs more ss (is_clone c t es typed placed sound known apart names told within said reached.us) in
      moves_become v (after (xs ++ more) [] (first ++ made_from m path within first ss)) m h.morphism t.moves (moves_more (after known.earlier [] (visible_in c t)) v there_part t.moves known.theory.typed_moves)

  module _ (l : Link) (last : Word) (alias : Option Word) where
    abbrev next : StateTree
    next = with_names l last alias ms end

    after_clone : IsAfterClone c next t (rights_tuples c.symbols es) more reached.new m within ss reached.axioms reached.goals l last alias ms
    after_clone =
        let p = cloned_places x begin t refl sound.opened.theory.whole sound.opened.theory.below once all_low all_distinct in
        record {
          symbols = symbols_are;
          decls = reached.grew.decls;
          of = reached.of;
          known = reached.grew.known;
          path = reached.grew.path;
          axioms_are = reached.grew.axioms_are;
          goals_are = reached.grew.goals_are;
          scope_is = ap (brought l last alias ms) reached.grew.scope;
          moves_are = ap (λ (zs : List MoveTree). zs ++ handed l ms) reached.grew.moves;
          places = record { kept = p.kept; taken = p.taken; new = p.new; from = p.from; apart = p.apart; below = p.below; once = p.once };
          visible = visible_are;
          steps = steps_declarations x c.decls t.visible all_low;
          taken_are = steps_taken x c.decls t.visible all_low;
        }

    over_next : (P : List SymbolTree → List DeclarationTree → Type 0) → P (xs ++ more) (first ++ made_from m path within first ss) → P next.symbols (visible_now next)
    over_next P h = subst (λ (zs : List SymbolTree). P zs (visible_now next)) (sym symbols_are) (subst (P (xs ++ more)) (sym visible_are) h)

    sound_clone : IsSoundClone c next (rights_tuples c.symbols es) more m within ss reached.axioms reached.goals ms
    sound_clone = record {
      tupled = tupled_built c t es [] typed placed sound known apart names told within;
      built = subst IsBuiltRight (sym symbols_are) (built c t es typed placed sound known apart names told within said reached.us);
      scoped = subst (All IsScopedEntry) (sym symbols_are) (scoped c t es typed placed sound known apart names told within said reached.us);
      keeps = keeps c t es [] typed placed sound known apart names told within;
      fit = (is_clone c t es typed placed sound known apart names told within said reached.us).fit;
      typed_moves = over_next (λ (zs : List SymbolTree) (ds : List DeclarationTree). AreTypedMoves (after zs [] ds) ms) moves_typed;
      sound_goals = over_next (λ (zs : List SymbolTree) (ds : List DeclarationTree). All (IsSoundAmong zs ds) reached.goals) reached.sound_goals;
      sound_axioms = reached.sound_axioms;
    }

    pub next_sound : IsSoundState next
    next_sound = state_cloned c next t (rights_tuples c.symbols es) more reached.new m within ss reached.axioms reached.goals l last alias ms sound known apart after_clone sound_clone

    pub next_plain : IsPlainState c → IsPlainState next
    next_plain p = record {
      known = subst (ArePlainTheories next.decls) (sym reached.grew.known) (subst (λ (ds : List DeclarationTree). ArePlainTheories ds c.known) (sym reached.grew.decls) (known_more c.decls reached.new c.known p.known));
      opened = subst (ArePlainAxioms next.decls) (sym reached.grew.axioms_are) (All-append (IsPlainAxiom next.decls) c.opened.axioms reached.axioms
          (subst (λ (ds : List DeclarationTree). ArePlainAxioms ds c.opened.axioms) (sym reached.grew.decls) (axioms_more c.decls reached.new c.opened.axioms p.opened)) reached.plain_axioms);
    }

-- ---- the state
module _ (l : Link) (p : Path) (alias : Option Name) (es : List Element) (c c' : StateTree) (h : IsCloned l p alias es c c') (typed : IsTypedState c) (placed : ArePlaced c.symbols) (plain : IsPlainState c) (sound : IsSoundState c) where
  there : Contains c.known h.theory
  there = found_in c.known (path_text p.parts) h.theory h.found

  known : IsSoundKnown c.symbols c.decls h.theory
  known = All-contains (IsSoundKnown c.symbols c.decls) c.known h.theory sound.known there

  apart : IsApart c.decls c.opened.path h.theory
  apart = All-contains (IsApart c.decls c.opened.path) c.known h.theory sound.apart there

  own : ArePlainAxioms c.decls h.theory.axioms
  own = All-contains (λ (t : KnownTree). ArePlainAxioms c.decls t.axioms) c.known h.theory plain.known there

  abbrev within : Word
  within = within_of l (last_part p.parts) (alias_text alias) c.opened.within

  pub cloned_sound : IsSoundState c'
  cloned_sound = subst IsSoundState (sym h.is) (next_sound c h.theory es typed placed sound known apart own h.names h.right within l (last_part p.parts) (alias_text alias))

  pub cloned_plain : IsPlainState c'
  cloned_plain = subst IsPlainState (sym h.is) (next_plain c h.theory es typed placed sound known apart own h.names h.right within l (last_part p.parts) (alias_text alias) plain)
