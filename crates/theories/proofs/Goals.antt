-- What the places of a theory leave in a clone beside declarations: entries of type variables, axioms, and goals, which are sound.
use Rattle.std.proofs.Common.{◌≡◌, ℕ, ◌+◌, ◌<◌, if◌then◌else◌, zero, suc, Bool, true, false, List, [], ◌∷◌, ◌++◌, map, length, get_or, take, All, Contains, Option, Some, None, IsTrue, refl, sym, ap, subst, ◌∙◌, arith, length-append, append_assoc, append-nil}
use Rattle.std.proofs.lemmas.List.Elements.{All-nil, All-cons, All-append, All-filter, All-map, All-contains, Contains-append_right}
use Rattle.std.proofs.lemmas.List.{map-append}
use Rattle.std.proofs.Math.Seq.{take-append_seam}
use Rattle.tasks.specs.trees.Tree.{Tree}
use Rattle.tasks.specs.trees.Facts.{TyVarsBelow}
use Rattle.tasks.specs.trees.Binding.{inst_types}
use Rattle.tasks.specs.Task.{SymbolTree, symbol_or, BodyTree, Says, DeclarationTree, made_by}
use Rattle.tasks.specs.Rigid.{rigid_symbol}
use Rattle.tasks.specs.Vocabulary.{of_signature}
use Rattle.tasks.specs.Valid.{IsQuoted, IsFormulaOver, IsValidBody, IsValidDecl}
use Rattle.elaboration_laws.specs.clones.Mapped.{Map, mapped}
use Rattle.surface.specs.Lexeme.{Word}
use Rattle.surface.specs.Declarations.{Element}
use Rattle.surface.specs.declared.declarations.PropKind.{PropKind}
use Rattle.surface.specs.declared.declarations.PropKind.TheVariants as kind
use Rattle.elaboration_laws.specs.clones.Copies.{body_mapped, entry_copied}
use Rattle.elaboration_laws.specs.open_types.Scoped.{IsScopedEntry}
use Rattle.elaboration_laws.specs.elab_declarations.Outcomes.{entry_numbers, rigid_types}
use Rattle.elaboration_laws.specs.Scopes.{IsTypedEntry}
use Rattle.elaboration_laws.specs.Lists.{after}
use Rattle.elaboration_laws.proofs.Lists.{list_valid}
use Rattle.elaboration_laws.specs.Built.{IsBuiltRight}
use Rattle.elaboration_laws.specs.Joined.{has_theory, Agree}
use Rattle.elaboration_laws.specs.Tasks.{AreSound, IsSoundAfter}
use Rattle.elaboration_laws.proofs.Grown.{sound_more, after_more, front_sound}
use Rattle.elaboration_laws.proofs.Kept.{IsOfSource, source_kept}
use Rattle.elaboration_laws.proofs.Trees.{formula_mapped}
use Rattle.elaboration_laws.specs.theory_states.goal_tasks.Theories.{GoalTree}
use Rattle.theory_states.specs.declared.states.AxiomAt.{AxiomAt}
use Rattle.theory_states.specs.States.{KnownTree, StateTree, visible_in, visible_now, with_declaration}
use Rattle.elaboration_laws.specs.TypedStates.{state_setting, IsTypedState}
use Rattle.elaboration_laws.specs.Sound.{is_other, others, IsSoundAmong, IsSoundAxiom, IsSoundKnown, IsApart, IsSoundState}
use Rattle.elaboration_laws.proofs.Places.{places_agree}
use Rattle.elaboration_laws.proofs.Used.{among_more}
use Rattle.elaboration_laws.specs.Cloning.{AreMadeRight, IsCloning, IsMadeRight}
use Rattle.elaboration_laws.specs.Steps.{CopyStep, declaration_of, declarations_of, made_from, IsClone}
use Rattle.elaboration_laws.proofs.Vocabularies.{typed_list}
use Rattle.elaboration_laws.proofs.CopiedSignatures.{made_right}
use Rattle.elaboration_laws.proofs.Taken.{cloning_left}
use Rattle.elaboration_laws.proofs.ClonedGoals.{right_more, goal_sound}
use Rattle.elaboration_laws.proofs.CloneSteps.{clone_sound, clone_front}
use Rattle.elaboration_laws.specs.Entries.{IsGrounded}
use Rattle.elaboration_laws.proofs.Entries.{further_typed, variables_built}
use Rattle.elaboration_laws.specs.clones.clone_elements.Left.{Origin, decl_or}
use Rattle.elaboration_laws.specs.clones.clone_elements.Rights.{rights_tuples, rights_fault}
use Rattle.elaboration_laws.specs.clones.clone_elements.Replacements.{effects_of, is_replaced, kind_or, kept}
use Rattle.elaboration_laws.specs.clones.clone_copies.Origins.{is_own, axioms_at, origin_of}
use Rattle.elaboration_laws.specs.clones.clone_copies.Entries.{entries_copied}
use Rattle.elaboration_laws.specs.clones.clone_copies.Places.{Copying, axiom_at, with_copied_axiom, next_numbers, goal_of, goal_with, with_kind, with_copy, copy_of, with_joined, with_place, with_places}
use Rattle.elaboration_laws.specs.Placed.{ArePlaced}
use Rattle.elaboration_laws.proofs.Copies.{all_copies_typed}
use Rattle.theories.specs.cloning.Cloned.{symbols_tupled, sides_in, map_in, AreTold, copying_in, with_copied_entries}
use Rattle.elaboration_laws.specs.PlaceSteps.{copy_steps_at}
use Rattle.theories.specs.Plain.{IsSaid, IsPlainAxiom}
use Rattle.theories.proofs.KnownLists.{last_at, plain_more}
use Rattle.theories.proofs.Steps.{step_is, steps_declarations, steps_taken, steps_both, right_after, made_both}
use Rattle.theories.proofs.Fits.{says_nothing, source_sound, tupled_built, tupled_setting, keeps, steps_fit}
use Rattle.elaboration_laws.proofs.Further.{axiom_more as axiom_grown}
use Rattle.tasks.proofs.plain_laws.Lists.{All-left as front_all}

-- ---- lists

rigids_scoped : (vs : List Word) → All IsScopedEntry (map rigid_symbol vs)
rigids_scoped [] = All-nil IsScopedEntry
rigids_scoped (x ∷ vs) = All-cons IsScopedEntry (rigid_symbol x) (map rigid_symbol vs) (record { args = All-nil (TyVarsBelow 0); result = tt }) (rigids_scoped vs)

same_numbers : (n : ℕ) (vs : List Word) → next_numbers n vs ≡ entry_numbers n vs
same_numbers n [] = refl
same_numbers n (v ∷ vs) = ap (λ (ks : List ℕ). n ∷ ks) (same_numbers (n + 1) vs)

or_front : (ds es : List DeclarationTree) (k : ℕ) → k < length ds → decl_or (ds ++ es) k ≡ decl_or ds k
or_front [] es k l = absurd (omega (arith, l))
or_front (d ∷ ds) es zero l = refl
or_front (d ∷ ds) es (suc k) l = or_front ds es k (omega (arith, l))

-- a goal among more declarations, over more entries
pub among_grown : (symbols more : List SymbolTree) (ds es : List DeclarationTree) (g : GoalTree) → IsBuiltRight (symbols ++ more) → IsSoundAmong symbols ds g → IsSoundAmong (symbols ++ more) (ds ++ es) g
among_grown symbols more ds es g built h = among_more (symbols ++ more) ds es g (record { before = h.before; sound = after_more symbols more (take g.before ds) g h.sound built })

-- an axiom's declaration, with the names of its type variables
pub record IsSaidAt (decls : List DeclarationTree) (p : ℕ) (vars : List Word) : Type 0 where
  pub formula : Tree
  pub body : (decl_or decls p).body ≡ Says formula
  pub count : (decl_or decls p).vars ≡ length vars
  pub quoted : All IsQuoted vars

said_is : (b : BodyTree) (e : Tree) → b ≡ Says e → IsSaid b
said_is b e q = subst IsSaid (sym q) tt

-- a state with more entries of type variables, declarations, axioms and goals
pub record IsGrown (s s' : StateTree) (vs : List Word) (ds : List DeclarationTree) (axioms : List AxiomAt) (goals : List GoalTree) : Type 0 where
  pub symbols : s'.symbols ≡ s.symbols ++ map rigid_symbol vs
  pub decls : s'.decls ≡ s.decls ++ ds
  pub known : s'.known ≡ s.known
  pub path : s'.opened.path ≡ s.opened.path
  pub scope : s'.opened.scope ≡ s.opened.scope
  pub moves : s'.opened.moves ≡ s.opened.moves
  pub axioms_are : s'.opened.axioms ≡ s.opened.axioms ++ axioms
  pub goals_are : s'.opened.goals ≡ s.opened.goals ++ goals

then_grown : (s s' r : StateTree) (vs us : List Word) (ds es : List DeclarationTree) (as_ bs : List AxiomAt) (gs hs : List GoalTree) → IsGrown s s' vs ds as_ gs → IsGrown s' r us es bs hs → IsGrown s r (vs ++ us) (ds ++ es) (as_ ++ bs) (gs ++ hs)
then_grown s s' r vs us ds es as_ bs gs hs x y = record {
  symbols = y.symbols ∙ (ap (λ (zs : List SymbolTree). zs ++ map rigid_symbol us) x.symbols ∙ (append_assoc s.symbols (map rigid_symbol vs) (map rigid_symbol us) ∙ sym (ap (λ (zs : List SymbolTree). s.symbols ++ zs) (map-append rigid_symbol vs us))));
  decls = y.decls ∙ (ap (λ (zs : List DeclarationTree). zs ++ es) x.decls ∙ append_assoc s.decls ds es);
  known = y.known ∙ x.known;
  path = y.path ∙ x.path;
  scope = y.scope ∙ x.scope;
  moves = y.moves ∙ x.moves;
  axioms_are = y.axioms_are ∙ (ap (λ (zs : List AxiomAt). zs ++ bs) x.axioms_are ∙ append_assoc s.opened.axioms as_ bs);
  goals_are = y.goals_are ∙ (ap (λ (zs : List GoalTree). zs ++ hs) x.goals_are ∙ append_assoc s.opened.goals gs hs);
}

-- ---- with one place
none_grown : (s s' : StateTree) → s'.symbols ≡ s.symbols → s'.decls ≡ s.decls → s'.known ≡ s.known → s'.opened.path ≡ s.opened.path → s'.opened.scope ≡ s.opened.scope → s'.opened.moves ≡ s.opened.moves → s'.opened.axioms ≡ s.opened.axioms → s'.opened.goals ≡ s.opened.goals
    → IsGrown s s' [] [] [] []
none_grown s s' b d e f g h i j = record {
  symbols = b ∙ sym (append-nil s.symbols);
  decls = d ∙ sym (append-nil s.decls);
  known = e;
  path = f;
  scope = g;
  moves = h;
  axioms_are = i ∙ sym (append-nil s.opened.axioms);
  goals_are = j ∙ sym (append-nil s.opened.goals);
}

itself_grown : (s : StateTree) → IsGrown s s [] [] [] []
itself_grown s = none_grown s s refl refl refl refl refl refl refl refl

joined_grown : (k : ℕ) (s : StateTree) → IsGrown s (with_joined k s) [] [] [] []
joined_grown k s = none_grown s (with_joined k s) refl refl refl refl refl refl refl refl

declared_grown : (d : DeclarationTree) (s : StateTree) → IsGrown s (with_declaration d s) [] (d ∷ []) [] []
declared_grown d s = record {
  symbols = sym (append-nil s.symbols);
  decls = refl;
  known = refl;
  path = refl;
  scope = refl;
  moves = refl;
  axioms_are = sym (append-nil s.opened.axioms);
  goals_are = sym (append-nil s.opened.goals);
}

axiom_added : (vars : List Word) (d : DeclarationTree) (s : StateTree) → IsGrown s (with_copied_axiom vars d s) [] (d ∷ []) (axiom_at (length s.decls) vars ∷ []) []
axiom_added vars d s = record {
  symbols = sym (append-nil s.symbols);
  decls = refl;
  known = refl;
  path = refl;
  scope = refl;
  moves = refl;
  axioms_are = refl;
  goals_are = sym (append-nil s.opened.goals);
}

-- the goal of a formula at this place
abbrev goal_here : List Word → Word → Tree → StateTree → GoalTree
goal_here vars name e s = goal_of name (length s.opened.visible) e (next_numbers (length s.symbols) vars)

goal_added : (vars : List Word) (name : Word) (e : Tree) (s : StateTree) → IsGrown s (goal_with vars name (Says e) s) vars [] [] (goal_here vars name e s ∷ [])
goal_added vars name e s = record {
  symbols = refl;
  decls = sym (append-nil s.decls);
  known = refl;
  path = refl;
  scope = refl;
  moves = refl;
  axioms_are = sym (append-nil s.opened.axioms);
  goals_are = refl;
}

lemma_added : (vars : List Word) (d : DeclarationTree) (e : Tree) (s : StateTree) → IsGrown s (with_declaration d (goal_with vars d.name (Says e) s)) vars (d ∷ []) [] (goal_here vars d.name e s ∷ [])
lemma_added vars d e s = record {
  symbols = refl;
  decls = refl;
  known = refl;
  path = refl;
  scope = refl;
  moves = refl;
  axioms_are = sym (append-nil s.opened.axioms);
  goals_are = refl;
}

module _ (c : StateTree) (t : KnownTree) (es : List Element) (typed : IsTypedState c) (placed : ArePlaced c.symbols) (sound : IsSoundState c) (known : IsSoundKnown c.symbols c.decls t) (apart : IsApart c.decls c.opened.path t)
    (names : rights_fault c.symbols c.opened.scope es ≡ None) (told : AreTold c t es None) (within : Word) (said : (p : ℕ) (vars : List Word) → axioms_at t.axioms p ≡ Some vars → IsSaidAt c.decls p vars) where
  abbrev o : Origin
  o = origin_of c.decls t

  abbrev xs : List SymbolTree
  xs = symbols_tupled c es

  abbrev m : Map
  m = map_in c t es

  abbrev path : Word
  path = c.opened.path

  abbrev ks : List ℕ
  ks = kept o (effects_of (sides_in c t es))

  abbrev copies : List SymbolTree
  copies = entries_copied xs m path within ks

  abbrev x : Copying
  x = copying_in c t es within

  abbrev begin : StateTree
  begin = with_copied_entries c t es within

  abbrev first : List DeclarationTree
  first = visible_now c

  -- with the entries of type variables
  abbrev more_of : List Word → List SymbolTree
  more_of us = copies ++ map rigid_symbol us

  abbrev all_of : List Word → List SymbolTree
  all_of us = xs ++ more_of us

  abbrev steps_of : List ℕ → List CopyStep
  steps_of done = copy_steps_at x c.decls done

  -- after some places
  abbrev now_of : List ℕ → List DeclarationTree
  now_of done = first ++ made_from m path within first (steps_of done)

  all_both : (us vs : List Word) → all_of (us ++ vs) ≡ all_of us ++ map rigid_symbol vs
  all_both us vs =
      ap (λ (zs : List SymbolTree). xs ++ (copies ++ zs)) (map-append rigid_symbol us vs)
      ∙ (ap (λ (zs : List SymbolTree). xs ++ zs) (sym (append_assoc copies (map rigid_symbol us) (map rigid_symbol vs)))
      ∙ sym (append_assoc xs (more_of us) (map rigid_symbol vs)))

  now_both : (done more : List ℕ) → now_of (done ++ more) ≡ now_of done ++ made_from m path within first (steps_of more)
  now_both done more =
      ap (λ (ss : List CopyStep). first ++ made_from m path within first ss) (steps_both x c.decls done more)
      ∙ (ap (λ (ds : List DeclarationTree). first ++ ds) (made_both m path within first (steps_of done) (steps_of more))
      ∙ sym (append_assoc first (made_from m path within first (steps_of done)) (made_from m path within first (steps_of more))))

  -- ---- entries
  copies_built : IsBuiltRight (xs ++ copies)
  copies_built = source_kept xs copies (tupled_built c t es [] typed placed sound known apart names told within) (All-map IsOfSource (λ k. entry_copied m path within (symbol_or xs k)) ks (λ i d b. typed.source))

  pub built : (us : List Word) → IsBuiltRight (all_of us)
  built us = subst IsBuiltRight (append_assoc xs copies (map rigid_symbol us)) (variables_built (xs ++ copies) us copies_built)

  copies_scoped : All IsScopedEntry (xs ++ copies)
  copies_scoped =
      let setting_now = tupled_setting c t es [] typed placed sound known apart names told within in
      let entries : All (IsTypedEntry (of_signature (xs ++ copies))) copies =
      all_copies_typed (state_setting c) o es path within placed (record { theory = typed.theory; source = typed.source; signature = typed.theories.signature; scopes = typed.scopes }) names typed.theory in
      (further_typed xs copies setting_now.signature entries (All-map IsGrounded (λ k. entry_copied m path within (symbol_or xs k)) ks (λ i d b q. typed.theory))).scoped

  pub scoped : (us : List Word) → All IsScopedEntry (all_of us)
  scoped us = subst (All IsScopedEntry) (append_assoc xs copies (map rigid_symbol us)) (All-append IsScopedEntry (xs ++ copies) (map rigid_symbol us) copies_scoped (rigids_scoped us))

  -- ---- the clone
  is_said : (p : ℕ) (vars : List Word) → axioms_at t.axioms p ≡ Some vars → IsSaid (decl_or c.decls p).body
  is_said p vars q = let z = said p vars q in said_is (decl_or c.decls p).body z.formula z.body

  grown : (us : List Word) → all_of us ≡ c.symbols ++ (rights_tuples c.symbols es ++ more_of us)
  grown us = append_assoc c.symbols (rights_tuples c.symbols es) (more_of us)

  first_sound : (us : List Word) → AreSound (all_of us) first
  first_sound us = subst (λ (zs : List SymbolTree). AreSound zs first) (sym (grown us)) (sound_more c.symbols (rights_tuples c.symbols es ++ more_of us) first sound.opened.theory.sound (subst IsBuiltRight (grown us) (built us)))

  earlier_is : xs ≡ known.earlier ++ (known.later ++ rights_tuples c.symbols es)
  earlier_is = ap (λ (zs : List SymbolTree). zs ++ rights_tuples c.symbols es) known.symbols ∙ append_assoc known.earlier known.later (rights_tuples c.symbols es)

  others_sound : AreSound xs (others t.path (visible_in c t))
  others_sound =
      subst (λ (zs : List SymbolTree). AreSound zs (others t.path (visible_in c t))) (sym earlier_is)
      (sound_more known.earlier (known.later ++ rights_tuples c.symbols es) (others t.path (visible_in c t)) known.theory.others (subst IsBuiltRight earlier_is (tupled_built c t es [] typed placed sound known apart names told within)))

  pub is_clone : (us : List Word) → IsClone xs (more_of us) m path within first (steps_of t.visible)
  is_clone us = record {
    source = subst (AreSound xs) (sym (steps_declarations x c.decls t.visible known.theory.below)) (source_sound c t es [] typed placed sound known apart names told within);
    others = subst (AreSound xs) (sym (steps_taken x c.decls t.visible known.theory.below)) others_sound;
    first_sound = first_sound us;
    agree = subst (Agree first) (sym (steps_taken x c.decls t.visible known.theory.below))
        (All-filter (is_other t.path) (λ (e : DeclarationTree). IsTrue (has_theory first e.theory) → Contains first e) (visible_in c t) (places_agree c.decls c.opened.visible t.visible sound.opened.theory.whole));
    named = sound.opened.named;
    not_built = sound.opened.source;
    built = keeps c t es [] typed placed sound known apart names told within;
    fit = steps_fit c t es (map rigid_symbol us) typed placed sound known apart names told within t.visible (λ p z. z) known.theory.below is_said;
  }

  there_right : AreMadeRight xs (declarations_of (steps_of t.visible))
  there_right =
      subst (AreMadeRight xs) (sym (steps_declarations x c.decls t.visible known.theory.below))
      (subst (λ (zs : List SymbolTree). AreMadeRight zs (visible_in c t)) (sym earlier_is)
      (right_more known.earlier (known.later ++ rights_tuples c.symbols es) (visible_in c t) known.theory.sound (made_right known.earlier (visible_in c t) known.theory.sound known.theory.signature)))

  first_right : (us : List Word) → AreMadeRight (all_of us) first
  first_right us = subst (λ (zs : List SymbolTree). AreMadeRight zs first) (sym (grown us)) (right_more c.symbols (rights_tuples c.symbols es ++ more_of us) first sound.opened.theory.sound (made_right c.symbols first sound.opened.theory.sound sound.opened.theory.signature))

  -- ---- a goal that is made at a place
  module _ (us : List Word) (done rest : List ℕ) (k : ℕ) (whole : done ++ k ∷ rest ≡ t.visible) (vars : List Word) (formula : Tree) (body : (decl_or c.decls k).body ≡ Says formula) (count : (decl_or c.decls k).vars ≡ length vars) (quoted : All IsQuoted vars) where
    abbrev ds : List DeclarationTree
    ds = declarations_of (steps_of done)

    abbrev d : DeclarationTree
    d = decl_or c.decls k

    split : steps_of t.visible ≡ steps_of done ++ steps_of (k ∷ rest)
    split = ap steps_of (sym whole) ∙ steps_both x c.decls done (k ∷ rest)

    front : IsClone xs (more_of us) m path within first (steps_of done)
    front = clone_front xs (more_of us) m path within first (steps_of done) (steps_of (k ∷ rest)) (subst (IsClone xs (more_of us) m path within first) split (is_clone us))

    front_right : AreMadeRight xs ds
    front_right = front_all (λ (e : DeclarationTree). All (IsMadeRight xs e) (made_by e.body)) ds (declarations_of (steps_of (k ∷ rest)))
        (subst (AreMadeRight xs) (ap declarations_of split ∙ map-append declaration_of (steps_of done) (steps_of (k ∷ rest))) there_right)

    cloning : IsCloning xs ds m (all_of us) (now_of done)
    cloning = clone_sound m path within first xs (more_of us) (steps_of done) front

    now_right : AreMadeRight (all_of us) (now_of done)
    now_right = right_after xs (more_of us) m path within first (steps_of done) front front_right (first_right us)

    next_sound : AreSound xs (ds ++ d ∷ [])
    next_sound =
        let a : declarations_of (steps_of (done ++ k ∷ rest)) ≡ ds ++ declarations_of (steps_of (k ∷ rest)) = ap declarations_of (steps_both x c.decls done (k ∷ rest)) ∙ map-append declaration_of (steps_of done) (steps_of (k ∷ rest)) in
        let b : declarations_of (steps_of (k ∷ rest)) ≡ d ∷ declarations_of (steps_of rest) = ap (λ (e : DeclarationTree). e ∷ declarations_of (steps_of rest)) (step_is x c.decls k) in
        let e : declarations_of (steps_of (done ++ k ∷ rest)) ≡ (ds ++ d ∷ []) ++ declarations_of (steps_of rest) =
        a ∙ (ap (λ (zs : List DeclarationTree). ds ++ zs) b ∙ sym (append_assoc ds (d ∷ []) (declarations_of (steps_of rest)))) in
        let whole_sound : AreSound xs (declarations_of (steps_of (done ++ k ∷ rest))) = subst (λ (js : List ℕ). AreSound xs (declarations_of (steps_of js))) (sym whole) (is_clone us).source in
        front_sound xs (ds ++ d ∷ []) (declarations_of (steps_of rest)) (subst (AreSound xs) e whole_sound)

    with_it : IsCloning xs (ds ++ d ∷ []) m (all_of us) (now_of done)
    with_it = cloning_left xs ds m (all_of us) (now_of done) cloning d next_sound (λ j z. says_nothing d.body j (said_is d.body formula body) z)

    formula_there : IsFormulaOver (after xs [] (ds ++ d ∷ [])) [] (length vars) formula
    formula_there =
        let v = after xs [] (ds ++ d ∷ []) in
        let valid : IsValidDecl v d = All-contains (IsValidDecl v) (ds ++ d ∷ []) d (list_valid xs [] (ds ++ d ∷ []) next_sound.valid) (Contains-append_right ds (d ∷ []) d (0, omega arith, refl)) in
        let f : IsFormulaOver v [] d.vars formula = subst (IsValidBody v d.vars) body valid in
        subst (λ (n : ℕ). IsFormulaOver v [] n formula) count f

    pub said_sound : (name : Word) (before : ℕ) → IsSoundAfter (all_of us ++ map rigid_symbol vars) (now_of done)
        (record { name = name; before = before; prop = inst_types (mapped m formula) (rigid_types (entry_numbers (length (all_of us)) vars)); rigid = entry_numbers (length (all_of us)) vars })
    said_sound name before =
        let f : IsFormulaOver (after (all_of us) [] (now_of done)) [] (length vars) (mapped m formula) =
        formula_mapped (after xs [] (ds ++ d ∷ [])) (after (all_of us) [] (now_of done)) m with_it.morphism (typed_list xs (ds ++ d ∷ []) next_sound) (length vars) formula formula_there in
        goal_sound (all_of us) (now_of done) with_it.sound now_right (scoped us) (mapped m formula) vars f quoted name before

  -- ---- what the places added
  pub record IsReached (done : List ℕ) (s : StateTree) : Type 0 where
    pub us : List Word
    pub new : List DeclarationTree
    pub axioms : List AxiomAt
    pub goals : List GoalTree
    pub grew : IsGrown begin s us new axioms goals
    pub of : All (λ (e : DeclarationTree). e.theory ≡ path) new
    pub sound_axioms : All (IsSoundAxiom s.decls) axioms
    pub plain_axioms : All (IsPlainAxiom s.decls) axioms
    pub sound_goals : All (IsSoundAmong (all_of us) (now_of done)) goals

  -- entries so far
  symbols_are : (s : StateTree) (us : List Word) → s.symbols ≡ begin.symbols ++ map rigid_symbol us → s.symbols ≡ all_of us
  symbols_are s us q = q ∙ append_assoc xs copies (map rigid_symbol us)

  reached_next : (done : List ℕ) (k : ℕ) (s s' : StateTree) (vs : List Word) (es2 : List DeclarationTree) (as_ : List AxiomAt) (gs : List GoalTree) (h : IsReached done s) → IsGrown s s' vs es2 as_ gs
      → All (λ (e : DeclarationTree). e.theory ≡ path) es2 → All (IsSoundAxiom s'.decls) as_ → All (IsPlainAxiom s'.decls) as_ → All (IsSoundAmong (all_of (h.us ++ vs)) (now_of (done ++ k ∷ []))) gs → IsReached (done ++ k ∷ []) s'
  reached_next done k s s' vs es2 as_ gs h g of_path sa pa sg = record {
    us = h.us ++ vs;
    new = h.new ++ es2;
    axioms = h.axioms ++ as_;
    goals = h.goals ++ gs;
    grew = then_grown begin s s' h.us vs h.new es2 h.axioms as_ h.goals gs h.grew g;
    of = All-append (λ (e : DeclarationTree). e.theory ≡ path) h.new es2 h.of of_path;
    sound_axioms = All-append (IsSoundAxiom s'.decls) h.axioms as_ (subst (λ (ds : List DeclarationTree). All (IsSoundAxiom ds) h.axioms) (sym g.decls) (λ i a l. axiom_grown s.decls es2 (get_or h.axioms i a) (h.sound_axioms i a l))) sa;
    plain_axioms = All-append (IsPlainAxiom s'.decls) h.axioms as_ (subst (λ (ds : List DeclarationTree). All (IsPlainAxiom ds) h.axioms) (sym g.decls) (λ i a l. plain_more s.decls es2 (get_or h.axioms i a) (h.plain_axioms i a l))) pa;
    sound_goals = All-append (IsSoundAmong (all_of (h.us ++ vs)) (now_of (done ++ k ∷ []))) h.goals gs (λ i x2 l. old (get_or h.goals i x2) (h.sound_goals i x2 l)) sg;
  }
    where
      old : (g2 : GoalTree) → IsSoundAmong (all_of h.us) (now_of done) g2 → IsSoundAmong (all_of (h.us ++ vs)) (now_of (done ++ k ∷ [])) g2
      old g2 y =
          let b : IsBuiltRight (all_of h.us ++ map rigid_symbol vs) = subst IsBuiltRight (all_both h.us vs) (built (h.us ++ vs)) in
          subst (λ (zs : List SymbolTree). IsSoundAmong zs (now_of (done ++ k ∷ [])) g2) (sym (all_both h.us vs))
          (subst (λ (ds : List DeclarationTree). IsSoundAmong (all_of h.us ++ map rigid_symbol vs) ds g2) (sym (now_both done (k ∷ [])))
          (among_grown (all_of h.us) (map rigid_symbol vs) (now_of done) (made_from m path within first (steps_of (k ∷ []))) g2 b y))

  nothing_added : (done : List ℕ) (k : ℕ) (s s' : StateTree) (h : IsReached done s) → IsGrown s s' [] [] [] [] → IsReached (done ++ k ∷ []) s'
  nothing_added done k s s' h g = reached_next done k s s' [] [] [] [] h g (All-nil (λ (e : DeclarationTree). e.theory ≡ path)) (All-nil (IsSoundAxiom s'.decls)) (All-nil (IsPlainAxiom s'.decls)) (All-nil (IsSoundAmong (all_of (h.us ++ [])) (now_of (done ++ k ∷ []))))

  module _ (done rest : List ℕ) (k : ℕ) (whole : done ++ k ∷ rest ≡ t.visible) (s : StateTree) (h : IsReached done s) (counted : length s.opened.visible ≡ length (now_of done)) where
    below_here : k < length c.decls
    below_here = All-contains (λ (i : ℕ). i < length c.decls) t.visible k known.theory.below (subst (λ (js : List ℕ). Contains js k) whole (Contains-append_right done (k ∷ rest) k (0, omega arith, refl)))

    same_here : decl_or s.decls k ≡ decl_or c.decls k
    same_here = ap (λ (ds : List DeclarationTree). decl_or ds k) h.grew.decls ∙ or_front c.decls h.new k below_here

    abbrev copy : DeclarationTree
    copy = copy_of x s k

    copy_path : copy.theory ≡ path
    copy_path = h.grew.path

    one_of : All (λ (e : DeclarationTree). e.theory ≡ path) (copy ∷ [])
    one_of = All-cons (λ (e : DeclarationTree). e.theory ≡ path) copy [] copy_path (All-nil (λ (e : DeclarationTree). e.theory ≡ path))

    -- a copy that is no axiom
    copied_next : IsReached (done ++ k ∷ []) (with_declaration copy s)
    copied_next = reached_next done k s (with_declaration copy s) [] (copy ∷ []) [] [] h (declared_grown copy s) one_of (All-nil (IsSoundAxiom (with_declaration copy s).decls)) (All-nil (IsPlainAxiom (with_declaration copy s).decls))
        (All-nil (IsSoundAmong (all_of (h.us ++ [])) (now_of (done ++ k ∷ []))))

    module _ (vars : List Word) (f : IsSaidAt c.decls k vars) where
      abbrev formula : Tree
      formula = mapped m f.formula

      copy_says : copy.body ≡ Says formula
      copy_says = ap (body_mapped m) (ap (λ (e : DeclarationTree). e.body) same_here ∙ f.body)

      copy_vars : copy.vars ≡ length vars
      copy_vars = ap (λ (e : DeclarationTree). e.vars) same_here ∙ f.count

      -- an axiom
      axiom_sound : IsSoundAxiom (s.decls ++ copy ∷ []) (axiom_at (length s.decls) vars)
      axiom_sound = record {
        there = let n = length-append s.decls (copy ∷ []) in omega (arith, n);
        count = λ e q. ap (λ (y : DeclarationTree). y.vars) (sym (last_at s.decls copy e q)) ∙ copy_vars;
        quoted = f.quoted;
      }

      axiom_plain : IsPlainAxiom (s.decls ++ copy ∷ []) (axiom_at (length s.decls) vars)
      axiom_plain = record {
        there = let n = length-append s.decls (copy ∷ []) in omega (arith, n);
        said = λ e q. subst (λ (y : DeclarationTree). IsSaid y.body) (last_at s.decls copy e q) (said_is copy.body formula copy_says);
      }

      axiom_next : IsReached (done ++ k ∷ []) (with_copied_axiom vars copy s)
      axiom_next = reached_next done k s (with_copied_axiom vars copy s) [] (copy ∷ []) (axiom_at (length s.decls) vars ∷ []) [] h (axiom_added vars copy s) one_of
          (All-cons (IsSoundAxiom (s.decls ++ copy ∷ [])) (axiom_at (length s.decls) vars) [] axiom_sound (All-nil (IsSoundAxiom (s.decls ++ copy ∷ []))))
          (All-cons (IsPlainAxiom (s.decls ++ copy ∷ [])) (axiom_at (length s.decls) vars) [] axiom_plain (All-nil (IsPlainAxiom (s.decls ++ copy ∷ []))))
          (All-nil (IsSoundAmong (all_of (h.us ++ [])) (now_of (done ++ k ∷ []))))

      -- a goal
      abbrev new_goal : GoalTree
      new_goal = goal_here vars copy.name formula s

      abbrev here_goal : GoalTree
      here_goal = record { name = copy.name; before = length s.opened.visible; prop = inst_types formula (rigid_types (entry_numbers (length (all_of h.us)) vars)); rigid = entry_numbers (length (all_of h.us)) vars }

      numbers_are : next_numbers (length s.symbols) vars ≡ entry_numbers (length (all_of h.us)) vars
      numbers_are = same_numbers (length s.symbols) vars ∙ ap (λ (zs : List SymbolTree). entry_numbers (length zs) vars) (symbols_are s h.us h.grew.symbols)

      goal_is : new_goal ≡ here_goal
      goal_is = ap (λ (js : List ℕ). goal_of copy.name (length s.opened.visible) formula js) numbers_are

      goal_among : IsSoundAmong (all_of (h.us ++ vars)) (now_of (done ++ k ∷ [])) new_goal
      goal_among =
          let g = said_sound h.us done rest k whole vars f.formula f.body f.count f.quoted copy.name (length s.opened.visible) in
          let made = made_from m path within first (steps_of (k ∷ [])) in
          let front : take (length s.opened.visible) (now_of done ++ made) ≡ now_of done = ap (λ (n : ℕ). take n (now_of done ++ made)) counted ∙ take-append_seam (now_of done) made in
          subst (λ (zs : List SymbolTree). IsSoundAmong zs (now_of (done ++ k ∷ [])) new_goal) (sym (all_both h.us vars))
          (subst (λ (ds : List DeclarationTree). IsSoundAmong (all_of h.us ++ map rigid_symbol vars) ds new_goal) (sym (now_both done (k ∷ [])))
          (subst (IsSoundAmong (all_of h.us ++ map rigid_symbol vars) (now_of done ++ made)) (sym goal_is) (record {
            before = let l = length-append (now_of done) made in omega (arith, l, counted);
            sound = subst (λ (ds : List DeclarationTree). IsSoundAfter (all_of h.us ++ map rigid_symbol vars) ds here_goal) (sym front) g;
          })))

      one_goal : All (IsSoundAmong (all_of (h.us ++ vars)) (now_of (done ++ k ∷ []))) (new_goal ∷ [])
      one_goal = All-cons (IsSoundAmong (all_of (h.us ++ vars)) (now_of (done ++ k ∷ []))) new_goal [] goal_among (All-nil (IsSoundAmong (all_of (h.us ++ vars)) (now_of (done ++ k ∷ []))))

      abbrev goal_state : StateTree
      goal_state = goal_with vars copy.name (Says formula) s

      goal_next : IsReached (done ++ k ∷ []) goal_state
      goal_next = reached_next done k s goal_state vars [] [] (new_goal ∷ []) h (goal_added vars copy.name formula s) (All-nil (λ (e : DeclarationTree). e.theory ≡ path)) (All-nil (IsSoundAxiom goal_state.decls)) (All-nil (IsPlainAxiom goal_state.decls)) one_goal

      lemma_next : IsReached (done ++ k ∷ []) (with_declaration copy goal_state)
      lemma_next = reached_next done k s (with_declaration copy goal_state) vars (copy ∷ []) [] (new_goal ∷ []) h (lemma_added vars copy formula s) one_of (All-nil (IsSoundAxiom (s.decls ++ copy ∷ []))) (All-nil (IsPlainAxiom (s.decls ++ copy ∷ []))) one_goal

      by_kind : (a : PropKind) → IsReached (done ++ k ∷ []) (with_kind a vars copy s)
      by_kind kind.Axiom = axiom_next
      by_kind kind.Lemma = subst (λ (b : BodyTree). IsReached (done ++ k ∷ []) (with_declaration copy (goal_with vars copy.name b s))) (sym copy_says) lemma_next
      by_kind kind.Goal = subst (λ (b : BodyTree). IsReached (done ++ k ∷ []) (goal_with vars copy.name b s)) (sym copy_says) goal_next

    by_axiom : (a : Option (List Word)) → axioms_at t.axioms k ≡ a → IsReached (done ++ k ∷ []) (with_copy x k a copy s)
    by_axiom None q = copied_next
    by_axiom (Some vars) q = by_kind vars (said k vars q) (kind_or (x.effects k) x.all)

    place_next : IsReached (done ++ k ∷ []) (with_place x k s)
    place_next = of (is_own s.decls x.path k) (is_replaced (x.effects k))
      where
        of : (a r : Bool) → IsReached (done ++ k ∷ []) (if a then (if r then s else with_copy x k (axioms_at t.axioms k) copy s) else with_joined k s)
        of true true = nothing_added done k s s h (itself_grown s)
        of true false = by_axiom (axioms_at t.axioms k) refl
        of false r = nothing_added done k s (with_joined k s) h (joined_grown k s)

  -- ---- all places
  places_then : (js more : List ℕ) (s : StateTree) → with_places x (js ++ more) s ≡ with_places x more (with_places x js s)
  places_then [] more s = refl
  places_then (k ∷ js) more s = places_then js more (with_place x k s)

  run : (js done : List ℕ) (s : StateTree) → IsReached done s → s ≡ with_places x done begin → done ++ js ≡ t.visible
      → ((done rest : List ℕ) → done ++ rest ≡ t.visible → length (with_places x done begin).opened.visible ≡ length (now_of done)) → IsReached (done ++ js) (with_places x js s)
  run [] done s h is whole counted = subst (λ (zs : List ℕ). IsReached zs s) (sym (append-nil done)) h
  run (k ∷ js) done s h is whole counted =
      let n : length s.opened.visible ≡ length (now_of done) = ap (λ (z : StateTree). length z.opened.visible) is ∙ counted done (k ∷ js) whole in
      let next = place_next done js k whole s h n in
      let there : with_place x k s ≡ with_places x (done ++ k ∷ []) begin = ap (with_place x k) is ∙ sym (places_then done (k ∷ []) begin) in
      subst (λ (zs : List ℕ). IsReached zs (with_places x (k ∷ js) s)) (append_assoc done (k ∷ []) js)
      (run js (done ++ k ∷ []) (with_place x k s) next there (append_assoc done (k ∷ []) js ∙ whole) counted)

  begun : IsReached [] begin
  begun = record {
    us = [];
    new = [];
    axioms = [];
    goals = [];
    grew = itself_grown begin;
    of = All-nil (λ (e : DeclarationTree). e.theory ≡ path);
    sound_axioms = All-nil (IsSoundAxiom c.decls);
    plain_axioms = All-nil (IsPlainAxiom c.decls);
    sound_goals = All-nil (IsSoundAmong (all_of []) (now_of []));
  }

  pub all_reached : ((done rest : List ℕ) → done ++ rest ≡ t.visible → length (with_places x done begin).opened.visible ≡ length (now_of done)) → IsReached t.visible (with_places x t.visible begin)
  all_reached counted = run t.visible [] begin begun refl refl counted
