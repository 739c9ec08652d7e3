-- The map of a clone fits the steps of the clone: the symbols of copies are new, those that are replaced became symbols with the mapped
-- signature, and those of other theories stay.
use Rattle.std.proofs.Common.{◌≡◌, ◌≢◌, ◌⊎◌, inl, inr, ℕ, ◌+◌, ◌<◌, ◌&&◌, not, if◌then◌else◌, zero, suc, Bool, true, false, List, [], ◌∷◌, ◌++◌, length, get_or, slice_get, Contains, All, Option, Some, None, IsSomeAnd, refl, sym, ap, subst, ◌∙◌, arith, length-append, append_assoc}
use Rattle.std.specs.Str.{bytes_eq}
use Rattle.std.proofs.lemmas.List.{get_or_append_left}
use Rattle.std.proofs.lemmas.List.Elements.{All-nil, All-cons, All-contains, Contains-get_or}
use Rattle.tasks.specs.trees.Tree.{Tree}
use Rattle.tasks.specs.declared.signature.SymbolKind.TheVariants.{Kind}
use Rattle.tasks.specs.Task.{SymbolTree, symbol_or, int_symbol, BodyTree, MakesType, Makes, Defines, Induces, Constructs, Says, DeclarationTree, made, made_by}
use Rattle.tasks.specs.Roles.{is_constructor, role_in}
use Rattle.tasks.specs.Vocabulary.{Vocabulary, of_signature}
use Rattle.tasks.specs.Typing.{entry}
use Rattle.tasks.specs.Valid.{IsTypeIn, HasTypes, IsTypeEntry, IsSignatureOf, IsValidBody, IsValidDecl}
use Rattle.elaboration_laws.specs.clones.Mapped.{Map}
use Rattle.surface.specs.Lexeme.{Word}
use Rattle.surface.specs.Declarations.{Element}
use Rattle.surface.specs.declared.declarations.PropKind.{PropKind}
use Rattle.surface.specs.declared.declarations.PropKind.TheVariants as kind
use Rattle.elaboration_laws.specs.clones.Copies.{entry_copied}
use Rattle.elaboration_laws.specs.elab_groups.parts.Entries.{builtin}
use Rattle.elaboration_laws.specs.Scopes.{is_projection_kind, IsSubvocabulary, IsSymbolNumber}
use Rattle.elaboration_laws.proofs.Extended.{further}
use Rattle.elaboration_laws.specs.Valid.{IsTypedSetting}
use Rattle.elaboration_laws.specs.Lists.{is_built, after}
use Rattle.elaboration_laws.proofs.Begin.{agrees}
use Rattle.elaboration_laws.proofs.Lists.{list_valid}
use Rattle.elaboration_laws.specs.Built.{IsBuiltRight}
use Rattle.elaboration_laws.specs.Tasks.{AreSound}
use Rattle.elaboration_laws.proofs.Grown.{more_part, sound_more}
use Rattle.elaboration_laws.specs.Morphisms.{TypeBecomes, KindBecomes, HasMappedTypes}
use Rattle.theory_states.specs.States.{KnownTree, StateTree, visible_in, visible_now}
use Rattle.elaboration_laws.specs.TypedStates.{state_setting, IsTypedState}
use Rattle.elaboration_laws.specs.Sound.{IsSoundKnown, IsApart, IsSoundState}
use Rattle.elaboration_laws.proofs.Places.{here, in_places}
use Rattle.elaboration_laws.specs.Cloning.{IsImage, BecomesNew, IsFixed, KeepsBuilt}
use Rattle.elaboration_laws.specs.Steps.{copies, leaves, joins, BecomesNumbered, StepFits}
use Rattle.elaboration_laws.proofs.Distinct.{pairs_distinct}
use Rattle.theories.proofs.InOrder.{in_order, block, kept_once}
use Rattle.elaboration_laws.proofs.Vocabularies.{made_below}
use Rattle.elaboration_laws.proofs.Trials.{signatures_agree}
use Rattle.elaboration_laws.specs.clones.clone_elements.Left.{Origin, no_declaration, decl_or, last_place}
use Rattle.elaboration_laws.specs.clones.clone_elements.Rights.{rights_tuples, rights_fault}
use Rattle.elaboration_laws.specs.clones.clone_elements.Replacements.{SideTree, PlacedEffects, no_effects, effects_of, is_replaced, kind_or, has_all, types_replaced, symbols_replaced, kept}
use Rattle.elaboration_laws.specs.clones.clone_copies.Origins.{is_own, axioms_at, origin_of}
use Rattle.elaboration_laws.specs.clones.clone_copies.Entries.{entries_copied}
use Rattle.elaboration_laws.specs.clones.clone_copies.Places.{Copying}
use Rattle.elaboration_laws.specs.Placed.{ArePlaced}
use Rattle.elaboration_laws.specs.Sides.{IsTypedSide, with_rights}
use Rattle.elaboration_laws.proofs.Rights.{all_typed, rights_typed, rights_built}
use Rattle.elaboration_laws.proofs.Copies.{or_typed, tupled_placed}
use Rattle.theories.specs.cloning.Cloned.{symbols_tupled, sides_in, tried_in, map_in, AreTold, copying_in}
use Rattle.elaboration_laws.specs.PlaceSteps.{step_as, step_of, copy_step_at, copy_steps_at}
use Rattle.theories.specs.Plain.{IsSaid}
use Rattle.theories.proofs.Numbers.{IsReplacedBy, type_cases}
use Rattle.theories.proofs.Lefts.{kinds_become, sides_read}
use Rattle.theories.proofs.Elements.{HasType, HasSymbol, IsSymbolReplaced, types_fit}
use Rattle.theories.proofs.Owned.{own_in, own_there, makes_in, own_visible, one_place, makes_own, makes_below}
use Rattle.theories.proofs.Maps.{IsMadeOwn, type_makes, symbol_makes, fixed, copied_type, copied_at, copied_alone, pair_of, replaced_type, replaced_symbol, symbol_from, agrees as maps_agree}
use Rattle.theories.proofs.Rights.{agree, sides_after, right_numbers}
use Rattle.elaboration_laws.proofs.Mapped.{following, copied_at as copied_there}
use Rattle.std.proofs.lemmas.Option.{slice_get-get_or as some_at}
use Rattle.elaboration_laws.proofs.Numbers.{later}
use Rattle.elaboration_laws.proofs.Begun.{slice_or}

-- ---- lists

type_vars : (xs : List SymbolTree) (k n : ℕ) → IsSomeAnd (slice_get xs k) (λ (e : SymbolTree). (e.kind ≡ Kind) × (n ≡ e.vars)) → n ≡ (symbol_or xs k).vars
type_vars [] k n h = absurd h
type_vars (x ∷ xs) zero n h = h.1
type_vars (x ∷ xs) (suc k) n h = type_vars xs k n h

some_and : (o : Option SymbolTree) (e : SymbolTree) (P : SymbolTree → Type 0) → o ≡ Some e → P e → IsSomeAnd o P
some_and o e P q p = subst (λ (x : Option SymbolTree). IsSomeAnd x P) (sym q) p

-- a declaration that says a proposition makes nothing
pub says_nothing : {X : Type 0} (b : BodyTree) (k : ℕ) → IsSaid b → Contains (made_by b) k → X
says_nothing (Says e) k h c = absurd (omega (arith, c.1))
says_nothing (MakesType j) k h c = absurd h
says_nothing (Makes j) k h c = absurd h
says_nothing (Defines ds) k h c = absurd h
says_nothing (Induces ds) k h c = absurd h
says_nothing (Constructs ds) k h c = absurd h

module _ (c : StateTree) (t : KnownTree) (es : List Element) (rest : List SymbolTree) (typed : IsTypedState c) (placed : ArePlaced c.symbols) (sound : IsSoundState c) (known : IsSoundKnown c.symbols c.decls t) (apart : IsApart c.decls c.opened.path t)
    (names : rights_fault c.symbols c.opened.scope es ≡ None) (told : AreTold c t es None) (within : Word) where
  abbrev o : Origin
  o = origin_of c.decls t

  abbrev xs : List SymbolTree
  xs = symbols_tupled c es

  abbrev tuples : List SymbolTree
  tuples = rights_tuples c.symbols es

  abbrev sides : List SideTree
  sides = sides_in c t es

  abbrev m : Map
  m = map_in c t es

  abbrev tried : Map
  tried = tried_in c t es

  abbrev final : PlacedEffects
  final = effects_of sides

  abbrev path : Word
  path = c.opened.path

  abbrev made_copies : List SymbolTree
  made_copies = entries_copied xs m path within (kept o final)

  abbrev more : List SymbolTree
  more = made_copies ++ rest

  abbrev all : List SymbolTree
  all = xs ++ more

  abbrev first : List DeclarationTree
  first = visible_now c

  abbrev old : Vocabulary
  old = after c.symbols [] first

  abbrev w : Vocabulary
  w = after all [] first

  abbrev u : Vocabulary
  u = of_signature xs

  abbrev MakesAt : ℕ → ℕ → Type 0
  MakesAt p k = Contains (made_by (decl_or c.decls p).body) k

  abbrev body_of : ℕ → BodyTree
  body_of p = (decl_or c.decls p).body

  -- ---- what was there
  pub tupled_built : IsBuiltRight xs
  tupled_built = rights_built es c.symbols typed.theories.built

  grown : all ≡ c.symbols ++ (tuples ++ more)
  grown = append_assoc c.symbols tuples more

  pub source_sound : AreSound xs (visible_in c t)
  source_sound =
      let e : xs ≡ known.earlier ++ (known.later ++ tuples) = ap (λ (zs : List SymbolTree). zs ++ tuples) known.symbols ∙ append_assoc known.earlier known.later tuples in
      subst (λ (zs : List SymbolTree). AreSound zs (visible_in c t)) (sym e) (sound_more known.earlier (known.later ++ tuples) (visible_in c t) known.theory.sound (subst IsBuiltRight e tupled_built))

  part : IsSubvocabulary old w
  part = subst (λ (zs : List SymbolTree). IsSubvocabulary old (after zs [] first)) (sym grown) (more_part c.symbols (tuples ++ more) [] first)

  typed_setting : IsTypedSetting (of_signature c.symbols) (state_setting c)
  typed_setting = record { theory = typed.theory; source = typed.source; signature = typed.theories.signature; scopes = typed.scopes }

  pub tupled_setting : IsTypedSetting u (with_rights (state_setting c) es)
  tupled_setting = all_typed es (state_setting c) typed_setting names

  setting_after : IsTypedSetting w (state_setting c)
  setting_after =
      let h : IsTypedSetting old (state_setting c) = record { theory = typed.theory; source = typed.source; signature = sound.opened.theory.signature; scopes = sound.opened.scopes } in
      subst (λ (zs : List SymbolTree). IsTypedSetting (after zs [] first) (state_setting c)) (sym grown) (agrees old (after (c.symbols ++ (tuples ++ more)) [] first) (state_setting c) (agree c.symbols (tuples ++ more) first) h)

  -- ---- right sides
  abbrev places : Word → Option ℕ
  places = λ x. last_place c.symbols o x None o.own

  types_there : All (IsTypedSide w) sides
  types_there = sides_after all first places es (state_setting c) more refl setting_after names

  types_tupled : All (IsTypedSide u) sides
  types_tupled = rights_typed places es (state_setting c) typed_setting names

  number : (q : ℕ × ℕ) → Contains (symbols_replaced o sides) q → IsSymbolNumber old q.1
  number q z = right_numbers old c.opened.scope sound.opened.scopes places o es c.symbols names q z

  below : (q : ℕ × ℕ) → Contains (symbols_replaced o sides) q → q.1 < length xs
  below q z = let l = (number q z).there in let n = length-append c.symbols tuples in omega (arith, l, n)

  stays : (k : ℕ) → (IsMadeOwn o k → ⊥) → IsFixed m k
  stays k n = fixed c.symbols xs c.decls t sides source_sound (sides_read c.symbols o c.opened.scope es c.symbols) told below k n

  -- ---- what is built in stays
  pub keeps : KeepsBuilt xs m
  keeps k e q b = stays k no
    where
      theory : bytes_eq e.theory builtin ≡ true
      theory = of (bytes_eq e.theory builtin) refl b
        where
          of : (x : Bool) → bytes_eq e.theory builtin ≡ x → is_built e ≡ true → x ≡ true
          of true z h = refl
          of false z h = absurd (let v : is_built e ≡ false = ap (λ (y : Bool). y && not (is_projection_kind e.kind)) z in let y : true ≡ false = sym h ∙ v in cc)

      no : IsMadeOwn o k → ⊥
      no x =
          let i = makes_own xs c.decls t source_sound x.place k (own_visible xs c.decls t source_sound x.place x.own) x.makes in
          let same : bytes_eq (symbol_or xs k).theory builtin ≡ true = ap (λ (j : SymbolTree). bytes_eq j.theory builtin) (slice_or xs k e q) ∙ theory in
          let v : true ≡ false = sym same ∙ i.other in
          cc

  -- ---- copies
  module _ (p : ℕ) (own : Contains o.own p) (free : is_replaced (final p) ≡ false) where
    new : (k : ℕ) → MakesAt p k → BecomesNew xs all m path within k × (Contains (made first) (m.symbols k) → ⊥)
    new k z =
        let read = sides_read c.symbols o c.opened.scope es c.symbols in
        let at = copied_at c.symbols xs c.decls t sides source_sound read told below p k own free z in
        let e : slice_get made_copies at.place ≡ Some (entry_copied m path within (symbol_or xs k)) = copied_there (λ (j : ℕ). entry_copied m path within (symbol_or xs j)) (kept o final) at.place k at.at in (
          record {
            kept = copied_type c.symbols xs c.decls t sides source_sound read told below p k own free z;
            entry = following xs more at.place (m.symbols k) at.is ∙ further made_copies rest at.place (entry_copied m path within (symbol_or xs k)) e;
            alone = λ j l s. copied_alone c.symbols xs c.decls t sides source_sound read told below p k own free z j l s;
          },
          (λ i. let b = made_below c.symbols first sound.opened.theory.sound (m.symbols k) i in let n = length-append c.symbols tuples in let a = at.is in omega (arith, b, n, a)),
        )

    numbered : BecomesNumbered m (decl_or c.decls p)
    numbered =
        let read = sides_read c.symbols o c.opened.scope es c.symbols in
        let b = block o final o.own p own free in
        let once = kept_once c.decls t final t.visible (pairs_distinct (made (visible_in c t)) source_sound.once) in (
          length xs + length b.before,
          in_order (length xs) m.symbols (kept o final) b.before (made_by (body_of p)) b.after (length xs + length b.before) once b.is refl (λ k z. copied_at c.symbols xs c.decls t sides source_sound read told below p k own free z),
        )

    fits_copies : StepFits xs m all path within first (copies (decl_or c.decls p))
    fits_copies = ((λ i d l. new (get_or (made_by (body_of p)) i d) (Contains-get_or (made_by (body_of p)) i d l)), numbered)

  -- ---- what is replaced
  valid_at : (p k : ℕ) → Contains t.visible p → MakesAt p k → IsValidDecl (after xs [] (visible_in c t)) (decl_or c.decls p)
  valid_at p k v z = All-contains (IsValidDecl (after xs [] (visible_in c t))) (visible_in c t) (decl_or c.decls p) (list_valid xs [] (visible_in c t) source_sound.valid) (makes_in c.decls t.visible p k v z)

  abbrev Image : BodyTree → ℕ → Type 0
  Image b k = IsImage w m (symbol_or xs k) k (is_constructor (role_in k b))

  type_image : (p k : ℕ) (e : Tree) → Contains t.visible p → body_of p ≡ MakesType k → Contains (types_replaced xs o sides) (k, e) → Image (MakesType k) k
  type_image p k e v b z =
      let read = sides_read c.symbols o c.opened.scope es c.symbols in
      let r = replaced_type c.symbols xs c.decls t sides source_sound read told below k e z in
      let i : IsTypeIn w (symbol_or xs k).vars r.type = types_fit xs o w sides no_effects types_there (k, r.type) r.there in
      let x : IsTypeEntry (after xs [] (visible_in c t)) k = subst (IsValidBody (after xs [] (visible_in c t)) (decl_or c.decls p).vars) b (valid_at p k v (type_makes (body_of p) k b)) in
      record {
        type = λ q. subst (TypeBecomes w (symbol_or xs k).vars (m.symbols k)) (sym r.is) i;
        symbol = λ n. absurd (n x.kind);
        constructor = λ h. absurd (let y : false ≡ true = h in cc);
      }

  -- signatures that were compared by a trial are those under the map
  trial_type : (k : ℕ) (e : Tree) → tried.types k ≡ Some e → IsTypeIn u (symbol_or xs k).vars e
  trial_type k e q = of (type_cases (types_replaced xs o sides) [] (length xs) (kept o no_effects) k)
    where
      of : IsReplacedBy (types_replaced xs o sides) k (tried.types k) ⊎ (((x : Tree) → Contains (types_replaced xs o sides) (k, x) → ⊥) × (tried.types k ≡ None)) → IsTypeIn u (symbol_or xs k).vars e
      of (inl r) =
          let s : Some r.type ≡ Some e = sym r.is ∙ q in
          let y : r.type ≡ e = cc in
          subst (IsTypeIn u (symbol_or xs k).vars) y (types_fit xs o u sides no_effects types_tupled (k, r.type) r.there)
      of (inr z) = absurd (let y : None ≡ Some e = sym z.1 ∙ q in cc)

  entry_types : (k : ℕ) → HasTypes u (symbol_or xs k)
  entry_types k = (or_typed xs tupled_setting.signature (tupled_placed (state_setting c) o es path within placed) k).types

  same_types : (k j : ℕ) → IsSymbolReplaced c.symbols xs o tried final k j → HasMappedTypes m (symbol_or xs k) (symbol_or xs j)
  same_types k j x =
      signatures_agree (length xs) tried m (maps_agree c.symbols xs c.decls t sides source_sound (sides_read c.symbols o c.opened.scope es c.symbols) told below) u u
      (λ i n e s q. subst (λ (v : ℕ). IsTypeIn u v e) (sym (type_vars xs i n s.1)) (trial_type i e q))
      (symbol_or xs k) (symbol_or xs j) refl (entry_types k) (entry_types j)
      (record { vars = sym x.vars; args = sym x.signature.args; result = sym x.signature.result })

  symbol_image : (p k j : ℕ) → Contains t.visible p → body_of p ≡ Makes k → Contains (symbols_replaced o sides) (k, j) → Image (Makes k) k
  symbol_image p k j v b z =
      let read = sides_read c.symbols o c.opened.scope es c.symbols in
      let i = m.symbols k in
      let z2 = replaced_symbol c.symbols xs c.decls t sides source_sound read told below k j z in
      let x = symbol_from c.symbols xs c.decls t sides source_sound read told below k i z2 in
      let n : IsSymbolNumber old i = number (k, i) z2 in
      let f = symbol_or c.symbols i in
      let at : slice_get c.symbols i ≡ Some f = some_at c.symbols i int_symbol n.there in
      let e : IsSignatureOf (after xs [] (visible_in c t)) k = subst (IsValidBody (after xs [] (visible_in c t)) (decl_or c.decls p).vars) b (valid_at p k v (symbol_makes (body_of p) k b)) in
      let later : symbol_or xs i ≡ f = slice_or xs i f (further c.symbols tuples i f at) in
      let own : symbol_or xs k ≡ symbol_or c.symbols k = get_or_append_left c.symbols tuples int_symbol k (old_below p k v (symbol_makes (body_of p) k b)) in
      let kinds : KindBecomes (symbol_or xs k).kind f.kind = subst (λ (y : SymbolTree). KindBecomes y.kind f.kind) (sym own) (subst (λ (y : SymbolTree). KindBecomes (symbol_or c.symbols k).kind y.kind) later (kinds_become (symbol_or c.symbols k).kind (symbol_or xs i).kind x.word x.kind x.by)) in
      let types : HasMappedTypes m (symbol_or xs k) f = subst (HasMappedTypes m (symbol_or xs k)) later (same_types k i x) in
      record {
        type = λ q. absurd (e.kind q);
        symbol = λ q. (part.usable i f at n.usable, some_and (entry w i) f (λ (y : SymbolTree). KindBecomes (symbol_or xs k).kind y.kind × HasMappedTypes m (symbol_or xs k) y) (part.entries i f at) (kinds, types));
        constructor = λ h. absurd (let y : false ≡ true = h in cc);
      }
    where
      old_below : (p k : ℕ) → Contains t.visible p → MakesAt p k → k < length c.symbols
      old_below p k v z =
          let l = makes_below known.earlier c.decls t known.theory.sound p k v z in
          let n = ap length known.symbols ∙ length-append known.earlier known.later in
          omega (arith, l, n)

  alone_image : (b d : BodyTree) (k j : ℕ) → d ≡ b → made_by b ≡ k ∷ [] → Image b k → Contains (made_by d) j → Image d j
  alone_image b d k j q n h z =
      let y : Contains (k ∷ []) j = subst (λ (ks : List ℕ). Contains ks j) (ap made_by q ∙ n) z in
      let s : k ≡ j = one k j y in
      subst (λ (i : ℕ). Image d i) s (subst (λ (x : BodyTree). Image x k) (sym q) h)
    where
      one : (k j : ℕ) → Contains (k ∷ []) j → k ≡ j
      one k j (zero, l, e) = e
      one k j (suc i, l, e) = absurd (omega (arith, l))

  fits_replaced : (p : ℕ) → Contains t.visible p → is_replaced (final p) ≡ true → StepFits xs m all path within first (leaves (decl_or c.decls p))
  fits_replaced p v r = of (pair_of c.symbols xs c.decls t sides source_sound (sides_read c.symbols o c.opened.scope es c.symbols) told below p r)
    where
      of : HasType o (types_replaced xs o sides) p ⊎ HasSymbol o (symbols_replaced o sides) p → StepFits xs m all path within first (leaves (decl_or c.decls p))
      of (inl h) = λ i d l. alone_image (MakesType h.symbol) (body_of p) h.symbol (get_or (made_by (body_of p)) i d) h.body refl (type_image p h.symbol h.type v h.body h.there) (Contains-get_or (made_by (body_of p)) i d l)
      of (inr h) = λ i d l. alone_image (Makes h.symbol) (body_of p) h.symbol (get_or (made_by (body_of p)) i d) h.body refl (symbol_image p h.symbol h.by v h.body h.there) (Contains-get_or (made_by (body_of p)) i d l)

  -- ---- an axiom that becomes a goal
  pub fits_said : (p : ℕ) → IsSaid (body_of p) → StepFits xs m all path within first (leaves (decl_or c.decls p))
  fits_said p h = λ i d l. says_nothing (body_of p) (get_or (made_by (body_of p)) i d) h (Contains-get_or (made_by (body_of p)) i d l)

  -- ---- other theories
  fits_joins : (p : ℕ) → Contains t.visible p → p < length c.decls → is_own c.decls t.path p ≡ false → StepFits xs m all path within first (joins (decl_or c.decls p))
  fits_joins p v l q = ((λ i d n. stays (get_or (made_by (body_of p)) i d) (not_made (get_or (made_by (body_of p)) i d) (Contains-get_or (made_by (body_of p)) i d n))), strange)
    where
      not_made : (k : ℕ) → MakesAt p k → IsMadeOwn o k → ⊥
      not_made k z x =
          let i = own_in c.decls t.path t.visible x.place x.own in
          let s : x.place ≡ p = one_place xs c.decls t source_sound x.place p k i.0 v x.makes z in
          let y : true ≡ false = sym i.1 ∙ (ap (is_own c.decls t.path) s ∙ q) in
          cc

      strange : (decl_or c.decls p).theory ≢ path
      strange = All-contains (λ (d : DeclarationTree). d.theory ≢ path) (visible_in c t) (decl_or c.decls p) apart (in_places c.decls t.visible p (decl_or c.decls p) v (some_at c.decls p no_declaration l))

  -- ---- a step
  abbrev x : Copying
  x = copying_in c t es within

  step_fits : (p : ℕ) → Contains t.visible p → p < length c.decls → ((vars : List Word) → axioms_at t.axioms p ≡ Some vars → IsSaid (body_of p)) → StepFits xs m all path within first (copy_step_at x c.decls p)
  step_fits p v l said = of (is_own c.decls t.path p) (is_replaced (final p)) refl refl
    where
      by_kind : (own : Contains o.own p) (free : is_replaced (final p) ≡ false) → IsSaid (body_of p) → (k : PropKind) → StepFits xs m all path within first (step_as k (decl_or c.decls p))
      by_kind own free h kind.Goal = fits_said p h
      by_kind own free h kind.Axiom = fits_copies p own free
      by_kind own free h kind.Lemma = fits_copies p own free

      by_axiom : (own : Contains o.own p) (free : is_replaced (final p) ≡ false) (a : Option (List Word)) → axioms_at t.axioms p ≡ a → StepFits xs m all path within first (step_of x p a (decl_or c.decls p))
      by_axiom own free None q = fits_copies p own free
      by_axiom own free (Some vars) q = by_kind own free (said vars q) (kind_or (final p) (has_all sides))

      of : (a r : Bool) → is_own c.decls t.path p ≡ a → is_replaced (final p) ≡ r → StepFits xs m all path within first (if a then (if r then leaves (decl_or c.decls p) else step_of x p (axioms_at t.axioms p) (decl_or c.decls p)) else joins (decl_or c.decls p))
      of true true q z = fits_replaced p v z
      of true false q z = by_axiom (own_there c.decls t.path t.visible p v q) z (axioms_at t.axioms p) refl
      of false r q z = fits_joins p v l q

  pub steps_fit : (ks : List ℕ) → ((p : ℕ) → Contains ks p → Contains t.visible p) → All (λ (p : ℕ). p < length c.decls) t.visible → ((p : ℕ) (vars : List Word) → axioms_at t.axioms p ≡ Some vars → IsSaid (body_of p)) → All (StepFits xs m all path within first) (copy_steps_at x c.decls ks)
  steps_fit [] sub low said = All-nil (StepFits xs m all path within first)
  steps_fit (p ∷ ks) sub low said =
      let v = sub p (here p ks) in
      All-cons (StepFits xs m all path within first) (copy_step_at x c.decls p) (copy_steps_at x c.decls ks)
      (step_fits p v (All-contains (λ (i : ℕ). i < length c.decls) t.visible p low v) (said p))
      (steps_fit ks (λ i z. sub i (later p i ks z)) low said)
