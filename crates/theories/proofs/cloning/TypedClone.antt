-- All that is known stays typed where a theory is cloned.
use Rattle.std.proofs.Common.{◌≡◌, ℕ, ◌+◌, if◌then◌else◌, Bool, true, false, List, [], ◌∷◌, ◌++◌, map, length, get_or, slice_get, All, Option, Some, None, refl, sym, ap, subst, ◌∙◌}
use Rattle.std.specs.List.{Contains}
use Rattle.std.proofs.lemmas.List.Elements.{All-append, All-map}
use Rattle.tasks.specs.Task.{SymbolTree, symbol_or, DeclarationTree, BodyTree, MakesType, Makes, Defines, Induces, Constructs, Says}
use Rattle.tasks.specs.Rigid.{rigid_symbol}
use Rattle.tasks.specs.Vocabulary.{Vocabulary, of_signature, is_empty}
use Rattle.elab_groups.specs.scopes.declared.Table.TheVariants.{Symbols}
use Rattle.elab_groups.specs.scopes.declared.Referent.TheVariants as stands
use Rattle.theory_states.specs.Moves.{MoveTree, handed}
use Rattle.surface.specs.Lexeme.{Word}
use Rattle.surface.specs.declared.names.Name.{Name}
use Rattle.surface.specs.declared.names.Path.{Path}
use Rattle.surface.specs.declared.declarations.Link.{Link}
use Rattle.surface.specs.declared.declarations.PropKind.{PropKind}
use Rattle.surface.specs.declared.declarations.PropKind.TheVariants as kind
use Rattle.surface.specs.Declarations.{Element}
use Rattle.clones.specs.Mapped.{Map}
use Rattle.clones.specs.Copies.{entry_copied}
use Rattle.elaboration_laws.specs.theory_states.goal_tasks.Theories.{GoalTree}
use Rattle.elaboration_laws.specs.Scopes.{IsSubvocabulary, IsSymbolNumber, IsTypedEntry, IsTypedSignature}
use Rattle.elaboration_laws.proofs.Extended.{thing_more, scopes_part}
use Rattle.elaboration_laws.specs.Valid.{IsTypedSetting}
use Rattle.elaboration_laws.specs.Built.{IsBuiltRight}
use Rattle.elaboration_laws.proofs.Kept.{IsOfSource, source_kept}
use Rattle.elaboration_laws.specs.Morphisms.{MapsTypes}
use Rattle.elaboration_laws.specs.Entries.{IsGrounded}
use Rattle.elaboration_laws.proofs.Entries.{further_typed, variables_typed, variables_built}
use Rattle.elaboration_laws.proofs.ClonedNames.{symbol_there}
use Rattle.elaboration_laws.specs.Moves.{IsTypedMove, AreTypedMoves}
use Rattle.elaboration_laws.proofs.Moves.{moves_under}
use Rattle.elaboration_laws.proofs.MovedScopes.{moves_more, brought_typed, handed_typed}
use Rattle.theory_states.specs.declared.states.AxiomAt.{AxiomAt}
use Rattle.theory_states.specs.States.{KnownTree, StateTree, known_has_path, with_declaration}
use Rattle.theory_states.specs.Uses.{path_text, last_part, alias_text}
use Rattle.elaboration_laws.specs.TypedStates.{state_setting, IsTypedState}
use Rattle.elaboration_laws.proofs.Keeping.{renamed_typed}
use Rattle.clones.specs.clone_elements.Left.{Origin, last_place}
use Rattle.clones.specs.clone_elements.Rights.{rights_tuples}
use Rattle.clones.specs.clone_elements.Replacements.{symbols_replaced, types_replaced, effects_of, kept, kind_or, is_replaced}
use Rattle.clones.specs.clone_copies.Origins.{origin_of, is_own}
use Rattle.clones.specs.clone_copies.Moves.{moves_mapped}
use Rattle.clones.specs.clone_copies.Places.{Copying, with_copied_axiom, goal_with, with_copied_goal, with_kind, with_copy, copy_of, with_joined, with_own, with_place, with_places}
use Rattle.elaboration_laws.specs.Placed.{IsPlacedEntry, ArePlaced}
use Rattle.elaboration_laws.specs.Sides.{with_rights, copies_made, with_copies}
use Rattle.elaboration_laws.proofs.Numbers.{symbol_of}
use Rattle.elaboration_laws.proofs.Rights.{all_typed, rights_built, entries_more}
use Rattle.elaboration_laws.proofs.Mapped.{maps_types, following, copied_at}
use Rattle.elaboration_laws.proofs.Copies.{all_copies_typed, all_placed, rigids_placed}
use Rattle.theories.specs.cloning.Cloned.{symbols_tupled, sides_in, map_in, within_of, copying_in, with_copied_entries, with_names, IsCloned}
use Rattle.theories.proofs.Rights.{right_numbers}
use Rattle.theories.proofs.SourceLists.{found_has}
use Rattle.elaboration_laws.proofs.Begun.{slice_or as or_at}
use Rattle.elaboration_laws.proofs.Declarations.{below as slice_below}

-- ---- states
state_over : (c : StateTree) (ys : List SymbolTree) → IsTypedSignature (of_signature (c.symbols ++ ys)) (c.symbols ++ ys) → IsBuiltRight (c.symbols ++ ys) → IsTypedState c → IsTypedState (record c { symbols = c.symbols ++ ys })
state_over c ys signature built h =
    let v = of_signature c.symbols in
    let w = of_signature (c.symbols ++ ys) in
    let p : IsSubvocabulary v w = entries_more c.symbols ys in
    record {
      theories = record { signature = signature; built = built; known = λ k d l. moves_more v w p (get_or c.known k d).moves (h.theories.known k d l) };
      theory = h.theory;
      source = h.source;
      scopes = scopes_part v w p c.opened.scope h.scopes;
      moves = moves_more v w p c.opened.moves h.moves;
    }

-- ---- the copies at their places
module _ (ms : List MoveTree) where
  record Kept (c : StateTree) : Type 0 where
    typed : IsTypedState c
    placed : ArePlaced c.symbols
    moves : AreTypedMoves (of_signature c.symbols) ms

  others_kept : (c : StateTree) (ds : List DeclarationTree) (visible : List ℕ) (axioms : List AxiomAt) (goals : List GoalTree) → Kept c → Kept (record c { decls = ds; opened = record c.opened { visible = visible; axioms = axioms; goals = goals } })
  others_kept c ds visible axioms goals h = record {
    typed = record {
      theories = record { signature = h.typed.theories.signature; built = h.typed.theories.built; known = h.typed.theories.known };
      theory = h.typed.theory;
      source = h.typed.source;
      scopes = h.typed.scopes;
      moves = h.typed.moves;
    };
    placed = h.placed;
    moves = h.moves;
  }

  variables_kept : (vs : List Word) (c : StateTree) → Kept c → Kept (record c { symbols = c.symbols ++ map rigid_symbol vs })
  variables_kept vs c h =
      let ys = map rigid_symbol vs in
      record {
        typed = state_over c ys (variables_typed c.symbols vs h.typed.theories.signature) (variables_built c.symbols vs h.typed.theories.built) h.typed;
        placed = All-append IsPlacedEntry c.symbols ys h.placed (rigids_placed vs);
        moves = moves_more (of_signature c.symbols) (of_signature (c.symbols ++ ys)) (entries_more c.symbols ys) ms h.moves;
      }

  declaration_kept : (d : DeclarationTree) (c : StateTree) → Kept c → Kept (with_declaration d c)
  declaration_kept d c h = let e = with_declaration d c in others_kept c e.decls e.opened.visible e.opened.axioms e.opened.goals h

  goal_kept : (vars : List Word) (name : Word) (b : BodyTree) (c : StateTree) → Kept c → Kept (goal_with vars name b c)
  goal_kept vars name (Says e) c h =
      let x = record c { symbols = c.symbols ++ map rigid_symbol vars } in
      let y = goal_with vars name (Says e) c in
      others_kept x y.decls y.opened.visible y.opened.axioms y.opened.goals (variables_kept vars c h)
  goal_kept vars name (MakesType k) c h = h
  goal_kept vars name (Makes k) c h = h
  goal_kept vars name (Defines ds) c h = h
  goal_kept vars name (Induces ds) c h = h
  goal_kept vars name (Constructs ds) c h = h

  kind_kept : (k : PropKind) (vars : List Word) (d : DeclarationTree) (c : StateTree) → Kept c → Kept (with_kind k vars d c)
  kind_kept kind.Axiom vars d c h = let e = with_copied_axiom vars d c in others_kept c e.decls e.opened.visible e.opened.axioms e.opened.goals h
  kind_kept kind.Lemma vars d c h = declaration_kept d (with_copied_goal vars d c) (goal_kept vars d.name d.body c h)
  kind_kept kind.Goal vars d c h = goal_kept vars d.name d.body c h

  copy_kept : (x : Copying) (k : ℕ) (o : Option (List Word)) (d : DeclarationTree) (c : StateTree) → Kept c → Kept (with_copy x k o d c)
  copy_kept x k None d c h = declaration_kept d c h
  copy_kept x k (Some vars) d c h = kind_kept (kind_or (x.effects k) x.all) vars d c h

  joined_kept : (k : ℕ) (c : StateTree) → Kept c → Kept (with_joined k c)
  joined_kept k c h = let e = with_joined k c in others_kept c e.decls e.opened.visible e.opened.axioms e.opened.goals h

  either : (b : Bool) (x y : StateTree) → Kept x → Kept y → Kept (if b then x else y)
  either true x y h k = h
  either false x y h k = k

  place_kept : (x : Copying) (k : ℕ) (c : StateTree) → Kept c → Kept (with_place x k c)
  place_kept x k c h =
      let own = either (is_replaced (x.effects k)) c (with_copy x k (x.axioms k) (copy_of x c k) c) h (copy_kept x k (x.axioms k) (copy_of x c k) c h) in
      either (is_own c.decls x.path k) (with_own x k c) (with_joined k c) own (joined_kept k c h)

  places_kept : (x : Copying) (ks : List ℕ) (c : StateTree) → Kept c → Kept (with_places x ks c)
  places_kept x [] c h = h
  places_kept x (k ∷ ks) c h = places_kept x ks (with_place x k c) (place_kept x k c h)

-- ---- a clone
module _ (l : Link) (p : Path) (alias : Option Name) (es : List Element) (c c' : StateTree) (h : IsCloned l p alias es c c') (typed : IsTypedState c) (placed : ArePlaced c.symbols) where
  abbrev o : Origin
  o = origin_of c.decls h.theory

  abbrev all : List SymbolTree
  all = symbols_tupled c es

  abbrev within : Word
  within = within_of l (last_part p.parts) (alias_text alias) c.opened.within

  abbrev m : Map
  m = map_in c h.theory es

  abbrev ks : List ℕ
  ks = kept o (effects_of (sides_in c h.theory es))

  abbrev copies : List SymbolTree
  copies = copies_made (state_setting c) o es c.opened.path within

  abbrev whole : List SymbolTree
  whole = with_copies (state_setting c) o es c.opened.path within

  abbrev v : Vocabulary
  v = of_signature all

  abbrev w : Vocabulary
  w = of_signature whole

  here : IsTypedSetting (of_signature c.symbols) (state_setting c)
  here = record { theory = typed.theory; source = typed.source; signature = typed.theories.signature; scopes = typed.scopes }

  tupled : IsTypedSetting v (with_rights (state_setting c) es)
  tupled = all_typed es (state_setting c) here h.names

  maps : MapsTypes v w m
  maps = maps_types (state_setting c) o es c.opened.path within here h.names typed.theory

  entries : All (IsTypedEntry w) copies
  entries = all_copies_typed (state_setting c) o es c.opened.path within placed here h.names typed.theory

  copy : ℕ → SymbolTree
  copy k = entry_copied m c.opened.path within (symbol_or all k)

  signature : IsTypedSignature w whole
  signature = further_typed all copies tupled.signature entries (All-map IsGrounded (λ k. entry_copied m c.opened.path within (symbol_or all k)) ks (λ i d b q. typed.theory))

  built : IsBuiltRight whole
  built = source_kept all copies (rights_built es c.symbols typed.theories.built) (All-map IsOfSource (λ k. entry_copied m c.opened.path within (symbol_or all k)) ks (λ i d b. typed.source))

  -- symbols
  abbrev Becomes : ℕ → ℕ → Type 0
  Becomes k j = IsSymbolNumber v k → IsSymbolNumber w j

  stays : (k : ℕ) → Becomes k k
  stays k x = thing_more v w (entries_more all copies) Symbols (stands.Entry k) x

  anew : (i k : ℕ) → slice_get ks i ≡ Some k → Becomes k (length all + i)
  anew i k q x =
      let e = entry_copied m c.opened.path within (symbol_or all k) in
      let f : ℕ → SymbolTree = λ j. entry_copied m c.opened.path within (symbol_or all j) in
      let at : slice_get whole (length all + i) ≡ Some e = following all copies i (length all + i) refl ∙ copied_at f ks i k q in
      let same : symbol_or whole (length all + i) ≡ e = or_at whole (length all + i) e at in
      symbol_there whole (length all + i) (slice_below whole (length all + i) e at) (ap (λ (s : SymbolTree). is_empty s.theory) same ∙ typed.theory) (λ z. x.kind (ap (λ (s : SymbolTree). s.kind) (sym same) ∙ z))

  replaced : (q : ℕ × ℕ) → Contains (symbols_replaced o (sides_in c h.theory es)) q → Becomes q.0 q.1
  replaced q z x =
      let u = of_signature c.symbols in
      let n : IsSymbolNumber u q.1 = right_numbers u c.opened.scope typed.scopes (λ y. last_place c.symbols o y None o.own) o es c.symbols h.names q z in
      stays q.1 (thing_more u v (entries_more c.symbols (rights_tuples c.symbols es)) Symbols (stands.Entry q.1) n)

  symbol_becomes : (k : ℕ) → Becomes k (m.symbols k)
  symbol_becomes = symbol_of (types_replaced all o (sides_in c h.theory es)) (symbols_replaced o (sides_in c h.theory es)) (length all) ks Becomes stays anew replaced

  -- the moves
  abbrev moves : List MoveTree
  moves = moves_mapped all m h.theory.moves

  new_moves : AreTypedMoves w moves
  new_moves =
      let u = of_signature c.symbols in
      let known : AreTypedMoves u h.theory.moves = found_has (λ (t : KnownTree). AreTypedMoves u t.moves) (known_has_path (path_text p.parts)) c.known h.theory typed.theories.known h.found in
      moves_under v w m maps symbol_becomes h.theory.moves (moves_more u v (entries_more c.symbols (rights_tuples c.symbols es)) h.theory.moves known)

  -- with the entries
  abbrev E : StateTree
  E = with_copied_entries c h.theory es within

  begun : Kept moves E
  begun =
      let c1 = record c { symbols = all } in
      let s1 : IsTypedState c1 = state_over c (rights_tuples c.symbols es) tupled.signature (rights_built es c.symbols typed.theories.built) typed in
      record {
        typed = state_over c1 copies signature built s1;
        placed = all_placed (state_setting c) o es c.opened.path within placed typed.theory;
        moves = new_moves;
      }

  abbrev X : StateTree
  X = with_places (copying_in c h.theory es within) h.theory.visible E

  ended : Kept moves X
  ended = places_kept moves (copying_in c h.theory es within) h.theory.visible E begun

  pub cloned_typed : IsTypedState c'
  cloned_typed =
      let z = ended in
      let u = of_signature X.symbols in
      let last = last_part p.parts in
      let next = with_names l last (alias_text alias) moves X in
      subst IsTypedState (sym h.is) (renamed_typed X next.opened X.number refl (brought_typed u l last (alias_text alias) moves X.opened.scope z.moves z.typed.scopes)
      (All-append (IsTypedMove u) X.opened.moves (handed l moves) z.typed.moves (handed_typed u l moves z.moves)) z.typed)

  pub cloned_placed : ArePlaced c'.symbols
  cloned_placed = let z = ended in subst ArePlaced (ap (λ (x : StateTree). x.symbols) (sym h.is)) z.placed
