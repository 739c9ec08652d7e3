-- What is known once a declaration is elaborated and its names are passed on.
use Rattle.std.proofs.Common.{◌≡◌, ℕ, List, [], ◌∷◌, ◌++◌, map, length, get_or, All, sym, ap, subst, ◌∙◌}
use Rattle.std.proofs.lemmas.List.{map-append}
use Rattle.std.proofs.lemmas.List.Elements.{All-nil, All-cons, All-append, All-head, All-tail}
use Rattle.tasks.specs.trees.Tree.{Tree}
use Rattle.tasks.specs.trees.Node.{tree_at, Holds, Grows}
use Rattle.tasks.specs.trees.Sorts.{WellSorted}
use Rattle.tasks.specs.trees.declared.TermId.{TermId}
use Rattle.tasks.specs.Task.{SymbolTree, DeclarationTree}
use Rattle.tasks.specs.Meaning.{symbols_at, declarations_at}
use Rattle.tasks.specs.Vocabulary.{of_signature}
use Rattle.elab_groups.specs.scopes.Names.{ScopeNames, TypeName}
use Rattle.elab_groups.specs.scopes.declared.Referent.TheVariants as stands
use Rattle.elab_groups.specs.scopes.declared.Table.{Table}
use Rattle.elab_groups.specs.scopes.declared.Table.TheVariants.{Types, Symbols, Propositions, Scopes}
use Rattle.elab_groups.specs.name_resolution.Naming.{type_tree_at, scope_at}
use Rattle.elab_groups.specs.name_resolution.Where.{NamesTree}
use Rattle.elab_groups.specs.open_types.Drafts.{MeaningHeld}
use Rattle.surface.specs.Declarations as source
use Rattle.theory_states.specs.Moves.{MoveTree}
use Rattle.elaboration_laws.specs.checks.decl_checks.Checks.{HasNoFault}
use Rattle.elab_groups.specs.declared.parts.made.Elaborated.{Elaborated}
use Rattle.elab_groups.specs.parts.Entries.{IsThing, AreScopes}
use Rattle.elaboration_laws.specs.Scopes.{IsTypedSignature, AreTypedScopes}
use Rattle.elaboration_laws.specs.Valid.{HaveNoFault}
use Rattle.theories.specs.side_conditions.Sides.{bodies}
use Rattle.elaboration_laws.specs.Moves.{IsTypedMove}
use Rattle.elaboration_laws.proofs.MovedScopes.{moves_more}
use Rattle.elaboration_laws.specs.Built.{IsBuiltRight}
use Rattle.elaboration_laws.specs.TaskTyped.{IsTypedOver}
use Rattle.elaboration_laws.proofs.TaskOutcomes.{elaborated_kept}
use Rattle.elaboration_laws.proofs.Typed.{setting_kept}
use Rattle.theories.specs.declaring.Made.{moves_declared}
use Rattle.theory_states.specs.declared.states.Opened.{Opened}
use Rattle.theory_states.specs.declared.states.Typed.{Typed}
use Rattle.theory_states.specs.States.{StateTree}
use Rattle.theory_states.specs.Meaning.{move_at, state_at, NamesHeld, MoveHeld, OpenedHeld, TypedHeld, StateHeld}
use Rattle.theory_states.proofs.Growing.{state_grows, state_stays}
use Rattle.theory_states.proofs.Moving.{moves_stay}
use Rattle.elaboration_laws.specs.TypedStates.{state_setting, IsTypedState}
use Rattle.theories.specs.declaring.Declared.{proposition_in, known_by, with_named, IsDeclared}
use Rattle.theories.specs.declaring.Steps.{IsNextState}
use Rattle.theories.proofs.declaring.MadeMoves.{declared_with, declared_held}
use Rattle.theories.proofs.declaring.Typed.{declared_typed, setting_typed, known_typed}
use Rattle.elaboration_laws.proofs.Rights.{entries_more as signature_part}

-- the types of kept scopes are held
thing_held : (s : List Tree) (n : ℕ) (table : Table) (t : TypeName) → IsThing s n table t → MeaningHeld s t
thing_held s n table (stands.Entry k) h = tt
thing_held s n Types (stands.Alias vars ty) h = h.0
thing_held s n Symbols (stands.Alias vars ty) h = absurd h
thing_held s n Propositions (stands.Alias vars ty) h = absurd h
thing_held s n Scopes (stands.Alias vars ty) h = absurd h

pub scopes_held : (s : List Tree) (n : ℕ) (names : ScopeNames) → AreScopes s n names → NamesHeld s names
scopes_held s n names h = λ k es i. λ j e x. thing_held s n (get_or (get_or names.entries k es) j e).table (get_or (get_or names.entries k es) j e).thing (h k es i j e x)

pub bodies_pass : (symbols : List SymbolTree) (ds : List DeclarationTree) → All (HasNoFault symbols) (bodies ds) → HaveNoFault symbols ds
bodies_pass symbols [] h = All-nil (λ (d : DeclarationTree). HasNoFault symbols d.body)
bodies_pass symbols (d ∷ ds) h = All-cons (λ (i : DeclarationTree). HasNoFault symbols i.body) d ds (All-head (HasNoFault symbols) d.body (bodies ds) h) (bodies_pass symbols ds (All-tail (HasNoFault symbols) d.body (bodies ds) h))

module _ (s : List Tree) (t : Typed) (o : Opened) (d : source.SyntaxDeclaration) (s' : List Tree) (t' : Typed) (o1 o2 : Opened) (made : Elaborated) (g : Grows s s') (held : StateHeld s t o) (n : IsNextState s t o d s' t' o1 made) (same : o2 ≡ record o1 { moves = o2.moves })
    (moves : o2.moves.items ≡ o1.moves.items ++ moves_declared o1.scope d) where
  abbrev c : StateTree
  c = state_at s t o

  opened : o2 ≡ record o { scope = o1.scope; moves = o2.moves }
  opened = same ∙ ap (λ (x : Opened). let it : Opened = record x { moves = o2.moves } in it) n.opened

  -- what is passed on then
  moves_are : map (move_at s') o2.moves.items ≡ c.opened.moves ++ moves_declared n.elaborated.outcome.scope d
  moves_are =
      let own = map (move_at s') (moves_declared o1.scope d) in
      let old : map (move_at s') o1.moves.items ≡ c.opened.moves = ap (λ (x : Opened). map (move_at s') x.moves.items) n.opened ∙ moves_stay s s' g o.moves.items held.opened.moves in
      let new : own ≡ moves_declared n.elaborated.outcome.scope d = sym (declared_with (type_tree_at s') o1.scope d) ∙ ap (λ (x : NamesTree). moves_declared x d) n.elaborated.scope in
      ap (map (move_at s')) moves ∙ map-append (move_at s') o1.moves.items (moves_declared o1.scope d) ∙ ap (λ (ms : List MoveTree). ms ++ own) old ∙ ap (λ (ms : List MoveTree). c.opened.moves ++ ms) new

  pub named_state : state_at s' t' o2 ≡ with_named d n.elaborated.outcome c
  named_state =
      let e = n.elaborated in
      let first : state_at s' t' o2 ≡ state_at s' (record t { sig = t'.sig }) (record o { scope = o1.scope; moves = o2.moves }) = ap (λ (x : Typed). state_at s' x o2) n.typed ∙ ap (state_at s' (record t { sig = t'.sig })) opened in
      let over : StateTree → StateTree = λ x. record x { symbols = symbols_at s' t'.sig.symbols; opened = record x.opened { scope = scope_at s' o1.scope; moves = map (move_at s') o2.moves.items } } in
      let mk : List SymbolTree → NamesTree → List MoveTree → StateTree = λ a b ms. record c { symbols = a; opened = record c.opened { scope = b; moves = ms } } in
      first ∙ ap over (state_stays s s' g t o held)
      ∙ ap (λ (a : List SymbolTree). mk a (scope_at s' o1.scope) (map (move_at s') o2.moves.items)) e.symbols_are
      ∙ ap (λ (b : NamesTree). mk (c.symbols ++ e.outcome.symbols) b (map (move_at s') o2.moves.items)) e.scope
      ∙ ap (mk (c.symbols ++ e.outcome.symbols) e.outcome.scope) moves_are

  pub named_held : StateHeld s' t' o2
  named_held =
      let h = state_grows s s' g t o held in
      let typed : TypedHeld s' (record t { sig = t'.sig }) = record { signature = n.kept.signature; decls = h.typed.decls; known = h.typed.known } in
      let old : All (MoveHeld s') o1.moves.items = subst (λ (x : Opened). All (MoveHeld s') x.moves.items) (sym n.opened) h.opened.moves in
      let handed : All (MoveHeld s') o2.moves.items = subst (All (MoveHeld s')) (sym moves) (All-append (MoveHeld s') o1.moves.items (moves_declared o1.scope d) old (declared_held s' (length t'.sig.symbols) o1.scope n.kept.scopes d)) in
      let one : OpenedHeld s' (length t.decls) (record o { scope = o1.scope; moves = o2.moves }) =
      record { visible = h.opened.visible; goals = h.opened.goals; scope = scopes_held s' (length t'.sig.symbols) o1.scope n.kept.scopes; moves = handed } in
      let count : length t.decls ≡ length t'.decls = sym (ap (λ (x : Typed). length x.decls) n.typed) in
      record {
        typed = subst (TypedHeld s') (sym n.typed) typed;
        opened = subst (OpenedHeld s' (length t'.decls)) (sym opened) (subst (λ (k : ℕ). OpenedHeld s' k (record o { scope = o1.scope; moves = o2.moves })) count one);
      }

  pub named_typed : ((id : TermId) → Holds s' id → WellSorted (tree_at s' id)) → IsTypedState c → IsTypedState (with_named d n.elaborated.outcome c)
  named_typed sorted h =
      let e = n.elaborated in
      let all = c.symbols ++ e.outcome.symbols in
      let v = of_signature c.symbols in
      let w = of_signature all in
      let part = signature_part c.symbols e.outcome.symbols in
      let over : IsTypedOver (symbols_at s' t'.sig.symbols) (scope_at s' o1.scope) = setting_kept (state_setting c) n.parts t.sig s' t'.sig o1.scope made (setting_typed c h) e d n.of sorted n.kept.decls (bodies_pass (symbols_at s' t'.sig.symbols) (declarations_at s' made.decls) n.checked) in
      let scopes : AreTypedScopes w e.outcome.scope = subst (AreTypedScopes w) e.scope (subst (λ (es : List SymbolTree). AreTypedScopes (of_signature es) (scope_at s' o1.scope)) e.symbols_are over.scopes) in
      record {
        theories = record {
          signature = subst (λ (es : List SymbolTree). IsTypedSignature (of_signature es) es) e.symbols_are over.signature;
          built = subst IsBuiltRight e.symbols_are (elaborated_kept (state_setting c) n.parts t.sig s' t'.sig o1.scope made h.source e h.theories.built);
          known = λ k x l. moves_more v w part (get_or c.known k x).moves (h.theories.known k x l);
        };
        theory = h.theory;
        source = h.source;
        scopes = scopes;
        moves = All-append (IsTypedMove w) c.opened.moves (moves_declared e.outcome.scope d) (moves_more v w part c.opened.moves h.moves) (declared_typed w e.outcome.scope scopes d);
      }

  -- ---- what is known then
  module _ (s3 : List Tree) (t3 : Typed) (o3 : Opened) (p : state_at s3 t3 o3 ≡ known_by (proposition_in d) made.rigid (declarations_at s' made.decls) (state_at s' t' o2)) where
    pub known_state : state_at s3 t3 o3 ≡ known_by (proposition_in d) n.elaborated.outcome.rigid n.elaborated.outcome.decls (with_named d n.elaborated.outcome c)
    known_state =
        let e = n.elaborated in
        let over : List ℕ → List DeclarationTree → StateTree → StateTree = λ ks ds x. known_by (proposition_in d) ks ds x in
        let named = with_named d e.outcome c in
        let q : state_at s' t' o2 ≡ named = named_state in
        p ∙ (ap (over made.rigid (declarations_at s' made.decls)) q ∙ (ap (λ (ks : List ℕ). over ks (declarations_at s' made.decls) named) e.rigid ∙ ap (λ (ds : List DeclarationTree). over e.outcome.rigid ds named) e.decls))

    pub is_declared : IsDeclared d c (state_at s3 t3 o3)
    is_declared =
        let e = n.elaborated in
        record {
          parts = n.parts;
          of = n.of;
          outcome = e.outcome;
          is = e.is;
          named = e.named;
          covered = rw (e.symbols_are, e.matches) at n.covered;
          checked = rw (e.symbols_are, e.decls) at n.checked;
          known = known_state;
        }

    pub is_typed : ((id : TermId) → Holds s' id → WellSorted (tree_at s' id)) → IsTypedState c → IsTypedState (state_at s3 t3 o3)
    is_typed sorted h =
        let o' = n.elaborated.outcome in
        subst IsTypedState (sym known_state) (known_typed (proposition_in d) o'.rigid o'.decls (with_named d o' c) (named_typed sorted h))
