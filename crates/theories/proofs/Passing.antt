-- The parts of a declaration's step: the number moves on, and scopes are opened and left.
use Rattle.std.proofs.Common.{◌≡◌, ℕ, ◌+◌, List, [], ◌∷◌, ◌++◌, map, All, refl, sym, ap, subst, ◌∙◌}
use Rattle.std.specs.Prelude.{true}
use Rattle.std.proofs.lemmas.List.{map-append}
use Rattle.std.proofs.lemmas.List.Elements.{All-push}
use Rattle.tasks.specs.trees.Tree.{Tree}
use Rattle.tasks.specs.Vocabulary.{Vocabulary, of_signature}
use Rattle.tasks.specs.Meaning.{symbols_at}
use Rattle.elaboration_laws.specs.scopes.Names.{with_scope}
use Rattle.elaboration_laws.specs.name_resolution.Naming.{type_tree_at, scope_at}
use Rattle.elaboration_laws.specs.name_resolution.Where.{NamesTree}
use Rattle.elab_groups.proofs.scopes.Mapped.{opened_with}
use Rattle.theory_states.specs.declared.moves.Move.{Move}
use Rattle.theory_states.specs.Moves.{MoveTree, left}
use Rattle.theory_states.specs.States.{StateTree}
use Rattle.theory_states.proofs.Moving.{left_with}
use Rattle.elaboration_laws.specs.Scopes.{AreTypedScopes}
use Rattle.elaboration_laws.specs.Moves.{AreTypedMoves, IsTypedMove}
use Rattle.elaboration_laws.proofs.MovedScopes.{opened_typed, left_typed}
use Rattle.theory_states.specs.declared.states.Opened.{Opened}
use Rattle.theory_states.specs.declared.states.Typed.{Typed}
use Rattle.theory_states.specs.Meaning.{move_at, opened_at, state_at, NamesHeld, MoveHeld}
use Rattle.elaboration_laws.proofs.Keeping.{renamed_typed}
use Rattle.theories.specs.Typing.{IsPassed}
use Rattle.theories.specs.Right.{IsStateRight}

-- the open theory but for its number
pub passed_right : (s : List Tree) (t : Typed) (o o' : Opened) (n : ℕ) → o' ≡ record o { count = n } → IsStateRight s t o → IsStateRight s t o'
passed_right s t o o' n e h = subst (IsStateRight s t) (sym e) (record {
  held = record { typed = h.held.typed; opened = record { visible = h.held.opened.visible; goals = h.held.opened.goals; scope = h.held.opened.scope; moves = h.held.opened.moves } };
  typed = renamed_typed (state_at s t o) (opened_at s o) n refl h.typed.scopes h.typed.moves h.typed;
  placed = h.placed;
})

pub passed_is : (s : List Tree) (t : Typed) (o o' : Opened) → o' ≡ record o { count = o.count + 1 } → IsPassed (state_at s t o) (state_at s t o')
passed_is s t o o' e = ap (state_at s t) e

-- other scopes, moves and names of scopes
pub scoped_right : (s : List Tree) (t : Typed) (o o' : Opened) → o' ≡ record o { within = o'.within; scope = o'.scope; moves = o'.moves; count = o'.count }
    → NamesHeld s o'.scope → All (MoveHeld s) o'.moves.items
    → AreTypedScopes (of_signature (symbols_at s t.sig.symbols)) (scope_at s o'.scope) → AreTypedMoves (of_signature (symbols_at s t.sig.symbols)) (map (move_at s) o'.moves.items)
    → IsStateRight s t o → IsStateRight s t o'
scoped_right s t o o' e names handed scopes moves h =
    let o1 : Opened = record o { within = o'.within; scope = o'.scope; moves = o'.moves; count = o'.count } in
    subst (IsStateRight s t) (sym e) (record {
      held = record { typed = h.held.typed; opened = record { visible = h.held.opened.visible; goals = h.held.opened.goals; scope = names; moves = handed } };
      typed = renamed_typed (state_at s t o) (opened_at s o1) o'.count refl scopes moves h.typed;
      placed = h.placed;
    })

module _ (s : List Tree) (t : Typed) (o : Opened) (h : IsStateRight s t o) where
  abbrev v : Vocabulary
  v = of_signature (symbols_at s t.sig.symbols)

  pub opened_scopes : (x : List ℕ) → AreTypedScopes v (scope_at s (with_scope x true o.scope))
  opened_scopes x = subst (AreTypedScopes v) (sym (opened_with (type_tree_at s) x true o.scope)) (opened_typed v x true (scope_at s o.scope) h.typed.scopes)

  pub left_scopes : AreTypedScopes v (scope_at s (left o.scope))
  left_scopes = subst (AreTypedScopes v) (sym (left_with (type_tree_at s) o.scope)) (left_typed v (scope_at s o.scope) h.typed.scopes)

  -- a further move that names nothing
  pub moves_typed : (m : Move ℕ) (ms : List (Move ℕ)) → IsTypedMove v (move_at s m) → ms ≡ o.moves.items ++ m ∷ [] → AreTypedMoves v (map (move_at s) ms)
  moves_typed m ms k q =
      subst (AreTypedMoves v) (sym (ap (map (move_at s)) q ∙ map-append (move_at s) o.moves.items (m ∷ []))) (All-push (IsTypedMove v) (map (move_at s) o.moves.items) (move_at s m) h.typed.moves k)

  pub moves_held : (m : Move ℕ) (ms : List (Move ℕ)) → MoveHeld s m → ms ≡ o.moves.items ++ m ∷ [] → All (MoveHeld s) ms
  moves_held m ms k q = subst (All (MoveHeld s)) (sym q) (All-push (MoveHeld s) o.moves.items m h.held.opened.moves k)

  -- the state with other scopes, moves, names of scopes and number
  pub scoped_state : (o' : Opened) → o' ≡ record o { within = o'.within; scope = o'.scope; moves = o'.moves; count = o'.count } → (names : NamesTree) (ms : List MoveTree)
      → scope_at s o'.scope ≡ names → map (move_at s) o'.moves.items ≡ ms
      → state_at s t o' ≡ record (state_at s t o) { opened = record (opened_at s o) { within = o'.within.items; scope = names; moves = ms }; number = o'.count }
  scoped_state o' e names ms p q =
      let mk : NamesTree → List MoveTree → StateTree = λ a b. record (state_at s t o) { opened = record (opened_at s o) { within = o'.within.items; scope = a; moves = b }; number = o'.count } in
      ap (state_at s t) e ∙ ap (λ (a : NamesTree). mk a (map (move_at s) o'.moves.items)) p ∙ ap (mk names) q

  pub further_moves : (m : Move ℕ) (ms : List (Move ℕ)) → ms ≡ o.moves.items ++ m ∷ [] → map (move_at s) ms ≡ map (move_at s) o.moves.items ++ move_at s m ∷ []
  further_moves m ms q = ap (map (move_at s)) q ∙ map-append (move_at s) o.moves.items (m ∷ [])
