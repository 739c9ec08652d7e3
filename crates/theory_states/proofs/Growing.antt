-- What is known of theories stays as the store grows.
use Rattle.std.proofs.Common.{◌≡◌, ℕ, List, map, length, get_or, All, ap, ◌∙◌}
use Rattle.trees.specs.Tree.{Tree}
use Rattle.trees.specs.Node.{Grows}
use Rattle.tasks.specs.Task.{SymbolTree, DeclarationTree}
use Rattle.tasks.specs.Meaning.{symbols_at, declarations_at}
use Rattle.tasks.proofs.Growth.{map_agree, held_later, tree_later, decl_held_later, declarations_later}
use Rattle.elab_groups.specs.name_resolution.Where.{NamesTree}
use Rattle.elab_groups.specs.name_resolution.Naming.{scope_at}
use Rattle.elab_groups.proofs.parts.Entering.{entries_stay, signature_grows}
use Rattle.theory_states.specs.declared.goal_tasks.theories.GoalAt.{GoalAt}
use Rattle.theory_states.specs.goal_tasks.Theories.{GoalTree}
use Rattle.theory_states.specs.goal_tasks.Meaning.{goal_at, GoalHeld}
use Rattle.theory_states.specs.declared.states.KnownTheory.{KnownTheory}
use Rattle.theory_states.specs.declared.states.Opened.{Opened}
use Rattle.theory_states.specs.declared.states.Typed.{Typed}
use Rattle.theory_states.specs.Moves.{MoveTree}
use Rattle.theory_states.specs.States.{KnownTree, OpenedTree, StateTree}
use Rattle.theory_states.specs.Meaning.{move_at, known_at, opened_at, state_at, KnownTheoryHeld, OpenedHeld, TypedHeld, StateHeld}
use Rattle.theory_states.proofs.Moving.{names_stay, names_grow, moves_stay, moves_grow}

module _ (s s' : List Tree) (g : Grows s s') where
  goal_stays : (x : GoalAt) → GoalHeld s x → goal_at s' x ≡ goal_at s x
  goal_stays x h = ap (λ (e : Tree). let it : GoalTree = record { name = x.name; before = x.before; prop = e; rigid = x.rigid } in it) (tree_later s s' g x.prop h)

  pub goals_stay : (xs : List GoalAt) → All (GoalHeld s) xs → map (goal_at s') xs ≡ map (goal_at s) xs
  goals_stay xs a = map_agree (goal_at s') (goal_at s) xs (λ k d h. goal_stays (get_or xs k d) (a k d h))

  goals_grow : (xs : List GoalAt) → All (GoalHeld s) xs → All (GoalHeld s') xs
  goals_grow xs a = λ k d h. held_later s s' g (get_or xs k d).prop (a k d h)

  known_stays : (n : ℕ) (k : KnownTheory) → KnownTheoryHeld s n k → known_at s' k ≡ known_at s k
  known_stays n k h =
      let mk : List GoalTree → List MoveTree → KnownTree = λ gs ms. record { path = k.theory.path; visible = k.theory.visible; axioms = k.axioms; goals = gs; moves = ms } in
      ap (λ (gs : List GoalTree). mk gs (map (move_at s') k.moves)) (goals_stay k.theory.goals h.goals) ∙ ap (mk (map (goal_at s) k.theory.goals)) (moves_stay s s' g k.moves h.moves)

  known_grows : (n : ℕ) (k : KnownTheory) → KnownTheoryHeld s n k → KnownTheoryHeld s' n k
  known_grows n k h = record { visible = h.visible; goals = goals_grow k.theory.goals h.goals; moves = moves_grow s s' g k.moves h.moves }

  pub all_known_stay : (n : ℕ) (ks : List KnownTheory) → All (KnownTheoryHeld s n) ks → map (known_at s') ks ≡ map (known_at s) ks
  all_known_stay n ks a = map_agree (known_at s') (known_at s) ks (λ k d h. known_stays n (get_or ks k d) (a k d h))

  pub opened_stays : (n : ℕ) (o : Opened) → OpenedHeld s n o → opened_at s' o ≡ opened_at s o
  opened_stays n o h =
      let mk : NamesTree → List GoalTree → List MoveTree → OpenedTree = λ ns gs ms. record { path = o.path; within = o.within.items; scope = ns; visible = o.visible.keys; axioms = o.axioms; goals = gs; moves = ms } in
      ap (λ (ns : NamesTree). mk ns (map (goal_at s') o.goals) (map (move_at s') o.moves.items)) (names_stay s s' g o.scope h.scope)
      ∙ ap (λ (gs : List GoalTree). mk (scope_at s o.scope) gs (map (move_at s') o.moves.items)) (goals_stay o.goals h.goals)
      ∙ ap (mk (scope_at s o.scope) (map (goal_at s) o.goals)) (moves_stay s s' g o.moves.items h.moves)

  typed_grows : (t : Typed) → TypedHeld s t → TypedHeld s' t
  typed_grows t h = record {
    signature = signature_grows s s' g t.sig.symbols h.signature;
    decls = λ k d l. decl_held_later s s' g (get_or t.decls k d) (h.decls k d l);
    known = λ k d l. known_grows (length t.decls) (get_or t.known k d) (h.known k d l);
  }

  -- all numbers are held in a store that has grown
  pub state_grows : (t : Typed) (o : Opened) → StateHeld s t o → StateHeld s' t o
  state_grows t o h = record {
    typed = typed_grows t h.typed;
    opened = record {
      visible = h.opened.visible;
      goals = goals_grow o.goals h.opened.goals;
      scope = names_grow s s' g o.scope h.opened.scope;
      moves = moves_grow s s' g o.moves.items h.opened.moves;
    };
  }

  pub state_stays : (t : Typed) (o : Opened) → StateHeld s t o → state_at s' t o ≡ state_at s t o
  state_stays t o h =
      let mk : List SymbolTree → List DeclarationTree → List KnownTree → OpenedTree → StateTree = λ a b c d. record { symbols = a; decls = b; known = c; opened = d; number = o.count } in
      ap (λ (a : List SymbolTree). mk a (declarations_at s' t.decls) (map (known_at s') t.known) (opened_at s' o)) (entries_stay s s' g t.sig.symbols h.typed.signature)
      ∙ ap (λ (b : List DeclarationTree). mk (symbols_at s t.sig.symbols) b (map (known_at s') t.known) (opened_at s' o)) (declarations_later s s' g t.decls h.typed.decls)
      ∙ ap (λ (c : List KnownTree). mk (symbols_at s t.sig.symbols) (declarations_at s t.decls) c (opened_at s' o)) (all_known_stay (length t.decls) t.known h.typed.known)
      ∙ ap (mk (symbols_at s t.sig.symbols) (declarations_at s t.decls) (map (known_at s) t.known)) (opened_stays (length t.decls) o h.opened)
