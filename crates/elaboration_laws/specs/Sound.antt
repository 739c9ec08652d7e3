-- When what is known while a source is typed is sound: declarations are valid where they are,
-- signature, scopes and moves are typed over what they make, and each goal is well formed after the
-- declarations before it.
use Rattle.std.specs.Prelude.{◌≡◌, ◌≢◌, ℕ, ◌<◌, ◌≤◌, not, Bool, false, List, [], ◌∷◌, ◌++◌, map, length, slice_get, take, All, AllPairs, Some}
use Rattle.std.specs.List.{filter, Contains, range_with_len}
use Rattle.std.specs.Str.{bytes_eq}
use Rattle.elab_groups.specs.tasks.Task.{SymbolTree, DeclarationTree}
use Rattle.elab_groups.specs.tasks.Vocabulary.{is_empty}
use Rattle.elab_groups.specs.tasks.Valid.{IsQuoted}
use Rattle.elab_groups.specs.open_types.Scoped.{IsScopedEntry}
use Rattle.elab_groups.specs.parts.Entries.{builtin}
use Rattle.elaboration_laws.specs.Scopes.{IsTypedSignature, AreTypedScopes}
use Rattle.elaboration_laws.specs.Moves.{AreTypedMoves}
use Rattle.elaboration_laws.specs.Lists.{after}
use Rattle.theory_states.specs.goal_tasks.Theories.{GoalTree}
use Rattle.theory_states.specs.Moves.{MoveTree}
use Rattle.elaboration_laws.specs.Built.{IsBuiltRight}
use Rattle.elaboration_laws.specs.Tasks.{AreSound, IsSoundAfter}
use Rattle.theory_states.specs.declared.states.AxiomAt.{AxiomAt}
use Rattle.theory_states.specs.States.{KnownTree, OpenedTree, StateTree, at_places, visible_now}
use Rattle.elaboration_laws.specs.Whole.{IsWhole}

-- declarations of other theories
abbrev pub is_other : List ℕ → DeclarationTree → Bool
is_other path d = not (bytes_eq d.theory path)

abbrev pub others : List ℕ → List DeclarationTree → List DeclarationTree
others path ds = filter (is_other path) ds

-- a goal among declarations, after the first of them
pub record IsSoundAmong (symbols : List SymbolTree) (ds : List DeclarationTree)
    (g : GoalTree) : Type 0 where
  pub before : g.before ≤ length ds
  pub sound : IsSoundAfter symbols (take g.before ds) g

-- an axiom has as many type variables as its declaration, whose names have their quotes
pub record IsSoundAxiom (decls : List DeclarationTree) (a : AxiomAt) : Type 0 where
  pub there : a.decl < length decls
  pub count : (d : DeclarationTree) → slice_get decls a.decl ≡ Some d → d.vars ≡ length a.vars
  pub quoted : All IsQuoted a.vars

-- a theory over a signature, of which all entries by now are more, with the places of its
-- declarations, its goals and moves; the declarations of other theories are sound by themselves
pub record IsSoundTheory (all symbols : List SymbolTree) (decls : List DeclarationTree)
    (path visible : List ℕ) (axioms : List AxiomAt) (goals : List GoalTree)
    (moves : List MoveTree) : Type 0 where
  pub sound : AreSound symbols (at_places decls visible)
  pub others : AreSound symbols (others path (at_places decls visible))
  pub signature : IsTypedSignature (after symbols [] (at_places decls visible)) symbols
  pub typed_moves : AreTypedMoves (after symbols [] (at_places decls visible)) moves
  pub sound_goals : All (IsSoundAmong all (at_places decls visible)) goals
  pub sound_axioms : All (IsSoundAxiom decls) axioms
  pub below : All (λ (k : ℕ). k < length decls) visible
  pub once : AllPairs (λ j k. j ≢ k) visible
  pub whole : IsWhole decls visible

-- a theory before the open one
pub record IsSoundKnown (all : List SymbolTree) (decls : List DeclarationTree)
    (t : KnownTree) : Type 0 where
  pub earlier : List SymbolTree
  pub later : List SymbolTree
  pub symbols : all ≡ earlier ++ later
  pub theory : IsSoundTheory all earlier decls t.path t.visible t.axioms t.goals t.moves

-- none of its declarations is of a theory
abbrev pub IsApart : List DeclarationTree → List ℕ → KnownTree → Type 0
IsApart decls path t = All (λ (d : DeclarationTree). d.theory ≢ path) (at_places decls t.visible)

-- the open theory, whose own declarations are all visible
pub record IsSoundOpened (all : List SymbolTree) (decls : List DeclarationTree)
    (o : OpenedTree) : Type 0 where
  pub named : is_empty o.path ≡ false
  pub source : bytes_eq o.path builtin ≡ false
  pub theory : IsSoundTheory all all decls o.path o.visible o.axioms o.goals o.moves
  pub scopes : AreTypedScopes (after all [] (at_places decls o.visible)) o.scope
  pub own : (k : ℕ) (d : DeclarationTree) → slice_get decls k ≡ Some d → d.theory ≡ o.path
      → Contains o.visible k

abbrev pub paths : List KnownTree → List (List ℕ)
paths ts = map (λ (t : KnownTree). t.path) ts

-- each declaration is of a theory with one of these paths
abbrev pub AreOf : List (List ℕ) → List DeclarationTree → Type 0
AreOf ps ds = All (λ (d : DeclarationTree). Contains ps d.theory) ds

pub record IsSoundState (c : StateTree) : Type 0 where
  pub opened : IsSoundOpened c.symbols c.decls c.opened
  pub known : All (IsSoundKnown c.symbols c.decls) c.known
  pub apart : All (IsApart c.decls c.opened.path) c.known
  pub of : AreOf (c.opened.path ∷ paths c.known) c.decls

-- theories, where none is open
pub record AreSoundTheories (symbols : List SymbolTree) (decls : List DeclarationTree)
    (ts : List KnownTree) : Type 0 where
  pub built : IsBuiltRight symbols
  pub scoped : All IsScopedEntry symbols
  pub known : All (IsSoundKnown symbols decls) ts
  pub of : AreOf (paths ts) decls

-- a state after another one in the same theory, with further entries, declarations of the theory,
-- axioms, goals and moves
pub record IsAfter (c c' : StateTree) (more : List SymbolTree) (new : List DeclarationTree)
    (axioms : List AxiomAt) (goals : List GoalTree) (moves : List MoveTree) : Type 0 where
  pub symbols : c'.symbols ≡ c.symbols ++ more
  pub decls : c'.decls ≡ c.decls ++ new
  pub of : All (λ (d : DeclarationTree). d.theory ≡ c.opened.path) new
  pub known : c'.known ≡ c.known
  pub path : c'.opened.path ≡ c.opened.path
  pub visible : c'.opened.visible ≡ c.opened.visible ++ range_with_len (length c.decls) (length new)
  pub axioms_are : c'.opened.axioms ≡ c.opened.axioms ++ axioms
  pub goals_are : c'.opened.goals ≡ c.opened.goals ++ goals
  pub moves_are : c'.opened.moves ≡ c.opened.moves ++ moves

-- these, and the scope, are sound after what was visible
pub record IsSoundAddition (c c' : StateTree) (new : List DeclarationTree) (axioms : List AxiomAt)
    (goals : List GoalTree) (moves : List MoveTree) : Type 0 where
  pub sound : AreSound c'.symbols (visible_now c ++ new)
  pub signature : IsTypedSignature (after c'.symbols [] (visible_now c ++ new)) c'.symbols
  pub scopes : AreTypedScopes (after c'.symbols [] (visible_now c ++ new)) c'.opened.scope
  pub typed_moves : AreTypedMoves (after c'.symbols [] (visible_now c ++ new)) moves
  pub sound_goals : All (IsSoundAmong c'.symbols (visible_now c ++ new)) goals
  pub sound_axioms : All (IsSoundAxiom c'.decls) axioms
