-- What the theories in code stand for.
use Rattle.std.specs.Prelude.{ℕ, ◌<◌, List, map, length, All}
use Rattle.trees.specs.Tree.{Tree}
use Rattle.tasks.specs.Meaning.{symbols_at, declarations_at, DeclHeld}
use Rattle.theory_states.specs.goal_tasks.Meaning.{goal_at, GoalHeld}
use Rattle.scopes.specs.Names.{ScopeNames, ScopeEntry}
use Rattle.elab_groups.specs.name_resolution.Naming.{type_tree_at, scope_at}
use Rattle.elab_groups.specs.open_types.Drafts.{MeaningHeld}
use Rattle.elab_groups.specs.parts.Entries.{IsSignature}
use Rattle.theory_states.specs.declared.moves.Move.{Move}
use Rattle.theory_states.specs.declared.moves.Move.TheVariants.{Brings, Opens, Closes}
use Rattle.theory_states.specs.Moves.{MoveTree, move_with}
use Rattle.theory_states.specs.declared.states.KnownTheory.{KnownTheory}
use Rattle.theory_states.specs.declared.states.Opened.{Opened}
use Rattle.theory_states.specs.declared.states.Typed.{Typed}
use Rattle.theory_states.specs.States.{KnownTree, OpenedTree, StateTree}

abbrev pub move_at : List Tree → Move ℕ → MoveTree
move_at s m = move_with (type_tree_at s) m

abbrev pub known_at : List Tree → KnownTheory → KnownTree
known_at s k = record {
  path = k.theory.path;
  visible = k.theory.visible;
  axioms = k.axioms;
  goals =
      map (goal_at s) k.theory.goals;
  moves = map (move_at s) k.moves;
}

abbrev pub opened_at : List Tree → Opened → OpenedTree
opened_at s o = record {
  path = o.path;
  within = o.within.items;
  scope = scope_at s o.scope;
  visible =
      o.visible.keys;
  axioms = o.axioms;
  goals = map (goal_at s) o.goals;
  moves = map (move_at s) o.moves.items;
}

abbrev pub state_at : List Tree → Typed → Opened → StateTree
state_at s t o = record {
  symbols = symbols_at s t.sig.symbols;
  decls = declarations_at s t.decls;
  known =
      map (known_at s) t.known;
  opened = opened_at s o;
  number = o.count;
}

-- the types of aliases are held
abbrev pub NamesHeld : List Tree → ScopeNames → Type 0
NamesHeld s names =
    All (λ (es : List ScopeEntry). All (λ (e : ScopeEntry). MeaningHeld s e.thing) es)
    names.entries

abbrev pub MoveHeld : List Tree → Move ℕ → Type 0
MoveHeld s (Brings table x thing) = MeaningHeld s thing
MoveHeld s (Opens x) = Unit {0}
MoveHeld s Closes = Unit {0}

-- the numbers in a theory are held, over so many declarations
pub record KnownTheoryHeld (s : List Tree) (count : ℕ) (k : KnownTheory) : Type 0 where
  pub visible : All (λ (p : ℕ). p < count) k.theory.visible
  pub goals : All (GoalHeld s) k.theory.goals
  pub moves : All (MoveHeld s) k.moves

pub record OpenedHeld (s : List Tree) (count : ℕ) (o : Opened) : Type 0 where
  pub visible : All (λ (p : ℕ). p < count) o.visible.keys
  pub goals : All (GoalHeld s) o.goals
  pub scope : NamesHeld s o.scope
  pub moves : All (MoveHeld s) o.moves.items

pub record TypedHeld (s : List Tree) (t : Typed) : Type 0 where
  pub signature : IsSignature s t.sig.symbols
  pub decls : All (DeclHeld s) t.decls
  pub known : All (KnownTheoryHeld s (length t.decls)) t.known

-- all numbers are held
pub record StateHeld (s : List Tree) (t : Typed) (o : Opened) : Type 0 where
  pub typed : TypedHeld s t
  pub opened : OpenedHeld s (length t.decls) o
