-- What theories in a store stand for, and what their tasks ask of the signature.
use Rattle.std.specs.Prelude.{◌≡◌, ℕ, ◌+◌, ◌-◌, ◌<◌, List, [], ◌∷◌, ◌++◌, map, take, drop, length, slice_get, All, Some, option_to_list}
use Rattle.trees.specs.Tree.{Tree}
use Rattle.trees.specs.Node.{tree_at, Holds}
use Rattle.tasks.specs.declared.declaration.Decl.{Decl}
use Rattle.tasks.specs.Task.{SymbolTree}
use Rattle.tasks.specs.Meaning.{symbols_at, declarations_at, SymbolHeld, DeclHeld}
use Rattle.tasks.specs.Entries.{tuple_in, tuple_entries}
use Rattle.theory_states.specs.declared.goal_tasks.theories.GoalAt.{GoalAt}
use Rattle.theory_states.specs.declared.goal_tasks.theories.Theory.{Theory}
use Rattle.theory_states.specs.declared.goal_tasks.theories.Theories.{Theories}
use Rattle.theory_states.specs.goal_tasks.Theories.{GoalTree, KnownTheoryTree, TheoriesTree}

abbrev pub goal_at : List Tree → GoalAt → GoalTree
goal_at s g = record { name = g.name; before = g.before; prop = tree_at s g.prop; rigid = g.rigid }

-- the declarations with these places
abbrev pub placed : List Decl → List ℕ → List Decl
placed ds [] = []
placed ds (k ∷ ks) = option_to_list (slice_get ds k) ++ placed ds ks

abbrev pub theory_at : List Tree → List Decl → Theory → KnownTheoryTree
theory_at s ds t = record {
  path = t.path;
  decls = declarations_at s (placed ds t.visible);
  goals =
      map (goal_at s) t.goals;
}

abbrev pub theories_at : List Tree → Theories → TheoriesTree
theories_at s all = record {
  symbols = symbols_at s all.sig.value.symbols;
  ints =
      all.sig.value.ints;
  embedded = all.embedded;
  list = map (theory_at s all.decls) all.list;
}

abbrev pub GoalHeld : List Tree → GoalAt → Type 0
GoalHeld s g = Holds s g.prop

pub record TheoryHeld (s : List Tree) (decls : List Decl) (t : Theory) : Type 0 where
  pub visible : All (λ k. k < length decls) t.visible
  pub goals : All (GoalHeld s) t.goals

-- the numbers in theories are held
pub record AllTheoriesHeld (s : List Tree) (all : Theories) : Type 0 where
  pub symbols : All (SymbolHeld s) all.sig.value.symbols
  pub decls : All (DeclHeld s) all.decls
  pub theories : All (TheoryHeld s all.decls) all.list

-- the entries of the tuples of a width, whose constructor this is, follow one another
pub record IsTupleAt (symbols : List SymbolTree) (n c : ℕ) : Type 0 where
  pub type_before : 0 < c
  pub entries : take (n + 2) (drop (c - 1) symbols) ≡ tuple_entries (c - 1) n

-- and so for each width
abbrev pub AreTuples : List SymbolTree → Type 0
AreTuples symbols = (n c : ℕ) → tuple_in symbols n ≡ Some c → IsTupleAt symbols n c
