-- Theories with the declarations that are in them, and the goals that can be named (Why3 manual,
-- "theories").
use Rattle.std.specs.Prelude.{ℕ, Bool, List, drop, reverse, Option}
use Rattle.std.specs.List.{find}
use Rattle.std.specs.Str.{bytes_eq}
use Rattle.trees.specs.declared.ints.Ints.{Ints}
use Rattle.trees.specs.Tree.{Tree}
use Rattle.tasks.specs.Task.{SymbolTree, DeclarationTree}

-- a goal, or a lemma that can be named: its name after the names of its scopes, joined by dots; how
-- many declarations are before it; its proposition with the types of its own type variables, and
-- the entries of these
pub record GoalTree : Type 0 where
  pub name : List ℕ
  pub before : ℕ
  pub prop : Tree
  pub rigid : List ℕ

-- the declarations that are visible at its end, goals left out
pub record KnownTheoryTree : Type 0 where
  pub path : List ℕ
  pub decls : List DeclarationTree
  pub goals : List GoalTree

-- the theories of the embedded library, and then those of a source
pub record TheoriesTree : Type 0 where
  pub symbols : List SymbolTree
  pub ints : Option Ints
  pub embedded : ℕ
  pub list : List KnownTheoryTree

abbrev pub has_path : List ℕ → KnownTheoryTree → Bool
has_path path t = bytes_eq t.path path

abbrev pub has_name : List ℕ → GoalTree → Bool
has_name name g = bytes_eq g.name name

-- a theory of the source
abbrev pub theory_named : TheoriesTree → List ℕ → Option KnownTheoryTree
theory_named all path = find (has_path path) (drop all.embedded all.list)

-- the last goal of a name
abbrev pub goal_named : KnownTheoryTree → List ℕ → Option GoalTree
goal_named t name = find (has_name name) (reverse t.goals)
