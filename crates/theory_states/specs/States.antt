-- What is known while a source is typed: the theories before, and the one that is open (Why3
-- manual, "theories").
use Rattle.std.specs.Prelude.{ℕ, nat_eq, Bool, List, [], ◌∷◌, ◌++◌, length, slice_get, Option, option_to_list}
use Rattle.std.specs.List.{find, flat_map}
use Rattle.std.specs.Str.{bytes_eq}
use Rattle.indexmap.specs.IndexSet.{insert_all}
use Rattle.tasks.specs.Task.{SymbolTree, DeclarationTree}
use Rattle.scopes.specs.Names.{empty_names}
use Rattle.elab_groups.specs.name_resolution.Where.{NamesTree}
use Rattle.theory_states.specs.Moves.{MoveTree}
use Rattle.theory_states.specs.goal_tasks.Theories.{GoalTree}
use Rattle.theory_states.specs.declared.states.AxiomAt.{AxiomAt}

-- a theory: the places of the declarations that are visible at its end, goals left out; its axioms;
-- its goals, and its lemmas that can be named; and the names that it passes on
pub record KnownTree : Type 0 where
  pub path : List ℕ
  pub visible : List ℕ
  pub axioms : List AxiomAt
  pub goals : List GoalTree
  pub moves : List MoveTree

-- the theory that is open, with the names of its open scopes, each followed by a dot
pub record OpenedTree : Type 0 where
  pub path : List ℕ
  pub within : List ℕ
  pub scope : NamesTree
  pub visible : List ℕ
  pub axioms : List AxiomAt
  pub goals : List GoalTree
  pub moves : List MoveTree

-- a place in a source: the signature, all declarations, each once, the theories before, the open
-- one, and the number of the next declaration
pub record StateTree : Type 0 where
  pub symbols : List SymbolTree
  pub decls : List DeclarationTree
  pub known : List KnownTree
  pub opened : OpenedTree
  pub number : ℕ

-- the declarations at these places
abbrev pub at_places : List DeclarationTree → List ℕ → List DeclarationTree
at_places ds ks = flat_map (λ k. option_to_list (slice_get ds k)) ks

-- those that are visible in a theory, in the open one
abbrev pub visible_in : StateTree → KnownTree → List DeclarationTree
visible_in c t = at_places c.decls t.visible

abbrev pub visible_now : StateTree → List DeclarationTree
visible_now c = at_places c.decls c.opened.visible

-- places after others, each once, at its first place
abbrev pub joined_places : List ℕ → List ℕ → List ℕ
joined_places ks more = insert_all nat_eq ks more

abbrev pub known_has_path : List ℕ → KnownTree → Bool
known_has_path path t = bytes_eq t.path path

abbrev pub known_named : List KnownTree → List ℕ → Option KnownTree
known_named ts path = find (known_has_path path) ts

-- a theory without declarations
abbrev pub opened_empty : List ℕ → OpenedTree
opened_empty path = record {
  path = path;
  within = [];
  scope = empty_names;
  visible = [];
  axioms =
      [];
  goals = [];
  moves = [];
}

-- a further declaration, which is visible
abbrev pub with_declaration : DeclarationTree → StateTree → StateTree
with_declaration d c = record c {
  decls = c.decls ++ d ∷ [];
  opened =
      record c.opened { visible = c.opened.visible ++ length c.decls ∷ [] };
}

abbrev pub with_declarations : List DeclarationTree → StateTree → StateTree
with_declarations [] c = c
with_declarations (d ∷ ds) c = with_declarations ds (with_declaration d c)

-- the open theory at its end
abbrev pub known_as : OpenedTree → KnownTree
known_as o = record {
  path = o.path;
  visible = o.visible;
  axioms = o.axioms;
  goals =
      o.goals;
  moves = o.moves;
}
