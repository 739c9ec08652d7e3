-- What the tasks of the parts of a goal have in common for a table of names: their declarations,
-- type variables and integers.
use Rattle.std.specs.Prelude.{◌≡◌, List, [], ◌++◌, map, IfSome}
use Rattle.std.specs.List.{flat_map}
use Rattle.trees.specs.Tree.{Tree}
use Rattle.tasks.specs.declared.declaration.Body.{Body}
use Rattle.tasks.specs.declared.declaration.Decl.{Decl}
use Rattle.tasks.specs.declared.task.Task.{Task}
use Rattle.tasks.specs.Task.{BodyTree, DeclarationTree, TaskTree, declared, props_of}
use Rattle.tasks.specs.Meaning.{body_at, task_at}
use Rattle.name_tables.specs.declared.noted.Noted.{Noted}
use Rattle.name_tables.specs.Occurrences.{Occurrence, in_type, in_proposition, occurrences}
use Rattle.name_tables.specs.Tables.{distinct, symbol_instances}
use Rattle.name_tables.specs.Seen.{seen_occurrences, KeysHeld, Sees}

-- what occurs in what declarations say
abbrev pub declared_occurrences : List DeclarationTree → List Occurrence
declared_occurrences ds = flat_map in_proposition (props_of ds)

-- what occurs in the rest of a task: the types of its parameters, its locals and its goal
abbrev pub rest_occurrences : TaskTree → List Occurrence
rest_occurrences t =
    flat_map in_type t.params ++ (flat_map occurrences t.locals ++ occurrences t.goal)

-- what the names of a problem's table stand for, where these occur in it
abbrev pub things_among : TaskTree → List Occurrence → List Occurrence
things_among t os = distinct (flat_map (symbol_instances t.ints os) (declared t))

-- they say the same or make the same symbols, over any store
abbrev pub AreSameBodies : Body → Body → Type 0
AreSameBodies a b = (s : List Tree) → body_at s a ≡ body_at s b

abbrev pub bodies_at : List Tree → List Decl → List BodyTree
bodies_at s ds = map (λ (d : Decl). body_at s d.body) ds

abbrev pub HaveSameBodies : List Decl → List Decl → Type 0
HaveSameBodies xs ys = (s : List Tree) → bodies_at s xs ≡ bodies_at s ys

-- tables have the same of both, where what occurs in the rest is the same
pub record HaveSameFront (a b : Task) : Type 0 where
  pub ints : a.sig.value.ints ≡ b.sig.value.ints
  pub rigid : a.rigid ≡ b.rigid
  pub bodies : HaveSameBodies a.decls b.decls

-- what was noted is what occurs in the declarations of a task, and what a table has of that
pub record IsNotedFor (s : List Tree) (t : TaskTree) (n : Noted) : Type 0 where
  pub seen : Sees s [] (declared_occurrences t.decls) n.seen.keys
  pub held : KeysHeld s n.things
  pub things : seen_occurrences s n.things ≡ things_among t (declared_occurrences t.decls)

-- of the task whose declarations were noted, if any were
abbrev pub IsFrontNoted : List Tree → Noted → Type 0
IsFrontNoted s n = IfSome n.front (λ front. IsNotedFor s (task_at s front.now) n)
