-- The task of each goal of sound theories is valid.
use Rattle.std.proofs.Common.{◌≡◌, ℕ, List, get_or, drop, reverse, All, Option, Some, None, refl, sym, subst}
use Rattle.std.specs.Prelude.{IsSomeAnd}
use Rattle.std.proofs.lemmas.List.Elements.{All-drop, All-map, Contains-get_or}
use Rattle.tasks.specs.Task.{TaskTree}
use Rattle.tasks.specs.Valid.{IsValid}
use Rattle.elaboration_laws.specs.theory_states.goal_tasks.Theories.{GoalTree, KnownTheoryTree, TheoriesTree, has_path, has_name, theory_named, goal_named}
use Rattle.elaboration_laws.specs.theory_states.goal_tasks.Tasks.{task_for, IsTaskOf}
use Rattle.theory_states.specs.States.{KnownTree}
use Rattle.elaboration_laws.proofs.Scoped.{goal_valid}
use Rattle.theories.specs.Files.{visible_theory, theories_of}
use Rattle.theories.specs.Sources.{AreSoundIn}
use Rattle.theories.proofs.SourceLists.{found_has, all_reversed}

some_of : {X : Type 0} (P : X → Type 0) (o : Option X) → IsSomeAnd o P → (x : X) × (o ≡ Some x) × P x
some_of P None h = absurd h
some_of P (Some x) h = (x, refl, h)

-- a theory of these has valid tasks
abbrev HasValid : TheoriesTree → KnownTheoryTree → Type 0
HasValid all t = All (λ (g : GoalTree). IsValid (task_for all t g)) t.goals

pub all_valid : (all : TheoriesTree) → AreSoundIn all → All (HasValid all) all.list
all_valid all h =
    let c = h.state in
    let z = theories_of h.embedded c in
    let one : All (λ (k : KnownTree). HasValid z (visible_theory c k)) c.known =
    λ i t l. λ j g m. let k = get_or c.known i t in goal_valid z c.decls k (get_or k.goals j g) (h.sound.known i t l) (Contains-get_or k.goals j g m) h.ints in
    subst (λ (a : TheoriesTree). All (HasValid a) a.list) (sym h.are) (All-map (HasValid z) (visible_theory c) c.known one)

pub task_valid : (all : TheoriesTree) (theory name : List ℕ) (t : TaskTree) → AreSoundIn all → IsTaskOf all theory name t → IsValid t
task_valid all theory name t h is =
    let a = some_of (λ (x : KnownTheoryTree). IsSomeAnd (goal_named x name) (λ (g : GoalTree). t ≡ task_for all x g)) (theory_named all theory) is in
    let b = some_of (λ (g : GoalTree). t ≡ task_for all a.0 g) (goal_named a.0 name) a.2 in
    let valid : HasValid all a.0 = found_has (HasValid all) (has_path theory) (drop all.embedded all.list) a.0 (All-drop (HasValid all) all.embedded all.list (all_valid all h)) a.1 in
    let V : GoalTree → Type 0 = λ g. IsValid (task_for all a.0 g) in
    subst IsValid (sym b.2) (found_has V (has_name name) (reverse a.0.goals) b.0 (all_reversed V a.0.goals valid) b.1)
