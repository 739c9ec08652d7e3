-- Stages of one task.
use Rattle.std.proofs.Common.{◌≡◌, ℕ, ◌<◌, List, [], ◌∷◌, length, get_or, All, sym, ap, subst, ◌∙◌, arith}
use Rattle.std.proofs.lemmas.List.Elements.{All-cons, All-nil}
use Rattle.tasks.specs.trees.Tree.{Tree}
use Rattle.tasks.specs.declared.task.Task.{Task}
use Rattle.tasks.specs.Task.{TaskTree, start}
use Rattle.tasks.specs.Meaning.{task_at, tasks_at, TaskHeld, TasksHeld}
use Rattle.evidence.specs.Drafts.{DraftTree, Refutes}
use Rattle.evidence.specs.Stages.{IsAmong, EndIn, no_task, start_of}

-- a list of one task
pub one_tree : (s : List Tree) (ts : List Task) (t : Task) (u : TaskTree) → ts ≡ t ∷ [] → task_at s t ≡ u → tasks_at s ts ≡ u ∷ []
one_tree s ts t u e p = ap (tasks_at s) e ∙ ap (λ (z : TaskTree). z ∷ []) p

pub one_held : (s : List Tree) (ts : List Task) (t : Task) → ts ≡ t ∷ [] → TaskHeld s t → TasksHeld s ts
one_held s ts t e h = subst (TasksHeld s) (sym e) (All-cons (TaskHeld s) t [] h (All-nil (TaskHeld s)))

-- what holds of the one task holds of each among them
pub among_one : (P : TaskTree → Type 0) (is_stage : List TaskTree → Type 0) (u t : TaskTree) (a : IsAmong is_stage t) → a.tasks ≡ u ∷ [] → P u → P t
among_one P is_stage u t a one p =
    let all : All P a.tasks = subst (All P) (sym one) (All-cons P u [] p (All-nil P)) in
    subst P a.there (all a.place no_task a.within)

-- the first end is that of the one task
pub end_there : (d : DraftTree) (ends : List ℕ) (tasks : List TaskTree) (u : TaskTree) → tasks ≡ u ∷ [] → EndIn d ends tasks → 0 < length ends
end_there d ends tasks u one e = omega (arith, e.as_many, ap length one)

pub end_of_one : (d : DraftTree) (ends : List ℕ) (tasks : List TaskTree) (u : TaskTree) → tasks ≡ u ∷ [] → EndIn d ends tasks → Refutes d (get_or ends 0 0) (start u)
end_of_one d ends tasks u one e = subst (Refutes d (get_or ends 0 0)) (ap (λ (ts : List TaskTree). start_of ts 0) one) (e.each 0 (omega (arith, ap length one)))
