-- One task more, for one goal more.
use Rattle.std.proofs.Common.{◌≡◌, ℕ, ◌<◌, ◌+◌, List, [], ◌∷◌, ◌++◌, length, map, take, get_or, sym, ap, ◌∙◌}
use Rattle.std.proofs.lemmas.List.{map-append, take_more}
use Rattle.trees.specs.declared.TermId.{TermId}
use Rattle.trees.specs.Tree.{Tree}
use Rattle.trees.specs.Node.{tree_at, Grows}
use Rattle.tasks.specs.declared.task.Task.{Task}
use Rattle.tasks.specs.Task.{TaskTree}
use Rattle.tasks.specs.Meaning.{trees_at, task_at, tasks_at, TaskHeld}
use Rattle.tasks.specs.Copying.{with_goal, IsWithGoal}
use Rattle.tasks.proofs.Growth.{task_later}
use Rattle.tr_split.specs.parts.Split.{split, split_task}
use Rattle.tr_split.specs.parts.Parts.{GainsFormulas}

module _ (s : List Tree) (from : Task) where
  pub tasks_more : (ts us : List Task) (ids : List TermId) (i : ℕ) (id : TermId) (t : Task) → i < length ids → us ≡ ts ++ t ∷ [] → IsWithGoal from (get_or ids i id) t
      → tasks_at s ts ≡ map (with_goal (task_at s from)) (trees_at s (take i ids)) → tasks_at s us ≡ map (with_goal (task_at s from)) (trees_at s (take (i + 1) ids))
  tasks_more ts us ids i id t l pushed w e =
      let f : Tree → TaskTree = with_goal (task_at s from) in
      let left : tasks_at s us ≡ tasks_at s ts ++ task_at s t ∷ [] = ap (tasks_at s) pushed ∙ map-append (task_at s) ts (t ∷ []) in
      let right : map f (trees_at s (take (i + 1) ids)) ≡ map f (trees_at s (take i ids)) ++ f (tree_at s (get_or ids i id)) ∷ [] =
      ap (λ (z : List TermId). map f (trees_at s z)) (take_more ids i id l) ∙ ap (map f) (map-append (tree_at s) (take i ids) (get_or ids i id ∷ []))
      ∙ map-append f (trees_at s (take i ids)) (tree_at s (get_or ids i id) ∷ []) in
      left ∙ ap (λ (z : List TaskTree). z ++ task_at s t ∷ []) e ∙ ap (λ (z : TaskTree). map f (trees_at s (take i ids)) ++ z ∷ []) (w.tree s) ∙ sym right

-- the tasks of a list that has gained the parts of the goal
pub tasks_split : (s s' : List Tree) (from : Task) (empty goals ds : List TermId) (ts : List Task) → Grows s s' → TaskHeld s from → empty ≡ [] → ds ≡ goals
    → GainsFormulas s s' empty goals (split (tree_at s from.goal)) → tasks_at s' ts ≡ map (with_goal (task_at s' from)) (trees_at s' ds) → tasks_at s' ts ≡ split_task (task_at s from)
tasks_split s s' from empty goals ds ts g h none e m t =
    let all : trees_at s' ds ≡ split (tree_at s from.goal) = ap (trees_at s') e ∙ m.trees ∙ ap (λ (z : List TermId). trees_at s z ++ split (tree_at s from.goal)) none in
    t ∙ ap (λ (z : TaskTree). map (with_goal z) (trees_at s' ds)) (task_later s s' g from h) ∙ ap (map (with_goal (task_at s from))) all
