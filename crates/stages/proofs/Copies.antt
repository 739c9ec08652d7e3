-- A derivation from a draft of a copy of the task.
use Rattle.std.proofs.Common.{◌≡◌, ◌∙◌, ℕ, List, [], take, ap, sym, subst}
use Rattle.std.proofs.lemmas.List.{take-map}
use Rattle.std.proofs.lemmas.List.Elements.{All-take}
use Rattle.tasks.specs.trees.Tree.{Tree}
use Rattle.tasks.specs.trees.Node.{Grows}
use Rattle.tasks.proofs.trees.Nodes.{Grows_trans}
use Rattle.tasks.specs.declared.task.Task.{Task}
use Rattle.tasks.specs.Task.{TaskTree}
use Rattle.tasks.specs.Meaning.{task_at, TaskHeld}
use Rattle.tasks.specs.Valid.{IsValid}
use Rattle.tasks.proofs.Growth.{map_agree}
use Rattle.kernel.specs.rules.declared.rule.Step.{Step}
use Rattle.kernel.specs.rules.Meaning.{steps_at, StepsHeld}
use Rattle.kernel.specs.rules.Trees.{StepTree}
use Rattle.kernel.specs.Right.{AreRight, Closes, last_starts}
use Rattle.kernel.proofs.Growth.{steps_later, steps_held_later}
use Rattle.evidence.specs.Drafts.{DraftTree, Extends}
use Rattle.evidence.specs.Stages.{IsOwnTask, PartsHeld, parts_at}
use Rattle.stages.specs.Steps.{IsCopy}
use Rattle.stages.specs.declared.lifting.Derived.{Derived}
use Rattle.stages.specs.Lifted.{HandedHasSequents, IsDerived}

pub copy_moved : (t own copy : Task) → copy ≡ own → IsCopy t own → IsCopy t copy
copy_moved t own copy e c = subst (IsCopy t) (sym e) c

abbrev begun : List Tree → Task → DraftTree
begun s own = record { trees = s; task = task_at s own; steps = [] }

pub begun_trees : (s : List Tree) (copy : Task) (d : DraftTree) → d ≡ record { trees = s; task = task_at s copy; steps = [] } → d.trees ≡ s
begun_trees s copy d e = ap (λ (z : DraftTree). z.trees) e

pub begun_task : (s : List Tree) (t own copy : Task) (d : DraftTree) → copy ≡ own → IsCopy t own → d ≡ record { trees = s; task = task_at s copy; steps = [] } → d.task ≡ task_at s t
begun_task s t own copy d same c e = ap (λ (z : DraftTree). z.task) e ∙ (copy_moved t own copy same c).tree s

pub begun_own : (s : List Tree) (t own copy seen : Task) (d : DraftTree) → copy ≡ own → seen ≡ own → IsCopy t own → d ≡ record { trees = s; task = task_at s copy; steps = [] } → TaskHeld s t → IsValid (task_at s t) → IsOwnTask d seen
begun_own s t own copy seen d same at c e held valid =
    let k = copy_moved t own seen at c in
    let trees : d.trees ≡ s = begun_trees s copy d e in
    let task : d.task ≡ task_at s t = begun_task s t own copy d same c e in
    record {
      held = subst (λ (z : List Tree). TaskHeld z seen) (sym trees) (k.held s held);
      is = ap (λ (z : List Tree). task_at z seen) trees ∙ k.tree s ∙ sym task;
      valid = subst IsValid (sym task) valid;
    }

pub derived_of : (s : List Tree) (t : TaskTree) (handed : List (List StepTree)) (d0 d : DraftTree) (store : List Tree) (steps list : List Step) → d0.trees ≡ s → d0.task ≡ t → Extends d0 d
    → store ≡ d.trees → list ≡ steps → StepsHeld store steps → steps_at store steps ≡ d.steps → AreRight d.task d.steps → last_starts d.task d.steps → HandedHasSequents d.steps handed
    → IsDerived s t handed (record { store = store; steps = list })
derived_of s t handed d0 d store steps list trees task x into seq held are right starts sequents =
    let own : d.task ≡ t = x.task ∙ task in
    let all : steps_at store list ≡ d.steps = ap (steps_at store) seq ∙ are in
    let closes : Closes t d.steps = subst (λ (z : TaskTree). Closes z d.steps) own (record { right = right; starts = starts }) in
    let g : Grows s d.trees = subst (λ (z : List Tree). Grows z d.trees) trees x.trees in
    record {
      grows = subst (Grows s) (sym into) g;
      held = subst (StepsHeld store) (sym seq) held;
      closes = subst (Closes t) (sym all) closes;
      sequents = subst (λ (z : List StepTree). HandedHasSequents z handed) (sym all) sequents;
    }

module _ (s s' : List Tree) (g : Grows s s') where
  pub parts_later : (parts : List (List Step)) → PartsHeld s parts → parts_at s' parts ≡ parts_at s parts
  parts_later parts h = map_agree (steps_at s') (steps_at s) parts (λ i z l. steps_later s s' g _ (h i z l))

  pub parts_held_later : (parts : List (List Step)) → PartsHeld s parts → PartsHeld s' parts
  parts_held_later parts h i z l = steps_held_later s s' g _ (h i z l)

  -- a derivation in a store that had grown
  pub derived_before : (t u : TaskTree) (handed before : List (List StepTree)) (r : Derived) → t ≡ u → handed ≡ before → IsDerived s' t handed r → IsDerived s u before r
  derived_before t u handed before r e f d = record {
    grows = Grows_trans s s' r.store g d.grows;
    held = d.held;
    closes = subst (λ (z : TaskTree). Closes z (steps_at r.store r.steps)) e d.closes;
    sequents = subst (HandedHasSequents (steps_at r.store r.steps)) f d.sequents;
  }

  -- the first of the given lists
  pub front_later : (n : ℕ) (parts : List (List Step)) → PartsHeld s parts → parts_at s' (take n parts) ≡ take n (parts_at s parts)
  front_later n parts h = sym (take-map (steps_at s') n parts) ∙ ap (take n) (parts_later parts h)

  pub front_held : (n : ℕ) (parts : List (List Step)) → PartsHeld s parts → PartsHeld s' (take n parts)
  front_held n parts h = All-take (StepsHeld s') n parts (parts_held_later parts h)
