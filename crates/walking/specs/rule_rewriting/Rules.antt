-- Rules for nodes of a task.
use Rattle.std.specs.Prelude.{◌≡◌, ℕ, List, get_or}
use Rattle.std.proofs.Common.{subst, sym, ap}
use Rattle.trees.specs.Tree.{Tree}
use Rattle.trees.specs.Node.{Grows}
use Rattle.trees.specs.Binding.{inst_types, TyVar}
use Rattle.tasks.specs.declared.task.Task.{Task}
use Rattle.tasks.specs.Task.{TaskTree}
use Rattle.tasks.specs.Meaning.{task_at}
use Rattle.tasks.specs.Vocabulary.{Vocabulary, of_task}
use Rattle.tasks.specs.Valid.{IsValid}
use Rattle.tasks.proofs.Growth.{task_later, task_held_later}
use Rattle.images.specs.image_trees.Imaged.{RuleOver}
use Rattle.walking.specs.rewriting.Formulas.{CanRewrite}
use Rattle.images.specs.typing_laws.HasTyping.{HasTyping, IsTypeAt}

-- a tree has its typing over a vocabulary, under some binders
abbrev pub HasTypingSomewhere : Vocabulary → Tree → Type 0
HasTypingSomewhere v e = (types : List Tree) × HasTyping v types e

-- a rule at a typed node at types gives what it gives at the node, at the types
abbrev pub CommutesAtNodes : Vocabulary → (Tree → Tree) → Type 0
CommutesAtNodes v f = (ys : List Tree) → ((j : ℕ) → IsTypeAt v (get_or ys j (TyVar j)))
    → (types : List Tree) (e : Tree) → HasTyping v types e
    → f (inst_types e ys) ≡ inst_types (f e) ys

-- a valid task whose numbers are held
abbrev pub IsValidTaskIn : List Tree → Task → Type 0
IsValidTaskIn s task = CanRewrite (λ t z. Unit {0}) s task

-- the rule of a task, over its vocabulary
abbrev pub rule_at_task : (TaskTree → Tree → Tree) → TaskTree → RuleOver
rule_at_task f t = record { rule = f t; vocabulary = of_task t }

pub valid_stays : (task : Task) (s s1 : List Tree) → Grows s s1 → IsValidTaskIn s task
    → IsValidTaskIn s1 task
valid_stays task s s1 w r = record {
  held = task_held_later s s1 w task r.held;
  valid =
      subst IsValid (sym (task_later s s1 w task r.held)) r.valid;
  is_ready = tt;
}

pub task_stays : (f : TaskTree → Tree → Tree) (task : Task) (s s1 : List Tree) → Grows s s1
    → IsValidTaskIn s task → rule_at_task f (task_at s1 task) ≡ rule_at_task f (task_at s task)
task_stays f task s s1 w r = ap (rule_at_task f) (task_later s s1 w task r.held)
