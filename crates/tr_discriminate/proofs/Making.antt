-- The new task over a store, and its only end.
use Rattle.std.proofs.Common.{◌≡◌, ℕ, ◌<◌, List, length, get_or, All, sym, subst}
use Rattle.tasks.specs.trees.declared.TermId.{TermId}
use Rattle.tasks.specs.trees.Tree.{Tree}
use Rattle.tasks.specs.trees.Node.{tree_at, Holds, Grows}
use Rattle.tasks.specs.declared.declaration.Decl.{Decl}
use Rattle.tasks.specs.declared.task.Task.{Task}
use Rattle.tasks.specs.Task.{TaskTree, start}
use Rattle.tasks.specs.Meaning.{trees_at, declarations_at, task_at, DeclHeld, TaskHeld}
use Rattle.tasks.proofs.Growth.{task_held_later}
use Rattle.evidence.specs.Drafts.{DraftTree, Refutes}
use Rattle.evidence.specs.Stages.{Gives, EndIn}
use Rattle.evidence.specs.task_parts.Parts.{task_with, ArePartsHeld}
use Rattle.evidence.proofs.task_parts.One.{end_there, end_of_one}
use Rattle.tr_discriminate.specs.wanted_instances.Discriminated.{last_set, discriminated_decls, discriminated_task}
use Rattle.declarations.proofs.Stored.{own_parts, task_is}
use Rattle.tr_discriminate.specs.Equation.{discriminate_rule, discriminate_equation}
use Rattle.tr_discriminate.specs.Kept.{discriminated_one}

module _ (s s1 : List Tree) (g : Grows s s1) (t : Task) (held : TaskHeld s t) where
  pub made_is : (ds : List Decl) → declarations_at s1 ds ≡ discriminated_decls (last_set (task_at s t)) (task_at s t).decls → (params locals : List TermId) → params ≡ t.params → locals ≡ t.locals → (copy : TaskTree)
      → copy ≡ task_with (task_at s1 t) (declarations_at s1 ds) (trees_at s1 params) (trees_at s1 locals) (tree_at s1 t.goal) → copy ≡ discriminated_task (task_at s t)
  made_is ds e params locals p l copy q =
      task_is s s1 g (discriminate_rule (last_set (task_at s t))) t (declarations_at s1 ds) copy held (own_parts s1 t (declarations_at s1 ds) params locals copy p l q) e

  pub made_parts : (ds : List Decl) → All (DeclHeld s1) ds → (params locals : List TermId) → params ≡ t.params → locals ≡ t.locals → ArePartsHeld s1 ds params locals t.goal
  made_parts ds a params locals p l =
      let later = task_held_later s s1 g t held in
      record { decls = a; params = subst (All (Holds s1)) (sym p) later.params; locals = subst (All (Holds s1)) (sym l) later.locals; goal = later.goal }

-- ---- the end
pub only_there : (d : DraftTree) (ends : List ℕ) (ts : List TaskTree) → Gives discriminate_equation d.task ts → EndIn d ends ts → 0 < length ends
only_there d ends ts e u = end_there d ends ts (discriminated_task d.task) (discriminated_one d.task ts e) u

pub only_refutes : (d : DraftTree) (ends : List ℕ) (ts : List TaskTree) → Gives discriminate_equation d.task ts → EndIn d ends ts → Refutes d (get_or ends 0 0) (start d.task)
only_refutes d ends ts e u = end_of_one d ends ts (discriminated_task d.task) (discriminated_one d.task ts e) u
