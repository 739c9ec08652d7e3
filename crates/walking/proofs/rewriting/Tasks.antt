-- The task that is made of what is rewritten, over stores that grow.
use Rattle.std.proofs.Common.{◌≡◌, List, [], ◌∷◌, map, All, Result, Ok, refl, sym, ap, subst, ◌∙◌}
use Rattle.std.proofs.lemmas.List.Elements.{All-weaker}
use Rattle.tasks.specs.trees.declared.TermId.{TermId}
use Rattle.tasks.specs.trees.Tree.{Tree}
use Rattle.tasks.specs.trees.Node.{tree_at, Holds, Grows}
use Rattle.tasks.proofs.trees.Nodes.{Grows_trans}
use Rattle.tasks.specs.declared.declaration.Decl.{Decl}
use Rattle.tasks.specs.declared.task.Task.{Task}
use Rattle.tasks.specs.Task.{TaskTree, DeclarationTree}
use Rattle.tasks.specs.Copying.{with_goal}
use Rattle.tasks.specs.Meaning.{trees_at, declarations_at, task_at, DeclHeld, TaskHeld}
use Rattle.tasks.proofs.Growth.{held_later, all_held_later, trees_later, tree_later, task_later, task_held_later}
use Rattle.evidence.specs.declared.stage.StageFault.{StageFault}
use Rattle.evidence.specs.task_parts.Parts.{task_with, ArePartsHeld}
use Rattle.evidence.specs.changed_tasks.Changed.{changed_declarations, changed_task}
use Rattle.evidence.specs.changed_tasks.Limits.{IsLarge, AreLarge, AreLargeDeclarations, IsLargeTask}
use Rattle.evidence.proofs.changed_tasks.Large.{large_declarations, large_locals, large_goal}
use Rattle.walking.specs.declared.rewriting.formulas.FormulaScope.{FormulaScope}
use Rattle.walking.specs.declared.rewriting.formulas.FormulaScope.TheVariants as scope
use Rattle.walking.specs.rewriting.Faults.{IsLimitFault}
use Rattle.walking.specs.rewriting.Rewritten.{scoped_task}
use Rattle.walking.proofs.rewriting.Faults.{limit_weaker}

module _ (g : TaskTree → Tree → Tree) (s : List Tree) (task : Task) (held : TaskHeld s task) where
  abbrev t : TaskTree
  t = task_at s task

  pub goal_fault : (sc : FormulaScope) (f : StageFault) → IsLimitFault (IsLarge (g t (tree_at s task.goal))) f → IsLimitFault (IsLargeTask (scoped_task sc (g t) t)) f
  goal_fault scope.Everywhere f x = limit_weaker _ _ (large_goal (changed_task (g t) t)) f x
  goal_fault scope.Goal f x = limit_weaker _ _ (large_goal (with_goal t (g t t.goal))) f x

  pub locals_fault : (f : StageFault) → IsLimitFault (AreLarge (map (g t) t.locals)) f → IsLimitFault (IsLargeTask (changed_task (g t) t)) f
  locals_fault f x = limit_weaker _ _ (large_locals (changed_task (g t) t)) f x

  pub decls_fault : (s1 : List Tree) → Grows s s1 → (f : StageFault) → IsLimitFault (AreLargeDeclarations (changed_declarations (g (task_at s1 task)) (task_at s1 task).decls)) f → IsLimitFault (IsLargeTask (changed_task (g t) t)) f
  decls_fault s1 w f x =
      limit_weaker _ _ (large_declarations (changed_task (g t) t)) f (subst (λ (u : TaskTree). IsLimitFault (AreLargeDeclarations (changed_declarations (g u) u.decls)) f) (task_later s s1 w task held) x)

  module _ (s1 s2 : List Tree) (w : Grows s s1) (y : Grows s1 s2) (goal : TermId) (gh : Holds s goal) (ge : tree_at s goal ≡ g t t.goal) (locals : List TermId) (lh : All (Holds s1) locals) (le : trees_at s1 locals ≡ map (g t) t.locals)
      (params : List TermId) (pe : params ≡ task.params) (decls : List Decl) (dh : All (DeclHeld s2) decls) (de : declarations_at s2 decls ≡ changed_declarations (g (task_at s1 task)) (task_at s1 task).decls) where
    wy : Grows s s2
    wy = Grows_trans s s1 s2 w y

    pub parts_held : ArePartsHeld s2 decls params locals goal
    parts_held = record {
      decls = dh;
      params = subst (All (Holds s2)) (sym pe) (task_held_later s s2 wy task held).params;
      locals = all_held_later s1 s2 y locals lh;
      goal = held_later s s2 wy goal gh;
    }

    pub changed_made : (copy : TaskTree) → copy ≡ task_with (task_at s2 task) (declarations_at s2 decls) (trees_at s2 params) (trees_at s2 locals) (tree_at s2 goal) → copy ≡ changed_task (g t) t
    changed_made copy e =
        let a : task_at s2 task ≡ t = task_later s s2 wy task held in
        let b : declarations_at s2 decls ≡ changed_declarations (g t) t.decls = de ∙ ap (λ (u : TaskTree). changed_declarations (g u) u.decls) (task_later s s1 w task held) in
        let c : trees_at s2 params ≡ t.params = ap (trees_at s2) pe ∙ ap (λ (u : TaskTree). u.params) a in
        let d : trees_at s2 locals ≡ map (g t) t.locals = trees_later s1 s2 y locals lh ∙ le in
        let f : tree_at s2 goal ≡ g t t.goal = tree_later s s2 wy goal gh ∙ ge in
        e ∙ ap (λ (u : TaskTree). task_with u (declarations_at s2 decls) (trees_at s2 params) (trees_at s2 locals) (tree_at s2 goal)) a
        ∙ ap (λ (z : List DeclarationTree). task_with t z (trees_at s2 params) (trees_at s2 locals) (tree_at s2 goal)) b
        ∙ ap (λ (z : List Tree). task_with t (changed_declarations (g t) t.decls) z (trees_at s2 locals) (tree_at s2 goal)) c
        ∙ ap (λ (z : List Tree). task_with t (changed_declarations (g t) t.decls) t.params z (tree_at s2 goal)) d
        ∙ ap (λ (z : Tree). task_with t (changed_declarations (g t) t.decls) t.params (map (g t) t.locals) z) f

  -- the goal alone
  goal_made : (s1 : List Tree) (w : Grows s s1) (goal : TermId) → tree_at s1 goal ≡ g t t.goal → (copy : TaskTree) → copy ≡ with_goal (task_at s1 task) (tree_at s1 goal) → copy ≡ with_goal t (g t t.goal)
  goal_made s1 w goal e copy q = q ∙ ap (λ (u : TaskTree). with_goal u (tree_at s1 goal)) (task_later s s1 w task held) ∙ ap (with_goal t) e

  pub only_goal_made : (s1 : List Tree) (w : Grows s s1) (sc : FormulaScope) → sc ≡ scope.Goal → (goal : TermId) → tree_at s1 goal ≡ g t t.goal → (copy : TaskTree) → copy ≡ with_goal (task_at s1 task) (tree_at s1 goal) → copy ≡ scoped_task sc (g t) t
  only_goal_made s1 w sc o goal e copy q = goal_made s1 w goal e copy q ∙ ap (λ (z : FormulaScope). scoped_task z (g t) t) (sym o)

  -- everywhere, by what was made in a later store
  pub later_fault : (s1 : List Tree) (w : Grows s s1) (sc : FormulaScope) → sc ≡ scope.Everywhere → (f : StageFault) → IsLimitFault (IsLargeTask (changed_task (g (task_at s1 task)) (task_at s1 task))) f → IsLimitFault (IsLargeTask (scoped_task sc (g t) t)) f
  later_fault s1 w sc o f x =
      subst (λ (z : FormulaScope). IsLimitFault (IsLargeTask (scoped_task z (g t) t)) f) (sym o) (subst (λ (u : TaskTree). IsLimitFault (IsLargeTask (changed_task (g u) u)) f) (task_later s s1 w task held) x)

  pub everywhere_made : (s1 : List Tree) (w : Grows s s1) (sc : FormulaScope) → sc ≡ scope.Everywhere → (copy : TaskTree) → copy ≡ changed_task (g (task_at s1 task)) (task_at s1 task) → copy ≡ scoped_task sc (g t) t
  everywhere_made s1 w sc o copy q = q ∙ ap (λ (u : TaskTree). changed_task (g u) u) (task_later s s1 w task held) ∙ ap (λ (z : FormulaScope). scoped_task z (g t) t) (sym o)
