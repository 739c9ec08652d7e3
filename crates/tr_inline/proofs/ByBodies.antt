-- Formulas with definitions inlined: by full bodies, and at types.
use Rattle.std.proofs.Common.{◌≡◌, List, [], Option, Some, None, subst, sym, ap, ◌∙◌, arith}
use Rattle.std.specs.Borrow.{Bor}
use Rattle.trees.specs.declared.TermId.{TermId}
use Rattle.trees.specs.Tree.{Tree}
use Rattle.trees.specs.Sorts.{sort_of}
use Rattle.trees.specs.Node.{tree_at, Grows}
use Rattle.tasks.specs.declared.task.Task.{Task}
use Rattle.tasks.specs.Task.{TaskTree}
use Rattle.tasks.specs.Meaning.{task_at, TaskHeld}
use Rattle.tasks.specs.Typing.{TypedUnder}
use Rattle.tasks.specs.Vocabulary.{of_task}
use Rattle.tasks.specs.Valid.{IsValid}
use Rattle.tasks.proofs.Growth.{task_later}
use Rattle.tasks.proofs.TypeInstances.{sound_task}
use Rattle.evidence.specs.declared.stage.StageFault.{StageFault}
use Rattle.walking.specs.rewriting.Faults.{IsLimitFault}
use Rattle.walking.specs.rewriting.Formulas.{CanRewrite, IsFormulaIn}
use Rattle.walking.specs.evidence.changed_tasks.Limits.{IsLarge}
use Rattle.inlining.specs.declared.modes.InlineMode.{InlineMode}
use Rattle.inlining.specs.Inlining.{inlined_definitions}
use Rattle.inlining.specs.FullBodies.{full_rule}
use Rattle.inlining.specs.images.Images.{image}
use Rattle.tr_inline.specs.declared.full_bodies.uses.FullBody.{FullBody}
use Rattle.tr_inline.specs.full_bodies.FullBodies.{rule_after, AreReady}
use Rattle.inlining.proofs.Inlined.{inlined_defined}
use Rattle.inlining.proofs.SinglePass.{single_pass}
use Rattle.inlining.proofs.images.typing_laws.Sorted.{typed_has}
use Rattle.tr_inline.specs.Inlined.{inline_formula, AreBodiesOf, AreReadyBodies}

-- a formula under the rule of the full bodies
pub by_bodies : (m : InlineMode) (t : TaskTree) → IsValid t → (s : List Tree) (bodies : List FullBody) → AreBodiesOf m t s bodies → (e : Tree) → TypedUnder (of_task t) [] e → image (rule_after s (λ y. y) bodies) e ≡ inline_formula m t e
by_bodies m t valid s bodies r e x =
    ap (λ (f : Tree → Tree). image f e) r.rule
    ∙ sym (single_pass (of_task t) (sound_task t valid) (inlined_definitions m t.decls) (inlined_defined (of_task t) m t.decls valid.decls) _ e (typed_has (of_task t) _ e x))

-- the same full bodies, of a task whose numbers are in a store
pub ready_bodies : (s : List Tree) (task : Task) (bodies : List FullBody) → AreReady s task bodies → (m : InlineMode) (t : TaskTree) → task_at s task ≡ t → rule_after s (λ e. e) bodies ≡ full_rule (inlined_definitions m t.decls) → AreBodiesOf m (task_at s task) s bodies
ready_bodies s task bodies r m t q h = record { are = r.bodies_are; rule = h ∙ ap (λ (z : TaskTree). full_rule (inlined_definitions m z.decls)) (sym q) }

-- a formula of a task, later
module _ (s s1 : List Tree) (w : Grows s s1) (task : Task) (held : TaskHeld s task) (m : InlineMode) (formula : TermId) (f : IsFormulaIn s (task_at s task) formula) where
  tree_same : tree_at s1 formula ≡ tree_at s formula
  tree_same = w.same formula.0 f.held

  task_same : task_at s1 task ≡ task_at s task
  task_same = task_later s s1 w task held

  pub formula_in_later : IsFormulaIn s1 (task_at s1 task) formula
  formula_in_later = record {
    held = omega (arith, f.held, w.longer);
    sort = ap sort_of tree_same ∙ f.sort;
    typed = subst (λ (t : TaskTree). TypedUnder (of_task t) [] (tree_at s1 formula)) (sym task_same) (subst (TypedUnder (of_task (task_at s task)) []) (sym tree_same) f.typed);
  }

  pub same_formula : inline_formula m (task_at s1 task) (tree_at s1 formula) ≡ inline_formula m (task_at s task) (tree_at s formula)
  same_formula = ap (λ (t : TaskTree). inline_formula m t (tree_at s1 formula)) task_same ∙ ap (inline_formula m (task_at s task)) tree_same

  pub fault_later : (g : StageFault) → IsLimitFault (IsLarge (inline_formula m (task_at s1 task) (tree_at s1 formula))) g → IsLimitFault (IsLarge (inline_formula m (task_at s task) (tree_at s formula))) g
  fault_later g h = subst (λ (e : Tree). IsLimitFault (IsLarge e) g) same_formula h

-- the full bodies that are at hand
pub at_hand : (m : InlineMode) (s : List Tree) (task : Task) (o : Option (Bor (List FullBody))) (b : Bor (List FullBody)) → o ≡ Some b → CanRewrite (λ t s. AreReadyBodies m t s o) s task → AreReady s task b.now × AreBodiesOf m (task_at s task) s b.now
at_hand m s task o b q c =
    let r : AreBodiesOf m (task_at s task) s b.now = subst (AreReadyBodies m (task_at s task) s) q c.is_ready in
    (record { held = c.held; valid = c.valid; bodies_are = r.are }, r)
