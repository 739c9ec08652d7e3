-- The halves of a local and of the goal, in drafts that grow.
use Rattle.std.proofs.Common.{◌≡◌, ℕ, ◌<◌, ◌≤◌, List, [], ◌∷◌, length, get_or, refl, sym, ap, subst, ◌∙◌}
use Rattle.tasks.specs.trees.declared.TermId.{TermId}
use Rattle.tasks.specs.trees.Tree.{Tree}
use Rattle.tasks.specs.trees.Node.{tree_at}
use Rattle.tasks.specs.declared.task.Task.{Task}
use Rattle.tasks.specs.Task.{TaskTree, neg}
use Rattle.evidence.specs.Drafts.{DraftTree, Extends, Refutes, IsFormulaAt}
use Rattle.evidence.specs.Laws.{Extends_trans}
use Rattle.evidence.proofs.Rules.{refutes_later}
use Rattle.evidence.proofs.Formulas.{formula_later}
use Rattle.evidence.proofs.Owned.{own_goal}
use Rattle.walking.specs.declared.rewriting.gluing.Half.{Half}
use Rattle.walking.specs.rewriting.Starts.{CanGlueStart, IsHalf, tree_or}
use Rattle.walking.proofs.rewriting.Starts.{local_at, goal_tree}

module _ (ready : TaskTree → List Tree → Type 0) (g : TaskTree → Tree → Tree) (d d1 : DraftTree) (from : Task) (n : TermId) (c : CanGlueStart ready d from n) where
  pub local_made : (i : ℕ) (id : TermId) → i < length from.locals → id ≡ get_or from.locals i id → (h : Half) → IsFormulaAt d1 h.image → tree_at d1.trees h.image ≡ g d.task (tree_at d.trees id)
      → Refutes d1 h.step (tree_at d.trees id ∷ neg (tree_at d1.trees h.image) ∷ []) → IsHalf d1 (tree_or d.task.locals i) (g d.task (tree_or d.task.locals i)) h
  local_made i id l q h f e r =
      let a = local_at d from n ready c i id l q in
      let b : tree_at d1.trees h.image ≡ g d.task (tree_or d.task.locals i) = e ∙ ap (g d.task) a in
      record { formula = f; is = b; refutes = record { within = r.within; is = r.is ∙ cc (a, b) } }

  -- the goal
  module _ (d2 : DraftTree) (x : Extends d d1) (y : Extends d1 d2) (image : TermId) (f : IsFormulaAt d1 image) (e : tree_at d1.trees image ≡ g d.task (tree_at d.trees from.goal)) (m : TermId) (fm : IsFormulaAt d2 m)
      (em : tree_at d2.trees m ≡ neg (tree_at d1.trees image)) where
    xy : Extends d d2
    xy = Extends_trans d d1 d2 x y

    pub goal_there : IsFormulaAt d2 from.goal
    goal_there = formula_later d d2 xy from.goal (own_goal d from c.own)

    pub image_there : IsFormulaAt d2 image
    image_there = formula_later d1 d2 y image f

    pub no_goal_there : IsFormulaAt d2 n
    no_goal_there = formula_later d d2 xy n c.negated

    goal_same : tree_at d2.trees from.goal ≡ tree_at d.trees from.goal
    goal_same = xy.trees.same from.goal.0 (own_goal d from c.own).held

    pub no_goal_is : tree_at d2.trees n ≡ neg (tree_at d2.trees from.goal)
    no_goal_is = xy.trees.same n.0 c.negated.held ∙ c.is ∙ ap neg (sym (goal_same ∙ goal_tree d from n ready c))

    pub negated_is : tree_at d2.trees m ≡ neg (tree_at d2.trees image)
    negated_is = em ∙ ap neg (sym (y.trees.same image.0 f.held))

    pub back_there : (back : ℕ) → Refutes d1 back (tree_at d1.trees image ∷ neg (tree_at d.trees from.goal) ∷ []) → Refutes d2 back (tree_at d2.trees image ∷ neg (tree_at d2.trees from.goal) ∷ [])
    back_there back r =
        let q = refutes_later d1 d2 y back _ r in
        let a = y.trees.same image.0 f.held in
        let b = goal_same in
        record { within = q.within; is = q.is ∙ sym (cc (a, b)) }

    pub goal_made : (d3 : DraftTree) → Extends d2 d3 → (step : ℕ) → Refutes d3 step (tree_at d2.trees n ∷ neg (tree_at d2.trees m) ∷ []) → IsHalf d3 (neg d.task.goal) (neg (g d.task d.task.goal)) (record { image = m; step = step })
    goal_made d3 z step r =
        let a : tree_at d2.trees n ≡ neg d.task.goal = xy.trees.same n.0 c.negated.held ∙ c.is in
        let b : tree_at d2.trees m ≡ neg (g d.task d.task.goal) = em ∙ ap neg (e ∙ ap (g d.task) (goal_tree d from n ready c)) in
        record { formula = formula_later d2 d3 z m fm; is = z.trees.same m.0 fm.held ∙ b; refutes = record { within = r.within; is = r.is ∙ cc (a, b) } }
