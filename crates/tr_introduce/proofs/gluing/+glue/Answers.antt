use Rattle.std.proofs.Common.{◌≡◌, ℕ, ◌+◌, ◌∷◌, ◌++◌, [], List, length, suc, sym, ap, subst, ◌∙◌, append_assoc, arith}
use Rattle.std.proofs.lemmas.List.{length-append, length-map}
use Rattle.std.proofs.lemmas.Result.{IfOk-weaker}
use Rattle.trees.specs.declared.Op.TheVariants.{Imp}
use Rattle.trees.specs.Tree.{Tree, Two, HJoin}
use Rattle.trees.specs.Node.{tree_at}
use Rattle.tasks.specs.Task.{neg}
use Rattle.tasks.specs.Meaning.{trees_at}
use Rattle.evidence.specs.Drafts.{Refutes}
use Rattle.evidence.specs.Laws.{Extends_trans, AddsTrees_extends, AddsTrees_refl}
use Rattle.evidence.proofs.Formulas.{same, formulas_later, formula_later, one_formula, two_formulas}
use Rattle.tr_introduce.specs.Introduce.{prefix}
use Rattle.tr_introduce.specs.Steps.{AreParamsBelow, EndsDraftAt}
use Rattle.tr_introduce.proofs.Introduced.{prefix_inst}
use Rattle.evidence.proofs.Ends.{wider_formulas, neg_back}
use Rattle.evidence.proofs.task_parts.Opened.{kind, opened_formula, opened_below, below_later, left_formula, right_formula}
use Rattle.tr_introduce.proofs.Opening.{opened_ends, opens_universal, opens_implication, wider_trees, wider_below, wider_ends, ends_here}
use Rattle.tr_introduce.proofs.gluing.+glue.Goals as goal
use Rattle.outside.proofs.Passed.{no_value}

pub glue_universal-glue_goal-requires : goal.glue_universal-glue_goal-requires
glue_universal-glue_goal-requires t c =
    let d = c.args.draft.now in
    let d1 = c.open_body.new.g in
    let F = c.args.front.now in
    let f = c.requires.goal in
    let o = c.in_ok-goal_at.ensures in
    let id = c.in_ok-goal_at.goal_at in
    let x = AddsTrees_extends d d1 o.grows in
    let is = c.requires.tree in
    let one : length c.args.params.now + 1 ≡ length c.deref.result.now = sym (ap length (c.deref.ensures.value ∙ c.in_ok-wider.ensures) ∙ length-append c.args.params.now (c.args.ty ∷ [])) in
    let m : prefix (tree_at d1.trees id) ≡ prefix (tree_at d.trees c.args.body) = ap prefix o.tree ∙ prefix_inst (length c.args.params.now) (tree_at d.trees c.args.ty) (tree_at d.trees c.args.body) in
    let n : prefix (tree_at d.trees c.args.goal) ≡ suc (prefix (tree_at d.trees c.args.body)) = ap prefix is in
    let b = opened_below d c.args.goal c.args.ty c.args.body f is (trees_at d.trees F) (length c.args.params.now) (tree_at d1.trees id) c.requires.below o.keeps in (
      omega (arith, m, n),
      (
        formulas_later d d1 x F c.requires.front,
        (
          opened_formula d c.args.goal c.args.ty c.args.body f is d1 id (length c.args.params.now) x.task o.held o.keeps,
          (
            subst (λ (n : ℕ). AreParamsBelow n (trees_at d1.trees F) (tree_at d1.trees id)) one (subst (λ (es : List Tree). AreParamsBelow (length c.args.params.now + 1) es (tree_at d1.trees id)) (sym (same d d1 x F c.requires.front)) b),
            subst (EndsDraftAt d1 c.args.end (trees_at d1.trees F) (tree_at d1.trees id)) one (opened_ends d c.args.goal c.args.ty c.args.body is d1 F (length c.args.params.now) c.args.end (tree_at d1.trees id) x c.requires.front c.requires.end o.tree),
          ),
        ),
      ),
    )

pub glue_universal-last_formula-no_body-requires : goal.glue_universal-last_formula-no_body-requires
glue_universal-last_formula-no_body-requires t c = record { front = _; last = _; refutes = c.in_ok-step.ensures.refutes }

pub glue_universal-refute_negated-requires : goal.glue_universal-refute_negated-requires
glue_universal-refute_negated-requires t c =
    let d = c.args.draft.now in
    let d1 = c.open_body.new.g in
    let d2 = c.glue_goal.new.draft in
    let F = c.args.front.now in
    let G = c.args.goal in
    let o = c.in_ok-goal_at.ensures in
    let id = c.in_ok-goal_at.goal_at in
    let r = c.in_ok-step.ensures.refutes in
    let x1 = AddsTrees_extends d d1 o.grows in
    let x = Extends_trans d d1 d2 x1 c.in_ok-step.ensures.grows in
    let no_body = c.last_formula-no_body in
    let g : tree_at d2.trees G ≡ tree_at d.trees G = x.trees.same G.0 c.requires.goal.held in
    let f : trees_at d1.trees F ≡ trees_at d2.trees F = same d d1 x1 F c.requires.front ∙ sym (same d d2 x F c.requires.front) in
    let e : tree_at d2.trees no_body.result ≡ neg (tree_at d1.trees id) = no_body.ensures.is (trees_at d1.trees F) (neg (tree_at d1.trees id)) r in
    let q : trees_at d1.trees F ++ neg (tree_at d1.trees id) ∷ [] ≡ trees_at d2.trees F ++ trees_at d2.trees (no_body.result ∷ []) = cc (e, f) in
    let below = below_later d d2 x F c.requires.front (length c.args.params.now) (tree_at d.trees G) (tree_at d2.trees G) g c.requires.below in
    record {
      front = formulas_later d d2 x F c.requires.front;
      goal = formula_later d d2 x G c.requires.goal;
      added = one_formula d2 no_body.result no_body.ensures.formula;
      step = subst (Refutes d2 c.in_ok-step.step) q r;
      opens = opens_universal d2.task (trees_at d2.trees F) (tree_at d2.trees G) (tree_at d.trees c.args.ty) (tree_at d.trees c.args.body) (tree_at d2.trees no_body.result) (length c.args.params.now) (length F)
          (g ∙ c.requires.tree) (sym (length-map F (tree_at d2.trees))) below (e ∙ ap neg o.tree);
    }

pub glue_implication-last_formula-no_conclusion-requires : goal.glue_implication-last_formula-no_conclusion-requires
glue_implication-last_formula-no_conclusion-requires t c = record { front = _; last = _; refutes = c.in_ok-step.ensures.refutes }

pub glue_implication-refute_negated-requires : goal.glue_implication-refute_negated-requires
glue_implication-refute_negated-requires t c =
    let d = c.args.draft.now in
    let d1 = c.glue_goal.new.draft in
    let F = c.args.front.now in
    let G = c.args.goal in
    let w = c.deref.result.now in
    let a = c.args.premise in
    let b = c.args.conclusion in
    let x = c.in_ok-step.ensures.grows in
    let r = c.in_ok-step.ensures.refutes in
    let no_b = c.last_formula-no_conclusion in
    let w_is : w ≡ F ++ a ∷ [] = c.deref.ensures.value ∙ c.in_ok-wider.ensures in
    let p = left_formula d Imp G a b c.requires.goal c.requires.tree c.requires.premise_held in
    let g : tree_at d1.trees G ≡ tree_at d.trees G = x.trees.same G.0 c.requires.goal.held in
    let a1 : tree_at d1.trees a ≡ tree_at d.trees a = x.trees.same a.0 c.requires.premise_held in
    let f : trees_at d1.trees F ≡ trees_at d.trees F = same d d1 x F c.requires.front in
    let e : tree_at d1.trees no_b.result ≡ neg (tree_at d.trees b) = no_b.ensures.is (trees_at d.trees w) (neg (tree_at d.trees b)) r in
    let v : trees_at d.trees w ≡ trees_at d.trees F ++ tree_at d.trees a ∷ [] = wider_trees d F w G a b c.requires.tree w_is in
    let q : trees_at d.trees F ++ tree_at d.trees a ∷ neg (tree_at d.trees b) ∷ [] ≡ trees_at d1.trees F ++ trees_at d1.trees (a ∷ no_b.result ∷ []) = cc (e, f, a1) in
    record {
      front = formulas_later d d1 x F c.requires.front;
      goal = formula_later d d1 x G c.requires.goal;
      added = two_formulas d1 a no_b.result (formula_later d d1 x a p) no_b.ensures.formula;
      step = record {
        within = r.within;
        is = r.is ∙ ap (λ (z : List Tree). z ++ neg (tree_at d.trees b) ∷ []) v ∙ append_assoc (trees_at d.trees F) (tree_at d.trees a ∷ []) (neg (tree_at d.trees b) ∷ []) ∙ q;
      };
      opens = opens_implication d1.task (trees_at d1.trees F) (tree_at d1.trees G) (tree_at d1.trees a) (tree_at d.trees b) (tree_at d1.trees no_b.result) (length F)
          (g ∙ c.requires.tree ∙ ap (λ (z : Tree). Two (HJoin Imp) z (tree_at d.trees b)) (sym a1)) (sym (length-map F (tree_at d1.trees))) e;
    }

pub glue_universal-returns-clause-refutes : goal.glue_universal-returns-clause-refutes
glue_universal-returns-clause-refutes t c =
    let d = c.args.draft.now in
    let d2 = c.glue_goal.new.draft in
    let x = Extends_trans d c.open_body.new.g d2 (AddsTrees_extends _ _ c.in_ok-goal_at.ensures.grows) c.in_ok-step.ensures.grows in
    IfOk-weaker c.refute_negated.result _ _ (λ k r. neg_back d d2 x c.args.front.now c.requires.front c.args.goal c.requires.goal c.refute_negated.new.draft k r) c.refute_negated.ensures.refutes

pub glue_universal-returns-clause-grows : goal.glue_universal-returns-clause-grows
glue_universal-returns-clause-grows t c = Extends_trans _ _ _ (Extends_trans _ _ _ (AddsTrees_extends _ _ c.in_ok-goal_at.ensures.grows) c.in_ok-step.ensures.grows) c.refute_negated.ensures.grows

pub glue_implication-glue_goal-requires : goal.glue_implication-glue_goal-requires
glue_implication-glue_goal-requires t c =
    let d = c.args.draft.now in
    let F = c.args.front.now in
    let w = c.deref.result.now in
    let a = c.args.premise in
    let b = c.args.conclusion in
    let f = c.requires.goal in
    let is = c.requires.tree in
    let e : w ≡ F ++ a ∷ [] = c.deref.ensures.value ∙ c.in_ok-wider.ensures in
    let n : prefix (tree_at d.trees c.args.goal) ≡ suc (prefix (tree_at d.trees b)) = ap prefix is in (
      omega (arith, n),
      (
        wider_formulas d F w a e c.requires.front (left_formula d Imp c.args.goal a b f is c.requires.premise_held),
        (
          right_formula d Imp c.args.goal a b f is c.requires.conclusion_held,
          (wider_below d F w c.args.goal a b is e (length c.args.params.now) c.requires.below, wider_ends d F w c.args.goal a b is e (length c.args.params.now) c.args.end c.requires.end),
        ),
      ),
    )

pub glue_implication-returns-clause-refutes : goal.glue_implication-returns-clause-refutes
glue_implication-returns-clause-refutes t c =
    IfOk-weaker c.refute_negated.result _ _ (λ k r. neg_back c.args.draft.now c.glue_goal.new.draft c.in_ok-step.ensures.grows c.args.front.now c.requires.front c.args.goal c.requires.goal c.refute_negated.new.draft k r) c.refute_negated.ensures.refutes

pub glue_implication-returns-clause-grows : goal.glue_implication-returns-clause-grows
glue_implication-returns-clause-grows t c = Extends_trans _ _ _ c.in_ok-step.ensures.grows c.refute_negated.ensures.grows

pub glue_goal-glue_universal-requires : goal.glue_goal-glue_universal-requires
glue_goal-glue_universal-requires t c =
    let b = rw c.store.ensures at c.in-Universal.ensures in
    (omega arith, (c.requires.front, (c.requires.goal, (b.0, (b.1, (b.2, (c.requires.below, c.requires.end)))))))

pub glue_goal-returns-in-Universal : goal.glue_goal-returns-in-Universal
glue_goal-returns-in-Universal t c = record { refutes = c.glue_universal.ensures.refutes; grows = c.glue_universal.ensures.grows }

pub glue_goal-glue_implication-requires : goal.glue_goal-glue_implication-requires
glue_goal-glue_implication-requires t c =
    let b = rw c.store.ensures at c.in-Implication.ensures in
    (omega arith, (c.requires.front, (c.requires.goal, (b.0, (b.1, (b.2, (c.requires.below, c.requires.end)))))))

pub glue_goal-returns-in-Implication : goal.glue_goal-returns-in-Implication
glue_goal-returns-in-Implication t c = record { refutes = c.glue_implication.ensures.refutes; grows = c.glue_implication.ensures.grows }

pub glue_goal-returns-in-Neither-clause-refutes : goal.glue_goal-returns-in-Neither-clause-refutes
glue_goal-returns-in-Neither-clause-refutes t c =
    let d = c.args.draft.now in
    ends_here d (trees_at d.trees c.args.front.now) (tree_at d.trees c.args.goal) (length c.args.params.now) c.args.end (rw c.store.ensures at c.in-Neither.ensures) c.requires.end

pub glue_goal-returns-in-Neither-clause-grows : goal.glue_goal-returns-in-Neither-clause-grows
glue_goal-returns-in-Neither-clause-grows t c = AddsTrees_extends _ _ (AddsTrees_refl _)

pub glue_universal-open_body-requires-clause-kind : goal.glue_universal-open_body-requires-clause-kind
glue_universal-open_body-requires-clause-kind t c = kind c.args.draft.now c.args.goal c.args.ty c.args.body c.requires.goal c.requires.tree

pub glue_universal-returns-in_err-goal_at : goal.glue_universal-returns-in_err-goal_at
glue_universal-returns-in_err-goal_at t c = record { grows = AddsTrees_extends _ _ c.open_body.ensures.grows; refutes = no_value _ _ c.from_residual.result c.from_residual.ensures.1 }

pub glue_universal-returns-in_err-step : goal.glue_universal-returns-in_err-step
glue_universal-returns-in_err-step t c = record {
  grows = Extends_trans _ _ _ (AddsTrees_extends _ _ c.in_ok-goal_at.ensures.grows) c.glue_goal.ensures.grows;
  refutes = no_value _ _ c.from_residual-in_err-step.result c.from_residual-in_err-step.ensures.1;
}

pub glue_implication-returns-in_err-wider : goal.glue_implication-returns-in_err-wider
glue_implication-returns-in_err-wider t c = record { grows = AddsTrees_extends _ _ (AddsTrees_refl _); refutes = no_value _ _ c.from_residual.result c.from_residual.ensures.1 }

pub glue_implication-returns-in_err-step : goal.glue_implication-returns-in_err-step
glue_implication-returns-in_err-step t c = record { grows = c.glue_goal.ensures.grows; refutes = no_value _ _ c.from_residual-in_err-step.result c.from_residual-in_err-step.ensures.1 }
