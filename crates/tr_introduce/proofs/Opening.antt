-- A quantifier opened at a new parameter, and an implication at its premise.
use Rattle.std.proofs.Common.{◌≡◌, ℕ, ◌+◌, List, [], ◌∷◌, ◌++◌, Some, length, slice_get, refl, sym, ap, subst, ◌∙◌, arith}
use Rattle.std.proofs.lemmas.List.{map-append, length-append}
use Rattle.std.proofs.lemmas.List.Elements.{All-nil}
use Rattle.trees.specs.declared.Op.TheVariants.{Imp}
use Rattle.trees.specs.declared.TermId.{TermId}
use Rattle.trees.specs.Tree.{Tree, Two, HForall, HJoin}
use Rattle.trees.specs.Node.{tree_at, Holds}
use Rattle.trees.specs.Binding.{inst, Param}
use Rattle.tasks.specs.Task.{TaskTree, neg}
use Rattle.tasks.specs.Valid.{IsTypeOver}
use Rattle.tasks.specs.Meaning.{trees_at}
use Rattle.rules.specs.Trees.{RuleTree, RNotForall, RNotImp}
use Rattle.rules.specs.Rows.{IsRuleRow}
use Rattle.evidence.specs.Drafts.{DraftTree, Extends, Refutes, AreFormulas}
use Rattle.evidence.specs.Rules.{NamesOwn, RefuteAdded}
use Rattle.evidence.specs.Laws.{Extends_trans}
use Rattle.evidence.proofs.Rules.{failing_row, notforall_row, refutes_later}
use Rattle.evidence.proofs.Formulas.{same}
use Rattle.evidence.proofs.Ends.{regroup}
use Rattle.evidence.proofs.task_parts.Opened.{new_below, premise_below}
use Rattle.tr_introduce.specs.declared.refuting.Opening.{Opening}
use Rattle.tr_introduce.specs.declared.refuting.Opening.TheVariants as opens_at
use Rattle.tr_introduce.specs.Introduce.{Judgement, introduced, judgement_sequent, prefix}
use Rattle.tr_introduce.specs.Steps.{AreParamsBelow, EndsDraftAt, Opens, negation_rule}
use Rattle.tr_introduce.proofs.Introduced.{of_universal, of_implication, of_neither}
use Rattle.tasks.proofs.plain_laws.Lists.{got_last as at_last}

pub negation_names : (t : TaskTree) (o : Opening) (i : ℕ) → NamesOwn t (negation_rule o i)
negation_names t (opens_at.Universal number) i = record { trees = tt; types = All-nil (IsTypeOver t 0) }
negation_names t opens_at.Implication i = record { trees = tt; types = All-nil (IsTypeOver t 0) }

-- over drafts that have grown, the kept step refutes what the rule adds
pub opened_added : (d d1 d2 : DraftTree) (x1 : Extends d d1) (x2 : Extends d1 d2) (front added : List TermId) (goal no_goal : TermId) → AreFormulas d front → AreFormulas d added → Holds d1.trees no_goal
    → tree_at d1.trees no_goal ≡ neg (tree_at d.trees goal) → (r : RuleTree) (kept : ℕ) → Opens d.task (trees_at d.trees front) (tree_at d.trees goal) r (trees_at d.trees added)
    → Refutes d2 kept (trees_at d1.trees front ++ (trees_at d1.trees (no_goal ∷ []) ++ trees_at d1.trees added))
    → RefuteAdded d2 (trees_at d2.trees front ++ trees_at d2.trees (no_goal ∷ [])) r (kept ∷ [])
opened_added d d1 d2 x1 x2 front added goal no_goal f a h e r kept o k =
    let x = Extends_trans d d1 d2 x1 x2 in
    let s : List Tree = trees_at d.trees front ++ neg (tree_at d.trees goal) ∷ [] in
    let f1 : trees_at d1.trees front ≡ trees_at d.trees front = same d d1 x1 front f in
    let a1 : trees_at d1.trees added ≡ trees_at d.trees added = same d d1 x1 added a in
    let f2 : trees_at d2.trees front ≡ trees_at d.trees front = same d d2 x front f in
    let e2 : tree_at d2.trees no_goal ≡ neg (tree_at d.trees goal) = x2.trees.same no_goal.0 h ∙ e in
    let q1 : (trees_at d1.trees front ++ tree_at d1.trees no_goal ∷ []) ++ trees_at d1.trees added ≡ s ++ trees_at d.trees added = cc (f1, a1, e) in
    let q2 : trees_at d2.trees front ++ tree_at d2.trees no_goal ∷ [] ≡ s = cc (f2, e2) in
    let row : IsRuleRow d2.task s r ((s ++ trees_at d.trees added) ∷ []) = subst (λ (t : TaskTree). IsRuleRow t s r ((s ++ trees_at d.trees added) ∷ [])) (sym x.task) o in
    record {
      sequents = (s ++ trees_at d.trees added) ∷ [];
      refuted = (subst (Refutes d2 kept) q1 (regroup d2 kept _ _ (trees_at d1.trees added) k), tt);
      row = subst (λ (z : List Tree). IsRuleRow d2.task z r ((s ++ trees_at d.trees added) ∷ [])) (sym q2) row;
    }

-- what the negation of a quantifier gives at a new parameter, and that of an implication
pub opens_universal : (t : TaskTree) (front : List Tree) (goal ty body e : Tree) (number n : ℕ) → goal ≡ Two HForall ty body → n ≡ length front → AreParamsBelow number front goal → e ≡ neg (inst body (Param number ty))
    → Opens t front goal (RNotForall n number) (e ∷ [])
opens_universal t front goal ty body e number n is m b q =
    let row = notforall_row t (front ++ neg goal ∷ []) (length front) number ty body (at_last front (neg goal) ∙ ap (λ (z : Tree). Some (neg z)) is) (new_below number front goal b) in
    rw (q, m) row

pub opens_implication : (t : TaskTree) (front : List Tree) (goal a b e : Tree) (n : ℕ) → goal ≡ Two (HJoin Imp) a b → n ≡ length front → e ≡ neg b → Opens t front goal (RNotImp n) (a ∷ e ∷ [])
opens_implication t front goal a b e n is m q =
    let s = front ++ neg goal ∷ [] in
    let at : slice_get s (length front) ≡ Some (neg (Two (HJoin Imp) a b)) = at_last front (neg goal) ∙ ap (λ (z : Tree). Some (neg z)) is in
    let row : IsRuleRow t s (RNotImp (length front)) ((s ++ a ∷ neg b ∷ []) ∷ []) = failing_row t s Imp (length front) (Some (neg (Two (HJoin Imp) a b))) ((s ++ a ∷ neg b ∷ []) ∷ []) at (refl, refl) in
    rw (q, m) row

-- ---- the goal at its parameter
module _ (d : DraftTree) (goal ty body : TermId) (is : tree_at d.trees goal ≡ Two HForall (tree_at d.trees ty) (tree_at d.trees body)) where
  pub opened_ends : (d1 : DraftTree) (front : List TermId) (number end : ℕ) (e : Tree) → Extends d d1 → AreFormulas d front → EndsDraftAt d end (trees_at d.trees front) (tree_at d.trees goal) number
      → e ≡ inst (tree_at d.trees body) (Param number (tree_at d.trees ty)) → EndsDraftAt d1 end (trees_at d1.trees front) e (number + 1)
  opened_ends d1 front number end e x a u o =
      let n : length (u.params ++ tree_at d.trees ty ∷ []) ≡ number + 1 = length-append u.params (tree_at d.trees ty ∷ []) ∙ omega (arith, u.as_many) in
      let q : introduced (record { params = u.params; locals = trees_at d.trees front; goal = tree_at d.trees goal })
      ≡ introduced (record { params = u.params ++ tree_at d.trees ty ∷ []; locals = trees_at d1.trees front; goal = e }) =
      of_universal u.params (trees_at d.trees front) (tree_at d.trees goal) (tree_at d.trees ty) (tree_at d.trees body) is
      ∙ ap (λ (g : Tree). introduced (record { params = u.params ++ tree_at d.trees ty ∷ []; locals = trees_at d.trees front; goal = g })) (ap (λ (m : ℕ). inst (tree_at d.trees body) (Param m (tree_at d.trees ty))) u.as_many ∙ sym o)
      ∙ ap (λ (ls : List Tree). introduced (record { params = u.params ++ tree_at d.trees ty ∷ []; locals = ls; goal = e })) (sym (same d d1 x front a)) in
      record {
        params = u.params ++ tree_at d.trees ty ∷ [];
        as_many = n;
        refutes = subst (λ (j : Judgement). Refutes d1 end (judgement_sequent j)) q (refutes_later d d1 x end _ u.refutes);
      }

-- ---- the goal after its premise
module _ (d : DraftTree) (front wider : List TermId) (goal a b : TermId) (is : tree_at d.trees goal ≡ Two (HJoin Imp) (tree_at d.trees a) (tree_at d.trees b)) (e : wider ≡ front ++ a ∷ []) where
  pub wider_trees : trees_at d.trees wider ≡ trees_at d.trees front ++ tree_at d.trees a ∷ []
  wider_trees = ap (trees_at d.trees) e ∙ map-append (tree_at d.trees) front (a ∷ [])

  pub wider_below : (number : ℕ) → AreParamsBelow number (trees_at d.trees front) (tree_at d.trees goal) → AreParamsBelow number (trees_at d.trees wider) (tree_at d.trees b)
  wider_below number k =
      subst (λ (es : List Tree). AreParamsBelow number es (tree_at d.trees b)) (sym wider_trees)
      (premise_below number (trees_at d.trees front) Imp (tree_at d.trees a) (tree_at d.trees b) (subst (AreParamsBelow number (trees_at d.trees front)) is k))

  pub wider_ends : (number end : ℕ) → EndsDraftAt d end (trees_at d.trees front) (tree_at d.trees goal) number → EndsDraftAt d end (trees_at d.trees wider) (tree_at d.trees b) number
  wider_ends number end u =
      let q : introduced (record { params = u.params; locals = trees_at d.trees front; goal = tree_at d.trees goal })
      ≡ introduced (record { params = u.params; locals = trees_at d.trees wider; goal = tree_at d.trees b }) =
      of_implication u.params (trees_at d.trees front) (tree_at d.trees goal) (tree_at d.trees a) (tree_at d.trees b) is
      ∙ ap (λ (ls : List Tree). introduced (record { params = u.params; locals = ls; goal = tree_at d.trees b })) (sym wider_trees) in
      record { params = u.params; as_many = u.as_many; refutes = subst (λ (j : Judgement). Refutes d end (judgement_sequent j)) q u.refutes }

-- a goal from which nothing is introduced
pub ends_here : (d : DraftTree) (front : List Tree) (goal : Tree) (number end : ℕ) → prefix goal ≡ 0 → EndsDraftAt d end front goal number → Refutes d end (front ++ neg goal ∷ [])
ends_here d front goal number end n u = subst (λ (j : Judgement). Refutes d end (judgement_sequent j)) (of_neither u.params front goal n) u.refutes
