-- A goal that is a quantifier, opened at a parameter that is new; and one that is an implication, after its premise.
use Rattle.std.proofs.Common.{◌≡◌, ℕ, ◌≤◌, ◌+◌, List, [], ◌∷◌, ◌++◌, false, sym, subst, ◌∙◌, arith}
use Rattle.std.proofs.lemmas.List.Elements.{All-push, All-weaker}
use Rattle.tasks.specs.trees.declared.Op.{Op}
use Rattle.tasks.specs.trees.declared.TermId.{TermId}
use Rattle.tasks.specs.trees.declared.Sort.TheVariants.{Kind}
use Rattle.tasks.specs.trees.Tree.{Tree, Two, HForall, HJoin, above_params}
use Rattle.tasks.specs.trees.Node.{tree_at, Holds}
use Rattle.tasks.specs.trees.Binding.{Param}
use Rattle.tasks.specs.trees.Facts.{has_param}
use Rattle.tasks.specs.trees.Sorts.{sort_of}
use Rattle.tasks.proofs.trees.Above.{no_param_above}
use Rattle.tasks.specs.Task.{TaskTree, neg}
use Rattle.tasks.specs.Meaning.{trees_at}
use Rattle.tasks.specs.Vocabulary.{of_task}
use Rattle.tasks.specs.Valid.{IsGroundFormula}
use Rattle.rules.specs.Rows.{IsNew}
use Rattle.evidence.specs.Drafts.{DraftTree, Extends, AreFormulas, IsFormulaAt}
use Rattle.evidence.proofs.Formulas.{same}
use Rattle.tasks.specs.typed_trees.instances.Instances.{AreParamsBelow, IsInstance}
use Rattle.tasks.proofs.InstanceLaws.{param_term}

-- a number above all parameters is new
pub new_below : (number : ℕ) (front : List Tree) (goal : Tree) → AreParamsBelow number front goal → IsNew number (front ++ neg goal ∷ [])
new_below number front goal b =
    All-push (λ a. has_param a number ≡ false) front (neg goal) (All-weaker (λ a. above_params a ≤ number) (λ a. has_param a number ≡ false) (λ a l. no_param_above a number l) front b.front)
    (no_param_above goal number b.goal)

pub below_later : (d d1 : DraftTree) (x : Extends d d1) (front : List TermId) (f : AreFormulas d front) (number : ℕ) (e e1 : Tree) → e1 ≡ e → AreParamsBelow number (trees_at d.trees front) e → AreParamsBelow number (trees_at d1.trees front) e1
below_later d d1 x front f number e e1 q l = subst (λ (z : List Tree). AreParamsBelow number z e1) (sym (same d d1 x front f)) (subst (AreParamsBelow number (trees_at d.trees front)) (sym q) l)

-- the right side after the left one
pub premise_below : (number : ℕ) (es : List Tree) (op : Op) (a b : Tree) → AreParamsBelow number es (Two (HJoin op) a b) → AreParamsBelow number (es ++ a ∷ []) b
premise_below number es op a b l =
    let m : above_params (Two (HJoin op) a b) ≤ number = l.goal in
    record { front = All-push (λ e. above_params e ≤ number) es a l.front (omega arith); goal = omega arith }

-- ---- a quantifier
module _ (d : DraftTree) (goal ty body : TermId) (f : IsFormulaAt d goal) (is : tree_at d.trees goal ≡ Two HForall (tree_at d.trees ty) (tree_at d.trees body)) where
  pub whole : IsGroundFormula d.task (Two HForall (tree_at d.trees ty) (tree_at d.trees body))
  whole = subst (IsGroundFormula d.task) is f.ground

  pub kind : sort_of (tree_at d.trees ty) ≡ Kind
  kind = whole.typed.0.0.0

  pub opened_formula : (d1 : DraftTree) (id : TermId) (number : ℕ) → d1.task ≡ d.task → Holds d1.trees id → IsInstance (tree_at d.trees body) (Param number (tree_at d.trees ty)) (tree_at d1.trees id) → IsFormulaAt d1 id
  opened_formula d1 id number t h i =
      let g : IsGroundFormula d.task (tree_at d1.trees id) = record {
        sort = i.sort ∙ whole.typed.0.0.1;
        typed = i.typed (of_task d.task) (tree_at d.trees ty) (param_term (of_task d.task) number (tree_at d.trees ty) whole.typed.0.0.0 whole.typed.2) whole.typed.3;
        ground = i.variables 0 whole.ground.0 whole.ground.1;
      } in
      record { held = h; ground = subst (λ (u : TaskTree). IsGroundFormula u (tree_at d1.trees id)) (sym t) g }

  pub opened_below : (front : List Tree) (number : ℕ) (e : Tree) → AreParamsBelow number front (tree_at d.trees goal) → IsInstance (tree_at d.trees body) (Param number (tree_at d.trees ty)) e → AreParamsBelow (number + 1) front e
  opened_below front number e b i =
      let l : above_params (Two HForall (tree_at d.trees ty) (tree_at d.trees body)) ≤ number = subst (λ (z : Tree). above_params z ≤ number) is b.goal in
      record {
        front = All-weaker (λ a. above_params a ≤ number) (λ a. above_params a ≤ number + 1) (λ a k. omega arith) front b.front;
        goal = i.above (number + 1) (omega arith) (omega arith);
      }

-- ---- two formulas that are joined
module _ (d : DraftTree) (op : Op) (goal a b : TermId) (f : IsFormulaAt d goal) (is : tree_at d.trees goal ≡ Two (HJoin op) (tree_at d.trees a) (tree_at d.trees b)) where
  joins : IsGroundFormula d.task (Two (HJoin op) (tree_at d.trees a) (tree_at d.trees b))
  joins = subst (IsGroundFormula d.task) is f.ground

  pub left_formula : Holds d.trees a → IsFormulaAt d a
  left_formula h = record { held = h; ground = record { sort = joins.typed.0.0.0; typed = joins.typed.2; ground = joins.ground.0 } }

  pub right_formula : Holds d.trees b → IsFormulaAt d b
  right_formula h = record { held = h; ground = record { sort = joins.typed.0.0.1; typed = joins.typed.3; ground = joins.ground.1 } }
