-- What is inside a `let`, a quantifier and an `if`.
use Rattle.std.proofs.Common.{◌≡◌, ℕ, ◌≤◌, ◌++◌, List, [], ◌∷◌, map, refl, ap, subst, arith}
use Rattle.tasks.specs.trees.declared.TermId.{TermId}
use Rattle.tasks.specs.trees.declared.Op.{Op}
use Rattle.tasks.specs.trees.declared.Op.TheVariants.{Imp}
use Rattle.tasks.specs.trees.Tree.{Tree, Two, Three, HJoin, HForall, HLet, HIf, loose, above_params}
use Rattle.tasks.specs.trees.Node.{tree_at, Holds}
use Rattle.tasks.specs.Vocabulary.{of_task}
use Rattle.tasks.specs.Valid.{IsGroundFormula}
use Rattle.tasks.proofs.Closing.{typed_closed}
use Rattle.evidence.specs.Drafts.{DraftTree, IsFormulaAt}
use Rattle.tr_split.specs.parts.Kept.{let_sentence}
use Rattle.tasks.specs.Typing.{bound_types}
use Rattle.tasks.proofs.Closing.{typed_sorted}
use Rattle.tasks.specs.trees.Binding.{inst}
use Rattle.tasks.specs.Task.{neg}
use Rattle.tr_split.specs.Goals.{AreParamsBelow, splits}
use Rattle.evidence.proofs.proof_scripts.Expressions.{has_type}
use Rattle.tr_split.proofs.Instances.{splits_inst}
use Rattle.tr_split.specs.declared.over.Over.TheVariants as stands
use Rattle.tr_split.specs.Over.{IsTypedTermAt, inner_of}

-- the value of a `let` is a closed term of some type
pub value_at : (d : DraftTree) (goal value body : TermId) → IsFormulaAt d goal → tree_at d.trees goal ≡ Two HLet (tree_at d.trees value) (tree_at d.trees body) → Holds d.trees value → IsTypedTermAt d value
value_at d goal value body f is h =
    let v = tree_at d.trees value in
    let w : IsGroundFormula d.task (Two HLet v (tree_at d.trees body)) = subst (IsGroundFormula d.task) is f.ground in
    let k : loose v ≤ 0 = typed_closed (of_task d.task) [] v w.typed.2 in
    let t = has_type v w.typed.0.0.0 in
    record {
      ty = t.0;
      term = record {
        held = h;
        closed = record { sort = w.typed.0.0.0; closed = omega (arith, k) };
        term = record { sort = w.typed.0.0.0; typed = w.typed.2; type = t.1 };
        variables = w.ground.0;
      };
    }

-- ---- numbers above the parameters
pub left_below : (number : ℕ) (es : List Tree) (op : Op) (a b : Tree) → AreParamsBelow number es (Two (HJoin op) a b) → AreParamsBelow number es a
left_below number es op a b l = let m : above_params (Two (HJoin op) a b) ≤ number = l.goal in record { front = l.front; goal = omega arith }

pub joined_below : (number : ℕ) (es : List Tree) (op op' : Op) (a b : Tree) → AreParamsBelow number es (Two (HJoin op) a b) → AreParamsBelow number es (Two (HJoin op') a b)
joined_below number es op op' a b l = let m : above_params (Two (HJoin op) a b) ≤ number = l.goal in record { front = l.front; goal = omega arith }

-- under a hypothesis the parts alone are the parts
pub same_parts : (s : List Tree) (h : TermId) (xs : List Tree) → map (inner_of s (stands.Hypothesis h)) xs ≡ xs
same_parts s h [] = refl
same_parts s h (x ∷ xs) = ap (λ (z : List Tree). x ∷ z) (same_parts s h xs)

-- how deep what is opened is split
pub opened_splits : (d : DraftTree) (goal ty body : TermId) → IsFormulaAt d goal → tree_at d.trees goal ≡ Two HForall (tree_at d.trees ty) (tree_at d.trees body) → (t : Tree) → splits (inst (tree_at d.trees body) t) ≡ splits (tree_at d.trees body)
opened_splits d goal ty body f is t =
    let w : IsGroundFormula d.task (Two HForall (tree_at d.trees ty) (tree_at d.trees body)) = subst (IsGroundFormula d.task) is f.ground in
    splits_inst (tree_at d.trees body) t (typed_sorted (of_task d.task) (tree_at d.trees ty ∷ []) (tree_at d.trees body) w.typed.3) w.typed.0.0.1

pub valued_splits : (d : DraftTree) (goal value body : TermId) → IsFormulaAt d goal → tree_at d.trees goal ≡ Two HLet (tree_at d.trees value) (tree_at d.trees body) → (t : Tree) → splits (inst (tree_at d.trees body) t) ≡ splits (tree_at d.trees body)
valued_splits d goal value body f is t =
    let w : IsGroundFormula d.task (Two HLet (tree_at d.trees value) (tree_at d.trees body)) = subst (IsGroundFormula d.task) is f.ground in
    splits_inst (tree_at d.trees body) t (typed_sorted (of_task d.task) (bound_types HLet (tree_at d.trees value) ++ []) (tree_at d.trees body) w.typed.3) (let_sentence (tree_at d.trees value) (tree_at d.trees body) w.typed.0 w.sort)

pub then_below : (number : ℕ) (es : List Tree) (c a b : Tree) → AreParamsBelow number es (Three HIf c a b) → AreParamsBelow number es (Two (HJoin Imp) c a)
then_below number es c a b l = let m : above_params (Three HIf c a b) ≤ number = l.goal in record { front = l.front; goal = omega arith }

pub else_below : (number : ℕ) (es : List Tree) (c a b : Tree) → AreParamsBelow number es (Three HIf c a b) → AreParamsBelow number es (Two (HJoin Imp) (neg c) b)
else_below number es c a b l = let m : above_params (Three HIf c a b) ≤ number = l.goal in record { front = l.front; goal = omega arith }
