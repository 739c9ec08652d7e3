-- The scripts of the crate, at the trees of their formulas.
use Rattle.std.proofs.Common.{◌≡◌, ℕ, ◌≤◌, false, List, [], ◌∷◌, slice_get, Some, refl, sym, ap, subst, ◌∙◌}
use Rattle.std.proofs.lemmas.List.Elements.{All-nil}
use Rattle.tasks.specs.trees.declared.Op.TheVariants.{Or}
use Rattle.tasks.specs.trees.Tree.{Tree, Two, Three, HCell, HFun, HJoin, HForall, above_params}
use Rattle.tasks.specs.trees.Binding.{inst, Param}
use Rattle.tasks.specs.trees.Facts.{has_param}
use Rattle.tasks.specs.Task.{TaskTree, neg}
use Rattle.tasks.specs.Valid.{IsTypeOver}
use Rattle.kernel.specs.rules.Trees.{RClash, RNotNot, RNotForall, RDistinct, RProject}
use Rattle.kernel.specs.rules.Forms.{equal, alike}
use Rattle.kernel.specs.rules.Rows.{IsNew}
use Rattle.kernel.specs.Right.{IsGroundExpression}
use Rattle.evidence.specs.Drafts.{DraftTree, Refutes}
use Rattle.evidence.proofs.Rules.{distinct_row, project_row}
use Rattle.evidence.proofs.task_parts.Opened.{new_below}
use Rattle.evidence.specs.proof_scripts.Scripts.{GivenLine, KeptLine, FailingLine, TailLine, IsByRule, IsOfTail, Follows, field_line}
use Rattle.evidence.proofs.proof_scripts.Lines.{clash_line, not_forall_line, not_not_line}
use Rattle.tr_algebraic.specs.law_evidence.Shapes.{IsProjected, AreApart}

-- ---- a quantifier at a new parameter
pub new_follows : (d : DraftTree) (negated whole ty b : Tree) (n k : ℕ) → negated ≡ neg whole → whole ≡ Two HForall ty b → above_params whole ≤ n → Refutes d k (neg (inst b (Param n ty)) ∷ []) → Follows d [] (TailLine (RNotForall 0 n) ∷ GivenLine k 1 ∷ []) ((negated ∷ []) ∷ [])
new_follows d negated whole ty b n k e q l r =
    let F : Tree = Two HForall ty b in
    let below : above_params F ≤ n = subst (λ (z : Tree). above_params z ≤ n) q l in
    let new : IsNew n (neg F ∷ []) = new_below n [] F (record { front = All-nil (λ a. above_params a ≤ n); goal = below }) in
    subst (λ (z : Tree). Follows d [] (TailLine (RNotForall 0 n) ∷ GivenLine k 1 ∷ []) ((z ∷ []) ∷ [])) (sym (e ∙ ap neg q))
    (not_forall_line d.task (neg F ∷ []) 0 n ty b refl new, All-nil (λ a. has_param a n ≡ false), (record { before = neg F ∷ []; last = neg (inst b (Param n ty)) ∷ []; is = refl; as_many = refl; refutes = r }, tt))

-- ---- a projection
field_by : (t : TaskTree) (s : List Tree) (e w x : Tree) → e ≡ equal w x → IsProjected t e → IsGroundExpression t w → IsByRule t s (RProject w) ((alike w x ∷ []) ∷ [])
field_by t s e w x q h g =
    let L : Tree = Three (HFun h.projection) h.types (Two HCell (Three (HFun h.con.symbol) h.own h.args h.result) h.rest) h.type in
    let both : equal w x ≡ equal L h.value = sym q ∙ h.is in
    let left : w ≡ L = cc in
    let right : x ≡ h.value = cc in
    let ground : IsGroundExpression t L = subst (IsGroundExpression t) left g in
    let by : IsByRule t s (RProject L) ((alike L h.value ∷ []) ∷ []) = record { names = record { trees = (ground, tt); types = All-nil (IsTypeOver t 0) }; row = project_row t s h.projection h.place h.con h.types h.rest h.type h.own h.args h.result h.value h.made h.there } in
    subst (λ (z : Tree). IsByRule t s (RProject z) ((alike z x ∷ []) ∷ [])) (sym left) (subst (λ (z : Tree). IsByRule t s (RProject L) ((alike L z ∷ []) ∷ [])) (sym right) by)

pub projection_follows : (d : DraftTree) (negated e w x : Tree) → negated ≡ neg e → e ≡ equal w x → alike w x ≡ e → IsProjected d.task e → IsGroundExpression d.task w → Follows d [] (field_line w x ∷ TailLine (RClash 1 0) ∷ []) ((negated ∷ []) ∷ [])
projection_follows d negated e w x m q a h g = (field_by d.task (negated ∷ []) e w x q h g, (clash_line d.task (negated ∷ alike w x ∷ []) 1 0 (alike w x) refl (ap (λ (z : Tree). Some z) (m ∙ ap neg (sym a))), tt, tt))

-- ---- two constructors
distinct_line : (t : TaskTree) (s : List Tree) (i : ℕ) (e : Tree) → slice_get s i ≡ Some e → AreApart t (neg e) → IsOfTail t s (RDistinct i)
distinct_line t s i e q h =
    let both : neg e ≡ neg (equal (Three (HFun h.first) h.types h.args h.type) (Three (HFun h.second) h.own h.others h.result)) = h.is in
    let same : e ≡ equal (Three (HFun h.first) h.types h.args h.type) (Three (HFun h.second) h.own h.others h.result) = cc in
    record { names = record { trees = tt; types = All-nil (IsTypeOver t 0) }; row = distinct_row t s i h.first h.second h.types h.args h.type h.own h.others h.result (q ∙ ap (λ (z : Tree). Some z) same) h.first_made h.second_made h.different }

pub equation_follows : (d : DraftTree) (negated whole e : Tree) → negated ≡ neg whole → whole ≡ neg e → AreApart d.task whole → Follows d [] (TailLine (RNotNot 0) ∷ TailLine (RDistinct 1) ∷ []) ((negated ∷ []) ∷ [])
equation_follows d negated whole e m q h =
    let F : Tree = neg (neg e) in
    subst (λ (z : Tree). Follows d [] (TailLine (RNotNot 0) ∷ TailLine (RDistinct 1) ∷ []) ((z ∷ []) ∷ [])) (sym (m ∙ ap neg q))
    (not_not_line d.task (F ∷ []) 0 e refl, tt, (distinct_line d.task (F ∷ e ∷ []) 1 e refl (subst (AreApart d.task) q h), tt, tt))

-- ---- a case of a disjunction
pub case_here : (d : DraftTree) (negated case whole a b : Tree) → negated ≡ neg whole → whole ≡ Two (HJoin Or) a b → case ≡ a → Follows d [] (FailingLine Or 0 ∷ TailLine (RClash 1 2) ∷ []) ((negated ∷ case ∷ []) ∷ [])
case_here d negated case whole a b m q e =
    subst (λ (z : Tree). Follows d [] (FailingLine Or 0 ∷ TailLine (RClash 1 2) ∷ []) ((z ∷ case ∷ []) ∷ [])) (sym (m ∙ ap neg q))
    (refl, (clash_line d.task (neg (Two (HJoin Or) a b) ∷ case ∷ neg a ∷ neg b ∷ []) 1 2 case refl (ap (λ (z : Tree). Some (neg z)) (sym e)), tt, tt))

pub case_later : (d : DraftTree) (negated case whole a b : Tree) (k : ℕ) → negated ≡ neg whole → whole ≡ Two (HJoin Or) a b → Refutes d k (neg b ∷ case ∷ []) → Follows d [] (FailingLine Or 0 ∷ KeptLine k (3 ∷ 1 ∷ []) ∷ []) ((negated ∷ case ∷ []) ∷ [])
case_later d negated case whole a b k m q r =
    subst (λ (z : Tree). Follows d [] (FailingLine Or 0 ∷ KeptLine k (3 ∷ 1 ∷ []) ∷ []) ((z ∷ case ∷ []) ∷ [])) (sym (m ∙ ap neg q)) (refl, (record { kept = neg b ∷ case ∷ []; are = refl; refutes = r }, tt))

pub case_last : (d : DraftTree) (negated case whole : Tree) → negated ≡ neg whole → case ≡ whole → Follows d [] (TailLine (RClash 1 0) ∷ []) ((negated ∷ case ∷ []) ∷ [])
case_last d negated case whole m e = (clash_line d.task (negated ∷ case ∷ []) 1 0 case refl (ap (λ (z : Tree). Some z) (m ∙ ap neg (sym e))), tt, tt)
