-- What is inside a part's formula, and the end of the part alone.
use Rattle.std.proofs.Common.{◌≡◌, ◌++◌, [], ◌∷◌, Option, inl, refl, sym, ap, subst, ◌∙◌}
use Rattle.tasks.specs.trees.declared.TermId.{TermId}
use Rattle.tasks.specs.trees.Tree.{Tree, Two, HForall, HLet}
use Rattle.tasks.specs.trees.Node.{tree_at, Holds}
use Rattle.tasks.specs.Task.{TaskTree, neg}
use Rattle.tasks.specs.Typing.{TypedUnder, option_list}
use Rattle.tasks.specs.Valid.{IsGroundFormula}
use Rattle.tasks.specs.Vocabulary.{of_task}
use Rattle.kernel.specs.Right.{IsGroundExpression}
use Rattle.evidence.specs.Drafts.{DraftTree, IsFormulaAt}
use Rattle.tasks.specs.typed_trees.instances.Instances.{IsInstance, IsClosedTerm}
use Rattle.tr_split.specs.parts.Kept.{let_sentence}
use Rattle.evidence.specs.proof_scripts.Added.{IsClosedTermAt}
use Rattle.tr_split.specs.Over.{IsTypedTermAt, IsClosedIn, IsBinding}

pub neg_same : (a b : Tree) → neg a ≡ neg b → a ≡ b
neg_same a b e = cc

pub opened_formula : (d : DraftTree) (whole part term : TermId) (ty : Tree) → IsFormulaAt d whole → tree_at d.trees whole ≡ Two HForall ty (tree_at d.trees part) → IsClosedTermAt d ty term
    → (d1 : DraftTree) (id : TermId) → d1.task ≡ d.task → Holds d1.trees id → IsInstance (tree_at d.trees part) (tree_at d.trees term) (tree_at d1.trees id) → IsFormulaAt d1 id
opened_formula d whole part term ty f is t d1 id e h i =
    let w : IsGroundFormula d.task (Two HForall ty (tree_at d.trees part)) = subst (IsGroundFormula d.task) is f.ground in
    let g : IsGroundFormula d.task (tree_at d1.trees id) = record {
      sort = i.sort ∙ w.typed.0.0.1;
      typed = i.typed (of_task d.task) ty t.term w.typed.3;
      ground = i.variables 0 t.variables w.ground.1;
    } in
    record { held = h; ground = subst (λ (u : TaskTree). IsGroundFormula u (tree_at d1.trees id)) (sym e) g }

pub valued_formula : (d : DraftTree) (whole part value : TermId) → IsFormulaAt d whole → tree_at d.trees whole ≡ Two HLet (tree_at d.trees value) (tree_at d.trees part) → IsTypedTermAt d value
    → (d1 : DraftTree) (id : TermId) → d1.task ≡ d.task → Holds d1.trees id → IsInstance (tree_at d.trees part) (tree_at d.trees value) (tree_at d1.trees id) → IsFormulaAt d1 id
valued_formula d whole part value f is t d1 id e h i =
    let v = tree_at d.trees value in
    let b = tree_at d.trees part in
    let w : IsGroundFormula d.task (Two HLet v b) = subst (IsGroundFormula d.task) is f.ground in
    let u : TypedUnder (of_task d.task) (t.ty ∷ []) b = subst (λ (z : Option Tree). TypedUnder (of_task d.task) (option_list z ++ []) b) t.term.term.type w.typed.3 in
    let g : IsGroundFormula d.task (tree_at d1.trees id) = record {
      sort = i.sort ∙ let_sentence v b w.typed.0 w.sort;
      typed = i.typed (of_task d.task) t.ty t.term.term u;
      ground = i.variables 0 t.term.variables w.ground.1;
    } in
    record { held = h; ground = subst (λ (z : TaskTree). IsGroundFormula z (tree_at d1.trees id)) (sym e) g }

-- the body of what binds at a term or at its value is a formula
module _ (d : DraftTree) (whole part term : TermId) (f : IsFormulaAt d whole) (u : (a b : Tree) → tree_at d.trees whole ≡ Two HForall a b → tree_at d.trees part ≡ b) (v : (a b : Tree) → tree_at d.trees whole ≡ Two HLet a b → tree_at d.trees part ≡ b) where
  pub body_formula : IsClosedIn d (tree_at d.trees whole) term → (d1 : DraftTree) (id : TermId) → d1.task ≡ d.task → Holds d1.trees id → IsInstance (tree_at d.trees part) (tree_at d.trees term) (tree_at d1.trees id) → IsFormulaAt d1 id
  body_formula c d1 id k h i = by (tree_at d.trees whole) refl c
    where
      by : (e : Tree) → tree_at d.trees whole ≡ e → IsClosedIn d e term → IsFormulaAt d1 id
      by (Two HForall ty b) e o = opened_formula d whole part term ty f (e ∙ ap (Two HForall ty) (sym (u ty b e))) o d1 id k h i
      by (Two HLet w b) e o = let q : Two HLet w b ≡ Two HLet (tree_at d.trees term) (tree_at d.trees part) = cc (o.0, v w b e) in valued_formula d whole part term f (e ∙ q) o.1 d1 id k h i
      by _ e o = absurd o

  pub body_closed : IsClosedIn d (tree_at d.trees whole) term → Holds d.trees term × IsClosedTerm (tree_at d.trees term)
  body_closed c = by (tree_at d.trees whole) c
    where
      by : (e : Tree) → IsClosedIn d e term → Holds d.trees term × IsClosedTerm (tree_at d.trees term)
      by (Two HForall ty b) o = (o.held, o.closed)
      by (Two HLet w b) o = (o.1.term.held, o.1.term.closed)
      by _ o = absurd o

pub binding_in : (d : DraftTree) (e : Tree) (t : TermId) → IsClosedIn d e t → IsBinding e
binding_in d (Two HForall ty b) t o = tt
binding_in d (Two HLet w b) t o = tt
binding_in d _ t o = absurd o

-- a closed term is a term of the task
pub term_expression : (d : DraftTree) (ty : Tree) (id : TermId) → IsClosedTermAt d ty id → IsGroundExpression d.task (tree_at d.trees id)
term_expression d ty id t = record { sort = inl t.term.sort; typed = t.term.typed; ground = t.variables }
