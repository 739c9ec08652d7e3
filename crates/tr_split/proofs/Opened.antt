-- A goal opened at a parameter, or at a value: the ends of its parts there.
use Rattle.std.proofs.Common.{◌≡◌, ℕ, ◌≤◌, List, [], ◌∷◌, ◌++◌, map, sym, subst, ◌∙◌, append-nil, arith}
use Rattle.tasks.specs.trees.declared.TermId.{TermId}
use Rattle.tasks.specs.trees.Tree.{Tree, Two, HForall, HLet, above_params}
use Rattle.tasks.specs.trees.Node.{tree_at, Holds}
use Rattle.tasks.specs.trees.Binding.{inst, Param}
use Rattle.tasks.specs.Valid.{IsGroundFormula, VariablesBelow}
use Rattle.tasks.specs.Vocabulary.{of_task}
use Rattle.tasks.specs.Typing.{bound_types}
use Rattle.tasks.specs.Meaning.{trees_at}
use Rattle.tasks.proofs.Closing.{typed_sorted}
use Rattle.evidence.specs.Drafts.{DraftTree, Extends, IsFormulaAt, AreFormulas}
use Rattle.tasks.specs.typed_trees.instances.Instances.{IsTermOf, IsClosedTerm, IsInstance}
use Rattle.tasks.proofs.InstanceLaws.{param_term}
use Rattle.evidence.proofs.task_parts.Opened.{whole, kind}
use Rattle.tr_split.specs.parts.Split.{split}
use Rattle.tr_split.specs.parts.Glue.{EndsOfParts}
use Rattle.tr_split.specs.parts.Kept.{let_sentence}
use Rattle.tr_split.proofs.parts.Pieces.{ends_later}
use Rattle.tr_split.specs.Goals.{AreParamsBelow}
use Rattle.evidence.specs.proof_scripts.Added.{IsClosedTermAt}
use Rattle.tr_split.proofs.Instances.{split_inst}

-- ---- a quantifier
module _ (d : DraftTree) (goal ty body : TermId) (f : IsFormulaAt d goal) (is : tree_at d.trees goal ≡ Two HForall (tree_at d.trees ty) (tree_at d.trees body)) where
  pub param_at : (number : ℕ) (param : TermId) → Holds d.trees param → tree_at d.trees param ≡ Param number (tree_at d.trees ty) → IsClosedTerm (tree_at d.trees param) → IsClosedTermAt d (tree_at d.trees ty) param
  param_at number param h e k = record {
    held = h;
    closed = k;
    term = subst (IsTermOf (of_task d.task) (tree_at d.trees ty)) (sym e) (param_term (of_task d.task) number (tree_at d.trees ty) (kind d goal ty body f is) (whole d goal ty body f is).typed.2);
    variables = subst (VariablesBelow 0) (sym e) (whole d goal ty body f is).ground.0;
  }

  pub opened_split : (t : Tree) → split (inst (tree_at d.trees body) t) ≡ map (λ x. inst x t) (split (tree_at d.trees body))
  opened_split t = split_inst (tree_at d.trees body) t (typed_sorted (of_task d.task) (tree_at d.trees ty ∷ []) (tree_at d.trees body) (whole d goal ty body f is).typed.3) (whole d goal ty body f is).typed.0.0.1

-- ---- a `let`
module _ (d : DraftTree) (goal value body : TermId) (f : IsFormulaAt d goal) (is : tree_at d.trees goal ≡ Two HLet (tree_at d.trees value) (tree_at d.trees body)) where
  valued : IsGroundFormula d.task (Two HLet (tree_at d.trees value) (tree_at d.trees body))
  valued = subst (IsGroundFormula d.task) is f.ground

  pub valued_below : (front : List Tree) (number : ℕ) (e : Tree) → AreParamsBelow number front (tree_at d.trees goal) → IsInstance (tree_at d.trees body) (tree_at d.trees value) e → AreParamsBelow number front e
  valued_below front number e b i =
      let l : above_params (Two HLet (tree_at d.trees value) (tree_at d.trees body)) ≤ number = subst (λ (z : Tree). above_params z ≤ number) is b.goal in
      record { front = b.front; goal = i.above number (omega arith) (omega arith) }

  pub valued_split : (t : Tree) → split (inst (tree_at d.trees body) t) ≡ map (λ x. inst x t) (split (tree_at d.trees body))
  valued_split t =
      split_inst (tree_at d.trees body) t (typed_sorted (of_task d.task) (bound_types HLet (tree_at d.trees value) ++ []) (tree_at d.trees body) valued.typed.3)
      (let_sentence (tree_at d.trees value) (tree_at d.trees body) valued.typed.0 valued.sort)

-- the ends of the parts of a goal that binds, over a draft that has grown
pub wholes_ends : (d d1 : DraftTree) (x : Extends d d1) (front : List TermId) (f : AreFormulas d front) (goal : TermId) (ends : List ℕ) (parts : List Tree) → split (tree_at d.trees goal) ≡ parts → EndsOfParts d ends (trees_at d.trees front) (split (tree_at d.trees goal)) → EndsOfParts d1 ends (trees_at d1.trees front) parts
wholes_ends d d1 x front f goal ends parts q e = ends_later d d1 x front f ends parts (subst (EndsOfParts d ends (trees_at d.trees front)) q e)

-- the ends of the parts alone are those of the goal that is opened
pub inner_ends : (d d1 : DraftTree) (ends : List ℕ) (front front1 parts parts1 : List Tree) → front1 ≡ front → parts1 ≡ parts → EndsOfParts d1 ends (front1 ++ []) parts1 → EndsOfParts d1 ends front parts
inner_ends d d1 ends front front1 parts parts1 p q e = subst (λ (z : List Tree). EndsOfParts d1 ends z parts) (append-nil front1 ∙ p) (subst (EndsOfParts d1 ends (front1 ++ [])) q e)
