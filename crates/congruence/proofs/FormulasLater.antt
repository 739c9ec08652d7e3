-- Formulas of a connective or a quantifier, with their parts, stay so as the draft extends.
use Rattle.std.proofs.Common.{◌≡◌, ◌≤◌, ℕ, Bool, [], ◌∷◌, sym, ap, subst, ◌∙◌}
use Rattle.trees.specs.declared.Op.{Op}
use Rattle.trees.specs.Tree.{Tree, Two, HJoin, above_params}
use Rattle.trees.specs.Node.{tree_at}
use Rattle.trees.specs.Binding.{inst, Param}
use Rattle.tasks.specs.Task.{neg}
use Rattle.evidence.specs.Drafts.{DraftTree, Extends, Refutes}
use Rattle.evidence.proofs.Formulas.{formula_later}
use Rattle.congruence.specs.declared.joins.Joined.{Joined}
use Rattle.congruence.specs.declared.quantified.Quantifier.{Quantifier}
use Rattle.congruence.specs.declared.quantified.Quantified.{Quantified}
use Rattle.congruence.specs.Connectives.{IsJoined}
use Rattle.congruence.specs.Quantifiers.{quantifier_head, IsQuantifierHeld, IsQuantifiedAt}
use Rattle.congruence.proofs.Later.{held_later, tree_later, closed_later, node_later}
use Rattle.congruence.proofs.NewParameters.{param_later, body_later}

module _ (d d1 : DraftTree) (x : Extends d d1) where
  pub joined_later : (op : Op) (f : Joined) → IsJoined d op f → IsJoined d1 op f
  joined_later op f j = record {
    whole = formula_later d d1 x f.whole j.whole;
    first_held = held_later d d1 x f.first j.first_held;
    second_held = held_later d d1 x f.second j.second_held;
    is = node_later d d1 x (HJoin op) f.whole f.first f.second j.whole.held j.first_held j.second_held j.is;
  }

  pub quantifier_later : (q : Quantifier) → IsQuantifierHeld d q → IsQuantifierHeld d1 q
  quantifier_later q h = record {
    ty = held_later d d1 x q.ty h.ty;
    term = closed_later d d1 x q.term h.term;
    term_is = param_later d d1 x q.number q.term q.ty h.term.held h.ty h.term_is;
  }

  pub quantified_later : (q : Quantifier) (f : Quantified) → IsQuantifierHeld d q → IsQuantifiedAt d q f → IsQuantifiedAt d1 q f
  quantified_later q f h k = record {
    whole = formula_later d d1 x f.whole k.whole;
    body = held_later d d1 x f.body k.body;
    at_parameter = formula_later d d1 x f.at_parameter k.at_parameter;
    whole_is = node_later d d1 x (quantifier_head q.universal) f.whole q.ty f.body k.whole.held h.ty k.body k.whole_is;
    at_parameter_is = body_later d d1 x q.number f.at_parameter f.body q.ty k.at_parameter.held k.body h.ty k.at_parameter_is;
    new = subst (λ (z : Tree). above_params z ≤ q.number) (sym (tree_later d d1 x f.whole k.whole.held)) k.new;
  }

-- the formula by the head of its quantifier
pub quantified_by : (d : DraftTree) (q : Quantifier) (f : Quantified) (b : Bool) → q.universal ≡ b → IsQuantifiedAt d q f → tree_at d.trees f.whole ≡ Two (quantifier_head b) (tree_at d.trees q.ty) (tree_at d.trees f.body)
quantified_by d q f b e k = k.whole_is ∙ ap (λ (z : Bool). Two (quantifier_head z) (tree_at d.trees q.ty) (tree_at d.trees f.body)) e

-- a step for the bodies at the parameter
pub bodies_step : (d : DraftTree) (q : Quantifier) (l r : Quantified) (k : ℕ) → IsQuantifiedAt d q l → IsQuantifiedAt d q r → Refutes d k (tree_at d.trees l.at_parameter ∷ neg (tree_at d.trees r.at_parameter) ∷ [])
    → Refutes d k (inst (tree_at d.trees l.body) (Param q.number (tree_at d.trees q.ty)) ∷ neg (inst (tree_at d.trees r.body) (Param q.number (tree_at d.trees q.ty))) ∷ [])
bodies_step d q l r k f g s =
    subst (λ (z : Tree). Refutes d k (z ∷ neg (inst (tree_at d.trees r.body) (Param q.number (tree_at d.trees q.ty))) ∷ [])) f.at_parameter_is (subst (λ (z : Tree). Refutes d k (tree_at d.trees l.at_parameter ∷ neg z ∷ [])) g.at_parameter_is s)
