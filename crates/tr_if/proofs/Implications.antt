-- Two implications under a condition and its negation, by their numbers: formulas, as the draft extends.
use Rattle.std.proofs.Common.{◌≡◌, sym, ap, ◌∙◌}
use Rattle.tasks.specs.trees.declared.Sort.TheVariants.{Formula}
use Rattle.tasks.specs.trees.Node.{tree_at}
use Rattle.tasks.specs.trees.Sorts.{sort_of}
use Rattle.evidence.specs.Drafts.{DraftTree, Extends, IsFormulaAt}
use Rattle.congruence.specs.declared.conditionals.Conditional.{Conditional}
use Rattle.congruence.proofs.Later.{tree_later}
use Rattle.congruence.proofs.CaseParts.{closed_formula, parts_later}
use Rattle.tr_if.specs.Implying.{AreImplications}

module _ (d : DraftTree) (k : Conditional) (p : AreImplications d k) where
  whole_sort : sort_of (tree_at d.trees k.whole) ≡ Formula
  whole_sort = ap sort_of p.is

  pub whole_formula : IsFormulaAt d k.whole
  whole_formula = closed_formula d k.whole p.parts.whole whole_sort

  pub then_formula : IsFormulaAt d k.then_part
  then_formula = closed_formula d k.then_part p.parts.then_part.right (p.parts.then_part.sort ∙ whole_sort)

  pub else_formula : IsFormulaAt d k.else_part
  else_formula = closed_formula d k.else_part p.parts.else_part.right (p.parts.else_part.sort ∙ whole_sort)

  pub implied_later : (d1 : DraftTree) (x : Extends d d1) → AreImplications d1 k
  implied_later d1 x = record {
    parts = parts_later d d1 x k p.parts;
    is = tree_later d d1 x k.whole p.parts.whole.held ∙ p.is
        ∙ sym (cc (tree_later d d1 x k.condition p.parts.condition.held, tree_later d d1 x k.then_part p.parts.then_part.right.held, tree_later d d1 x k.else_part p.parts.else_part.right.held));
  }
