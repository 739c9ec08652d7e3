use Rattle.std.proofs.Common.{◌∙◌, ap}
use Rattle.std.proofs.lemmas.Result.{IfOk-weaker}
use Rattle.trees.specs.Sorts.{sort_of}
use Rattle.evidence.specs.Laws.{Extends_trans}
use Rattle.evidence.proofs.Formulas.{formula_later}
use Rattle.congruence.proofs.Later.{held_later, tree_later, pair_later}
use Rattle.congruence.proofs.CaseParts.{part_formula, case_later, case_halves_later, step_later, no_iff_later, goal_before}
use Rattle.congruence.proofs.cases.under_formulas.Goals as goal

pub case_halves-requires : goal.case_halves-requires
case_halves-requires c =
    let d = c.args.draft.now in
    let b = c.args.right in
    let r = c.requires in
    record { case = r.left; formula = r.formula; other = part_formula d b.whole b.part r.right.pair (r.sides.sort ∙ r.formula); step = r.parts.there }

pub case_halves-requires-2 : goal.case_halves-requires-2
case_halves-requires-2 c =
    let d = c.args.draft.now in
    let d1 = c.case_halves.new.draft in
    let x = c.in_ok-first.ensures.grows in
    let a = c.args.left in
    let b = c.args.right in
    let r = c.requires in
    record {
      case = case_later d d1 x b r.right;
      formula = ap sort_of (tree_later d d1 x b.whole r.sides.right.held) ∙ r.sides.sort ∙ r.formula;
      other = formula_later d d1 x a.part (part_formula d a.whole a.part r.left.pair r.formula);
      step = step_later d d1 x c.args.parts.back b.part a.part r.right.pair.right.held r.left.pair.right.held r.parts.back;
    }

pub under_cases-requires : goal.under_cases-requires
under_cases-requires c =
    let d = c.args.draft.now in
    let d1 = c.case_halves.new.draft in
    let d2 = c.case_halves-2.new.draft in
    let n = c.in_ok-first in
    let m = c.in_ok-second in
    let x = Extends_trans d d1 d2 n.ensures.grows m.ensures.grows in
    let a = c.args.left in
    let b = c.args.right in
    let r = c.requires in
    record {
      left = case_later d d2 x a r.left;
      right = case_later d d2 x b r.right;
      formula = ap sort_of (tree_later d d2 x a.whole r.sides.left.held) ∙ r.formula;
      sides = pair_later d d2 x a.whole b.whole r.sides;
      goal = formula_later d d2 x c.args.goal r.goal;
      goal_is = no_iff_later d d2 x c.args.goal a.whole b.whole r.goal.held r.sides.left.held r.sides.right.held r.goal_is;
      first = case_halves_later d1 d2 m.ensures.grows a b.part n.first.there n.first.back (case_later d d1 n.ensures.grows a r.left) (held_later d d1 n.ensures.grows b.part r.right.pair.right.held) n.ensures.halves;
      second = m.ensures.halves;
    }

pub returns-in_err-second-clause-grows : goal.returns-in_err-second-clause-grows
returns-in_err-second-clause-grows c = Extends_trans _ _ _ c.in_ok-first.ensures.grows c.in_err-second.ensures.grows

pub returns : goal.returns
returns c =
    let d = c.args.draft.now in
    let d1 = c.case_halves.new.draft in
    let d2 = c.case_halves-2.new.draft in
    let d3 = c.under_cases.new.draft in
    let x = Extends_trans d d1 d2 c.in_ok-first.ensures.grows c.in_ok-second.ensures.grows in
    let r = c.requires in
    record {
      refutes = IfOk-weaker c.under_cases.result _ _ (λ k h. goal_before d d2 x d3 k c.args.goal c.args.left.hypothesis c.args.right.hypothesis r.goal.held r.left.hypothesis.held r.right.hypothesis.held h) c.under_cases.ensures.refutes;
      grows = Extends_trans d d2 d3 x c.under_cases.ensures.grows;
    }
