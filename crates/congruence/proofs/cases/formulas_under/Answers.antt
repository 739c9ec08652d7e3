use Rattle.std.proofs.Common.{◌∙◌, ap}
use Rattle.std.proofs.lemmas.Result.{IfOk-weaker}
use Rattle.trees.specs.Sorts.{sort_of}
use Rattle.evidence.specs.Laws.{Extends_trans}
use Rattle.evidence.proofs.Formulas.{formula_later}
use Rattle.congruence.proofs.Later.{tree_later, pair_later}
use Rattle.congruence.proofs.CaseParts.{parts_pair, case_later, no_iff_later, goal_before, halves_here}
use Rattle.congruence.proofs.cases.formulas_under.Goals as goal

pub make_halves-requires : goal.make_halves-requires
make_halves-requires c =
    let d = c.args.draft.now in
    let a = c.args.left in
    let b = c.args.right in
    let r = c.requires in
    record { pair = parts_pair d a.whole b.whole a.part b.part r.sides r.left.pair r.right.pair; formula = r.left.pair.sort ∙ r.formula; shows = r.parts }

pub under_formulas-requires : goal.under_formulas-requires
under_formulas-requires c =
    let d = c.args.draft.now in
    let d1 = c.make_halves.new.draft in
    let n = c.in_ok-halves in
    let x = n.ensures.grows in
    let a = c.args.left in
    let b = c.args.right in
    let r = c.requires in
    record {
      left = case_later d d1 x a r.left;
      right = case_later d d1 x b r.right;
      formula = ap sort_of (tree_later d d1 x a.whole r.sides.left.held) ∙ r.formula;
      sides = pair_later d d1 x a.whole b.whole r.sides;
      goal = formula_later d d1 x c.args.goal r.goal;
      goal_is = no_iff_later d d1 x c.args.goal a.whole b.whole r.goal.held r.sides.left.held r.sides.right.held r.goal_is;
      parts = halves_here d1 _ _ _ _ n.halves.there n.halves.back (tree_later d d1 x a.part r.left.pair.right.held) (tree_later d d1 x b.part r.right.pair.right.held) n.ensures.halves;
    }

pub returns : goal.returns
returns c =
    let d = c.args.draft.now in
    let d1 = c.make_halves.new.draft in
    let d2 = c.under_formulas.new.draft in
    let x = c.in_ok-halves.ensures.grows in
    let r = c.requires in
    record {
      refutes = IfOk-weaker c.under_formulas.result _ _ (λ k h. goal_before d d1 x d2 k c.args.goal c.args.left.hypothesis c.args.right.hypothesis r.goal.held r.left.hypothesis.held r.right.hypothesis.held h) c.under_formulas.ensures.refutes;
      grows = Extends_trans d d1 d2 x c.under_formulas.ensures.grows;
    }
