use Rattle.std.proofs.Common.{sym, ap, ◌∙◌}
use Rattle.std.proofs.lemmas.Result.{IfOk-weaker}
use Rattle.tasks.specs.Task.{neg}
use Rattle.evidence.specs.Laws.{Extends_trans, AddsTrees_extends}
use Rattle.evidence.proofs.Formulas.{formula_later}
use Rattle.evidence.proofs.Rules.{refutes_later}
use Rattle.congruence.proofs.Later.{tree_later, pair_later, shows_at}
use Rattle.congruence.proofs.CaseParts.{denied, same_alike}
use Rattle.congruence.proofs.PlainScripts.{two_same, three_same}
use Rattle.congruence.proofs.cases.under_negations.Goals as goal

pub negation-requires : goal.negation-requires
negation-requires c = c.requires.left.condition

pub negation-requires-2 : goal.negation-requires-2
negation-requires-2 c = formula_later c.args.draft.now c.negation.new.draft (AddsTrees_extends _ _ c.in_ok-no_left.ensures.grows) c.args.right.condition c.requires.right.condition

pub under-requires : goal.under-requires
under-requires c =
    let d = c.args.draft.now in
    let d1 = c.negation.new.draft in
    let d2 = c.negation-2.new.draft in
    let n = c.in_ok-no_left in
    let m = c.in_ok-no_right in
    let x1 = AddsTrees_extends d d1 n.ensures.grows in
    let y = AddsTrees_extends d1 d2 m.ensures.grows in
    let x = Extends_trans d d1 d2 x1 y in
    let a = c.args.left in
    let b = c.args.right in
    let r = c.requires in
    record {
      left = record {
        pair = pair_later d d2 x a.whole a.else_part r.left.else_part;
        hypothesis = formula_later d1 d2 y n.no_left n.ensures.formula;
        value = two_same d2 c.args.left_values.else_value _ _ _ _ (sym (tree_later d1 d2 y n.no_left n.ensures.formula.held ∙ n.ensures.tree)) (ap neg (same_alike d d2 x a.whole a.else_part r.left.whole.held r.left.else_part.right.held)) (refutes_later d d2 x c.args.left_values.else_value _ r.left_values.else_value);
      };
      right = record {
        pair = pair_later d d2 x b.whole b.else_part r.right.else_part;
        hypothesis = m.ensures.formula;
        value = two_same d2 c.args.right_values.else_value _ _ _ _ (sym (m.ensures.tree ∙ ap neg (tree_later d d1 x1 b.condition r.right.condition.held))) (ap neg (same_alike d d2 x b.whole b.else_part r.right.whole.held r.right.else_part.right.held)) (refutes_later d d2 x c.args.right_values.else_value _ r.right_values.else_value);
      };
      sides = pair_later d d2 x a.whole b.whole r.sides;
      goal = formula_later d d2 x c.args.goal r.goal;
      goal_is = denied d d2 x c.args.goal a.whole b.whole r.sides.left.held r.sides.right.held (tree_later d d2 x c.args.goal r.goal.held ∙ r.goal_is);
      parts = shows_at d d2 x c.args.links.else_part a.else_part b.else_part r.left.else_part.right.held r.right.else_part.right.held r.links.else_part;
    }

pub returns-in_err-no_right-clause-grows : goal.returns-in_err-no_right-clause-grows
returns-in_err-no_right-clause-grows c = Extends_trans _ _ _ (AddsTrees_extends _ _ c.in_ok-no_left.ensures.grows) (AddsTrees_extends _ _ c.in_err-no_right.ensures.grows)

pub returns : goal.returns
returns c =
    let d = c.args.draft.now in
    let d1 = c.negation.new.draft in
    let d2 = c.negation-2.new.draft in
    let d3 = c.under.new.draft in
    let n = c.in_ok-no_left in
    let m = c.in_ok-no_right in
    let x1 = AddsTrees_extends d d1 n.ensures.grows in
    let y = AddsTrees_extends d1 d2 m.ensures.grows in
    let x = Extends_trans d d1 d2 x1 y in
    let r = c.requires in
    record {
      refutes = IfOk-weaker c.under.result _ _ (λ k h. three_same d3 k _ _ _ _ _ _ (tree_later d d2 x c.args.goal r.goal.held) (tree_later d1 d2 y n.no_left n.ensures.formula.held ∙ n.ensures.tree) (m.ensures.tree ∙ ap neg (tree_later d d1 x1 c.args.right.condition r.right.condition.held)) h) c.under.ensures.refutes;
      grows = Extends_trans d d2 d3 x c.under.ensures.grows;
    }
