use Rattle.std.proofs.Common.{sym, ap, ◌∙◌}
use Rattle.std.proofs.lemmas.Result.{IfOk-weaker}
use Rattle.trees.specs.Sorts.{sort_of}
use Rattle.tasks.specs.Task.{neg}
use Rattle.evidence.specs.Laws.{Extends_trans, AddsTrees_extends}
use Rattle.evidence.proofs.Formulas.{formula_later}
use Rattle.congruence.proofs.Later.{held_later, tree_later, pair_later}
use Rattle.congruence.proofs.CaseParts.{pair_turned, pair_through, case_later, goal_before}
use Rattle.congruence.proofs.HoleTemplates.{apart_later, lemma_later}
use Rattle.congruence.proofs.Scripts.{equal_at}
use Rattle.congruence.proofs.PlainScripts.{two_same}
use Rattle.congruence.proofs.cases.under_terms.Goals as goal

pub apart-requires : goal.apart-requires
apart-requires c =
    let d = c.args.draft.now in
    let a = c.args.left in
    let r = c.requires in
    record { pair = pair_through d a.part a.whole c.args.right.whole (pair_turned d a.whole a.part r.left.pair) r.sides; term = r.left.pair.sort ∙ r.term }

pub replaced_second-requires : goal.replaced_second-requires
replaced_second-requires c =
    let d = c.args.draft.now in
    let d1 = c.apart.new.draft in
    let n = c.in_ok-between in
    let x = AddsTrees_extends d d1 n.ensures.grows in
    let a = c.args.left in
    let b = c.args.right in
    let r = c.requires in
    let p = pair_through d a.part a.whole b.whole (pair_turned d a.whole a.part r.left.pair) r.sides in
    record {
      right = case_later d d1 x b r.right;
      term = ap sort_of (tree_later d d1 x b.whole r.sides.right.held) ∙ r.sides.sort ∙ r.term;
      beside = pair_later d d1 x b.whole a.part (pair_turned d a.part b.whole p);
      goal = n.ensures.formula;
      goal_is = n.ensures.tree;
      lemma = lemma_later d d1 x c.args.lemma a.part b.part r.left.pair.right.held r.right.pair.right.held r.lemma;
    }

pub replaced_first-requires : goal.replaced_first-requires
replaced_first-requires c =
    let d = c.args.draft.now in
    let d1 = c.apart.new.draft in
    let d2 = c.replaced_second.new.draft in
    let n = c.in_ok-between in
    let m = c.in_ok-step in
    let x1 = AddsTrees_extends d d1 n.ensures.grows in
    let y = m.ensures.grows in
    let x = Extends_trans d d1 d2 x1 y in
    let a = c.args.left in
    let b = c.args.right in
    let r = c.requires in
    record {
      left = case_later d d2 x a r.left;
      right = case_later d d2 x b r.right;
      term = ap sort_of (tree_later d d2 x a.whole r.sides.left.held) ∙ r.term;
      sides = pair_later d d2 x a.whole b.whole r.sides;
      goal = formula_later d d2 x c.args.goal r.goal;
      goal_is = apart_later d d2 x c.args.goal a.whole b.whole r.goal.held r.sides.left.held r.sides.right.held r.goal_is;
      step = two_same d2 m.step _ _ _ _ (n.ensures.tree ∙ ap neg (equal_at d1 d2 y a.part b.whole (held_later d d1 x1 a.part r.left.pair.right.held) (held_later d d1 x1 b.whole r.sides.right.held)))
          (sym (tree_later d1 d2 y b.hypothesis (held_later d d1 x1 b.hypothesis r.right.hypothesis.held))) m.ensures.refutes;
    }

pub returns-in_err-step-clause-grows : goal.returns-in_err-step-clause-grows
returns-in_err-step-clause-grows c = Extends_trans _ _ _ (AddsTrees_extends _ _ c.in_ok-between.ensures.grows) c.in_err-step.ensures.grows

pub returns : goal.returns
returns c =
    let d = c.args.draft.now in
    let d1 = c.apart.new.draft in
    let d2 = c.replaced_second.new.draft in
    let d3 = c.replaced_first.new.draft in
    let x = Extends_trans d d1 d2 (AddsTrees_extends d d1 c.in_ok-between.ensures.grows) c.in_ok-step.ensures.grows in
    let r = c.requires in
    record {
      refutes = IfOk-weaker c.replaced_first.result _ _ (λ k h. goal_before d d2 x d3 k c.args.goal c.args.left.hypothesis c.args.right.hypothesis r.goal.held r.left.hypothesis.held r.right.hypothesis.held h) c.replaced_first.ensures.refutes;
      grows = Extends_trans d d2 d3 x c.replaced_first.ensures.grows;
    }
