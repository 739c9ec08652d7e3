use Rattle.std.proofs.Common.{[], ◌∷◌, subst}
use Rattle.std.proofs.lemmas.Result.{IfOk-weaker}
use Rattle.trees.specs.Tree.{Tree}
use Rattle.evidence.specs.Drafts.{Refutes}
use Rattle.evidence.specs.Laws.{Extends_trans, AddsTrees_extends}
use Rattle.congruence.proofs.Later.{pair_later, shows_before}
use Rattle.congruence.proofs.CaseParts.{parts_later, values_later, linked_later, denied, denied_step}
use Rattle.congruence.proofs.cases.alike_cases.Goals as goal

pub denial-requires : goal.denial-requires
denial-requires c = record { pair = c.requires.sides }

pub decided-requires : goal.decided-requires
decided-requires c =
    let d = c.args.draft.now in
    let d1 = c.denial.new.draft in
    let n = c.in_ok-goal in
    let x = AddsTrees_extends d d1 n.ensures.grows in
    let a = c.args.left in
    let b = c.args.right in
    let r = c.requires in
    record {
      left = parts_later d d1 x a r.left;
      right = parts_later d d1 x b r.right;
      sides = pair_later d d1 x a.whole b.whole r.sides;
      left_values = values_later d d1 x a c.args.left_values r.left r.left_values;
      right_values = values_later d d1 x b c.args.right_values r.right r.right_values;
      goal = n.ensures.formula;
      goal_is = denied d d1 x n.goal a.whole b.whole r.sides.left.held r.sides.right.held n.ensures.tree;
      links = linked_later d d1 x a b c.args.links r.left r.right r.links;
    }

pub alike_by_step-requires : goal.alike_by_step-requires
alike_by_step-requires c =
    let d = c.args.draft.now in
    let d1 = c.denial.new.draft in
    let d2 = c.decided.new.draft in
    let n = c.in_ok-goal in
    let m = c.in_ok-step in
    let x = Extends_trans d d1 d2 (AddsTrees_extends d d1 n.ensures.grows) m.ensures.grows in
    let p = c.requires.sides in
    record {
      pair = pair_later d d2 x c.args.left.whole c.args.right.whole p;
      step = denied_step d d2 x d2 m.step c.args.left.whole c.args.right.whole p.left.held p.right.held (subst (λ (z : Tree). Refutes d2 m.step (z ∷ [])) n.ensures.tree m.ensures.refutes);
    }

pub returns-in_err-step-clause-grows : goal.returns-in_err-step-clause-grows
returns-in_err-step-clause-grows c = Extends_trans _ _ _ (AddsTrees_extends _ _ c.in_ok-goal.ensures.grows) c.in_err-step.ensures.grows

pub returns : goal.returns
returns c =
    let d = c.args.draft.now in
    let d1 = c.denial.new.draft in
    let d2 = c.decided.new.draft in
    let d3 = c.alike_by_step.new.draft in
    let x = Extends_trans d d1 d2 (AddsTrees_extends d d1 c.in_ok-goal.ensures.grows) c.in_ok-step.ensures.grows in
    let p = c.requires.sides in
    record {
      shows = IfOk-weaker c.alike_by_step.result _ _ (λ w h. shows_before d d2 x d3 w c.args.left.whole c.args.right.whole p.left.held p.right.held h) c.alike_by_step.ensures.shows;
      grows = Extends_trans d d2 d3 x c.alike_by_step.ensures.grows;
    }
