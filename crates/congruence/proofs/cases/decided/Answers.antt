use Rattle.std.proofs.Common.{◌∙◌}
use Rattle.std.proofs.lemmas.Result.{IfOk-weaker}
use Rattle.evidence.specs.Laws.{Extends_trans}
use Rattle.evidence.proofs.Formulas.{formula_later}
use Rattle.evidence.proofs.Rules.{refutes_later}
use Rattle.congruence.proofs.Later.{held_later, tree_later, pair_later, shows_at}
use Rattle.congruence.proofs.CaseParts.{formula_pair, halves_here, parts_later, goal_after, refuted_after, values_later, linked_later, denied}
use Rattle.congruence.proofs.PlainScripts.{one_same}
use Rattle.congruence.proofs.cases.decided.Goals as goal

pub under_conditions-requires : goal.under_conditions-requires
under_conditions-requires c =
    let r = c.requires in
    record { left = r.left; right = r.right; sides = r.sides; left_values = r.left_values; right_values = r.right_values; goal = r.goal; goal_is = r.goal_is; links = r.links }

pub under_negations-requires : goal.under_negations-requires
under_negations-requires c =
    let d = c.args.draft.now in
    let d1 = c.under_conditions.new.draft in
    let x = c.in_ok-yes.ensures.grows in
    let a = c.args.left in
    let b = c.args.right in
    let r = c.requires in
    record {
      left = parts_later d d1 x a r.left;
      right = parts_later d d1 x b r.right;
      sides = pair_later d d1 x a.whole b.whole r.sides;
      left_values = values_later d d1 x a c.args.left_values r.left r.left_values;
      right_values = values_later d d1 x b c.args.right_values r.right r.right_values;
      goal = formula_later d d1 x c.args.goal r.goal;
      goal_is = denied d d1 x c.args.goal a.whole b.whole r.sides.left.held r.sides.right.held (tree_later d d1 x c.args.goal r.goal.held ∙ r.goal_is);
      links = linked_later d d1 x a b c.args.links r.left r.right r.links;
    }

pub make_halves-requires : goal.make_halves-requires
make_halves-requires c =
    let d = c.args.draft.now in
    let d2 = c.under_negations.new.draft in
    let x = Extends_trans d c.under_conditions.new.draft d2 c.in_ok-yes.ensures.grows c.in_ok-no.ensures.grows in
    let a = c.args.left.condition in
    let b = c.args.right.condition in
    let fa = formula_later d d2 x a c.requires.left.condition in
    let fb = formula_later d d2 x b c.requires.right.condition in
    record { pair = formula_pair d2 a b fa fb; formula = fa.ground.sort; shows = shows_at d d2 x c.args.links.condition a b c.requires.left.condition.held c.requires.right.condition.held c.requires.links.condition }

pub by_conditions-requires : goal.by_conditions-requires
by_conditions-requires c =
    let d = c.args.draft.now in
    let d1 = c.under_conditions.new.draft in
    let d2 = c.under_negations.new.draft in
    let d3 = c.make_halves.new.draft in
    let x1 = c.in_ok-yes.ensures.grows in
    let z = c.in_ok-halves.ensures.grows in
    let y = Extends_trans d1 d2 d3 c.in_ok-no.ensures.grows z in
    let x2 = Extends_trans d d1 d2 x1 c.in_ok-no.ensures.grows in
    let x = Extends_trans d d1 d3 x1 y in
    let r = c.requires in
    let g = c.args.goal in
    let a = c.args.left.condition in
    let b = c.args.right.condition in
    let ha = r.left.condition.held in
    let hb = r.right.condition.held in
    let n = c.in_ok-halves in
    record {
      goal = formula_later d d3 x g r.goal;
      left = formula_later d d3 x a r.left.condition;
      right = formula_later d d3 x b r.right.condition;
      conditions = halves_here d3 _ _ _ _ n.halves.there n.halves.back (tree_later d2 d3 z a (held_later d d2 x2 a ha)) (tree_later d2 d3 z b (held_later d d2 x2 b hb)) n.ensures.halves;
      yes = goal_after d d3 x d3 c.in_ok-yes.yes g a b r.goal.held ha hb (refutes_later d1 d3 y c.in_ok-yes.yes _ c.in_ok-yes.ensures.refutes);
      no = refuted_after d1 d3 y d3 c.in_ok-no.no g a b (held_later d d1 x1 g r.goal.held) (held_later d d1 x1 a ha) (held_later d d1 x1 b hb) (refutes_later d2 d3 z c.in_ok-no.no _ c.in_ok-no.ensures.refutes);
    }

pub returns-in_err-no-clause-grows : goal.returns-in_err-no-clause-grows
returns-in_err-no-clause-grows c = Extends_trans _ _ _ c.in_ok-yes.ensures.grows c.in_err-no.ensures.grows

pub returns-in_err-halves-clause-grows : goal.returns-in_err-halves-clause-grows
returns-in_err-halves-clause-grows c = Extends_trans _ _ _ (Extends_trans _ _ _ c.in_ok-yes.ensures.grows c.in_ok-no.ensures.grows) c.in_err-halves.ensures.grows

pub returns : goal.returns
returns c =
    let d = c.args.draft.now in
    let d1 = c.under_conditions.new.draft in
    let d2 = c.under_negations.new.draft in
    let d3 = c.make_halves.new.draft in
    let x = Extends_trans d d2 d3 (Extends_trans d d1 d2 c.in_ok-yes.ensures.grows c.in_ok-no.ensures.grows) c.in_ok-halves.ensures.grows in
    record {
      refutes = IfOk-weaker c.by_conditions.result _ _ (λ k h. one_same c.by_conditions.new.draft k _ _ (tree_later d d3 x c.args.goal c.requires.goal.held) h) c.by_conditions.ensures.refutes;
      grows = Extends_trans d d3 c.by_conditions.new.draft x c.by_conditions.ensures.grows;
    }
