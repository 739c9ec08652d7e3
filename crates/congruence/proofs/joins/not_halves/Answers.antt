use Rattle.std.proofs.Common.{ap, sym, ◌∙◌}
use Rattle.tasks.specs.Task.{neg}
use Rattle.evidence.specs.Laws.{Extends_trans}
use Rattle.evidence.proofs.Formulas.{formula_later}
use Rattle.congruence.proofs.Later.{tree_later, halves_made}
use Rattle.congruence.proofs.CaseParts.{step_later}
use Rattle.congruence.proofs.joins.not_halves.Goals as goal

pub half_not-requires : goal.half_not-requires
half_not-requires c = let r = c.requires in record { a = r.a; b = r.b; no_a = r.left; no_b = r.right; no_a_is = r.left_is; no_b_is = r.right_is; back = r.halves.back }

pub half_not-requires-2 : goal.half_not-requires-2
half_not-requires-2 c =
    let d = c.args.draft.now in
    let d1 = c.half_not.new.draft in
    let x = c.in_ok-there.ensures.grows in
    let r = c.requires in
    let a = c.args.a in
    let b = c.args.b in
    record {
      a = formula_later d d1 x b r.b;
      b = formula_later d d1 x a r.a;
      no_a = formula_later d d1 x c.args.right r.right;
      no_b = formula_later d d1 x c.args.left r.left;
      no_a_is = tree_later d d1 x c.args.right r.right.held ∙ r.right_is ∙ ap neg (sym (tree_later d d1 x b r.b.held));
      no_b_is = tree_later d d1 x c.args.left r.left.held ∙ r.left_is ∙ ap neg (sym (tree_later d d1 x a r.a.held));
      back = step_later d d1 x c.args.parts.there a b r.a.held r.b.held r.halves.there;
    }

pub returns-in_err-back-clause-grows : goal.returns-in_err-back-clause-grows
returns-in_err-back-clause-grows c = Extends_trans _ _ _ c.in_ok-there.ensures.grows c.in_err-back.ensures.grows

pub returns : goal.returns
returns c =
    let d = c.args.draft.now in
    let d1 = c.half_not.new.draft in
    let d2 = c.half_not-2.new.draft in
    let x = c.in_ok-there.ensures.grows in
    let y = c.in_ok-back.ensures.grows in
    record {
      halves = halves_made d d1 d2 x y c.args.left c.args.right c.in_ok-there.there c.in_ok-back.back c.requires.left.held c.requires.right.held c.in_ok-there.ensures.refutes c.in_ok-back.ensures.refutes;
      grows = Extends_trans d d1 d2 x y;
    }
