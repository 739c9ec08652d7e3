use Rattle.std.proofs.Common.{subst, ◌∙◌}
use Rattle.trees.specs.Node.{tree_at}
use Rattle.evidence.specs.Laws.{Extends_trans}
use Rattle.evidence.proofs.Formulas.{formula_later}
use Rattle.congruence.specs.declared.alike.AlikeBy.{AlikeBy}
use Rattle.congruence.specs.Alike.{Shows}
use Rattle.congruence.proofs.Later.{halves_made}
use Rattle.congruence.proofs.CaseParts.{closed_formula, part_formula, step_later}
use Rattle.congruence.proofs.alike.chain_formulas.Goals as goal

pub chain_half-requires : goal.chain_half-requires
chain_half-requires c =
    let d = c.args.draft.now in
    let k = c.args in
    let r = c.requires in
    record {
      l = closed_formula d k.l r.left.left r.formula;
      m = part_formula d k.l k.m r.left r.formula;
      r = part_formula d k.m k.r r.right (r.left.sort ∙ r.formula);
      first = (subst (λ (z : AlikeBy). Shows d z (tree_at d.trees k.l) (tree_at d.trees k.m)) c.in-Formulas.is r.first).1.there;
      second = (subst (λ (z : AlikeBy). Shows d z (tree_at d.trees k.m) (tree_at d.trees k.r)) c.in-Formulas-second.is r.second).1.there;
    }

pub chain_half-requires-in-Formulas-second : goal.chain_half-requires-in-Formulas-second
chain_half-requires-in-Formulas-second c =
    let d = c.args.draft.now in
    let d1 = c.chain_half.new.draft in
    let x = c.in_ok-one-in-Formulas-second.ensures.grows in
    let k = c.args in
    let r = c.requires in
    let l = r.left.left.held in
    let m = r.left.right.held in
    record {
      l = formula_later d d1 x k.r (part_formula d k.m k.r r.right (r.left.sort ∙ r.formula));
      m = formula_later d d1 x k.m (part_formula d k.l k.m r.left r.formula);
      r = formula_later d d1 x k.l (closed_formula d k.l r.left.left r.formula);
      first = step_later d d1 x c.in-Formulas-second.home k.r k.m r.right.right.held m (subst (λ (z : AlikeBy). Shows d z (tree_at d.trees k.m) (tree_at d.trees k.r)) c.in-Formulas-second.is r.second).1.back;
      second = step_later d d1 x c.in-Formulas.back k.m k.l m l (subst (λ (z : AlikeBy). Shows d z (tree_at d.trees k.l) (tree_at d.trees k.m)) c.in-Formulas.is r.first).1.back;
    }

pub returns-in_err-other-in-Formulas-second-clause-grows : goal.returns-in_err-other-in-Formulas-second-clause-grows
returns-in_err-other-in-Formulas-second-clause-grows c = Extends_trans _ _ _ c.in_ok-one-in-Formulas-second.ensures.grows c.in_err-other-in-Formulas-second.ensures.grows

pub returns-in_ok-other-in-Formulas-second : goal.returns-in_ok-other-in-Formulas-second
returns-in_ok-other-in-Formulas-second c =
    let d = c.args.draft.now in
    let d1 = c.chain_half.new.draft in
    let d2 = c.chain_half-in-Formulas-second.new.draft in
    let n = c.in_ok-one-in-Formulas-second in
    let m = c.in_ok-other-in-Formulas-second in
    let r = c.requires in
    record {
      shows = (r.formula, halves_made d d1 d2 n.ensures.grows m.ensures.grows c.args.l c.args.r n.one m.other r.left.left.held r.right.right.held n.ensures.refutes m.ensures.refutes);
      grows = Extends_trans d d1 d2 n.ensures.grows m.ensures.grows;
    }
