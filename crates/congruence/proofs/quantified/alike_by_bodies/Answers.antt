use Rattle.std.proofs.Common.{sym}
use Rattle.evidence.specs.Laws.{Extends_trans}
use Rattle.congruence.proofs.Later.{tree_later}
use Rattle.congruence.proofs.CaseParts.{formula_pair, halves_here}
use Rattle.congruence.proofs.FormulasLater.{quantifier_later, quantified_later}
use Rattle.congruence.proofs.quantified.alike_by_bodies.Goals as goal

pub make_halves-requires : goal.make_halves-requires
make_halves-requires c =
    let a = c.requires.left.at_parameter in
    record { pair = formula_pair c.args.draft.now c.args.left.at_parameter c.args.right.at_parameter a c.requires.right.at_parameter; formula = a.ground.sort; shows = c.requires.shows }

pub quantified_halves-requires : goal.quantified_halves-requires
quantified_halves-requires c =
    let d = c.args.draft.now in
    let d1 = c.make_halves.new.draft in
    let n = c.in_ok-parts in
    let x = n.ensures.grows in
    let r = c.requires in
    let k = c.args in
    let q = k.quantifier in
    record {
      quantifier = quantifier_later d d1 x q r.quantifier;
      left = quantified_later d d1 x q k.left r.quantifier r.left;
      right = quantified_later d d1 x q k.right r.quantifier r.right;
      parts = halves_here d1 _ _ _ _ n.parts.there n.parts.back (tree_later d d1 x k.left.at_parameter r.left.at_parameter.held) (tree_later d d1 x k.right.at_parameter r.right.at_parameter.held) n.ensures.halves;
    }

pub returns-in_err-made-clause-grows : goal.returns-in_err-made-clause-grows
returns-in_err-made-clause-grows c = Extends_trans _ _ _ c.in_ok-parts.ensures.grows c.in_err-made.ensures.grows

pub returns : goal.returns
returns c =
    let d = c.args.draft.now in
    let d1 = c.make_halves.new.draft in
    let d2 = c.quantified_halves.new.draft in
    let x = c.in_ok-parts.ensures.grows in
    let m = c.in_ok-made in
    let a = c.args.left.whole in
    let b = c.args.right.whole in
    let fa = c.requires.left.whole in
    record {
      shows = (fa.ground.sort, halves_here d2 _ _ _ _ m.made.there m.made.back (sym (tree_later d d1 x a fa.held)) (sym (tree_later d d1 x b c.requires.right.whole.held)) m.ensures.halves);
      grows = Extends_trans d d1 d2 x m.ensures.grows;
    }
