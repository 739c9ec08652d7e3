use Rattle.std.proofs.Common.{ap, sym, ◌∙◌}
use Rattle.tasks.specs.Task.{neg}
use Rattle.evidence.specs.Laws.{Extends_trans}
use Rattle.evidence.proofs.Formulas.{formula_later}
use Rattle.congruence.proofs.Later.{tree_later}
use Rattle.congruence.proofs.CaseParts.{closed_formula, part_formula, halves_here}
use Rattle.congruence.proofs.joins.alike_not.Goals as goal

pub make_halves-requires : goal.make_halves-requires
make_halves-requires c = record { pair = c.requires.pair; formula = c.requires.formula; shows = c.requires.shows }

pub not_halves-requires : goal.not_halves-requires
not_halves-requires c =
    let d = c.args.draft.now in
    let d1 = c.make_halves.new.draft in
    let n = c.in_ok-parts in
    let x = n.ensures.grows in
    let r = c.requires in
    let a = c.args.a in
    let b = c.args.b in
    let ea = tree_later d d1 x a r.pair.left.held in
    let eb = tree_later d d1 x b r.pair.right.held in
    record {
      a = formula_later d d1 x a (closed_formula d a r.pair.left r.formula);
      b = formula_later d d1 x b (part_formula d a b r.pair r.formula);
      left = formula_later d d1 x c.args.left r.left;
      right = formula_later d d1 x c.args.right r.right;
      left_is = tree_later d d1 x c.args.left r.left.held ∙ r.left_is ∙ ap neg (sym ea);
      right_is = tree_later d d1 x c.args.right r.right.held ∙ r.right_is ∙ ap neg (sym eb);
      halves = halves_here d1 _ _ _ _ n.parts.there n.parts.back ea eb n.ensures.halves;
    }

pub returns-in_err-made-clause-grows : goal.returns-in_err-made-clause-grows
returns-in_err-made-clause-grows c = Extends_trans _ _ _ c.in_ok-parts.ensures.grows c.in_err-made.ensures.grows

pub returns : goal.returns
returns c =
    let d = c.args.draft.now in
    let d1 = c.make_halves.new.draft in
    let d2 = c.not_halves.new.draft in
    let x = c.in_ok-parts.ensures.grows in
    let m = c.in_ok-made in
    record {
      shows = (c.requires.left.ground.sort, halves_here d2 _ _ _ _ m.made.there m.made.back (sym (tree_later d d1 x c.args.left c.requires.left.held)) (sym (tree_later d d1 x c.args.right c.requires.right.held)) m.ensures.halves);
      grows = Extends_trans d d1 d2 x m.ensures.grows;
    }
