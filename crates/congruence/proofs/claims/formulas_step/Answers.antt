use Rattle.std.proofs.Common.{◌≡◌}
use Rattle.std.proofs.lemmas.Result.{IfOk-weaker}
use Rattle.trees.specs.declared.Op.TheVariants.{Iff}
use Rattle.trees.specs.Tree.{Two, HJoin}
use Rattle.trees.specs.Node.{tree_at}
use Rattle.tasks.specs.Task.{neg}
use Rattle.evidence.specs.Laws.{Extends_trans}
use Rattle.evidence.proofs.Formulas.{formula_later}
use Rattle.congruence.proofs.Later.{tree_later}
use Rattle.congruence.proofs.CaseParts.{closed_formula, part_formula, halves_here}
use Rattle.congruence.proofs.PlainScripts.{one_same}
use Rattle.congruence.proofs.claims.formulas_step.Goals as goal

pub make_halves-requires : goal.make_halves-requires
make_halves-requires c = record { pair = c.requires.pair; formula = c.requires.formula; shows = c.requires.shows }

pub iff_step-requires : goal.iff_step-requires
iff_step-requires c =
    let d = c.args.draft.now in
    let d1 = c.make_halves.new.draft in
    let n = c.in_ok-halves in
    let x = n.ensures.grows in
    let r = c.requires in
    let k = c.args in
    record {
      l = formula_later d d1 x k.l (closed_formula d k.l r.pair.left r.formula);
      r = formula_later d d1 x k.r (part_formula d k.l k.r r.pair r.formula);
      halves = halves_here d1 _ _ _ _ n.halves.there n.halves.back (tree_later d d1 x k.l r.pair.left.held) (tree_later d d1 x k.r r.pair.right.held) n.ensures.halves;
    }

pub returns : goal.returns
returns c =
    let d = c.args.draft.now in
    let d1 = c.make_halves.new.draft in
    let d2 = c.iff_step.new.draft in
    let x = c.in_ok-halves.ensures.grows in
    let p = c.requires.pair in
    let same : neg (Two (HJoin Iff) (tree_at d1.trees c.args.l) (tree_at d1.trees c.args.r)) ≡ neg (Two (HJoin Iff) (tree_at d.trees c.args.l) (tree_at d.trees c.args.r)) = cc (tree_later d d1 x c.args.l p.left.held, tree_later d d1 x c.args.r p.right.held) in
    record {
      refutes = IfOk-weaker c.iff_step.result _ _ (λ k h. one_same d2 k _ _ same h) c.iff_step.ensures.refutes;
      grows = Extends_trans d d1 d2 x c.iff_step.ensures.grows;
    }
