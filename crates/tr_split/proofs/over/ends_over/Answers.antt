use Rattle.std.proofs.Common.{◌<◌, ◌++◌, ℕ, List, length, get_or, arith}
use Rattle.std.proofs.lemmas.List.{length-map}
use Rattle.tasks.specs.trees.Tree.{Tree, Leaf, HEnd}
use Rattle.tasks.specs.trees.Node.{tree_at}
use Rattle.tasks.specs.Meaning.{trees_at}
use Rattle.evidence.specs.Laws.{Extends_trans}
use Rattle.evidence.proofs.Formulas.{formulas_later}
use Rattle.evidence.proofs.Lifted.{have_more}
use Rattle.tr_split.specs.parts.Split.{split}
use Rattle.tr_split.specs.parts.Glue.{sequent_of_part}
use Rattle.tr_split.specs.Over.{whole_of, inner_of, extra_of, inners}
use Rattle.tr_split.proofs.Overs.{over_later, whole_end, inner_end, all_ends}
use Rattle.tr_split.proofs.over.ends_over.Goals as goal
use Rattle.tasks.proofs.outside.Passed.{no_value}

pub part_end-requires-clause-front : goal.part_end-requires-clause-front
part_end-requires-clause-front c = formulas_later c.args.draft.now c.loop-end.draft c.loop-end.invariant.grows c.args.front.now c.requires.front

pub part_end-requires-clause-over : goal.part_end-requires-clause-over
part_end-requires-clause-over c = over_later c.args.draft.now c.loop-end.draft c.loop-end.invariant.grows c.args.over c.requires.over

pub part_end-requires-clause-end : goal.part_end-requires-clause-end
part_end-requires-clause-end c =
    let d = c.args.draft.now in
    let parts = split (tree_at d.trees c.args.formula) in
    record {
      part = get_or parts c.loop-end.end-index (Leaf HEnd);
      refutes = whole_end d c.loop-end.draft c.loop-end.invariant.grows c.args.front.now c.requires.front c.args.over c.requires.over c.args.ends.now parts c.loop-end.end-index c.requires.ends c.loop-end-test.true;
    }

pub loop-end-preserved : goal.loop-end-preserved
loop-end-preserved c =
    let d = c.args.draft.now in
    let d1 = c.loop-end.draft in
    let d2 = c.part_end.new.draft in
    let i = c.loop-end.end-index in
    let x = c.loop-end.invariant.grows in
    let parts = split (tree_at d.trees c.args.formula) in
    let F = c.args.front.now in
    let k = c.in_ok-step.step in
    let W = whole_of d.trees c.args.over in
    let l : i < length c.args.ends.now = c.loop-end-test.true in
    let m : i < length parts = omega (arith, l, c.requires.ends.as_many, length-map parts W) in
    let here = whole_end d d1 x F c.requires.front c.args.over c.requires.over c.args.ends.now parts i c.requires.ends l in
    let done = inner_end d d1 x d2 F c.requires.front c.args.over c.requires.over k parts i m (c.in_ok-step.ensures.refutes (get_or parts i (Leaf HEnd)) here) in
    let q : ℕ → List Tree = sequent_of_part (trees_at d.trees F ++ extra_of d.trees c.args.over) (inners d.trees c.args.over (tree_at d.trees c.args.formula)) in
    record {
      grows = Extends_trans _ _ _ x c.part_end.ensures.grows;
      made = rw c.in_ok-push.ensures.items (have_more d1 d2 c.loop-end.made.items q i k c.part_end.ensures.grows c.loop-end.invariant.made done);
    }

pub returns-clause-ends : goal.returns-clause-ends
returns-clause-ends c =
    let d = c.args.draft.now in
    all_ends c.loop-end.draft c.loop-end.made.items c.args.ends.now (trees_at d.trees c.args.front.now ++ extra_of d.trees c.args.over) (split (tree_at d.trees c.args.formula)) (whole_of d.trees c.args.over) (inner_of d.trees c.args.over)
    c.loop-end.end-index c.loop-end.invariant.made c.requires.ends.as_many c.loop-end-test.false c.loop-end.auto.end-index-end

pub returns-in_err-step : goal.returns-in_err-step
returns-in_err-step c = record { grows = Extends_trans _ _ _ c.loop-end.invariant.grows c.part_end.ensures.grows; ends = no_value _ _ c.from_residual.result c.from_residual.ensures.1 }

pub returns-in_err-push : goal.returns-in_err-push
returns-in_err-push c = record { grows = Extends_trans _ _ _ c.loop-end.invariant.grows c.part_end.ensures.grows; ends = no_value _ _ c.from_residual-in_err-push.result c.from_residual-in_err-push.ensures.1 }
