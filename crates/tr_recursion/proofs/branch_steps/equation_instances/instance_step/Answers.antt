use Rattle.evidence.specs.Laws.{Extends_trans}
use Rattle.congruence.proofs.Later.{pair_later}
use Rattle.tr_recursion.proofs.branch_steps.Sides.{sides_pair, left_used, right_chosen, formula_refuted, shows_now}
use Rattle.tr_recursion.proofs.branch_steps.equation_instances.instance_step.Goals as goal

pub sides_of-sides-requires-clause-sides : goal.sides_of-sides-requires-clause-sides
sides_of-sides-requires-clause-sides c = c.requires.instance.sides

pub alike_by_match-requires-clause-pair : goal.alike_by_match-requires-clause-pair
alike_by_match-requires-clause-pair c = sides_pair c.args.draft.now c.args.formula c.requires.formula c.args.def.symbol c.requires.instance c.sides_of-sides.result c.sides_of-sides.ensures

pub alike_by_match-requires-clause-used : goal.alike_by_match-requires-clause-used
alike_by_match-requires-clause-used c = left_used c.args.draft.now c.args.formula c.requires.formula c.args.def.symbol c.requires.instance c.sides_of-sides.result c.sides_of-sides.ensures

pub alike_by_match-requires-clause-chosen : goal.alike_by_match-requires-clause-chosen
alike_by_match-requires-clause-chosen c = right_chosen c.args.draft.now c.args.formula c.requires.formula c.args.def.symbol c.requires.instance c.sides_of-sides.result c.sides_of-sides.ensures

pub step_of_alike-requires-clause-pair : goal.step_of_alike-requires-clause-pair
step_of_alike-requires-clause-pair c =
    let x = c.sides_of-sides.result in
    pair_later c.args.draft.now c.alike_by_match.new.draft c.in_ok-by.ensures.grows x.left x.right
    (sides_pair c.args.draft.now c.args.formula c.requires.formula c.args.def.symbol c.requires.instance x c.sides_of-sides.ensures)

pub step_of_alike-requires-clause-shows : goal.step_of_alike-requires-clause-shows
step_of_alike-requires-clause-shows c =
    let d = c.args.draft.now in
    let d1 = c.alike_by_match.new.draft in
    let x = c.sides_of-sides.result in
    shows_now d d1 c.in_ok-by.ensures.grows c.in_ok-by.by x.left x.right c.sides_of-sides.ensures.left_held c.sides_of-sides.ensures.right_held c.in_ok-by.ensures.shows

pub returns-clause-refutes : goal.returns-clause-refutes
returns-clause-refutes c =
    formula_refuted c.args.draft.now c.args.formula c.requires.formula c.args.def.symbol c.requires.instance c.sides_of-sides.result c.sides_of-sides.ensures c.alike_by_match.new.draft c.step_of_alike.new.draft c.in_ok-step.step c.in_ok-by.ensures.grows c.in_ok-step.ensures.refutes

pub returns-in_err-step-clause-grows : goal.returns-in_err-step-clause-grows
returns-in_err-step-clause-grows c = Extends_trans _ _ _ c.in_ok-by.ensures.grows c.step_of_alike.ensures.grows

pub returns-clause-grows : goal.returns-clause-grows
returns-clause-grows c = Extends_trans _ _ _ c.in_ok-by.ensures.grows c.in_ok-step.ensures.grows
