use Rattle.std.proofs.Common.{arith}
use Rattle.agreement.proofs.LinkedParts.{itself, ifs}
use Rattle.agreement.proofs.answers.answer_if.Goals as goal

pub bounds-links-0 : goal.bounds-links-0
bounds-links-0 c = omega (arith, (ifs c.args.draft.now c.args.q c.args.links.now c.requires.linked c.requires.left).0)

pub bounds-links-1 : goal.bounds-links-1
bounds-links-1 c = omega (arith, (ifs c.args.draft.now c.args.q c.args.links.now c.requires.linked c.requires.left).0)

pub bounds-links-2 : goal.bounds-links-2
bounds-links-2 c = (ifs c.args.draft.now c.args.q c.args.links.now c.requires.linked c.requires.left).0

pub alike_ifs-requires-clause-left : goal.alike_ifs-requires-clause-left
alike_ifs-requires-clause-left c = ((ifs c.args.draft.now c.args.q c.args.links.now c.requires.linked c.requires.left).1 _ _ _).left

pub alike_ifs-requires-clause-right : goal.alike_ifs-requires-clause-right
alike_ifs-requires-clause-right c = ((ifs c.args.draft.now c.args.q c.args.links.now c.requires.linked c.requires.left).1 _ _ _).right

pub alike_ifs-requires-clause-sides : goal.alike_ifs-requires-clause-sides
alike_ifs-requires-clause-sides c = c.requires.linked.asked.pair

pub alike_ifs-requires-clause-left_is : goal.alike_ifs-requires-clause-left_is
alike_ifs-requires-clause-left_is c = ((ifs c.args.draft.now c.args.q c.args.links.now c.requires.linked c.requires.left).1 _ _ _).left_is

pub alike_ifs-requires-clause-right_is : goal.alike_ifs-requires-clause-right_is
alike_ifs-requires-clause-right_is c = ((ifs c.args.draft.now c.args.q c.args.links.now c.requires.linked c.requires.left).1 _ _ _).right_is

pub alike_ifs-requires-clause-links : goal.alike_ifs-requires-clause-links
alike_ifs-requires-clause-links c = record { condition = ((ifs c.args.draft.now c.args.q c.args.links.now c.requires.linked c.requires.left).1 _ (itself c.args.q) (itself c.args.q)).condition.shows; then_part = ((ifs c.args.draft.now c.args.q c.args.links.now c.requires.linked c.requires.left).1 (itself c.args.q) _ (itself c.args.q)).then_part.shows; else_part = ((ifs c.args.draft.now c.args.q c.args.links.now c.requires.linked c.requires.left).1 (itself c.args.q) (itself c.args.q) _).else_part.shows }
