use Rattle.std.proofs.Common.{arith}
use Rattle.agreement.proofs.LinkedParts.{itself, joins}
use Rattle.agreement.proofs.answers.answer_join.Goals as goal

pub bounds-links-0 : goal.bounds-links-0
bounds-links-0 c = omega (arith, (joins c.args.draft.now c.args.q c.args.links.now c.requires.linked c.args.op c.requires.left).0)

pub bounds-links-1 : goal.bounds-links-1
bounds-links-1 c = (joins c.args.draft.now c.args.q c.args.links.now c.requires.linked c.args.op c.requires.left).0

pub alike_join-requires-clause-left : goal.alike_join-requires-clause-left
alike_join-requires-clause-left c = ((joins c.args.draft.now c.args.q c.args.links.now c.requires.linked c.args.op c.requires.left).1 (itself c.args.q) (itself c.args.q)).left

pub alike_join-requires-clause-right : goal.alike_join-requires-clause-right
alike_join-requires-clause-right c = ((joins c.args.draft.now c.args.q c.args.links.now c.requires.linked c.args.op c.requires.left).1 (itself c.args.q) (itself c.args.q)).right

pub alike_join-requires-clause-first_pair : goal.alike_join-requires-clause-first_pair
alike_join-requires-clause-first_pair c = ((joins c.args.draft.now c.args.q c.args.links.now c.requires.linked c.args.op c.requires.left).1 _ (itself c.args.q)).first.pair

pub alike_join-requires-clause-second_pair : goal.alike_join-requires-clause-second_pair
alike_join-requires-clause-second_pair c = ((joins c.args.draft.now c.args.q c.args.links.now c.requires.linked c.args.op c.requires.left).1 (itself c.args.q) _).second.pair

pub alike_join-requires-clause-first_formula : goal.alike_join-requires-clause-first_formula
alike_join-requires-clause-first_formula c = ((joins c.args.draft.now c.args.q c.args.links.now c.requires.linked c.args.op c.requires.left).1 _ (itself c.args.q)).first_formula

pub alike_join-requires-clause-second_formula : goal.alike_join-requires-clause-second_formula
alike_join-requires-clause-second_formula c = ((joins c.args.draft.now c.args.q c.args.links.now c.requires.linked c.args.op c.requires.left).1 (itself c.args.q) _).second_formula

pub alike_join-requires-clause-left_is : goal.alike_join-requires-clause-left_is
alike_join-requires-clause-left_is c = ((joins c.args.draft.now c.args.q c.args.links.now c.requires.linked c.args.op c.requires.left).1 _ _).left_is

pub alike_join-requires-clause-right_is : goal.alike_join-requires-clause-right_is
alike_join-requires-clause-right_is c = ((joins c.args.draft.now c.args.q c.args.links.now c.requires.linked c.args.op c.requires.left).1 _ _).right_is

pub alike_join-requires-clause-first : goal.alike_join-requires-clause-first
alike_join-requires-clause-first c = ((joins c.args.draft.now c.args.q c.args.links.now c.requires.linked c.args.op c.requires.left).1 _ (itself c.args.q)).first.shows

pub alike_join-requires-clause-second : goal.alike_join-requires-clause-second
alike_join-requires-clause-second c = ((joins c.args.draft.now c.args.q c.args.links.now c.requires.linked c.args.op c.requires.left).1 (itself c.args.q) _).second.shows
