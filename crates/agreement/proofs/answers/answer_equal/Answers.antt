use Rattle.std.proofs.Common.{arith}
use Rattle.agreement.proofs.LinkedParts.{itself, equations}
use Rattle.agreement.proofs.answers.answer_equal.Goals as goal

pub bounds-links-0 : goal.bounds-links-0
bounds-links-0 c = omega (arith, (equations c.args.draft.now c.args.q c.args.links.now c.requires.linked c.requires.left).0)

pub bounds-links-1 : goal.bounds-links-1
bounds-links-1 c = (equations c.args.draft.now c.args.q c.args.links.now c.requires.linked c.requires.left).0

pub alike_equal-requires-clause-left : goal.alike_equal-requires-clause-left
alike_equal-requires-clause-left c = ((equations c.args.draft.now c.args.q c.args.links.now c.requires.linked c.requires.left).1 (itself c.args.q) (itself c.args.q)).left

pub alike_equal-requires-clause-right : goal.alike_equal-requires-clause-right
alike_equal-requires-clause-right c = ((equations c.args.draft.now c.args.q c.args.links.now c.requires.linked c.requires.left).1 (itself c.args.q) (itself c.args.q)).right

pub alike_equal-requires-clause-first_pair : goal.alike_equal-requires-clause-first_pair
alike_equal-requires-clause-first_pair c = ((equations c.args.draft.now c.args.q c.args.links.now c.requires.linked c.requires.left).1 _ (itself c.args.q)).first.pair

pub alike_equal-requires-clause-second_pair : goal.alike_equal-requires-clause-second_pair
alike_equal-requires-clause-second_pair c = ((equations c.args.draft.now c.args.q c.args.links.now c.requires.linked c.requires.left).1 (itself c.args.q) _).second.pair

pub alike_equal-requires-clause-first_term : goal.alike_equal-requires-clause-first_term
alike_equal-requires-clause-first_term c = ((equations c.args.draft.now c.args.q c.args.links.now c.requires.linked c.requires.left).1 _ (itself c.args.q)).first_term

pub alike_equal-requires-clause-second_term : goal.alike_equal-requires-clause-second_term
alike_equal-requires-clause-second_term c = ((equations c.args.draft.now c.args.q c.args.links.now c.requires.linked c.requires.left).1 (itself c.args.q) _).second_term

pub alike_equal-requires-clause-left_is : goal.alike_equal-requires-clause-left_is
alike_equal-requires-clause-left_is c = ((equations c.args.draft.now c.args.q c.args.links.now c.requires.linked c.requires.left).1 _ _).left_is

pub alike_equal-requires-clause-right_is : goal.alike_equal-requires-clause-right_is
alike_equal-requires-clause-right_is c = ((equations c.args.draft.now c.args.q c.args.links.now c.requires.linked c.requires.left).1 _ _).right_is

pub alike_equal-requires-clause-first : goal.alike_equal-requires-clause-first
alike_equal-requires-clause-first c = ((equations c.args.draft.now c.args.q c.args.links.now c.requires.linked c.requires.left).1 _ (itself c.args.q)).first.shows

pub alike_equal-requires-clause-second : goal.alike_equal-requires-clause-second
alike_equal-requires-clause-second c = ((equations c.args.draft.now c.args.q c.args.links.now c.requires.linked c.requires.left).1 (itself c.args.q) _).second.shows
