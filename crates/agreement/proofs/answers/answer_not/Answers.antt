use Rattle.agreement.proofs.LinkedParts.{itself, nots}
use Rattle.agreement.proofs.answers.answer_not.Goals as goal

pub bounds-links-0 : goal.bounds-links-0
bounds-links-0 c = (nots c.args.draft.now c.args.q c.args.links.now c.requires.linked c.requires.left).0

pub alike_not-requires-clause-pair : goal.alike_not-requires-clause-pair
alike_not-requires-clause-pair c = ((nots c.args.draft.now c.args.q c.args.links.now c.requires.linked c.requires.left).1 _).shown.pair

pub alike_not-requires-clause-formula : goal.alike_not-requires-clause-formula
alike_not-requires-clause-formula c = ((nots c.args.draft.now c.args.q c.args.links.now c.requires.linked c.requires.left).1 _).formula

pub alike_not-requires-clause-left : goal.alike_not-requires-clause-left
alike_not-requires-clause-left c = ((nots c.args.draft.now c.args.q c.args.links.now c.requires.linked c.requires.left).1 (itself c.args.q)).left

pub alike_not-requires-clause-right : goal.alike_not-requires-clause-right
alike_not-requires-clause-right c = ((nots c.args.draft.now c.args.q c.args.links.now c.requires.linked c.requires.left).1 (itself c.args.q)).right

pub alike_not-requires-clause-left_is : goal.alike_not-requires-clause-left_is
alike_not-requires-clause-left_is c = ((nots c.args.draft.now c.args.q c.args.links.now c.requires.linked c.requires.left).1 _).left_is

pub alike_not-requires-clause-right_is : goal.alike_not-requires-clause-right_is
alike_not-requires-clause-right_is c = ((nots c.args.draft.now c.args.q c.args.links.now c.requires.linked c.requires.left).1 _).right_is

pub alike_not-requires-clause-shows : goal.alike_not-requires-clause-shows
alike_not-requires-clause-shows c = ((nots c.args.draft.now c.args.q c.args.links.now c.requires.linked c.requires.left).1 _).shown.shows
