use Rattle.agreement.proofs.branches.alike_firsts.Goals as goal

pub alike_matches-requires-clause-left : goal.alike_matches-requires-clause-left
alike_matches-requires-clause-left c = c.requires.more.left_parts

pub alike_matches-requires-clause-right : goal.alike_matches-requires-clause-right
alike_matches-requires-clause-right c = c.requires.more.right_parts

pub alike_matches-requires-clause-sides : goal.alike_matches-requires-clause-sides
alike_matches-requires-clause-sides c = c.requires.more.pair

pub alike_matches-requires-clause-left_is : goal.alike_matches-requires-clause-left_is
alike_matches-requires-clause-left_is c = c.requires.more.left_is

pub alike_matches-requires-clause-right_is : goal.alike_matches-requires-clause-right_is
alike_matches-requires-clause-right_is c = c.requires.more.right_is

pub alike_matches-requires-clause-links : goal.alike_matches-requires-clause-links
alike_matches-requires-clause-links c = c.requires.more.linked
