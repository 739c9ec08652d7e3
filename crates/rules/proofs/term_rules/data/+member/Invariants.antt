use Rattle.rules.proofs.term_rules.data.+member.Given as goal

abbrev pub decreases-member : goal.decreases-member
decreases-member l = l.list.0
