use Rattle.images.proofs.match_terms.applied.+push_members.Given as goal

abbrev pub decreases-push_members : goal.decreases-push_members
decreases-push_members l = l.list.0
