use Rattle.tr_inline.proofs.full_bodies.members.+push_members.Given as goal

abbrev pub decreases-push_members : goal.decreases-push_members
decreases-push_members l = l.list.0
