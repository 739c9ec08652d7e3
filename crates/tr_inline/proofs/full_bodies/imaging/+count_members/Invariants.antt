use Rattle.tr_inline.proofs.full_bodies.imaging.+count_members.Given as goal

abbrev pub decreases-count_members : goal.decreases-count_members
decreases-count_members l = l.list.0
