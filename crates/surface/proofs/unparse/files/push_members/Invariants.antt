use Rattle.surface.proofs.unparse.Common.{drop, map, terminals, other_members, member_of}
use Rattle.surface.proofs.unparse.files.push_members.Given as goal
use Rattle.surface.specs.unparse.Putting.{Leaves}

abbrev pub invariant-loop-member : goal.invariant-loop-member
invariant-loop-member l = Leaves l.fn.out l.out (terminals (other_members (map member_of (drop l.member-index l.of)))) (terminals (other_members (map member_of l.of)))
