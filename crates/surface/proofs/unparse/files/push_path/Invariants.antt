use Rattle.surface.proofs.unparse.Common.{drop, [], terminals, write_path, path_from}
use Rattle.surface.proofs.unparse.files.push_path.Given as goal
use Rattle.surface.specs.unparse.Putting.{Leaves}

abbrev pub invariant-loop-part : goal.invariant-loop-part
invariant-loop-part l = Leaves l.fn.out l.out (terminals (path_from [] (drop l._part-index l.rest))) (terminals (write_path l.fn.parts))
