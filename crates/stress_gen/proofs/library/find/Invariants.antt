use Rattle.std.proofs.Common.{◌≡◌, drop}
use Rattle.stress_gen.specs.Files.{files_of, file_among}
use Rattle.stress_gen.proofs.library.find.Given as goal

abbrev pub invariant-loop-its : goal.invariant-loop-its
invariant-loop-its l = file_among (files_of (drop l.its-index l.files)) l.name ≡ file_among (files_of l.files) l.name
