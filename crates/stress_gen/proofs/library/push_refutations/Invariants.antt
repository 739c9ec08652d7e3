use Rattle.std.proofs.Common.{◌≡◌, ◌++◌}
use Rattle.stress_gen.specs.Files.{files_of, refutation_files, refutation_lines}
use Rattle.stress_gen.proofs.library.push_refutations.Given as goal

abbrev pub invariant-loop-k : goal.invariant-loop-k
invariant-loop-k l = (files_of l.files.items ≡ files_of l.fn.files.items ++ refutation_files l.k) × (l.lines ≡ refutation_lines l.k)
