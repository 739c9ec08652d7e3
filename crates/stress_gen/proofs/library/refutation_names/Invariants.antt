use Rattle.std.proofs.Common.{◌≡◌, map, string_bytes}
use Rattle.stress_gen.specs.Files.{refutation_names}
use Rattle.stress_gen.proofs.library.refutation_names.Given as goal

abbrev pub invariant-loop-k : goal.invariant-loop-k
invariant-loop-k l = map string_bytes l.names.items ≡ refutation_names l.k
