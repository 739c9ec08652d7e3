use Rattle.std.proofs.Common.{◌≡◌, ◌++◌, drop}
use Rattle.std.specs.List.{flat_map}
use Rattle.printed_problems.specs.printed_terms.Problems.{line}
use Rattle.printed_problems.proofs.printed_terms.preludes.push_preludes.Given as goal

abbrev pub invariant-loop-prelude : goal.invariant-loop-prelude
invariant-loop-prelude l = l.out.items ++ flat_map line (drop l.prelude-index l.preludes) ≡ l.initial.out.items ++ flat_map line l.preludes
