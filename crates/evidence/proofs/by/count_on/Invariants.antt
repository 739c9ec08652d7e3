use Rattle.std.proofs.Common.{◌≡◌, ◌++◌}
use Rattle.evidence.specs.Rules.{counted}
use Rattle.evidence.proofs.by.count_on.Given as goal

abbrev pub invariant-loop-i : goal.invariant-loop-i
invariant-loop-i l = l.places.items ≡ l.initial.places.items ++ counted l.from l.i
