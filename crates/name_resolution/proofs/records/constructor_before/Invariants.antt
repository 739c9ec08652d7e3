use Rattle.std.proofs.Common.{◌≡◌, List}
use Rattle.tasks.specs.trees.Tree.{Tree}
use Rattle.tasks.specs.Meaning.{symbols_at}
use Rattle.name_resolution.specs.Records.{constructor_before}
use Rattle.name_resolution.proofs.records.constructor_before.Given as goal

abbrev pub invariant-loop-at : goal.invariant-loop-at
invariant-loop-at l = (s : List Tree) → constructor_before (symbols_at s l.symbols) l.at ≡ constructor_before (symbols_at s l.symbols) l.number

abbrev pub decreases-loop-at : goal.decreases-loop-at
decreases-loop-at l = l.at
