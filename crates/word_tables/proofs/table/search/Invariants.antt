use Rattle.std.proofs.Common.{◌-◌}
use Rattle.word_tables.specs.Words.{texts}
use Rattle.word_tables.proofs.SearchLemmas.{Between}
use Rattle.word_tables.proofs.table.search.Given as goal

abbrev pub invariant-loop-low : goal.invariant-loop-low
invariant-loop-low l = Between l.word (texts l.words) l.low l.high

abbrev pub decreases-loop-low : goal.decreases-loop-low
decreases-loop-low l = l.high - l.low
