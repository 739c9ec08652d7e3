use Rattle.grammar.proofs.recognise.Common.{◌≤◌, most_nested}
use Rattle.grammar.proofs.recognise.DepthLemmas.{Nested}
use Rattle.grammar.proofs.recognise.depth.too_deep.Given as goal

abbrev pub invariant-loop-at : goal.invariant-loop-at
invariant-loop-at l = Nested l.tokens l.at l.counters.counts × (l.counters.depth ≤ most_nested)
