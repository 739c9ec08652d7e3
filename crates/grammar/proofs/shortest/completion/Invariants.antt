use Rattle.grammar.proofs.Common.{◌≡◌, ◌++◌, length, reverse, complete}
use Rattle.grammar.proofs.shortest.completion.Given as goal

abbrev pub invariant-loop-symbol : goal.invariant-loop-symbol
invariant-loop-symbol l = complete (reverse l.fn.stack.items) ≡ l.out.items ++ complete (reverse l.stack.items)

abbrev pub decreases-loop-symbol : goal.decreases-loop-symbol
decreases-loop-symbol l = length l.stack.items
