use Rattle.grammar.proofs.Common.{◌≡◌, [], ◌∷◌, Some, take, reverse, run}
use Rattle.grammar.proofs.ends.stack_after.Given as goal

abbrev pub invariant-loop-x : goal.invariant-loop-x
invariant-loop-x l = run (l.fn.start ∷ []) (take l.x-index l.tokens) ≡ Some (reverse l.stack.items)
