use Rattle.grammar.proofs.recognise.Common.{◌≡◌, ◌++◌, drop, terminals_of}
use Rattle.grammar.proofs.recognise.spans.terminals.Given as goal

abbrev pub invariant-loop-token : goal.invariant-loop-token
invariant-loop-token l = l.found.items ++ terminals_of (drop l.token-index l.tokens) ≡ terminals_of l.tokens
