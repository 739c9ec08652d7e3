use Rattle.std.proofs.Common.{◌≤◌, ◌-◌, length}
use Rattle.tokens_why.proofs.TurnLemmas.{Turn}
use Rattle.tokens_why.proofs.lexer.lex.Given as goal

abbrev pub invariant-tokens : goal.invariant-tokens
invariant-tokens l = record { high : l.at ≤ length l.text; turn : Turn l.text l.at l.found.items }

abbrev pub decreases-tokens : goal.decreases-tokens
decreases-tokens l = length l.text - l.at
