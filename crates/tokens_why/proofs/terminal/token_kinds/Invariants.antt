use Rattle.std.proofs.Common.{◌≡◌, ◌++◌, drop, map}
use Rattle.tokens_why.specs.Terminals.{kind_by}
use Rattle.tokens_why.proofs.terminal.token_kinds.Given as goal

abbrev pub invariant-loop-terminal : goal.invariant-loop-terminal
invariant-loop-terminal l = l.kinds.items ++ map kind_by (drop l.terminal-index l.terminals) ≡ map kind_by l.terminals
