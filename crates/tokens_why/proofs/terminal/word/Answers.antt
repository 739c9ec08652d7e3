use Rattle.std.proofs.Common.{sym}
use Rattle.tokens_why.specs.Reserved.{reserved_terminals}
use Rattle.tokens_why.proofs.Lists.{get_or-default, get_or-past}
use Rattle.tokens_why.proofs.terminal.word.Goals as goal

pub returns-then-place-lt63 : goal.returns-then-place-lt63
returns-then-place-lt63 c = get_or-default reserved_terminals c.args.place _ _ c.if-place-lt63.true

pub returns-else-place-lt63 : goal.returns-else-place-lt63
returns-else-place-lt63 c = sym (get_or-past reserved_terminals c.args.place _ c.if-place-lt63.false)
