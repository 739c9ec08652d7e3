use Rattle.std.proofs.Common.{sym}
use Rattle.drivers.specs.driver_tokens.Words.{word_kinds}
use Rattle.tokens_why.proofs.Lists.{get_or-default, get_or-past}
use Rattle.drivers.proofs.driver_tokens.words.kind_at.Goals as goal

pub returns-then-place-lt26 : goal.returns-then-place-lt26
returns-then-place-lt26 c = get_or-default word_kinds c.args.place _ _ c.if-place-lt26.true

pub returns-else-place-lt26 : goal.returns-else-place-lt26
returns-else-place-lt26 c = sym (get_or-past word_kinds c.args.place _ c.if-place-lt26.false)
