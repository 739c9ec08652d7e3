use Rattle.std.proofs.Common.{sym, arith}
use Rattle.tokens_why.proofs.WholeTexts.{none_whole, some_whole, shorter}
use Rattle.tokens_why.proofs.whole.kind_of_text.Goals as goal

pub returns-in-None : goal.returns-in-None
returns-in-None c = sym (none_whole c.args.text.now c.in-None.ensures)

pub returns-then-token-text : goal.returns-then-token-text
returns-then-token-text c = sym (some_whole c.args.text.now c.in-Some.token c.in-Some.ensures (omega arith))

pub returns-else-token-text : goal.returns-else-token-text
returns-else-token-text c = sym (shorter c.args.text.now c.in-Some.token c.in-Some.ensures (λ e. omega (arith, e)))
