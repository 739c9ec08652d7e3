use Rattle.tasks.proofs.MadeSymbols.{made_is}
use Rattle.tasks.proofs.symbols.made_by.Goals as goal

pub returns : goal.returns
returns c = λ s. rw (c.in_ok-push_made.ensures, c.new-symbols.ensures.items) (made_is c.args.body.now s)
