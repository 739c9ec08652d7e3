use Rattle.open_types.proofs.Matching.{one_bound}
use Rattle.open_types.proofs.patterns.bind_variable.Goals as goal

pub returns : goal.returns
returns c = rw c.in_ok-push.ensures.items (one_bound c.args.locals.now.items (record { name = c.args.name; ty = c.args.ty }) c.requires.held c.requires.ty c.in_ok-equate_variable.ensures.noted)
