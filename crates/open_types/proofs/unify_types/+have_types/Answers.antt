use Rattle.std.proofs.Common.{rules}
use Rattle.open_types.proofs.unify_types.Bridge.{rest_equations}
use Rattle.open_types.proofs.unify_types.+have_types.Goals as goal

pub has_types-requires : goal.has_types-requires
has_types-requires t c = (rest_equations c.args.store.now c.args.equations.now c.in-Some.rest.now c.in-Some.first.now c.in-Some.ensures.cases.0 c.requires).0

pub have_types-requires : goal.have_types-requires
have_types-requires t c = (search rules, (rest_equations c.args.store.now c.args.equations.now c.in-Some.rest.now c.in-Some.first.now c.in-Some.ensures.cases.0 c.requires).1)
