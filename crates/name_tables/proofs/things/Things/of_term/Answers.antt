use Rattle.std.proofs.Common.{◌∙◌}
use Rattle.name_tables.proofs.Distinct.{distinct_is}
use Rattle.name_tables.proofs.things.Things.of_term.Goals as goal

pub returns-clause-things : goal.returns-clause-things
returns-clause-things c = c.in_ok-keys.ensures.is ∙ distinct_is _
