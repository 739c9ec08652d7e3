use Rattle.tasks.proofs.plain_laws.Results.{ok_any}
use Rattle.name_tables.proofs.noted.Noted.things_of.Goals as goal

pub returns-clause-held : goal.returns-clause-held
returns-clause-held c = c.with_rest.ensures.held

pub returns-clause-things : goal.returns-clause-things
returns-clause-things c = c.with_rest.ensures.things

pub returns-clause-noted : goal.returns-clause-noted
returns-clause-noted c = ok_any c.with_rest.result c.in_ok-turn_to.ensures.noted
