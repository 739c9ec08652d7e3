use Rattle.declarations.specs.spelled_groups.Groups.{definition_facts}
use Rattle.declarations.specs.spelled_groups.Kept.{spelling_keeps, spelling_props, spelling_facts}
use Rattle.declarations.specs.spelled_groups.Definitions.{definitions_spelling, definitions_say_facts}
use Rattle.declarations.specs.spelled_groups.Inductives.{IsSmallTree}
use Rattle.tr_define.proofs.definitions.DefinitionsTransform.fact.Goals as goal

pub cite_old-requires-clause-keeps : goal.cite_old-requires-clause-keeps
cite_old-requires-clause-keeps c = spelling_keeps IsSmallTree definition_facts (definitions_spelling IsSmallTree)

pub cite_old-requires-clause-said : goal.cite_old-requires-clause-said
cite_old-requires-clause-said c = spelling_props definition_facts

pub cite_old-requires-clause-facts : goal.cite_old-requires-clause-facts
cite_old-requires-clause-facts c = spelling_facts definition_facts definitions_say_facts
