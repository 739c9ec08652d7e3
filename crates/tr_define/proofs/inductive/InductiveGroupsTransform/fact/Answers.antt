use Rattle.declarations.specs.spelled_groups.Groups.{inductive_facts}
use Rattle.declarations.specs.spelled_groups.Kept.{spelling_keeps, spelling_props, spelling_facts}
use Rattle.declarations.specs.spelled_groups.Inductives.{IsSmallTree, inductives_spelling, inductives_say_facts}
use Rattle.tr_define.proofs.inductive.InductiveGroupsTransform.fact.Goals as goal

pub cite_old-requires-clause-keeps : goal.cite_old-requires-clause-keeps
cite_old-requires-clause-keeps c = spelling_keeps IsSmallTree inductive_facts (inductives_spelling)

pub cite_old-requires-clause-said : goal.cite_old-requires-clause-said
cite_old-requires-clause-said c = spelling_props inductive_facts

pub cite_old-requires-clause-facts : goal.cite_old-requires-clause-facts
cite_old-requires-clause-facts c = spelling_facts inductive_facts inductives_say_facts
