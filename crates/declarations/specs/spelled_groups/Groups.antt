-- Which groups are spelled out, and what they say (Why3 manual, "eliminate_definition",
-- "eliminate_inductive").
use Rattle.std.specs.Prelude.{if◌then◌else◌, Some, None}
use Rattle.tasks.specs.Task.{Defines, Induces}
use Rattle.tasks.specs.Facts.{body_facts}
use Rattle.checks.specs.recursive_groups.Groups.{is_recursive}
use Rattle.declarations.specs.spelled_groups.Spelled.{GroupFacts}

-- each group that isn't recursive becomes its symbols, then the equation of each member
abbrev pub definition_facts : GroupFacts
definition_facts symbols (Defines ds) =
    if is_recursive ds then None else Some (body_facts symbols 0 0 (Defines ds))
definition_facts symbols _ = None

-- each group becomes its predicates, then all clauses in order, then the inversion formula of each
-- predicate
abbrev pub inductive_facts : GroupFacts
inductive_facts symbols (Induces is) = Some (body_facts symbols 0 0 (Induces is))
inductive_facts symbols _ = None
