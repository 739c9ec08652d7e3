use Rattle.std.proofs.Common.{map}
use Rattle.tasks.specs.declared.facts.Fact.TheVariants.{Inversion}
use Rattle.tasks.specs.Facts.{inversion_fact}
use Rattle.tasks.specs.Looking.{fact_name}
use Rattle.tasks.specs.Meaning.{inductives_at}
use Rattle.declarations.proofs.spelled_groups.SoughtClauses.{after_one}
use Rattle.declarations.proofs.spelled_groups.clause_origins.+origin_in_inversions.Goals as goal

pub returns-else-k-eq0 : goal.returns-else-k-eq0
returns-else-k-eq0 t c = λ symbols.
    rw c.in-Some.ensures.cases.0 (after_one (Inversion c.in-Some.first.now.symbol) (map fact_name (map (inversion_fact symbols) (inductives_at c.args.store.now c.in-Some.rest.now))) c.args.k c.origin_in_inversions.result c.if-k-eq0.false (c.origin_in_inversions.ensures symbols))
