use Rattle.tasks.specs.Task.{symbol_or}
use Rattle.declarations.proofs.spelled_groups.SoughtClauses.{all_here, all_after}
use Rattle.declarations.proofs.spelled_groups.clause_origins.+origin_in_all_clauses.Goals as goal

pub returns-in-Here : goal.returns-in-Here
returns-in-Here t c = λ symbols.
    let i = c.in-Some.first.now in
    let h = rw c.as_slice.ensures at (c.in-Here.ensures (symbol_or symbols i.symbol).vars) in
    rw c.in-Some.ensures.cases.0 (all_here c.args.store.now symbols i c.in-Some.rest.now c.args.k c.in-Here.name h)

pub returns-in-After : goal.returns-in-After
returns-in-After t c = λ symbols.
    let i = c.in-Some.first.now in
    let h = rw c.as_slice.ensures at (c.in-After.ensures (symbol_or symbols i.symbol).vars) in
    rw c.in-Some.ensures.cases.0 (all_after c.args.store.now symbols i c.in-Some.rest.now c.args.k c.in-After.left c.origin_in_all_clauses.result h (c.origin_in_all_clauses.ensures symbols))
