use Rattle.std.proofs.Common.{rules}
use Rattle.tasks.specs.Meaning.{AlgebraicHeld}
use Rattle.tasks.proofs.Lists.{split_all}
use Rattle.tasks.proofs.roles.+algebraic_as.Goals as goal

pub returns-then-first-symbol-clause-held : goal.returns-then-first-symbol-clause-held
returns-then-first-symbol-clause-held t c =
    let both = split_all (AlgebraicHeld c.args.store.now) c.args.types.now c.in-Some.first.now c.in-Some.rest.now c.in-Some.ensures.cases.0 c.requires in
    rw c.as_slice.ensures both.0.cons

pub constructed_as-constructed-requires : goal.constructed_as-constructed-requires
constructed_as-constructed-requires t c =
    let both = split_all (AlgebraicHeld c.args.store.now) c.args.types.now c.in-Some.first.now c.in-Some.rest.now c.in-Some.ensures.cases.0 c.requires in
    rw c.as_slice-in-Some.ensures both.0.cons

pub algebraic_as-requires : goal.algebraic_as-requires
algebraic_as-requires t c =
    let both = split_all (AlgebraicHeld c.args.store.now) c.args.types.now c.in-Some.first.now c.in-Some.rest.now c.in-Some.ensures.cases.0 c.requires in
    (search rules, both.1)
