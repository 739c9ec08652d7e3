use Rattle.std.proofs.Common.{rules}
use Rattle.std.proofs.lemmas.List.Elements.{All-rest, All-same}
use Rattle.tasks.specs.Meaning.{ConHeld, AlgebraicHeld}
use Rattle.checks.proofs.decl_checks.Firsts.{first_has}
use Rattle.checks.proofs.decl_checks.values.+next_valued.Goals as goal

pub some_has_values-built-requires : goal.some_has_values-built-requires
some_has_values-built-requires t c =
    let s = c.args.store.now in
    let first = c.in-Some.first.now in
    let held = first_has (AlgebraicHeld s) first c.in-Some.rest.now c.args.types.now c.in-Some.ensures.cases.0 c.requires in
    All-same (ConHeld s) c.as_slice.result.now first.cons c.as_slice.ensures held.cons

pub next_valued-requires : goal.next_valued-requires
next_valued-requires t c =
    (search rules, All-rest (AlgebraicHeld c.args.store.now) c.in-Some.first.now c.in-Some.rest.now c.args.types.now c.in-Some.ensures.cases.0 c.requires)
