use Rattle.std.proofs.Common.{◌∙◌}
use Rattle.tasks.specs.Meaning.{declarations_at}
use Rattle.tr_algebraic.proofs.algebraic_tasks.Looking.{law_found, law_passed}
use Rattle.tr_algebraic.proofs.algebraic_tasks.origins.+origin_of.Goals as goal

pub returns-in-Here : goal.returns-in-Here
returns-in-Here t c = λ symbols.
    let s = c.args.store.now in
    rw c.in-Some.ensures.cases.0 (law_found symbols c.args.place s c.in-Some.first.now (declarations_at s c.in-Some.rest.now) c.in-Algebraics.types c.as_slice.result.now c.in-Algebraics.is c.as_slice.ensures c.args.k c.in-Here.kind (c.in-Here.ensures symbols))

pub returns-in-After : goal.returns-in-After
returns-in-After t c = λ symbols.
    let s = c.args.store.now in
    rw c.in-Some.ensures.cases.0 (c.origin_of-in-After.ensures symbols
    ∙ law_passed symbols c.args.place s c.in-Some.first.now (declarations_at s c.in-Some.rest.now) c.in-Algebraics.types c.as_slice.result.now c.in-Algebraics.is c.as_slice.ensures c.args.k c.in-After.left (c.in-After.ensures symbols))
