use Rattle.tasks.specs.Meaning.{algebraic_at, algebraics_at}
use Rattle.tr_algebraic.specs.algebraic_forms.Groups.{type_laws, type_vars, group_laws}
use Rattle.tr_algebraic.specs.algebraic_forms.Search.{kinds_of_laws}
use Rattle.tr_algebraic.proofs.algebraic_forms.Search.{kinds_joined, search_here, search_after}
use Rattle.tr_algebraic.proofs.algebraic_forms.origins.+search_laws.Goals as goal

pub returns-in-Here : goal.returns-in-Here
returns-in-Here t c = λ symbols.
    let s = c.args.store.now in
    let a = algebraic_at s c.in-Some.first.now in
    let own = type_laws (type_vars symbols a) a in
    let rest = group_laws symbols (algebraics_at s c.in-Some.rest.now) in
    rw c.in-Some.ensures.cases.0 (search_here (kinds_of_laws own) (kinds_of_laws rest) _ c.args.k c.in-Here.kind (kinds_joined own rest) (c.in-Here.ensures (type_vars symbols a)))

pub returns-in-After : goal.returns-in-After
returns-in-After t c = λ symbols.
    let s = c.args.store.now in
    let a = algebraic_at s c.in-Some.first.now in
    let own = type_laws (type_vars symbols a) a in
    let rest = group_laws symbols (algebraics_at s c.in-Some.rest.now) in
    rw c.in-Some.ensures.cases.0 (search_after (kinds_of_laws own) (kinds_of_laws rest) _ c.args.k c.in-After.left c.search_laws.result (kinds_joined own rest) (c.in-After.ensures (type_vars symbols a)) (c.search_laws.ensures symbols))
