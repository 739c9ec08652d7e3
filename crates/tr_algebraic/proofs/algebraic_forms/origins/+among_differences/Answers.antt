use Rattle.std.proofs.Common.{◌++◌, map, length, refl}
use Rattle.tasks.specs.Meaning.{con_at, cons_at}
use Rattle.tr_algebraic.specs.declared.algebraic_forms.origins.LawKind.TheVariants.{Distinctness}
use Rattle.tr_algebraic.specs.algebraic_forms.Formulas.{distinctness_law, distinctness_laws}
use Rattle.tr_algebraic.specs.algebraic_forms.Groups.{law}
use Rattle.tr_algebraic.specs.algebraic_forms.Search.{kinds_of_laws}
use Rattle.tr_algebraic.proofs.algebraic_forms.Search.{of_these, kinds_after, differences_of, search_here, search_after}
use Rattle.tr_algebraic.proofs.algebraic_forms.origins.+among_differences.Goals as goal

pub returns-in-Here : goal.returns-in-Here
returns-in-Here t c = λ type vars.
    let s = c.args.store.now in
    let own = map (distinctness_law type vars (con_at s c.in-Some.field-0-0.now)) (cons_at s c.in-Some.rest.now) in
    let rest = distinctness_laws type vars (cons_at s c.in-Some.rest.now) in
    rw c.in-Some.ensures.cases.0 (search_here (kinds_of_laws (map (law Distinctness vars) own)) (kinds_of_laws (map (law Distinctness vars) rest)) (kinds_of_laws (map (law Distinctness vars) (own ++ rest))) c.args.k c.in-Here.kind (kinds_after Distinctness vars own rest)
    (c.in-Here.ensures (kinds_of_laws (map (law Distinctness vars) own)) (of_these Distinctness vars own (length c.in-Some.rest.now) (differences_of s type vars (con_at s c.in-Some.field-0-0.now) c.in-Some.rest.now (length c.in-Some.rest.now) refl))))

pub returns-in-After : goal.returns-in-After
returns-in-After t c = λ type vars.
    let s = c.args.store.now in
    let own = map (distinctness_law type vars (con_at s c.in-Some.field-0-0.now)) (cons_at s c.in-Some.rest.now) in
    let rest = distinctness_laws type vars (cons_at s c.in-Some.rest.now) in
    rw c.in-Some.ensures.cases.0 (search_after (kinds_of_laws (map (law Distinctness vars) own)) (kinds_of_laws (map (law Distinctness vars) rest)) (kinds_of_laws (map (law Distinctness vars) (own ++ rest))) c.args.k c.in-After.left c.among_differences.result (kinds_after Distinctness vars own rest)
    (c.in-After.ensures (kinds_of_laws (map (law Distinctness vars) own)) (of_these Distinctness vars own (length c.in-Some.rest.now) (differences_of s type vars (con_at s c.in-Some.field-0-0.now) c.in-Some.rest.now (length c.in-Some.rest.now) refl)))
    (c.among_differences.ensures type vars))
