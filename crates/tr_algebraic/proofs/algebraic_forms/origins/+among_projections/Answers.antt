use Rattle.std.proofs.Common.{◌++◌, map}
use Rattle.trees.specs.Node.{trees_at}
use Rattle.tasks.specs.Meaning.{con_at, cons_at}
use Rattle.tr_algebraic.specs.declared.algebraic_forms.origins.LawKind.TheVariants.{Projection}
use Rattle.tr_algebraic.specs.algebraic_forms.Formulas.{projection_laws, all_projection_laws}
use Rattle.tr_algebraic.specs.algebraic_forms.Groups.{law}
use Rattle.tr_algebraic.specs.algebraic_forms.Search.{kinds_of_laws}
use Rattle.tr_algebraic.proofs.algebraic_forms.Search.{of_these, kinds_after, projections_of, search_here, search_after}
use Rattle.tr_algebraic.proofs.algebraic_forms.origins.+among_projections.Goals as goal

pub returns-in-Here : goal.returns-in-Here
returns-in-Here t c = λ type vars.
    let s = c.args.store.now in
    let own = projection_laws type vars (con_at s c.in-Some.first.now) c.in-Some.first.now.projections (trees_at s c.in-Some.first.now.fields) in
    let rest = all_projection_laws type vars (cons_at s c.in-Some.rest.now) in
    rw c.in-Some.ensures.cases.0 (search_here (kinds_of_laws (map (law Projection vars) own)) (kinds_of_laws (map (law Projection vars) rest)) (kinds_of_laws (map (law Projection vars) (own ++ rest))) c.args.k c.in-Here.kind (kinds_after Projection vars own rest)
    (c.in-Here.ensures (kinds_of_laws (map (law Projection vars) own)) (of_these Projection vars own c.count_projections-many.result (projections_of s type vars c.in-Some.first.now c.count_projections-many.result c.count_projections-many.ensures))))

pub returns-in-After : goal.returns-in-After
returns-in-After t c = λ type vars.
    let s = c.args.store.now in
    let own = projection_laws type vars (con_at s c.in-Some.first.now) c.in-Some.first.now.projections (trees_at s c.in-Some.first.now.fields) in
    let rest = all_projection_laws type vars (cons_at s c.in-Some.rest.now) in
    rw c.in-Some.ensures.cases.0 (search_after (kinds_of_laws (map (law Projection vars) own)) (kinds_of_laws (map (law Projection vars) rest)) (kinds_of_laws (map (law Projection vars) (own ++ rest))) c.args.k c.in-After.left c.among_projections.result (kinds_after Projection vars own rest)
    (c.in-After.ensures (kinds_of_laws (map (law Projection vars) own)) (of_these Projection vars own c.count_projections-many.result (projections_of s type vars c.in-Some.first.now c.count_projections-many.result c.count_projections-many.ensures)))
    (c.among_projections.ensures type vars))
