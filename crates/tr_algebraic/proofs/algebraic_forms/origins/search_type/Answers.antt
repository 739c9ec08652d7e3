use Rattle.std.proofs.Common.{[], ◌∷◌, ◌++◌, map}
use Rattle.tasks.specs.Meaning.{cons_at}
use Rattle.tr_algebraic.specs.declared.algebraic_forms.origins.LawKind.TheVariants.{Projection, Distinctness, Exhaustion}
use Rattle.tr_algebraic.specs.declared.algebraic_forms.origins.LawSearch.TheVariants.{Here}
use Rattle.tr_algebraic.specs.algebraic_forms.Formulas.{all_projection_laws, distinctness_laws, exhaustion_law}
use Rattle.tr_algebraic.specs.algebraic_forms.Groups.{law}
use Rattle.tr_algebraic.specs.algebraic_forms.Search.{kinds_of_laws}
use Rattle.tr_algebraic.proofs.algebraic_forms.Search.{of_kind, kinds_joined, search_here, search_after}
use Rattle.tr_algebraic.proofs.algebraic_forms.origins.search_type.Goals as goal

pub returns-in-Here : goal.returns-in-Here
returns-in-Here c = λ vars.
    let a = c.args.alg.now in
    let cs = cons_at c.args.store.now a.cons in
    let ps = map (law Projection vars) (all_projection_laws a.symbol vars cs) in
    let rest = map (law Distinctness vars) (distinctness_laws a.symbol vars cs) ++ law Exhaustion vars (exhaustion_law a.symbol vars cs) ∷ [] in
    search_here (kinds_of_laws ps) (kinds_of_laws rest) (kinds_of_laws (ps ++ rest)) c.args.k c.in-Here.kind (kinds_joined ps rest) (rw c.as_slice-cons.ensures at (c.in-Here.ensures a.symbol vars))

pub returns-in-Here-among_differences : goal.returns-in-Here-among_differences
returns-in-Here-among_differences c = λ vars.
    let a = c.args.alg.now in
    let cs = cons_at c.args.store.now a.cons in
    let ps = map (law Projection vars) (all_projection_laws a.symbol vars cs) in
    let ds = map (law Distinctness vars) (distinctness_laws a.symbol vars cs) in
    let last = law Exhaustion vars (exhaustion_law a.symbol vars cs) ∷ [] in
    let kind = c.in-Here-among_differences.kind in
    search_after (kinds_of_laws ps) (kinds_of_laws (ds ++ last)) (kinds_of_laws (ps ++ (ds ++ last))) c.args.k c.in-After.left (Here kind) (kinds_joined ps (ds ++ last)) (rw c.as_slice-cons.ensures at (c.in-After.ensures a.symbol vars))
    (search_here (kinds_of_laws ds) (kinds_of_laws last) (kinds_of_laws (ds ++ last)) c.in-After.left kind (kinds_joined ds last) (rw c.as_slice-cons.ensures at (c.in-Here-among_differences.ensures a.symbol vars)))

pub returns-in-After-among_differences : goal.returns-in-After-among_differences
returns-in-After-among_differences c = λ vars.
    let a = c.args.alg.now in
    let cs = cons_at c.args.store.now a.cons in
    let ps = map (law Projection vars) (all_projection_laws a.symbol vars cs) in
    let ds = map (law Distinctness vars) (distinctness_laws a.symbol vars cs) in
    let e = exhaustion_law a.symbol vars cs in
    let last = law Exhaustion vars e ∷ [] in
    let left = c.in-After-among_differences.left in
    search_after (kinds_of_laws ps) (kinds_of_laws (ds ++ last)) (kinds_of_laws (ps ++ (ds ++ last))) c.args.k c.in-After.left c.among.result (kinds_joined ps (ds ++ last)) (rw c.as_slice-cons.ensures at (c.in-After.ensures a.symbol vars))
    (search_after (kinds_of_laws ds) (kinds_of_laws last) (kinds_of_laws (ds ++ last)) c.in-After.left left c.among.result (kinds_joined ds last) (rw c.as_slice-cons.ensures at (c.in-After-among_differences.ensures a.symbol vars))
    (c.among.ensures (kinds_of_laws last) (of_kind Exhaustion vars (e ∷ []))))
