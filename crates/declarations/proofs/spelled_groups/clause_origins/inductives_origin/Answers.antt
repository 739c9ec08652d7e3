use Rattle.std.proofs.Common.{List, map, sym, subst}
use Rattle.tasks.specs.Facts.{FactTree}
use Rattle.tasks.specs.Looking.{fact_name}
use Rattle.tasks.specs.Meaning.{declaration_at}
use Rattle.declarations.specs.Said.{IsFactSearch}
use Rattle.declarations.proofs.spelled_groups.SoughtClauses.{said_here, said_after, others_stay}
use Rattle.declarations.proofs.spelled_groups.clause_origins.inductives_origin.Goals as goal

pub returns-in-Here : goal.returns-in-Here
returns-in-Here c = λ symbols.
    let s = c.args.store.now in
    said_here s symbols c.args.place (declaration_at s c.args.decl.now) c.args.decl.now.body c.in-Inductives.inductives c.in-Inductives.is c.args.k c.in-Here.name (rw c.as_slice.ensures at (c.in-Here.ensures symbols))

pub returns-in-After : goal.returns-in-After
returns-in-After c = λ symbols.
    let s = c.args.store.now in
    said_after s symbols c.args.place (declaration_at s c.args.decl.now) c.args.decl.now.body c.in-Inductives.inductives c.in-Inductives.is c.args.k c.in-After.left c.origin_in_inversions.result (rw c.as_slice.ensures at (c.in-After.ensures symbols)) (rw c.as_slice-in-After.ensures at (c.origin_in_inversions.ensures symbols))

pub returns-in_default : goal.returns-in_default
returns-in_default c = λ symbols.
    let s = c.args.store.now in
    let d = declaration_at s c.args.decl.now in
    subst (λ (z : List FactTree). IsFactSearch (map fact_name z) c.args.k c.own_origin.result) (sym (others_stay s symbols c.args.place d c.args.decl.now.body c.in_default.not-Inductives)) (c.own_origin.ensures s)
