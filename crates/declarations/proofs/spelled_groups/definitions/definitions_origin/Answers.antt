use Rattle.std.proofs.Common.{List, map, sym, subst, ◌∙◌}
use Rattle.tasks.specs.declared.facts.Fact.{Fact}
use Rattle.tasks.specs.Facts.{FactTree}
use Rattle.tasks.specs.Looking.{fact_name}
use Rattle.tasks.specs.Meaning.{declaration_at}
use Rattle.declarations.specs.Said.{IsFactSearch}
use Rattle.declarations.proofs.spelled_groups.Sought.{defs_said, others_stay}
use Rattle.declarations.proofs.spelled_groups.definitions.definitions_origin.Goals as goal

pub returns-else-is_recursive : goal.returns-else-is_recursive
returns-else-is_recursive c = λ symbols.
    let s = c.args.store.now in
    let r = rw c.as_slice.ensures at c.is_recursive.ensures.test in
    let e = defs_said s symbols c.args.place (declaration_at s c.args.decl.now) c.args.decl.now.body c.in-Defs.defs c.in-Defs.is (sym r ∙ c.if-is_recursive.false) in
    subst (λ (z : List Fact). IsFactSearch z c.args.k c.origin_in_defs.result) (sym e) (rw c.as_slice-in-Defs.ensures at (c.origin_in_defs.ensures symbols))

pub returns-in_default : goal.returns-in_default
returns-in_default c = λ symbols.
    let s = c.args.store.now in
    let d = declaration_at s c.args.decl.now in
    subst (λ (z : List FactTree). IsFactSearch (map fact_name z) c.args.k c.own_origin.result) (sym (others_stay s symbols c.args.place d c.args.decl.now.body c.in_default.not-Defs)) (c.own_origin.ensures s)
