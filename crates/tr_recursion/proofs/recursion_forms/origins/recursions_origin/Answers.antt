use Rattle.std.proofs.Common.{List, map, sym, subst, ◌∙◌, true, false}
use Rattle.tasks.specs.Facts.{FactTree}
use Rattle.tasks.specs.Looking.{fact_name}
use Rattle.tasks.specs.Meaning.{declaration_at}
use Rattle.declarations.specs.Said.{IsFactSearch}
use Rattle.tr_recursion.proofs.recursion_forms.Sought.{group_said, others_said}
use Rattle.tr_recursion.proofs.recursion_forms.origins.recursions_origin.Goals as goal

pub returns-then-is_recursive : goal.returns-then-is_recursive
returns-then-is_recursive c = λ symbols.
    let s = c.args.store.now in
    let r = rw c.as_slice.ensures at c.is_recursive.ensures.test in
    let e = group_said s symbols c.args.place (declaration_at s c.args.decl.now) c.args.decl.now.body c.in-Defs.defs true c.in-Defs.is (sym r ∙ c.if-is_recursive.true) in
    subst (λ (z : List FactTree). IsFactSearch (map fact_name z) c.args.k c.origin_in_members.result) (sym e) (rw c.as_slice-then-is_recursive.ensures at (c.origin_in_members.ensures symbols))

pub returns-in_default : goal.returns-in_default
returns-in_default c = λ symbols.
    let s = c.args.store.now in
    let d = declaration_at s c.args.decl.now in
    subst (λ (z : List FactTree). IsFactSearch (map fact_name z) c.args.k c.own_origin.result) (sym (others_said s symbols c.args.place d c.args.decl.now.body c.in_default.not-Defs)) (c.own_origin.ensures s)
