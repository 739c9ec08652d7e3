use Rattle.declarations.proofs.spelled_groups.Making.{kind_later, first_kind}
use Rattle.tr_algebraic.proofs.algebraic_forms.terms.+quantify.Goals as goal

pub add-requires-clause-fits : goal.add-requires-clause-fits
add-requires-clause-fits t c =
    let s = c.args.store.now in
    let k = first_kind s c.args.types.now c.in-Some.first.now c.in-Some.rest.now c.in-Some.ensures.cases.0 c.requires.types in
    (((kind_later s c.quantify.new.store c.quantify.ensures.grows c.in-Some.first.now k).kind, c.in_ok-inner.ensures.formula.formula), tt)
