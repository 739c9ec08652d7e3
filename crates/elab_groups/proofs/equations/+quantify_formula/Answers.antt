use Rattle.open_types.proofs.Growing.{first_held, type_grows}
use Rattle.elab_groups.proofs.equations.+quantify_formula.Goals as goal

pub add-requires-clause-fits : goal.add-requires-clause-fits
add-requires-clause-fits t c =
    let s = c.args.store.now in
    let first = first_held s c.args.args.now c.in-Some.rest.now c.in-Some.first.now c.in-Some.ensures.cases.0 c.requires.args in
    (((type_grows s c.quantify_formula.new.store c.quantify_formula.ensures.grows c.in-Some.first.now first).kind, c.in_ok-inner.ensures.sort), tt)
