use Rattle.std.proofs.Common.{ap, sym, ◌∙◌}
use Rattle.checks.specs.decl_checks.Structure.{is_tuple_constructor}
use Rattle.checks.proofs.decl_checks.Learning.{absent, present}
use Rattle.checks.proofs.decl_checks.standing.is_tuple_at.Goals as goal

pub returns-in-Some : goal.returns-in-Some
returns-in-Some c =
    let s = c.args.store.now in
    c.is_tuple.ensures s ∙ ap is_tuple_constructor (sym (present s c.args.sig.now.symbols c.args.symbol c.in-Some.info.now (sym c.in-Some.ensures.value)))

pub returns-in-None : goal.returns-in-None
returns-in-None c = ap is_tuple_constructor (sym (absent c.args.store.now c.args.sig.now.symbols c.args.symbol (sym c.in-None.ensures.value)))
