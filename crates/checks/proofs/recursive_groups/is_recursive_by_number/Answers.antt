use Rattle.std.proofs.Common.{◌↔◌, Bool, IsTrue, sym, subst}
use Rattle.tasks.specs.Meaning.{definitions_at}
use Rattle.checks.specs.decl_checks.Structure.{IsRecursive}
use Rattle.checks.proofs.recursive_groups.Exact.{recursive_exact}
use Rattle.checks.proofs.recursive_groups.is_recursive_by_number.Goals as goal

pub returns-clause-exact : goal.returns-clause-exact
returns-clause-exact c =
    let ds = definitions_at c.args.store.now c.args.defs.now in
    subst (λ (b : Bool). IsTrue b ↔ IsRecursive ds) (sym c.some_uses_by_number.ensures) (recursive_exact ds)
