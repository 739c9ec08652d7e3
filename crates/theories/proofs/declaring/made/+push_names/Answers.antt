use Rattle.std.proofs.Common.{map, length, ap, arith}
use Rattle.elab_groups.specs.scopes.declared.Table.TheVariants.{Symbols}
use Rattle.elab_groups.specs.parts.Declarations.{makes, word}
use Rattle.theories.proofs.declaring.Appended.{on_ok, name_before}
use Rattle.theories.proofs.declaring.made.+push_names.Goals as goal
use Rattle.tasks.proofs.outside.Passed.{no_ok}

pub returns-in_err-push_plain : goal.returns-in_err-push_plain
returns-in_err-push_plain t c = no_ok _ _ c.from_residual.result c.from_residual.ensures.1

pub push_names-requires : goal.push_names-requires
push_names-requires t c = omega (arith, ap length c.in-Some.ensures.cases.0)

pub returns : goal.returns
returns t c =
    let rest = map (makes Symbols) (map word c.in-Some.rest.now) in
    rw c.in-Some.ensures.cases.0 (on_ok c.push_names.result _ _ (λ q. name_before c.args.scope.now Symbols (word c.in-Some.first.now) rest _ _ _ c.in_ok-push_plain.ensures q) c.push_names.ensures)
