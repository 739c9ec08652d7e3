use Rattle.std.proofs.Common.{[], map, length, ap, arith}
use Rattle.elab_groups.specs.scopes.declared.Table.TheVariants.{Propositions}
use Rattle.surface.specs.SurfaceDeclarations.{plain_name, clause_of}
use Rattle.elab_groups.specs.parts.Declarations.{symbol, clause, made_by_clauses}
use Rattle.theories.proofs.declaring.Appended.{on_ok, name_then}
use Rattle.theories.proofs.declaring.made.+push_clauses.Goals as goal
use Rattle.tasks.proofs.outside.Passed.{no_ok}

pub returns-in_err-push_proposition : goal.returns-in_err-push_proposition
returns-in_err-push_proposition t c = no_ok _ _ c.from_residual.result c.from_residual.ensures.1

pub push_clauses-requires : goal.push_clauses-requires
push_clauses-requires t c = omega (arith, ap length c.in-Some.ensures.cases.0)

pub returns : goal.returns
returns t c =
    let rest = made_by_clauses (map clause (map clause_of c.in-Some.rest.now)) in
    rw c.in-Some.ensures.cases.0 (on_ok c.push_clauses.result _ _ (λ q. name_then c.args.scope.now Propositions (symbol (plain_name c.in-Some.first.now.name)) [] rest _ _ _ c.in_ok-push_proposition.ensures q) c.push_clauses.ensures)
