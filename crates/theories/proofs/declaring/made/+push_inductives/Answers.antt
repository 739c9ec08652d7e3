use Rattle.std.proofs.Common.{◌≡◌, ◌++◌, map, length, ap, arith}
use Rattle.elab_groups.specs.scopes.declared.Table.TheVariants.{Symbols}
use Rattle.surface.specs.SurfaceDeclarations.{declared_name, param_of, clause_of, inductive_of}
use Rattle.elab_groups.specs.parts.Declarations.{symbol, parameter_of, names_of_parameters, clause, inductive_predicate, made_by_clauses, made_by_inductives}
use Rattle.theories.specs.declaring.Made.{moves_made}
use Rattle.theories.proofs.declaring.Appended.{on_ok, name_then_both}
use Rattle.theories.proofs.declaring.made.+push_inductives.Goals as goal
use Rattle.tasks.proofs.outside.Passed.{no_ok}

pub returns : goal.returns
returns t c =
    let n = c.args.scope.now in
    let d = c.in-Some.first.now in
    let cs = made_by_clauses (map clause (map clause_of d.clauses)) in
    let rest = made_by_inductives (map inductive_predicate (map inductive_of c.in-Some.rest.now)) in
    let own : c.push_clauses.new.moves.items ≡ c.push_symbol.new.moves.items ++ moves_made n cs = rw c.as_slice.ensures at c.in_ok-push_clauses.ensures in
    rw c.in-Some.ensures.cases.0 (on_ok c.push_inductives.result _ _ (λ q. name_then_both n Symbols (symbol (declared_name d.name)) (names_of_parameters (map parameter_of (map param_of d.params))) cs rest _ _ _ _ c.in_ok-push_symbol.ensures own q) c.push_inductives.ensures)

pub returns-in_err-push_symbol : goal.returns-in_err-push_symbol
returns-in_err-push_symbol t c = no_ok _ _ c.from_residual.result c.from_residual.ensures.1

pub returns-in_err-push_clauses : goal.returns-in_err-push_clauses
returns-in_err-push_clauses t c = no_ok _ _ c.from_residual-in_err-push_clauses.result c.from_residual-in_err-push_clauses.ensures.1

pub push_inductives-requires : goal.push_inductives-requires
push_inductives-requires t c = omega (arith, ap length c.in-Some.ensures.cases.0)
