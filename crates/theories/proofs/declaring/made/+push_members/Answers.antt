use Rattle.std.proofs.Common.{map, length, ap, arith}
use Rattle.elab_groups.specs.scopes.declared.Table.TheVariants.{Symbols}
use Rattle.surface.specs.SurfaceDeclarations.{declared_name, param_of, member_of}
use Rattle.elab_groups.specs.parts.Declarations.{symbol, parameter_of, names_of_parameters, group_member, made_by_members}
use Rattle.theories.proofs.declaring.Appended.{on_ok, name_then}
use Rattle.theories.proofs.declaring.made.+push_members.Goals as goal
use Rattle.tasks.proofs.outside.Passed.{no_ok}

pub returns-in_err-push_symbol : goal.returns-in_err-push_symbol
returns-in_err-push_symbol t c = no_ok _ _ c.from_residual.result c.from_residual.ensures.1

pub push_members-requires : goal.push_members-requires
push_members-requires t c = omega (arith, ap length c.in-Some.ensures.cases.0)

pub returns : goal.returns
returns t c =
    let m = c.in-Some.first.now in
    let rest = made_by_members (map group_member (map member_of c.in-Some.rest.now)) in
    rw c.in-Some.ensures.cases.0 (on_ok c.push_members.result _ _ (λ q. name_then c.args.scope.now Symbols (symbol (declared_name m.name)) (names_of_parameters (map parameter_of (map param_of m.params))) rest _ _ _ c.in_ok-push_symbol.ensures q) c.push_members.ensures)
