use Rattle.std.proofs.Common.{◌≡◌, ◌++◌, map, length, ap, arith}
use Rattle.elab_groups.specs.scopes.declared.Table.TheVariants.{Types}
use Rattle.surface.specs.SurfaceDeclarations.{algebraic_of}
use Rattle.elab_groups.specs.parts.Declarations.{word, algebraic_type, made_by_constructors, made_type_names}
use Rattle.theories.specs.declaring.Made.{moves_made}
use Rattle.theories.proofs.declaring.Appended.{on_ok, name_then_both}
use Rattle.theories.proofs.declaring.made.+push_types.Goals as goal
use Rattle.tasks.proofs.outside.Passed.{no_ok}

pub returns : goal.returns
returns t c =
    let n = c.args.scope.now in
    let a = c.in-Some.first.now in
    let cs = made_by_constructors (algebraic_type (algebraic_of a)).constructors in
    let rest = made_type_names (map algebraic_type (map algebraic_of c.in-Some.rest.now)) in
    let own : c.push_alternatives.new.moves.items ≡ c.push_plain.new.moves.items ++ moves_made n cs = c.in_ok-push_alternatives.ensures in
    rw c.in-Some.ensures.cases.0 (on_ok c.push_types.result _ _ (λ q. name_then_both n Types (word a.name) (map word a.vars) cs rest _ _ _ _ c.in_ok-push_plain.ensures own q) c.push_types.ensures)

pub returns-in_err-push_plain : goal.returns-in_err-push_plain
returns-in_err-push_plain t c = no_ok _ _ c.from_residual.result c.from_residual.ensures.1

pub returns-in_err-push_alternatives : goal.returns-in_err-push_alternatives
returns-in_err-push_alternatives t c = no_ok _ _ c.from_residual-in_err-push_alternatives.result c.from_residual-in_err-push_alternatives.ensures.1

pub push_types-requires : goal.push_types-requires
push_types-requires t c = omega (arith, ap length c.in-Some.ensures.cases.0)
