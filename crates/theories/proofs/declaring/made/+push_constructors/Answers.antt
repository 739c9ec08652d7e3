use Rattle.std.proofs.Common.{◌≡◌, ◌++◌, map, length, ap, arith}
use Rattle.elab_groups.specs.scopes.declared.Table.TheVariants.{Symbols}
use Rattle.surface.specs.SurfaceDeclarations.{constructor_of}
use Rattle.elab_groups.specs.parts.Declarations.{makes, word, names_of_parameters, constructor, constructor_names}
use Rattle.elab_groups.specs.members.Sources.{parameters_of}
use Rattle.theories.specs.declaring.Made.{moves_made}
use Rattle.theories.proofs.declaring.Appended.{on_ok, name_before, names_both}
use Rattle.theories.proofs.declaring.made.+push_constructors.Goals as goal
use Rattle.tasks.proofs.outside.Passed.{no_ok}

pub returns-in_err-push_plain : goal.returns-in_err-push_plain
returns-in_err-push_plain t c = no_ok _ _ c.from_residual.result c.from_residual.ensures.1

pub returns-in_err-push_fields : goal.returns-in_err-push_fields
returns-in_err-push_fields t c = no_ok _ _ c.from_residual-in_err-push_fields.result c.from_residual-in_err-push_fields.ensures.1

pub push_constructors-requires : goal.push_constructors-requires
push_constructors-requires t c = omega (arith, ap length c.in-Some.ensures.cases.0)

pub returns : goal.returns
returns t c =
    let n = c.args.scope.now in
    let first = c.in-Some.first.now in
    let cs = names_of_parameters (parameters_of first.fields) in
    let ds = constructor_names (map constructor (map constructor_of c.in-Some.rest.now)) in
    let own : c.push_fields.new.moves.items ≡ c.push_plain.new.moves.items ++ moves_made n (map (makes Symbols) cs) = rw c.as_slice.ensures at c.in_ok-push_fields.ensures in
    rw c.in-Some.ensures.cases.0 (on_ok c.push_constructors.result _ _ (λ q. name_before n Symbols (word first.name) (map (makes Symbols) (cs ++ ds)) _ _ _ c.in_ok-push_plain.ensures (names_both n cs ds _ _ _ own q)) c.push_constructors.ensures)
