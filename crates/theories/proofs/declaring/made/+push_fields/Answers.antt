use Rattle.std.proofs.Common.{◌≡◌, ◌++◌, map, length, sym, ap, ◌∙◌, subst, arith, List}
use Rattle.std.proofs.lemmas.List.{map-append}
use Rattle.elab_groups.specs.scopes.declared.Table.TheVariants.{Symbols}
use Rattle.elab_groups.specs.parts.Declarations.{Made, makes, word, names_of_parameters}
use Rattle.elab_groups.specs.members.Sources.{parameters_of}
use Rattle.theories.specs.declaring.Made.{moves_made}
use Rattle.theories.proofs.declaring.Appended.{on_ok, names_both}
use Rattle.theories.proofs.declaring.made.+push_fields.Goals as goal
use Rattle.tasks.proofs.outside.Passed.{no_ok}

pub returns-in_err-push_names : goal.returns-in_err-push_names
returns-in_err-push_names t c = no_ok _ _ c.from_residual.result c.from_residual.ensures.1

pub push_fields-requires : goal.push_fields-requires
push_fields-requires t c = omega (arith, ap length c.in-Some.ensures.cases.0)

pub returns : goal.returns
returns t c =
    let n = c.args.scope.now in
    let cs = map word c.in-Some.first.now.names in
    let ds = names_of_parameters (parameters_of c.in-Some.rest.now) in
    let own : c.push_names.new.moves.items ≡ c.args.moves.now.items ++ moves_made n (map (makes Symbols) cs) = rw c.as_slice.ensures at c.in_ok-push_names.ensures in
    rw c.in-Some.ensures.cases.0 (on_ok c.push_fields.result _ _ (λ q. names_both n cs ds _ _ _ own q) c.push_fields.ensures)
