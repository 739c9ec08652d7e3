use Rattle.std.proofs.Common.{◌≡◌, [], true, false, refl, ap, ◌∙◌}
use Rattle.std.specs.Option.{is_some}
use Rattle.name_resolution.specs.Faults.{is_variable}
use Rattle.open_types.specs.Drafts.{names_of_locals}
use Rattle.open_types.proofs.Arguments.{is_found}
use Rattle.open_types.proofs.triggers.is_formula_name.Goals as goal

pub returns-in-Some : goal.returns-in-Some
returns-in-Some c s =
    let f = rw c.in-Some.is at c.in_ok-local_named.ensures.found in
    let v : is_variable c.args.scopes.now c.args.name.now (names_of_locals c.args.locals.now) ≡ true = is_found s c.args.locals.now c.args.scopes.now c.args.name.now ∙ ap is_some (f s) in
    rw v refl

pub returns-in-None : goal.returns-in-None
returns-in-None c s =
    let f = rw c.in-None.is at c.in_ok-local_named.ensures.found in
    let v : is_variable c.args.scopes.now c.args.name.now (names_of_locals c.args.locals.now) ≡ false = is_found [] c.args.locals.now c.args.scopes.now c.args.name.now ∙ ap is_some (f []) in
    rw v (c.names_predicate.ensures s)
