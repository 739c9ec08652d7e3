use Rattle.std.proofs.Common.{List, All, sym, subst}
use Rattle.std.proofs.lemmas.List.Elements.{All-push}
use Rattle.clones.specs.clone_elements.Meaning.{TypeForHeld}
use Rattle.clones.specs.declared.clone_elements.replacements.TypeFor.{TypeFor}
use Rattle.clones.proofs.clone_elements.replacements.push_type_at.Goals as goal
use Rattle.tasks.proofs.outside.Passed.{no_ok}

pub returns-in_err-push-clause-types : goal.returns-in_err-push-clause-types
returns-in_err-push-clause-types c = no_ok _ _ c.from_residual.result c.from_residual.ensures.1

pub returns-in_err-push-clause-held : goal.returns-in_err-push-clause-held
returns-in_err-push-clause-held c = no_ok _ _ c.from_residual.result c.from_residual.ensures.1

pub returns-then-is_some-clause-held : goal.returns-then-is_some-clause-held
returns-then-is_some-clause-held c = λ s a h. a

pub returns-clause-held : goal.returns-clause-held
returns-clause-held c =
    let it : TypeFor = record { symbol = c.symbol_at_place-symbol.result; ty = c.args.ty } in
    λ s a h. subst (λ (z : List TypeFor). All (TypeForHeld s) z) (sym c.in_ok-push.ensures.items) (All-push (TypeForHeld s) c.args.types.now.items it a h)
