use Rattle.std.proofs.Common.{◌++◌, List, All, sym, ap, subst, ◌∙◌}
use Rattle.std.proofs.lemmas.List.Elements.{All-nil}
use Rattle.tasks.specs.Meaning.{symbols_at}
use Rattle.clones.specs.declared.clone_elements.replacements.TypeFor.{TypeFor}
use Rattle.clones.specs.clone_elements.Replacements.{types_replaced}
use Rattle.clones.specs.clone_elements.Origins.{origin_at}
use Rattle.clones.specs.clone_elements.Meaning.{sides_at, type_pairs_at, TypeForHeld}
use Rattle.clones.proofs.clone_elements.replacements.types_replaced.Goals as goal
use Rattle.tasks.proofs.outside.Passed.{no_value}

pub returns-clause-held : goal.returns-clause-held
returns-clause-held c = λ s a. c.in_ok-push_all_types.ensures.held s (subst (λ (z : List TypeFor). All (TypeForHeld s) z) (sym c.new-types.ensures.items) (All-nil (TypeForHeld s))) a

pub returns-in_err-push_all_types-clause-types : goal.returns-in_err-push_all_types-clause-types
returns-in_err-push_all_types-clause-types c = no_value _ _ c.from_residual.result c.from_residual.ensures.1

pub returns-in_err-push_all_types-clause-held : goal.returns-in_err-push_all_types-clause-held
returns-in_err-push_all_types-clause-held c = no_value _ _ c.from_residual.result c.from_residual.ensures.1

pub returns-clause-types : goal.returns-clause-types
returns-clause-types c = λ s. c.in_ok-push_all_types.ensures.types s ∙ ap (λ (z : List TypeFor). type_pairs_at s z ++ types_replaced (symbols_at s c.args.sig.now.symbols) (origin_at s c.args.source.now) (sides_at s c.args.sides.now)) c.new-types.ensures.items
