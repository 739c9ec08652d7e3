use Rattle.std.proofs.Common.{◌++◌, ap, ◌∙◌}
use Rattle.std.proofs.lemmas.Result.{on_ok_weaker}
use Rattle.tasks.specs.Meaning.{symbols_at}
use Rattle.clones.specs.clone_elements.Replacements.{PlacedEffects, replaced_types}
use Rattle.clones.specs.clone_elements.Origins.{origin_at}
use Rattle.clones.specs.clone_elements.Meaning.{sides_at, type_pairs_at}
use Rattle.clones.proofs.clone_elements.Looked.{empty_effects}
use Rattle.clones.proofs.clone_elements.replacements.push_all_types.Goals as goal

pub returns-clause-types : goal.returns-clause-types
returns-clause-types c =
    let none = empty_effects c.new-effects.result c.new-effects.ensures.empty in
    on_ok_weaker c.push_types.result (λ h s.
    h s ∙ ap (λ (f : PlacedEffects). type_pairs_at s c.args.types.now.items ++ replaced_types (symbols_at s c.args.sig.now.symbols) (origin_at s c.args.source.now) f (sides_at s c.args.sides.now)) none) c.push_types.ensures.types

pub returns-clause-held : goal.returns-clause-held
returns-clause-held c = c.push_types.ensures.held
