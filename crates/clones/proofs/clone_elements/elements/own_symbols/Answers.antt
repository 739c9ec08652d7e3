use Rattle.std.proofs.Common.{ap, ◌∙◌}
use Rattle.std.proofs.lemmas.Result.{IfOk-weaker}
use Rattle.clones.specs.clone_elements.Replacements.{kept}
use Rattle.clones.specs.clone_elements.Origins.{origin_at}
use Rattle.clones.proofs.clone_elements.Looked.{empty_effects}
use Rattle.clones.proofs.clone_elements.elements.own_symbols.Goals as goal

pub returns : goal.returns
returns c = IfOk-weaker c.kept_symbols.result _ _ (λ v h s. h s ∙ ap (kept (origin_at s c.args.source.now)) (empty_effects c.new-none.result c.new-none.ensures.empty)) c.kept_symbols.ensures
