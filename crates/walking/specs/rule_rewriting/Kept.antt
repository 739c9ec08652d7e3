-- What formulas become by a rule has their typing, and commutes with types.
use Rattle.std.specs.Prelude.{[]}
use Rattle.trees.specs.Tree.{Tree}
use Rattle.tasks.specs.Vocabulary.{Vocabulary}
use Rattle.images.specs.Images.{image}
use Rattle.images.specs.typing_laws.HasTyping.{IsTypedRule}
use Rattle.evidence.specs.changed_tasks.Changed.{KeepsFormulas}
use Rattle.walking.specs.rewriting.Formulas.{CommutesWithTypes}
use Rattle.images.proofs.TypedImages.{image_keeps_typing, image_at_types}
use Rattle.walking.specs.rule_rewriting.Rules.{CommutesAtNodes}

module _ (v : Vocabulary) (f : Tree → Tree) (r : IsTypedRule v f) where
  pub rule_keeps_formulas : KeepsFormulas v (image f)
  rule_keeps_formulas e s x = image_keeps_typing v f r [] e x

  pub rule_commutes : CommutesAtNodes v f → CommutesWithTypes v (image f)
  rule_commutes c ys each e s x = image_at_types v f r ys each (c ys each) [] e x
