-- The rule for nodes leaves types, patterns, lists and branches as they are.
use Rattle.std.specs.Prelude.{◌≡◌}
use Rattle.tasks.specs.trees.Tree.{Tree, head_of}
use Rattle.evidence.specs.images.Images.{IsOtherHead}
use Rattle.tr_if.specs.conditionals.Conditionals.{if_rule}
use Rattle.tr_if.specs.conditionals.lemmas.Typed.{rule_others}

pub if_others : (e : Tree) → IsOtherHead (head_of e) → if_rule e ≡ e
if_others e k = rule_others e k
