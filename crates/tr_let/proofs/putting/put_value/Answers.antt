use Rattle.std.proofs.Common.{sym, ap, ◌∙◌}
use Rattle.trees.specs.Node.{tree_at}
use Rattle.trees.proofs.Many.{inst_is_many}
use Rattle.tr_let.specs.LetRule.{let_rule}
use Rattle.tr_let.proofs.putting.put_value.Goals as goal

pub put_terms-requires-clause-terms : goal.put_terms-requires-clause-terms
put_terms-requires-clause-terms g c = ((c.requires.value_held, c.requires.term), tt)

pub returns-clause-tree : goal.returns-clause-tree
returns-clause-tree g c = c.in_ok-made.ensures.tree ∙ inst_is_many (tree_at (g.G.Grow.trees c.args.g.now) c.args.body) (tree_at (g.G.Grow.trees c.args.g.now) c.args.value) ∙ sym (ap let_rule c.requires.node)
