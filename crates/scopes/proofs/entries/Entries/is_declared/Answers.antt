use Rattle.std.proofs.Common.{ap, ◌∙◌}
use Rattle.scopes.specs.Kept.{was_declared}
use Rattle.scopes.proofs.Listed.{was_declared-meaning}
use Rattle.scopes.proofs.entries.Entries.is_declared.Goals as goal

pub returns : goal.returns
returns c = c.was_declared.ensures ∙ ap was_declared (c.in_table.ensures ∙ c.meanings_of.ensures c.args.table) ∙ was_declared-meaning c.args.table c.args.name.now c.args.self.now
