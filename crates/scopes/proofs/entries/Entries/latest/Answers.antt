use Rattle.std.proofs.Common.{ap, ◌∙◌}
use Rattle.scopes.specs.Kept.{meaning_thing}
use Rattle.scopes.proofs.Listed.{thing_of-meaning}
use Rattle.scopes.proofs.entries.Entries.latest.Goals as goal

pub returns : goal.returns
returns c = c.thing_of.ensures ∙ ap meaning_thing (c.in_table.ensures ∙ c.meanings_of.ensures c.args.table) ∙ thing_of-meaning c.args.table c.args.name.now c.args.self.now
