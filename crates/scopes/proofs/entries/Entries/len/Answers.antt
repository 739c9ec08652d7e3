use Rattle.std.proofs.Common.{ap, ◌∙◌, sym, length}
use Rattle.scopes.proofs.Listed.{length-latest_first}
use Rattle.scopes.proofs.entries.Entries.len.Goals as goal

pub returns : goal.returns
returns c = ap length c.as_slice.ensures.value ∙ sym (length-latest_first c.self.inside.stored.items) ∙ ap length c.self.view_is
