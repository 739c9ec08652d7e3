use Rattle.std.proofs.Common.{◌≡◌, ◌++◌, List, map, take}
use Rattle.scopes.specs.Names.{ScopeEntry, imported}
use Rattle.scopes.specs.Kept.{brought_before, latest_first}
use Rattle.scopes.proofs.entries.Entries.items.Given as goal

abbrev pub invariant-loop-stored : goal.invariant-loop-stored
invariant-loop-stored l = (more : List ScopeEntry) → brought_before more l.items.items ≡ map imported (latest_first (take l.stored-index l.stored-items)) ++ more
