use Rattle.std.proofs.Common.{◌≡◌, drop}
use Rattle.scopes.proofs.entries.Entries.remove_many.Given as goal

abbrev pub invariant-loop : goal.invariant-loop
invariant-loop l = l.self ≡ drop l.counter l.fn.self
