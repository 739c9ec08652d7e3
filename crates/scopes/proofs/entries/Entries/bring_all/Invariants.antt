use Rattle.std.proofs.Common.{◌≡◌}
use Rattle.scopes.specs.Kept.{brought_before}
use Rattle.scopes.proofs.entries.Entries.bring_all.Given as goal

abbrev pub invariant-loop-item : goal.invariant-loop-item
invariant-loop-item l = l.self ≡ brought_before l.fn.self l.yielded
