use Rattle.std.proofs.Common.{◌≡◌, ◌++◌, take}
use Rattle.open_types.proofs.patterns.push_locals.Given as goal

abbrev pub invariant-loop-local : goal.invariant-loop-local
invariant-loop-local l = l.locals.items ≡ l.fn.locals.items ++ take l.local-index l.more
