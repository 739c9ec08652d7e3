use Rattle.std.proofs.Common.{◌≡◌, drop}
use Rattle.tasks.specs.Roles.{maker}
use Rattle.tasks.specs.Meaning.{declarations_at}
use Rattle.tasks.proofs.lookup.find_maker.Given as goal

abbrev pub invariant-loop-decl : goal.invariant-loop-decl
invariant-loop-decl l = maker (declarations_at l.store (drop l.decl-index l.decls)) l.symbol ≡ maker (declarations_at l.store l.decls) l.symbol
