use Rattle.std.proofs.Common.{take}
use Rattle.printed_problems.specs.Made.{AreNumberedFacts}
use Rattle.printed_problems.proofs.making.facts_of.Given as goal

abbrev pub invariant-loop-decl : goal.invariant-loop-decl
invariant-loop-decl l = AreNumberedFacts l.store (take l.decl-index l.decls) l.facts
