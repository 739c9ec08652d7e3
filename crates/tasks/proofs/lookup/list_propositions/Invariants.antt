use Rattle.std.proofs.Common.{length}
use Rattle.tasks.proofs.Listed.{PropsSoFar, FactsSoFar}
use Rattle.tasks.proofs.lookup.list_propositions.Given as goal

abbrev pub invariant-loop-decl : goal.invariant-loop-decl
invariant-loop-decl l = PropsSoFar l.decls l.decl-index l.props.items × FactsSoFar l.decls l.decl-index (length l.props.items) l.facts.items
