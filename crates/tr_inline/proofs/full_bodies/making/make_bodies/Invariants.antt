use Rattle.std.proofs.Common.{◌≡◌, drop}
use Rattle.trees.specs.Node.{Grows}
use Rattle.tasks.specs.Meaning.{definitions_at}
use Rattle.inlining.specs.FullBodies.{full_rule_from, full_rule}
use Rattle.tr_inline.specs.full_bodies.FullBodies.{rule_after, AreReady}
use Rattle.tr_inline.proofs.full_bodies.making.make_bodies.Given as goal

abbrev pub invariant-loop-def : goal.invariant-loop-def
invariant-loop-def l = record {
  grows : Grows l.fn.store l.store;
  ready : AreReady l.store l.task l.bodies.items;
  rule : full_rule_from (rule_after l.store (λ e. e) l.bodies.items) (definitions_at l.fn.store (drop l.def-index l.defs)) ≡ full_rule (definitions_at l.fn.store l.defs);
}
