use Rattle.std.proofs.Common.{length}
use Rattle.tr_inline.specs.Passed.{IsPartlyInlined}
use Rattle.tr_inline.proofs.passes.inline_link.Given as goal

abbrev pub invariant-loop-def : goal.invariant-loop-def
invariant-loop-def l = IsPartlyInlined l.fn.draft l.draft l.formula l.fresh l.fn.defs.items l.left.items l.made

abbrev pub decreases-loop-def : goal.decreases-loop-def
decreases-loop-def l = length l.left.items
