use Rattle.evidence.specs.Laws.{AddsTrees_extends}
use Rattle.walking.proofs.rewriting.Ends.{can_glue}
use Rattle.walking.proofs.rewriting.gluing.glue_rewritten.Goals as goal

pub glue_locals-requires-clause-can : goal.glue_locals-requires-clause-can
glue_locals-requires-clause-can g c =
    can_glue (g.F.RewriteFormulas.Ready c.args.rewrite.now) (g.met.F.RewriteFormulas.stays_ready c.args.rewrite.now) c.args.draft.now c.negation.new.draft (AddsTrees_extends _ _ c.in_ok-no_goal.ensures.grows) c.args.from.now c.requires.ready c.requires.own
    c.in_ok-no_goal.no_goal c.in_ok-no_goal.ensures.formula c.in_ok-no_goal.ensures.tree

pub glue_goal-requires-clause-can : goal.glue_goal-requires-clause-can
glue_goal-requires-clause-can g c =
    can_glue (g.F.RewriteFormulas.Ready c.args.rewrite.now) (g.met.F.RewriteFormulas.stays_ready c.args.rewrite.now) c.args.draft.now c.negation.new.draft (AddsTrees_extends _ _ c.in_ok-no_goal.ensures.grows) c.args.from.now c.requires.ready c.requires.own
    c.in_ok-no_goal.no_goal c.in_ok-no_goal.ensures.formula c.in_ok-no_goal.ensures.tree
