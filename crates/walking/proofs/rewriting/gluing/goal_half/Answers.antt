use Rattle.evidence.specs.Laws.{Extends_trans, AddsTrees_extends}
use Rattle.evidence.proofs.Owned.{own_goal}
use Rattle.walking.proofs.rewriting.Starts.{goal_below}
use Rattle.walking.proofs.rewriting.Halves.{goal_there, image_there, no_goal_there, no_goal_is, negated_is, back_there, goal_made}
use Rattle.walking.proofs.rewriting.gluing.goal_half.Goals as goal

pub rewrite-requires-clause-ready : goal.rewrite-requires-clause-ready
rewrite-requires-clause-ready g c = c.requires.can.is_ready

pub rewrite-requires-clause-own : goal.rewrite-requires-clause-own
rewrite-requires-clause-own g c = c.requires.can.own

pub rewrite-requires-clause-formula : goal.rewrite-requires-clause-formula
rewrite-requires-clause-formula g c = own_goal c.args.draft.now c.args.from.now c.requires.can.own

pub rewrite-requires-clause-below : goal.rewrite-requires-clause-below
rewrite-requires-clause-below g c = goal_below c.args.draft.now c.args.from.now c.args.no_goal (g.F.RewriteFormulas.Ready c.args.rewrite.now) c.requires.can

pub negation-requires : goal.negation-requires
negation-requires g c = c.in_ok-made.ensures.formula

pub returns-in_err-negated-clause-grows : goal.returns-in_err-negated-clause-grows
returns-in_err-negated-clause-grows g c = Extends_trans _ _ _ c.in_ok-made.ensures.grows (AddsTrees_extends _ _ c.negation.ensures.grows)

pub negate_half-requires-clause-a : goal.negate_half-requires-clause-a
negate_half-requires-clause-a g c =
    goal_there (g.F.RewriteFormulas.Ready c.args.rewrite.now) (g.F.RewriteFormulas.function c.args.rewrite.now) c.args.draft.now c.rewrite.new.draft c.args.from.now c.args.no_goal c.requires.can c.negation.new.draft c.in_ok-made.ensures.grows
    (AddsTrees_extends _ _ c.in_ok-negated.ensures.grows) c.in_ok-made.made.image c.in_ok-made.ensures.formula c.in_ok-made.ensures.image c.in_ok-negated.negated c.in_ok-negated.ensures.formula c.in_ok-negated.ensures.tree

pub negate_half-requires-clause-b : goal.negate_half-requires-clause-b
negate_half-requires-clause-b g c =
    image_there (g.F.RewriteFormulas.Ready c.args.rewrite.now) (g.F.RewriteFormulas.function c.args.rewrite.now) c.args.draft.now c.rewrite.new.draft c.args.from.now c.args.no_goal c.requires.can c.negation.new.draft c.in_ok-made.ensures.grows
    (AddsTrees_extends _ _ c.in_ok-negated.ensures.grows) c.in_ok-made.made.image c.in_ok-made.ensures.formula c.in_ok-made.ensures.image c.in_ok-negated.negated c.in_ok-negated.ensures.formula c.in_ok-negated.ensures.tree

pub negate_half-requires-clause-no_a : goal.negate_half-requires-clause-no_a
negate_half-requires-clause-no_a g c =
    no_goal_there (g.F.RewriteFormulas.Ready c.args.rewrite.now) (g.F.RewriteFormulas.function c.args.rewrite.now) c.args.draft.now c.rewrite.new.draft c.args.from.now c.args.no_goal c.requires.can c.negation.new.draft c.in_ok-made.ensures.grows
    (AddsTrees_extends _ _ c.in_ok-negated.ensures.grows) c.in_ok-made.made.image c.in_ok-made.ensures.formula c.in_ok-made.ensures.image c.in_ok-negated.negated c.in_ok-negated.ensures.formula c.in_ok-negated.ensures.tree

pub negate_half-requires-clause-no_b : goal.negate_half-requires-clause-no_b
negate_half-requires-clause-no_b g c = c.in_ok-negated.ensures.formula

pub negate_half-requires-clause-no_a_is : goal.negate_half-requires-clause-no_a_is
negate_half-requires-clause-no_a_is g c =
    no_goal_is (g.F.RewriteFormulas.Ready c.args.rewrite.now) (g.F.RewriteFormulas.function c.args.rewrite.now) c.args.draft.now c.rewrite.new.draft c.args.from.now c.args.no_goal c.requires.can c.negation.new.draft c.in_ok-made.ensures.grows
    (AddsTrees_extends _ _ c.in_ok-negated.ensures.grows) c.in_ok-made.made.image c.in_ok-made.ensures.formula c.in_ok-made.ensures.image c.in_ok-negated.negated c.in_ok-negated.ensures.formula c.in_ok-negated.ensures.tree

pub negate_half-requires-clause-no_b_is : goal.negate_half-requires-clause-no_b_is
negate_half-requires-clause-no_b_is g c =
    negated_is (g.F.RewriteFormulas.Ready c.args.rewrite.now) (g.F.RewriteFormulas.function c.args.rewrite.now) c.args.draft.now c.rewrite.new.draft c.args.from.now c.args.no_goal c.requires.can c.negation.new.draft c.in_ok-made.ensures.grows
    (AddsTrees_extends _ _ c.in_ok-negated.ensures.grows) c.in_ok-made.made.image c.in_ok-made.ensures.formula c.in_ok-made.ensures.image c.in_ok-negated.negated c.in_ok-negated.ensures.formula c.in_ok-negated.ensures.tree

pub negate_half-requires-clause-back : goal.negate_half-requires-clause-back
negate_half-requires-clause-back g c =
    back_there (g.F.RewriteFormulas.Ready c.args.rewrite.now) (g.F.RewriteFormulas.function c.args.rewrite.now) c.args.draft.now c.rewrite.new.draft c.args.from.now c.args.no_goal c.requires.can c.negation.new.draft c.in_ok-made.ensures.grows
    (AddsTrees_extends _ _ c.in_ok-negated.ensures.grows) c.in_ok-made.made.image c.in_ok-made.ensures.formula c.in_ok-made.ensures.image c.in_ok-negated.negated c.in_ok-negated.ensures.formula c.in_ok-negated.ensures.tree c.in_ok-made.made.back c.in_ok-made.ensures.back

pub returns-in_err-step-clause-grows : goal.returns-in_err-step-clause-grows
returns-in_err-step-clause-grows g c = Extends_trans _ _ _ (Extends_trans _ _ _ c.in_ok-made.ensures.grows (AddsTrees_extends _ _ c.in_ok-negated.ensures.grows)) c.negate_half.ensures.grows

pub returns-clause-half : goal.returns-clause-half
returns-clause-half g c =
    goal_made (g.F.RewriteFormulas.Ready c.args.rewrite.now) (g.F.RewriteFormulas.function c.args.rewrite.now) c.args.draft.now c.rewrite.new.draft c.args.from.now c.args.no_goal c.requires.can c.negation.new.draft c.in_ok-made.ensures.grows
    (AddsTrees_extends _ _ c.in_ok-negated.ensures.grows) c.in_ok-made.made.image c.in_ok-made.ensures.formula c.in_ok-made.ensures.image c.in_ok-negated.negated c.in_ok-negated.ensures.formula c.in_ok-negated.ensures.tree c.negate_half.new.draft c.in_ok-step.ensures.grows
    c.in_ok-step.step c.in_ok-step.ensures.refutes

pub returns-clause-grows : goal.returns-clause-grows
returns-clause-grows g c = Extends_trans _ _ _ (Extends_trans _ _ _ c.in_ok-made.ensures.grows (AddsTrees_extends _ _ c.in_ok-negated.ensures.grows)) c.in_ok-step.ensures.grows
