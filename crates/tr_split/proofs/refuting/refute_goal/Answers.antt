use Rattle.std.proofs.Common.{[], ◌∷◌}
use Rattle.tasks.specs.trees.Node.{tree_at}
use Rattle.tasks.specs.Task.{neg}
use Rattle.tasks.specs.Meaning.{trees_at}
use Rattle.evidence.specs.Laws.{Extends_trans, AddsTrees_extends}
use Rattle.evidence.proofs.Formulas.{same, formulas_later, one_formula}
use Rattle.evidence.specs.proof_scripts.Scripts.{lines_at}
use Rattle.evidence.proofs.proof_scripts.Following.{follows_later, lines_later, lines_same}
use Rattle.tr_split.proofs.Glued.{glued_none}
use Rattle.evidence.proofs.Ends.{end_back}
use Rattle.tr_split.proofs.refuting.refute_goal.Goals as goal

pub derive-requires-clause-front : goal.derive-requires-clause-front
derive-requires-clause-front c = formulas_later c.args.draft.now c.negation.new.draft (AddsTrees_extends _ _ c.in_ok-no_goal.ensures.grows) c.args.front.now c.requires.front

pub derive-requires-clause-tail : goal.derive-requires-clause-tail
derive-requires-clause-tail c = one_formula c.negation.new.draft c.in_ok-no_goal.no_goal c.in_ok-no_goal.ensures.formula

pub derive-requires-clause-lines : goal.derive-requires-clause-lines
derive-requires-clause-lines c = lines_later c.args.draft.now c.negation.new.draft (AddsTrees_extends _ _ c.in_ok-no_goal.ensures.grows) c.args.lines.now c.requires.lines

pub derive-requires-clause-follow : goal.derive-requires-clause-follow
derive-requires-clause-follow c =
    let d = c.args.draft.now in
    let d1 = c.negation.new.draft in
    let x = AddsTrees_extends d d1 c.in_ok-no_goal.ensures.grows in
    let h = follows_later d d1 x (trees_at d.trees c.args.front.now) (lines_at d.trees c.args.lines.now) ((neg (tree_at d.trees c.args.goal) ∷ []) ∷ []) c.requires.follow in
    rw (same d d1 x c.args.front.now c.requires.front, lines_same d d1 x c.args.lines.now c.requires.lines, c.in_ok-no_goal.ensures.tree) h

pub returns : goal.returns
returns c =
    let d = c.args.draft.now in
    let x = AddsTrees_extends d c.negation.new.draft c.in_ok-no_goal.ensures.grows in
    record {
      refutes = end_back d c.negation.new.draft x c.args.front.now c.requires.front c.derive.new.draft c.in_ok-step.step c.in_ok-no_goal.no_goal (tree_at d.trees c.args.goal) c.in_ok-no_goal.ensures.tree c.in_ok-step.ensures.refutes;
      grows = Extends_trans _ _ _ x c.in_ok-step.ensures.grows;
    }

pub returns-in_err-no_goal : goal.returns-in_err-no_goal
returns-in_err-no_goal c = glued_none _ _ _ _ c.from_residual.result _ (AddsTrees_extends _ _ c.negation.ensures.grows) c.from_residual.ensures.1

pub returns-in_err-step : goal.returns-in_err-step
returns-in_err-step c = glued_none _ _ _ _ c.from_residual-in_err-step.result _ (Extends_trans _ _ _ (AddsTrees_extends _ _ c.in_ok-no_goal.ensures.grows) c.derive.ensures.grows) c.from_residual-in_err-step.ensures.1
