use Rattle.std.proofs.Common.{◌≡◌, ◌∙◌}
use Rattle.std.proofs.lemmas.Result.{IfOk-weaker}
use Rattle.trees.specs.Node.{tree_at}
use Rattle.tasks.specs.Task.{neg}
use Rattle.evidence.specs.Laws.{Extends_trans, AddsTrees_extends}
use Rattle.evidence.proofs.Formulas.{forth, formulas_later, formula_later, one_formula}
use Rattle.evidence.proofs.Ends.{end_back}
use Rattle.tr_introduce.specs.Steps.{negation_rule}
use Rattle.tr_introduce.proofs.Opening.{negation_names, opened_added}
use Rattle.tr_introduce.proofs.refuting.refute_negated.Goals as goal
use Rattle.outside.proofs.Passed.{no_value}

pub negation-requires : goal.negation-requires
negation-requires c = c.requires.goal

pub keep_but-requires-clause-front : goal.keep_but-requires-clause-front
keep_but-requires-clause-front c = formulas_later c.args.draft.now c.negation.new.draft (AddsTrees_extends _ _ c.in_ok-no_goal.ensures.grows) c.args.front.now c.requires.front

pub keep_but-requires-clause-middle : goal.keep_but-requires-clause-middle
keep_but-requires-clause-middle c = one_formula c.negation.new.draft c.in_ok-no_goal.no_goal c.in_ok-no_goal.ensures.formula

pub keep_but-requires-clause-last : goal.keep_but-requires-clause-last
keep_but-requires-clause-last c = formulas_later c.args.draft.now c.negation.new.draft (AddsTrees_extends _ _ c.in_ok-no_goal.ensures.grows) c.args.added.now c.requires.added

pub keep_but-requires-clause-step : goal.keep_but-requires-clause-step
keep_but-requires-clause-step c =
    forth c.args.draft.now c.negation.new.draft (AddsTrees_extends _ _ c.in_ok-no_goal.ensures.grows) c.args.front.now c.args.added.now c.requires.front c.requires.added c.args.step c.requires.step

pub by_rule-requires-clause-front : goal.by_rule-requires-clause-front
by_rule-requires-clause-front c =
    let d = c.args.draft.now in
    let d2 = c.keep_but.new.draft in
    let x = Extends_trans d c.negation.new.draft d2 (AddsTrees_extends _ _ c.in_ok-no_goal.ensures.grows) c.in_ok-kept.ensures.grows in
    formulas_later d d2 x c.args.front.now c.requires.front

pub by_rule-requires-clause-tail : goal.by_rule-requires-clause-tail
by_rule-requires-clause-tail c =
    let g = c.in_ok-no_goal.no_goal in
    one_formula c.keep_but.new.draft g (formula_later c.negation.new.draft c.keep_but.new.draft c.in_ok-kept.ensures.grows g c.in_ok-no_goal.ensures.formula)

pub by_rule-requires-clause-held : goal.by_rule-requires-clause-held
by_rule-requires-clause-held c = c.negation_rule-rule.ensures.held c.keep_but.new.draft.trees

pub by_rule-requires-clause-names : goal.by_rule-requires-clause-names
by_rule-requires-clause-names c = rw (c.negation_rule-rule.ensures.tree c.keep_but.new.draft.trees) (negation_names c.keep_but.new.draft.task c.args.opening _)

pub by_rule-requires-clause-added : goal.by_rule-requires-clause-added
by_rule-requires-clause-added c =
    let d = c.args.draft.now in
    let d1 = c.negation.new.draft in
    let d2 = c.keep_but.new.draft in
    let x1 = AddsTrees_extends d d1 c.in_ok-no_goal.ensures.grows in
    let x2 = c.in_ok-kept.ensures.grows in
    rw (c.negation_rule-rule.ensures.tree d2.trees) (opened_added d d1 d2 x1 x2 c.args.front.now c.args.added.now c.args.goal c.in_ok-no_goal.no_goal c.requires.front c.requires.added c.in_ok-no_goal.ensures.formula.held c.in_ok-no_goal.ensures.tree
    (negation_rule c.args.opening _) c.in_ok-kept.kept c.requires.opens c.in_ok-kept.ensures.refutes)

pub returns-clause-refutes : goal.returns-clause-refutes
returns-clause-refutes c =
    let d = c.args.draft.now in
    let d2 = c.keep_but.new.draft in
    let x2 = c.in_ok-kept.ensures.grows in
    let x = Extends_trans d c.negation.new.draft d2 (AddsTrees_extends _ _ c.in_ok-no_goal.ensures.grows) x2 in
    let e : tree_at d2.trees c.in_ok-no_goal.no_goal ≡ neg (tree_at d.trees c.args.goal) = x2.trees.same c.in_ok-no_goal.no_goal.0 c.in_ok-no_goal.ensures.formula.held ∙ c.in_ok-no_goal.ensures.tree in
    IfOk-weaker c.by_rule.result _ _ (λ k r. end_back d d2 x c.args.front.now c.requires.front c.by_rule.new.draft k c.in_ok-no_goal.no_goal (tree_at d.trees c.args.goal) e r) c.by_rule.ensures.refutes

pub returns-clause-grows : goal.returns-clause-grows
returns-clause-grows c = Extends_trans _ _ _ (Extends_trans _ _ _ (AddsTrees_extends _ _ c.in_ok-no_goal.ensures.grows) c.in_ok-kept.ensures.grows) c.by_rule.ensures.grows

pub returns-in_err-no_goal : goal.returns-in_err-no_goal
returns-in_err-no_goal c = record { refutes = no_value _ _ c.from_residual.result c.from_residual.ensures.1; grows = AddsTrees_extends _ _ c.negation.ensures.grows }

pub returns-in_err-kept : goal.returns-in_err-kept
returns-in_err-kept c = record {
  refutes = no_value _ _ c.from_residual-in_err-kept.result c.from_residual-in_err-kept.ensures.1;
  grows = Extends_trans _ _ _ (AddsTrees_extends _ _ c.in_ok-no_goal.ensures.grows) c.keep_but.ensures.grows;
}
