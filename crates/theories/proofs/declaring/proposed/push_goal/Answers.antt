use Rattle.std.proofs.Common.{◌≡◌, Option, Some, length, sym, ap, ◌∙◌}
use Rattle.std.proofs.lemmas.Result.{IfOk-weaker}
use Rattle.tasks.specs.trees.Tree.{Tree}
use Rattle.tasks.specs.trees.Node.{tree_at}
use Rattle.tasks.specs.Meaning.{declaration_at}
use Rattle.elaboration_laws.specs.theory_states.declared.goal_tasks.theories.GoalAt.{GoalAt}
use Rattle.elaboration_laws.specs.theory_states.goal_tasks.Theories.{GoalTree}
use Rattle.elaboration_laws.specs.theory_states.goal_tasks.Meaning.{goal_at}
use Rattle.theory_states.specs.Meaning.{state_at}
use Rattle.theories.specs.declaring.Declared.{known_formula, to_prove, goals_said}
use Rattle.tasks.proofs.trees.Nodes.{Grows_refl}
use Rattle.theories.proofs.declaring.Pushed.{with_goals, no_goals, goal_pushed, goal_held}
use Rattle.theories.proofs.declaring.proposed.push_goal.Goals as goal
use Rattle.tasks.proofs.outside.Passed.{no_ok}

pub returns-clause-state : goal.returns-clause-state
returns-clause-state c =
    let s = c.args.store.now in
    let s1 = c.formula_to_prove.new.store in
    let o = c.args.open.now in
    let k = c.args.kind in
    let rigid = c.args.rigid in
    let d = c.args.decl.now in
    let n = length o.visible.keys in
    let f = tree_at s c.in-Some.formula in
    let it : GoalAt = record { name = c.in_ok-name.name; before = n; prop = c.in_ok-prop.prop; rigid = rigid } in
    let x : GoalTree = record { name = d.name; before = n; prop = to_prove k rigid f; rigid = rigid } in
    let same : goal_at s1 it ≡ x = cc (c.in_ok-name.ensures.cases, c.in_ok-prop.ensures.tree, c.as_slice.ensures) in
    let before = state_at s c.args.typed.now o in
    let said : known_formula (declaration_at s d).body ≡ Some f = sym c.in-Some.ensures.tree in
    IfOk-weaker c.add_goal.result _ _ (λ u q. goal_pushed s s1 c.formula_to_prove.ensures.grows c.args.typed.now o c.add_goal.new.open it x c.requires.state q same ∙ ap (λ (p : Option Tree). with_goals (goals_said k n rigid d.name p) before) (sym said)) c.add_goal.ensures

pub returns-clause-held : goal.returns-clause-held
returns-clause-held c =
    let it : GoalAt = record { name = c.in_ok-name.name; before = length c.args.open.now.visible.keys; prop = c.in_ok-prop.prop; rigid = c.args.rigid } in
    IfOk-weaker c.add_goal.result _ _ (λ u q. goal_held c.args.store.now c.formula_to_prove.new.store c.formula_to_prove.ensures.grows c.args.typed.now c.args.open.now c.add_goal.new.open it c.requires.state q c.in_ok-prop.ensures.held) c.add_goal.ensures

pub returns-in_err-prop-clause-state : goal.returns-in_err-prop-clause-state
returns-in_err-prop-clause-state c = no_ok _ _ c.from_residual.result c.from_residual.ensures.1

pub returns-in_err-prop-clause-held : goal.returns-in_err-prop-clause-held
returns-in_err-prop-clause-held c = no_ok _ _ c.from_residual.result c.from_residual.ensures.1

pub returns-in_err-name-clause-state : goal.returns-in_err-name-clause-state
returns-in_err-name-clause-state c = no_ok _ _ c.from_residual-in_err-name.result c.from_residual-in_err-name.ensures.1

pub returns-in_err-name-clause-held : goal.returns-in_err-name-clause-held
returns-in_err-name-clause-held c = no_ok _ _ c.from_residual-in_err-name.result c.from_residual-in_err-name.ensures.1

pub formula_of-requires : goal.formula_of-requires
formula_of-requires c = c.requires.decl

pub returns-in_default-clause-held : goal.returns-in_default-clause-held
returns-in_default-clause-held c = c.requires.state

pub returns-in_default-clause-grows : goal.returns-in_default-clause-grows
returns-in_default-clause-grows c = Grows_refl c.args.store.now

pub formula_to_prove-requires : goal.formula_to_prove-requires
formula_to_prove-requires c = c.in-Some.ensures.held

pub returns-in_err-prop-clause-grows : goal.returns-in_err-prop-clause-grows
returns-in_err-prop-clause-grows c = c.formula_to_prove.ensures.grows

pub returns-in_err-name-clause-grows : goal.returns-in_err-name-clause-grows
returns-in_err-name-clause-grows c = c.formula_to_prove.ensures.grows

pub returns-clause-grows : goal.returns-clause-grows
returns-clause-grows c = c.formula_to_prove.ensures.grows

pub returns-in_default-clause-state : goal.returns-in_default-clause-state
returns-in_default-clause-state c =
    let s = c.args.store.now in
    let o = c.args.open.now in
    let before = state_at s c.args.typed.now o in
    let name = (declaration_at s c.args.decl.now).name in
    no_goals before ∙ ap (λ (p : Option Tree). with_goals (goals_said c.args.kind (length o.visible.keys) c.args.rigid name p) before) c.in_default.ensures.tree
