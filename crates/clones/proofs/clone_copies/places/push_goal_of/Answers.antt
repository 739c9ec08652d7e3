use Rattle.std.proofs.Common.{◌≡◌, ℕ, List, length, ap, ◌∙◌}
use Rattle.tasks.proofs.trees.Nodes.{Grows_refl}
use Rattle.tasks.specs.trees.Node.{tree_at}
use Rattle.tasks.specs.trees.Binding.{inst_types}
use Rattle.theory_states.specs.declared.goal_tasks.theories.GoalAt.{GoalAt}
use Rattle.theory_states.specs.goal_tasks.Meaning.{goal_at}
use Rattle.clones.specs.clone_copies.Places.{next_numbers, rigid_types, goal_of}
use Rattle.clones.proofs.clone_copies.Pushed.{goal_pushed, goal_held}
use Rattle.clones.proofs.clone_copies.places.push_goal_of.Goals as goal
use Rattle.tasks.proofs.outside.Passed.{no_ok}

pub returns-clause-state : goal.returns-clause-state
returns-clause-state c =
    let s = c.args.store.now in
    let t = c.at_rigid.new.store in
    let x = c.args.typed.now in
    let o = c.args.open.now in
    let vars = c.args.vars.now in
    let name = c.args.name.now in
    let e = tree_at s c.args.formula in
    let made : GoalAt = record { name = c.in_ok-name.name; before = c.len-before.result; prop = c.in_ok-prop.prop; rigid = c.from_vec-rigid.result } in
    let numbers : c.push_rigid.new.numbers.items ≡ next_numbers (length x.sig.symbols) vars = rw c.new-numbers.ensures.items at c.in_ok-push_rigid.ensures.numbers in
    let prop : tree_at t c.in_ok-prop.prop ≡ inst_types e (rigid_types (next_numbers (length x.sig.symbols) vars)) = c.in_ok-prop.ensures.tree ∙ ap (λ (ks : List ℕ). inst_types e (rigid_types ks)) (c.as_slice.ensures.value ∙ numbers) in
    let rigid : c.from_vec-rigid.result ≡ next_numbers (length x.sig.symbols) vars = c.from_vec-rigid.ensures ∙ numbers in
    let is : goal_at t made ≡ goal_of name (length o.visible.keys) e (next_numbers (length x.sig.symbols) vars) = λ i. record { name = c.in_ok-name.ensures.cases i; before = c.len-before.ensures.len i; prop = prop i; rigid = rigid i } in
    goal_pushed s t c.at_rigid.ensures.grows x o c.requires.held c.push_rigid.new.sig vars c.in_ok-push_rigid.ensures.entries c.push.new.self made c.in_ok-push.ensures.ok name e is

pub returns-clause-held : goal.returns-clause-held
returns-clause-held c =
    let made : GoalAt = record { name = c.in_ok-name.name; before = c.len-before.result; prop = c.in_ok-prop.prop; rigid = c.from_vec-rigid.result } in
    goal_held c.args.store.now c.at_rigid.new.store c.at_rigid.ensures.grows c.args.typed.now c.args.open.now c.requires.held c.push_rigid.new.sig c.args.vars.now c.in_ok-push_rigid.ensures.entries c.push.new.self made c.in_ok-push.ensures.ok c.in_ok-prop.ensures.held

pub returns-in_err-push_rigid-clause-state : goal.returns-in_err-push_rigid-clause-state
returns-in_err-push_rigid-clause-state c = no_ok _ _ c.from_residual.result c.from_residual.ensures.1

pub returns-in_err-push_rigid-clause-held : goal.returns-in_err-push_rigid-clause-held
returns-in_err-push_rigid-clause-held c = no_ok _ _ c.from_residual.result c.from_residual.ensures.1

pub returns-in_err-prop-clause-state : goal.returns-in_err-prop-clause-state
returns-in_err-prop-clause-state c = no_ok _ _ c.from_residual-in_err-prop.result c.from_residual-in_err-prop.ensures.1

pub returns-in_err-prop-clause-held : goal.returns-in_err-prop-clause-held
returns-in_err-prop-clause-held c = no_ok _ _ c.from_residual-in_err-prop.result c.from_residual-in_err-prop.ensures.1

pub returns-in_err-name-clause-state : goal.returns-in_err-name-clause-state
returns-in_err-name-clause-state c = no_ok _ _ c.from_residual-in_err-name.result c.from_residual-in_err-name.ensures.1

pub returns-in_err-name-clause-held : goal.returns-in_err-name-clause-held
returns-in_err-name-clause-held c = no_ok _ _ c.from_residual-in_err-name.result c.from_residual-in_err-name.ensures.1

pub returns-in_err-push-clause-state : goal.returns-in_err-push-clause-state
returns-in_err-push-clause-state c = no_ok _ _ c.from_residual-in_err-push.result c.from_residual-in_err-push.ensures.1

pub returns-in_err-push-clause-held : goal.returns-in_err-push-clause-held
returns-in_err-push-clause-held c = no_ok _ _ c.from_residual-in_err-push.result c.from_residual-in_err-push.ensures.1

pub returns-in_err-push_rigid-clause-grows : goal.returns-in_err-push_rigid-clause-grows
returns-in_err-push_rigid-clause-grows c = Grows_refl c.args.store.now

pub returns-in_err-prop-clause-grows : goal.returns-in_err-prop-clause-grows
returns-in_err-prop-clause-grows c = c.at_rigid.ensures.grows

pub returns-in_err-name-clause-grows : goal.returns-in_err-name-clause-grows
returns-in_err-name-clause-grows c = c.at_rigid.ensures.grows

pub returns-in_err-push-clause-grows : goal.returns-in_err-push-clause-grows
returns-in_err-push-clause-grows c = c.at_rigid.ensures.grows

pub returns-clause-grows : goal.returns-clause-grows
returns-clause-grows c = c.at_rigid.ensures.grows
