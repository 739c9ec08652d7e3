use Rattle.std.proofs.Common.{◌≡◌, ◌+◌, ◌-◌, ◌<◌, true, false, length, map, take, reverse, get_or, Some, sym, ap, subst, ◌∙◌, arith}
use Rattle.std.specs.List.{find}
use Rattle.std.proofs.lemmas.List.{get_or_read}
use Rattle.theory_states.specs.declared.goal_tasks.theories.GoalAt.{GoalAt}
use Rattle.theory_states.specs.goal_tasks.Theories.{has_name}
use Rattle.theory_states.specs.goal_tasks.Meaning.{goal_at, GoalHeld}
use Rattle.theory_states.proofs.goal_tasks.Placed.{find_back_none, find_back_here}
use Rattle.theory_states.proofs.goal_tasks.theories.find_goal.Goals as goal

pub returns-then-has_name-clause-tree : goal.returns-then-has_name-clause-tree
returns-then-has_name-clause-tree c =
    let f = goal_at c.args.store.now in
    let p = has_name c.args.name.now in
    let xs = c.args.goals.now in
    let i = c.loop-left.left - 1 in
    let x = c.index-goals-left.result in
    let y = c.index-goals-left-then-has_name.result in
    let within : i < length xs = omega (arith, c.loop-left.invariant.within, c.loop-left-test.true) in
    let back : i + 1 ≡ c.loop-left.left = omega (arith, c.loop-left-test.true) in
    let here : p (f (get_or xs i y)) ≡ true = ap (λ (g : GoalAt). p (f g)) (sym (get_or_read xs i x within c.index-goals-left.is y)) ∙ sym c.has_name.ensures ∙ c.if-has_name.true in
    ap (λ (g : GoalAt). Some (f g)) c.index-goals-left-then-has_name.is ∙ sym (find_back_here p f xs i y within here) ∙ ap (λ n. find p (reverse (map f (take n xs)))) back ∙ c.loop-left.invariant.rest

pub returns-then-has_name-clause-held : goal.returns-then-has_name-clause-held
returns-then-has_name-clause-held c =
    let P = GoalHeld c.args.store.now in
    let i = c.loop-left.left - 1 in
    let y = c.index-goals-left-then-has_name.result in
    let within : i < length c.args.goals.now = omega (arith, c.loop-left.invariant.within, c.loop-left-test.true) in
    let h : P y = subst P (sym c.index-goals-left-then-has_name.is) (c.requires i y within) in
    h

pub loop-left-preserved : goal.loop-left-preserved
loop-left-preserved c =
    let f = goal_at c.args.store.now in
    let p = has_name c.args.name.now in
    let xs = c.args.goals.now in
    let i = c.loop-left.left - 1 in
    let x = c.index-goals-left.result in
    let within : i < length xs = omega (arith, c.loop-left.invariant.within, c.loop-left-test.true) in
    let back : i + 1 ≡ c.loop-left.left = omega (arith, c.loop-left-test.true) in
    let past : p (f (get_or xs i x)) ≡ false = ap (λ (g : GoalAt). p (f g)) (sym c.index-goals-left.is) ∙ sym c.has_name.ensures ∙ c.if-has_name.false in
    record {
      within = omega (arith, within);
      rest = sym (find_back_none p f xs i x within past) ∙ ap (λ n. find p (reverse (map f (take n xs)))) back ∙ c.loop-left.invariant.rest;
    }

pub returns-clause-tree : goal.returns-clause-tree
returns-clause-tree c =
    let f = goal_at c.args.store.now in
    let p = has_name c.args.name.now in
    let xs = c.args.goals.now in
    let none : 0 ≡ c.loop-left.left = omega (arith, c.loop-left-test.false) in
    ap (λ n. find p (reverse (map f (take n xs)))) none ∙ c.loop-left.invariant.rest
