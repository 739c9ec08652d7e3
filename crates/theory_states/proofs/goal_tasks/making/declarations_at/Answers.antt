use Rattle.std.proofs.Common.{◌<◌, ◌++◌, List, length, get_or, slice_get, option_to_list, refl, sym, ap, ◌∙◌, arith, ◌≡◌, ℕ, min, take}
use Rattle.std.proofs.lemmas.List.{take_min}
use Rattle.tasks.specs.declared.declaration.Decl.{Decl}
use Rattle.theory_states.specs.goal_tasks.Meaning.{placed}
use Rattle.theory_states.proofs.goal_tasks.Placed.{placed_more}
use Rattle.theory_states.proofs.goal_tasks.making.declarations_at.Goals as goal
use Rattle.tasks.proofs.outside.Passed.{no_value}

pub loop-at-preserved : goal.loop-at-preserved
loop-at-preserved c =
    let ds = c.args.decls.now in
    let ks = c.args.places.now in
    let i = c.loop-at.at in
    let within : i < length ks = omega (arith, c.min-end.ensures, c.loop-at-test.true) in
    c.in_ok-push_placed.ensures ∙ ap (λ (z : List Decl). z ++ option_to_list (slice_get ds (get_or ks i 0))) c.loop-at.invariant ∙ sym (placed_more ds ks i (get_or ks i 0) within refl)

pub returns-in_err-push_placed : goal.returns-in_err-push_placed
returns-in_err-push_placed c = no_value _ _ c.from_residual.result c.from_residual.ensures.1

pub returns : goal.returns
returns c =
    let ds = c.args.decls.now in
    let ks = c.args.places.now in
    let l = c.loop-at in
    let end : l.at ≡ min c.args.count (length ks) = omega (arith, c.min-end.ensures, c.loop-at-test.false) in
    l.invariant ∙ ap (λ (n : ℕ). placed ds (take n ks)) end ∙ ap (placed ds) (take_min c.args.count ks)
