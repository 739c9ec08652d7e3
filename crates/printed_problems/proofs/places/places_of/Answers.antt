use Rattle.std.proofs.Common.{ℕ, ◌++◌, get_or, Vec, Global, sym, ap, ◌∙◌}
use Rattle.std.proofs.lemmas.List.{append-nil}
use Rattle.trees.specs.Tree.{Leaf, HEnd}
use Rattle.tasks.specs.Meaning.{task_at}
use Rattle.printed_problems.specs.Tests.{asks, place_if}
use Rattle.printed_problems.proofs.Placing.{places_step}
use Rattle.printed_problems.proofs.places.places_of.Goals.{then-asks+in_ok-push, else-asks}
use Rattle.printed_problems.proofs.places.places_of.Goals as goal
use Rattle.tasks.proofs.outside.Passed.{no_value}

pub loop-place-preserved : goal.loop-place-preserved
loop-place-preserved c s =
    let no_key : ℕ × ℕ = (0, 0) in
    let keys = c.as_slice-keys.result.now in
    let i = c.loop-place.place in
    let test = asks c.args.question c.args.driver.now (task_at s c.args.task.now) in
    let told = c.asks.ensures s (get_or s (get_or keys i no_key).1 (Leaf HEnd)) in
    let old = c.loop-place.places.items in
    let step = places_step test s keys i no_key old c.if-asks.places.items _ c.loop-place-test.true in
    elim c.if-asks.branch [
      | then-asks+in_ok-push w ↦ step (ap (λ (v : Vec ℕ Global). v.items) w.places-is ∙ w.in_ok-push.ensures.items ∙ ap (λ b. old ++ place_if i b) (sym w.if-asks.true ∙ told)) (c.loop-place.invariant s)
      | else-asks w ↦ step (ap (λ (v : Vec ℕ Global). v.items) w.places-is ∙ sym (append-nil old) ∙ ap (λ b. old ++ place_if i b) (sym w.if-asks.false ∙ told)) (c.loop-place.invariant s)
    ]

pub returns-in_err-push : goal.returns-in_err-push
returns-in_err-push c = no_value _ _ c.from_residual.result c.from_residual.ensures.1
