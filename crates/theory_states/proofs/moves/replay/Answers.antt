use Rattle.std.proofs.Common.{◌≡◌, ℕ, ◌+◌, suc, List, drop, drop-cons, get_or, add-one, sym, ap, ◌∙◌}
use Rattle.std.proofs.lemmas.List.{drop_all}
use Rattle.theory_states.specs.declared.moves.Move.{Move}
use Rattle.theory_states.specs.Moves.{moved, replayed}
use Rattle.theory_states.proofs.moves.replay.Goals as goal

pub loop-step-preserved : goal.loop-step-preserved
loop-step-preserved c =
    let ms = c.args.moves.now in
    let i = c.loop-step.step-index in
    let names = c.loop-step.scope in
    let x = c.step-item.result in
    let next : replayed (drop i ms) names ≡ replayed (drop (suc i) ms) (moved (get_or ms i x) names) = ap (λ (zs : List (Move ℕ)). replayed zs names) (drop-cons ms i x c.loop-step-test.true) in
    ap (replayed (drop (i + 1) ms)) (c.in_ok-make_move.ensures ∙ ap (λ (m : Move ℕ). moved m names) c.step-item.is) ∙ ap (λ n. replayed (drop n ms) (moved (get_or ms i x) names)) (add-one i) ∙ sym next ∙ c.loop-step.invariant

pub returns : goal.returns
returns c =
    let l = c.loop-step in
    ap (λ (zs : List (Move ℕ)). replayed zs l.scope) (sym (drop_all l.step-index c.args.moves.now c.loop-step-test.false)) ∙ l.invariant
