use Rattle.std.proofs.Common.{ℕ, ◌<◌, List, [], ◌∷◌, ◌++◌, length, get_or, slice_index_or, ap, sym, ◌∙◌, arith, rules}
use Rattle.std.proofs.lemmas.List.{map_more}
use Rattle.printed_problems.proofs.checked.keys_at.Goals as goal

pub offset_bounds-keys-place : goal.offset_bounds-keys-place
offset_bounds-keys-place c =
    let within : slice_index_or c.args.places.now c.loop-place.place-index 0 < length c.as_slice-keys.result.now =
    omega (arith, ap length c.as_slice-keys.ensures, c.requires c.loop-place.place-index 0 c.loop-place-test.true) in
    search rules

pub bounds-keys-place : goal.bounds-keys-place
bounds-keys-place c = omega (arith, ap length c.as_slice-keys.ensures, c.requires c.loop-place.place-index 0 c.loop-place-test.true)

pub loop-place-preserved : goal.loop-place-preserved
loop-place-preserved c =
    let keys = c.as_slice-keys.result.now in
    let no_key : ℕ × ℕ = (0, 0) in
    let key : ℕ → ℕ × ℕ = λ place. get_or keys place no_key in
    c.in_ok-push.ensures.items ∙ ap (λ z. z ++ key (get_or c.args.places.now c.loop-place.place-index 0) ∷ []) c.loop-place.invariant ∙ sym (map_more key c.args.places.now c.loop-place.place-index 0 c.loop-place-test.true)
