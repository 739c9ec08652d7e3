use Rattle.std.proofs.Common.{◌≡◌, ℕ, ◌<◌, List, true, false, length, get_or, slice_index_or, sym, ap, ◌∙◌, arith, rules}
use Rattle.std.proofs.lemmas.List.{drop_all}
use Rattle.name_tables.specs.Seen.{occurrence_at, seen_occurrences, has}
use Rattle.printed_problems.specs.Faults.{at_place}
use Rattle.printed_problems.specs.Checks.{is_seen, first_where}
use Rattle.printed_problems.proofs.Finding.{bare_within, first_later, first_here}
use Rattle.printed_problems.proofs.checks.check_bare.Goals as goal

pub offset_bounds-keys-place : goal.offset_bounds-keys-place
offset_bounds-keys-place c =
    let within : slice_index_or c.args.c.now.bare.now c.loop-place.place-index 0 < length c.as_slice-keys.result.now =
    omega (arith, ap length c.as_slice-keys.ensures, bare_within c.args.c.now c.requires.can c.loop-place.place-index 0 c.loop-place-test.true) in
    search rules

pub bounds-keys-place : goal.bounds-keys-place
bounds-keys-place c = omega (arith, ap length c.as_slice-keys.ensures, bare_within c.args.c.now c.requires.can c.loop-place.place-index 0 c.loop-place-test.true)

pub loop-place-preserved : goal.loop-place-preserved
loop-place-preserved c =
    let s = c.args.c.now.store.now in
    let things = c.args.c.now.things.now in
    let bare = c.args.c.now.bare.now in
    let os = seen_occurrences s c.args.seen.now in
    let no_key : ℕ × ℕ = (0, 0) in
    let place = get_or bare c.loop-place.place-index 0 in
    let off : is_seen s things os place ≡ false = sym (ap (λ (z : List (ℕ × ℕ)). has os (occurrence_at s (get_or z place no_key))) c.as_slice-keys.ensures) ∙ sym c.contains.ensures ∙ c.if-contains.false in
    first_later (is_seen s things os) bare c.loop-place.place-index 0 _ c.loop-place-test.true off c.loop-place.invariant

pub returns-then-contains : goal.returns-then-contains
returns-then-contains c =
    let s = c.args.c.now.store.now in
    let things = c.args.c.now.things.now in
    let bare = c.args.c.now.bare.now in
    let os = seen_occurrences s c.args.seen.now in
    let no_key : ℕ × ℕ = (0, 0) in
    let place = get_or bare c.loop-place.place-index 0 in
    let on : is_seen s things os place ≡ true = sym (ap (λ (z : List (ℕ × ℕ)). has os (occurrence_at s (get_or z place no_key))) c.as_slice-keys.ensures) ∙ sym c.contains.ensures ∙ c.if-contains.true in
    ap at_place (first_here (is_seen s things os) bare c.loop-place.place-index 0 _ c.loop-place-test.true on c.loop-place.invariant)

pub returns : goal.returns
returns c =
    let h = is_seen c.args.c.now.store.now c.args.c.now.things.now (seen_occurrences c.args.c.now.store.now c.args.seen.now) in
    ap at_place (sym c.loop-place.invariant ∙ ap (first_where h) (drop_all c.loop-place.place-index c.args.c.now.bare.now c.loop-place-test.false))
