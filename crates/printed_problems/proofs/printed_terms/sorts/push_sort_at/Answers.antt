use Rattle.std.proofs.Common.{◌<◌, ℕ, List, length, slice_get, OnOk, sym, ap, subst, ◌∙◌, arith}
use Rattle.name_tables.specs.Seen.{occurrence_at, seen_occurrences}
use Rattle.printed_problems.specs.printed_terms.Ranks.{sort_of_thing}
use Rattle.printed_problems.specs.printed_terms.Meaning.{printing, Appends}
use Rattle.printed_problems.proofs.printed_terms.Pieces.{get_mapped}
use Rattle.printed_problems.proofs.printed_terms.sorts.push_sort_at.Goals as goal

pub returns : goal.returns
returns c =
    let s = c.args.c.now.store.now in
    let keys = c.as_slice-keys.result.now in
    let h : c.args.place < length keys = omega (arith, c.if-place-keys.false) in
    subst (λ z. OnOk c.push_sort_of_thing.result (Appends c.args.out.now.items z c.push_sort_of_thing.new.out.items))
    (ap (sort_of_thing (printing c.args.c.now) c.args.place) (sym (get_mapped (occurrence_at s) keys c.args.place _ h) ∙ ap (λ (ks : List (ℕ × ℕ)). slice_get (seen_occurrences s ks) c.args.place) c.as_slice-keys.ensures)) c.push_sort_of_thing.ensures
