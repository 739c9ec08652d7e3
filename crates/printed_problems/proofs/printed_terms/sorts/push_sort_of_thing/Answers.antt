use Rattle.std.proofs.Common.{◌≡◌, map, List, OnOk, sym, ap, subst, ◌∙◌}
use Rattle.trees.specs.declared.TermId.{TermId}
use Rattle.tasks.specs.Meaning.{trees_at}
use Rattle.name_tables.specs.Seen.{occurrence_at}
use Rattle.printed_problems.specs.printed_terms.Texts.{sort_by, printed_sort, sort_text}
use Rattle.printed_problems.specs.printed_terms.Meaning.{printing, Appends}
use Rattle.printed_problems.proofs.printed_terms.Members.{sort_members}
use Rattle.printed_problems.proofs.printed_terms.sorts.push_sort_of_thing.Goals as goal

pub returns : goal.returns
returns c =
    let s = c.args.c.now.store.now in
    let p = printing c.args.c.now in
    let types = (occurrence_at s c.args.key).types in
    let texts : map (sort_text p) (trees_at s c.as_slice.result.now) ≡ (printed_sort p types).members =
    ap (λ (ids : List TermId). map (sort_text p) (trees_at s ids)) c.as_slice.ensures.value ∙ ap (map (sort_text p)) c.in_ok-args.ensures.are ∙ sym (sort_members p types) in
    subst (λ z. OnOk c.push_sort_by.result (Appends c.args.out.now.items (sort_by p c.args.key.0 c.args.place z) c.push_sort_by.new.out.items)) texts c.push_sort_by.ensures
