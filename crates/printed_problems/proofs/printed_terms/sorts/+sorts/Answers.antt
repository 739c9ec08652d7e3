use Rattle.std.proofs.Common.{◌≡◌, ℕ, ◌++◌, map, List, Vec, Global, OnOk, sym, ap, subst, ◌∙◌}
use Rattle.std.proofs.lemmas.List.{append-nil}
use Rattle.trees.specs.declared.TermId.{TermId}
use Rattle.trees.specs.Node.{tree_at}
use Rattle.tasks.specs.Meaning.{trees_at}
use Rattle.printed_problems.specs.printed_terms.Texts.{sort_by, printed_sort, sort_text}
use Rattle.printed_problems.specs.printed_terms.Meaning.{printing, Appends}
use Rattle.printed_problems.specs.Templates.{piece_text}
use Rattle.printed_problems.proofs.printed_terms.Members.{sort_members}
use Rattle.printed_problems.proofs.printed_terms.Pieces.{pieces_step, argument_there, argument_past}
use Rattle.printed_problems.proofs.printed_terms.sorts.+sorts.Goals.{push_sort_pieces-in-Literal+in_ok-extend_from_slice-in-Literal, push_sort_pieces-in-Argument+in-Some+in_ok-push_sort-in-Argument, push_sort_pieces-in-Argument+in_default}
use Rattle.printed_problems.proofs.printed_terms.sorts.+sorts.Goals as goal

pub push_sort-returns-in_ok-args-in-TyApp : goal.push_sort-returns-in_ok-args-in-TyApp
push_sort-returns-in_ok-args-in-TyApp t c =
    let s = c.args.c.now.store.now in
    let p = printing c.args.c.now in
    let types = tree_at s c.in-TyApp.types in
    let texts : map (sort_text p) (trees_at s c.as_slice.result.now) ≡ (printed_sort p types).members =
    ap (λ (ids : List TermId). map (sort_text p) (trees_at s ids)) c.as_slice.ensures.value ∙ ap (map (sort_text p)) c.in_ok-args-in-TyApp.ensures.are ∙ sym (sort_members p types) in
    let place = c.place_of-place.ensures in
    subst (λ z. OnOk c.push_sort_by.result (Appends c.args.out.now.items z c.push_sort_by.new.out.items))
    ((λ i. sort_by p c.in-TyApp.symbol (place i) (texts i)) ∙ sym (ap (sort_text p) c.in-TyApp.ensures.tree)) c.push_sort_by.ensures

pub push_sort_pieces-loop-piece-preserved : goal.push_sort_pieces-loop-piece-preserved
push_sort_pieces-loop-piece-preserved t c =
    let s = c.args.c.now.store.now in
    let p = printing c.args.c.now in
    let args = c.args.args.now in
    let texts = map (sort_text p) (trees_at s args) in
    let old = c.loop-piece.out.items in
    let step = pieces_step texts c.args.pieces.now c.loop-piece.piece-index c.piece-item.result old c.match-piece.out.items _ c.loop-piece-test.true c.piece-item.is in
    elim c.match-piece.branch [
      | push_sort_pieces-in-Literal+in_ok-extend_from_slice-in-Literal w ↦ step (ap (λ (v : Vec ℕ Global). v.items) w.out-is ∙ w.in_ok-extend_from_slice-in-Literal.ensures.items ∙ ap (λ z. old ++ z) (w.as_slice.ensures ∙ sym (ap (piece_text texts) w.in-Literal.is))) c.loop-piece.invariant
      | push_sort_pieces-in-Argument+in-Some+in_ok-push_sort-in-Argument w ↦ step (ap (λ (v : Vec ℕ Global). v.items) w.out-is ∙ w.in_ok-push_sort-in-Argument.ensures
          ∙ ap (λ z. old ++ z) (sym (ap (piece_text texts) w.in-Argument.is ∙ argument_there (sort_text p) (tree_at s) args w.in-Argument.number w.in-Some.arg.now w.in-Some.ensures.lookup.3.0 w.in-Some.ensures.lookup.1))) c.loop-piece.invariant
      | push_sort_pieces-in-Argument+in_default w ↦ step (ap (λ (v : Vec ℕ Global). v.items) w.out-is ∙ sym (append-nil old)
          ∙ ap (λ z. old ++ z) (sym (ap (piece_text texts) w.in-Argument.is ∙ argument_past (sort_text p) (tree_at s) args w.in-Argument.number w.in_default.ensures.lookup.3))) c.loop-piece.invariant
    ]
