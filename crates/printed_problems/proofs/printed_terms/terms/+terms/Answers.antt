use Rattle.std.proofs.Common.{◌≡◌, ℕ, ◌++◌, map, List, Vec, Global, OnOk, sym, ap, subst, ◌∙◌}
use Rattle.std.proofs.lemmas.List.{append-nil}
use Rattle.trees.specs.declared.TermId.{TermId}
use Rattle.trees.specs.Node.{tree_at}
use Rattle.tasks.specs.Meaning.{trees_at}
use Rattle.name_tables.specs.Occurrences.{occurrence}
use Rattle.printed_problems.specs.printed_terms.Texts.{symbol_text, printed, term_text}
use Rattle.printed_problems.specs.printed_terms.Meaning.{printing, Appends}
use Rattle.printed_problems.specs.Templates.{piece_text}
use Rattle.printed_problems.proofs.printed_terms.Members.{printed_members}
use Rattle.printed_problems.proofs.printed_terms.Pieces.{pieces_step, argument_there, argument_past}
use Rattle.printed_problems.proofs.printed_terms.terms.+terms.Goals.{push_pieces-in-Literal+in_ok-extend_from_slice-in-Literal, push_pieces-in-Argument+in-Some+in_ok-push_term-in-Argument, push_pieces-in-Argument+in_default}
use Rattle.printed_problems.proofs.printed_terms.terms.+terms.Goals as goal

pub push_pieces-loop-piece-preserved : goal.push_pieces-loop-piece-preserved
push_pieces-loop-piece-preserved t c =
    let s = c.args.c.now.store.now in
    let p = printing c.args.c.now in
    let args = c.args.args.now in
    let texts = map (term_text p c.args.depth) (trees_at s args) in
    let old = c.loop-piece.out.items in
    let step = pieces_step texts c.args.pieces.now c.loop-piece.piece-index c.piece-item.result old c.match-piece.out.items _ c.loop-piece-test.true c.piece-item.is in
    elim c.match-piece.branch [
      | push_pieces-in-Literal+in_ok-extend_from_slice-in-Literal w ↦ step (ap (λ (v : Vec ℕ Global). v.items) w.out-is ∙ w.in_ok-extend_from_slice-in-Literal.ensures.items ∙ ap (λ z. old ++ z) (w.as_slice.ensures ∙ sym (ap (piece_text texts) w.in-Literal.is))) c.loop-piece.invariant
      | push_pieces-in-Argument+in-Some+in_ok-push_term-in-Argument w ↦ step (ap (λ (v : Vec ℕ Global). v.items) w.out-is ∙ w.in_ok-push_term-in-Argument.ensures
          ∙ ap (λ z. old ++ z) (sym (ap (piece_text texts) w.in-Argument.is ∙ argument_there (term_text p c.args.depth) (tree_at s) args w.in-Argument.number w.in-Some.arg.now w.in-Some.ensures.lookup.3.0 w.in-Some.ensures.lookup.1))) c.loop-piece.invariant
      | push_pieces-in-Argument+in_default w ↦ step (ap (λ (v : Vec ℕ Global). v.items) w.out-is ∙ sym (append-nil old)
          ∙ ap (λ z. old ++ z) (sym (ap (piece_text texts) w.in-Argument.is ∙ argument_past (term_text p c.args.depth) (tree_at s) args w.in-Argument.number w.in_default.ensures.lookup.3))) c.loop-piece.invariant
    ]

pub push_symbol-returns : goal.push_symbol-returns
push_symbol-returns t c =
    let s = c.args.c.now.store.now in
    let p = printing c.args.c.now in
    let list = tree_at s c.args.list in
    let texts : map (term_text p c.args.depth) (trees_at s c.as_slice.result.now) ≡ (printed p c.args.depth list).members =
    ap (λ (ids : List TermId). map (term_text p c.args.depth) (trees_at s ids)) c.as_slice.ensures.value ∙ ap (map (term_text p c.args.depth)) c.in_ok-args.ensures.are ∙ sym (printed_members p c.args.depth list) in
    subst (λ z. OnOk c.push_symbol_by.result (Appends c.args.out.now.items (symbol_text p (occurrence c.args.symbol (tree_at s c.args.types)) z) c.push_symbol_by.new.out.items)) texts c.push_symbol_by.ensures
