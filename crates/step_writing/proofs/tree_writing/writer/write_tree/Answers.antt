use Rattle.std.proofs.Common.{◌≡◌, arith, ℕ, List, Option, ◌++◌, length, get_or, sym, refl, subst, ap, ◌∙◌}
use Rattle.tasks.specs.trees.Tree.{Leaf, HEnd}
use Rattle.step_lines.specs.tree_lines.Words.{LineWord}
use Rattle.step_writing.specs.tree_writing.Referring.{words_of}
use Rattle.step_writing.specs.tree_writing.Text.{line_text}
use Rattle.step_writing.specs.tree_writing.Whole.{KindLines, LineBack, letter}
use Rattle.step_writing.proofs.tree_writing.Sorting.{kind_lines}
use Rattle.step_writing.proofs.tree_writing.Whole.{writing_more, count_same}
use Rattle.step_writing.proofs.tree_writing.writer.write_tree.Goals as goal

pub tree_words-requires-clause-lines : goal.tree_words-requires-clause-lines
tree_words-requires-clause-lines c =
    let x = c.args.x.now in
    let s = x.store.now in
    let numbers = c.args.w.now.numbers.items in
    let i = length numbers in
    let next = c.requires.next in
    let m = c.requires.trees.marks in
    let held = m.first.held i next.mark in
    let n : c.len.result ≡ i = omega (arith, c.len.ensures, c.args.w.now.numbers.ok.0) in
    subst (λ (l : List (Option ℕ)). KindLines s l c.args.kind (get_or s c.len.result (Leaf HEnd))) (sym c.deref.ensures.value)
    (subst (λ (j : ℕ). KindLines s numbers c.args.kind (get_or s j (Leaf HEnd))) (sym n)
    (kind_lines s x.marks.now numbers i m.first.held m.children (λ j k lt mark kind. c.requires.writing.there j k lt (record { mark = mark; kind = kind })) c.args.kind (get_or s i (Leaf HEnd)) next.kind (c.laws.ensures.sorted (record { 0 = i }) held) (m.children i next.mark)))

pub returns-clause-writing : goal.returns-clause-writing
returns-clause-writing c =
    let x = c.args.x.now in
    let s = x.store.now in
    let old = c.args.w.now in
    let numbers = old.numbers.items in
    let words = words_of c.in_ok-words.words.items in
    let n : c.len.result ≡ length numbers = omega (arith, c.len.ensures, old.numbers.ok.0) in
    let back = subst (λ (j : ℕ). LineBack s x.table.now numbers c.args.kind (get_or s j (Leaf HEnd)) words) n
    (subst (λ (l : List (Option ℕ)). LineBack s x.table.now l c.args.kind (get_or s c.len.result (Leaf HEnd)) words) c.deref.ensures.value c.in_ok-words.ensures) in
    let text = c.in_ok-push_line.ensures ∙ ap (λ (w : LineWord). old.text.items ++ line_text w (words_of c.deref-2.result.now)) c.letter.ensures ∙ ap (λ l. old.text.items ++ line_text (letter c.args.kind) (words_of l)) c.deref-2.ensures.value in
    writing_more x old (record { text = c.push_line.new.text; numbers = c.push.new.self; types = old.types; patterns = old.patterns; expressions = old.expressions }) c.add_one.new.w c.args.kind c.count-number.result words c.requires.trees c.laws.ensures.apart c.requires.next
    (c.count-number.ensures ∙ count_same c.args.kind old (record { text = c.push_line.new.text; numbers = old.numbers; types = old.types; patterns = old.patterns; expressions = old.expressions }) refl refl refl) text c.in_ok-push.ensures.items refl refl refl c.add_one.ensures back c.requires.writing
