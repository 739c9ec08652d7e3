use Rattle.std.specs.Int.{w128}
use Rattle.std.proofs.lemmas.Int.{to_z-of_z}
use Rattle.std.proofs.Common.{rules, FitsSigned, ◌≡◌, [], ◌∷◌, Some, sym, subst, ap, ◌∙◌}
use Rattle.kernel.specs.trees.Node.{tree_at}
use Rattle.step_lines.specs.word_tables.integers.Integers.{integer}
use Rattle.step_lines.specs.declared.rule_words.argument.Argument.{Argument}
use Rattle.step_lines.specs.rule_words.Arguments.{argument_at}
use Rattle.step_writing.proofs.tree_writing.Reading.{on_ok}
use Rattle.step_writing.specs.Words.{IsArgumentReady, PushesArguments}
use Rattle.step_writing.proofs.Pushing.{number_pushed, integer_pushed, expression_pushed, type_pushed}
use Rattle.step_writing.proofs.words.push_argument.Goals as goal

pub returns-in-Number : goal.returns-in-Number
unfolding argument_at
returns-in-Number c =
    let x = c.args.x.now in
    let old = c.args.text.now.items in
    let new = c.push_number.new.text.items in
    on_ok c.push_number.result c.push_number.ensures
    (λ h. subst (λ (a : Argument). PushesArguments x old new (argument_at x.store.now a ∷ [])) (sym c.in-Number.is) (number_pushed x old new c.in-Number.n h))

pub returns-in-Symbol : goal.returns-in-Symbol
unfolding argument_at
returns-in-Symbol c =
    let x = c.args.x.now in
    let old = c.args.text.now.items in
    let new = c.push_symbol_name.new.text.items in
    on_ok c.push_symbol_name.result c.push_symbol_name.ensures
    (λ h. subst (λ (a : Argument). PushesArguments x old new (argument_at x.store.now a ∷ [])) (sym c.in-Symbol.is) h)

pub returns-in_ok-integer_word-in-Integer : goal.returns-in_ok-integer_word-in-Integer
unfolding argument_at
returns-in_ok-integer_word-in-Integer c =
    let x = c.args.x.now in
    let old = c.args.text.now.items in
    let new = c.push_word.new.text.items in
    let word = c.as_bytes.result.now in
    let fits : FitsSigned w128 c.in-Integer.n = search rules in
    let is : integer word ≡ Some c.in-Integer.n = ap integer c.as_bytes.ensures.value ∙ c.in_ok-integer_word-in-Integer.ensures ∙ ap Some (to_z-of_z w128 c.in-Integer.n fits) in
    on_ok c.push_word.result c.push_word.ensures
    (λ h. subst (λ (a : Argument). PushesArguments x old new (argument_at x.store.now a ∷ [])) (sym c.in-Integer.is) (integer_pushed x old new word c.in-Integer.n h is))

pub returns-in-Expression : goal.returns-in-Expression
unfolding argument_at
returns-in-Expression c =
    let x = c.args.x.now in
    let old = c.args.text.now.items in
    let new = c.push_line_number.new.text.items in
    let ready = subst (IsArgumentReady x) c.in-Expression.is c.requires.ready in
    on_ok c.push_line_number.result c.push_line_number.ensures
    (λ h. subst (λ (a : Argument). PushesArguments x old new (argument_at x.store.now a ∷ [])) (sym c.in-Expression.is) (expression_pushed x old new (tree_at x.store.now c.in-Expression.e) ready.1.sort h))

pub returns-in-Type : goal.returns-in-Type
unfolding argument_at
returns-in-Type c =
    let x = c.args.x.now in
    let old = c.args.text.now.items in
    let new = c.push_line_number-in-Type.new.text.items in
    let ready = subst (IsArgumentReady x) c.in-Type.is c.requires.ready in
    on_ok c.push_line_number-in-Type.result c.push_line_number-in-Type.ensures
    (λ h. subst (λ (a : Argument). PushesArguments x old new (argument_at x.store.now a ∷ [])) (sym c.in-Type.is) (type_pushed x old new (tree_at x.store.now c.in-Type.y) ready.1.sort h))
