use Rattle.std.proofs.Common.{◌++◌, ◌-◌, ◌+◌, List, [], ◌∷◌, length, take, drop, ap, ◌∙◌}
use Rattle.std.proofs.lemmas.List.{map-append}
use Rattle.std.proofs.lemmas.List.Elements.{All-push}
use Rattle.std.specs.Option.{option_map}
use Rattle.std.specs.Borrow.{Bor}
use Rattle.tasks.specs.Meaning.{task_at}
use Rattle.step_lines.specs.declared.rule_words.argument.ArgumentKind.TheVariants as kind
use Rattle.step_lines.specs.rule_words.Arguments.{ArgumentTree, argument_at, arguments_at, ArgumentHeld}
use Rattle.step_lines.specs.tree_lines.Words.{LineWord, texts}
use Rattle.step_lines.specs.tree_lines.Made.{earlier_at}
use Rattle.step_lines.specs.Steps.{arguments}
use Rattle.step_lines.proofs.Taking.{arguments_more, arguments_too_many}
use Rattle.step_lines.proofs.arguments.word_arguments.Goals as goal

abbrev no_word : Bor LineWord
no_word = record { ref_ptr = (0, 0); now = [] }

pub loop-word-preserved : goal.loop-word-preserved
loop-word-preserved c =
    let s = c.args.store.now in
    let x = c.args.x.now in
    let t = task_at s x.task.now in
    let r = earlier_at s x in
    let inv = c.loop-word.invariant in
    let found = c.next_of.result.now in
    let others = take (length found - 1) (drop 1 found) in
    let rest = texts (drop (c.loop-word.word-index + 1) c.args.words.now) in
    let more = arguments_more t x.table.now r c.loop-word.left.now c.args.again.now found _ c.next_of.ensures c.args.words.now c.loop-word.word-index _ (arguments_at s c.loop-word.all.items) _ c.loop-word-test.true inv.trees (argument_at s c.in-Some.found) c.in-len1-up.len_at_least c.in-Some.ensures.tree in
    rw (c.in_ok-push-in-Some.ensures.items) (record {
      trees = ap (λ (l : List ArgumentTree). option_map (λ ys. l ++ ys) (arguments t x.table.now r others c.args.again.now rest)) (map-append (argument_at s) c.loop-word.all.items (c.in-Some.found ∷ [])) ∙ more;
      held = All-push (ArgumentHeld s) c.loop-word.all.items c.in-Some.found inv.held c.in-Some.ensures.held;
    })

pub returns-in_default-clause-trees : goal.returns-in_default-clause-trees
returns-in_default-clause-trees c =
    let s = c.args.store.now in
    let x = c.args.x.now in
    arguments_too_many (task_at s x.task.now) x.table.now (earlier_at s x) c.loop-word.left.now c.args.again.now c.next_of.result.now kind.Number c.next_of.ensures c.args.words.now c.loop-word.word-index no_word (arguments_at s c.loop-word.all.items) _ c.loop-word-test.true c.loop-word.invariant.trees c.in_default.len_below
