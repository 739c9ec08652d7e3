use Rattle.std.proofs.Common.{List, All, ap, subst, sym, ◌∙◌}
use Rattle.kernel.specs.rules.Meaning.{rule_at}
use Rattle.step_lines.specs.declared.rule_words.argument.Argument.{Argument}
use Rattle.step_lines.specs.rule_words.Arguments.{arguments_at}
use Rattle.step_lines.specs.rule_words.Rules.{name_by_word}
use Rattle.step_writing.proofs.tree_writing.Reading.{on_ok}
use Rattle.step_writing.specs.Words.{IsArgumentReady, PushesArguments}
use Rattle.step_writing.proofs.Pushing.{arguments_ready, rule_pushed}
use Rattle.step_writing.proofs.words.push_rule.Goals as goal

pub push_arguments-requires-clause-ready : goal.push_arguments-requires-clause-ready
push_arguments-requires-clause-ready c =
    let x = c.args.x.now in
    let s = x.store.now in
    let written = c.in_ok-written.written in
    subst (All (IsArgumentReady x)) (sym c.deref.ensures.value) (arguments_ready x written.name written.arguments.items (rule_at s c.args.rule.now) (c.in_ok-written.ensures.held s c.requires.held) (c.in_ok-written.ensures.reads_back s) c.requires.ready)

pub returns : goal.returns
returns c =
    let x = c.args.x.now in
    let s = x.store.now in
    let written = c.in_ok-written.written in
    let old = c.args.text.now.items in
    let between = c.push_word.new.text.items in
    let new = c.push_arguments.new.text.items in
    let word = c.as_bytes.result.now in
    on_ok c.push_arguments.result c.push_arguments.ensures
    (λ h. rule_pushed x old between new word written.name (arguments_at s written.arguments.items) (rule_at s c.args.rule.now) c.in_ok-push_word.ensures (ap name_by_word c.as_bytes.ensures.value ∙ c.word_of.ensures.reads_back) (c.in_ok-written.ensures.kinds s) (c.in_ok-written.ensures.reads_back s)
    (subst (λ (l : List Argument). PushesArguments x between new (arguments_at s l)) c.deref.ensures.value h))
