use Rattle.std.proofs.Common.{◌≡◌, ◌++◌, ◌-◌, min, List, [], length, take, drop, All, Some, sym, ap, subst, ◌∙◌, rules}
use Rattle.std.proofs.lemmas.List.Elements.{All-append}
use Rattle.tasks.specs.Meaning.{task_at}
use Rattle.step_lines.specs.declared.rule_words.argument.Argument.{Argument}
use Rattle.step_lines.specs.declared.rule_words.argument.ArgumentKind.{ArgumentKind}
use Rattle.step_lines.specs.rule_words.Arguments.{arguments_at, ArgumentHeld}
use Rattle.step_lines.specs.rule_words.Forms.{argument_kinds}
use Rattle.step_lines.specs.rule_words.Rules.{rule_row}
use Rattle.step_lines.specs.tree_lines.Words.{texts}
use Rattle.step_lines.specs.tree_lines.Made.{earlier_at}
use Rattle.step_lines.proofs.tree_lines.Making.{known_later}
use Rattle.step_lines.specs.Steps.{arguments, own_types}
use Rattle.step_lines.proofs.Ending.{all_made, no_first, no_rest, three_lists, arguments_same}
use Rattle.step_lines.proofs.steps.all_arguments.Goals as goal

pub word_arguments-requires : goal.word_arguments-requires
word_arguments-requires c = known_later c.args.store.now c.types_of_first.new.store c.in_ok-own.ensures.grows c.args.x.now c.requires

pub word_arguments-requires-2 : goal.word_arguments-requires-2
word_arguments-requires-2 c = known_later c.args.store.now c.types_of_first.new.store c.in_ok-own.ensures.grows c.args.x.now c.requires

pub returns-in_default-clause-trees : goal.returns-in_default-clause-trees
returns-in_default-clause-trees c =
    let s = c.args.store.now in
    let s' = c.types_of_first.new.store in
    let x = c.args.x.now in
    let t = task_at s x.task.now in
    let r = earlier_at s x in
    let words = c.args.words.now in
    let g = c.in_ok-own.ensures.grows in
    let ks = argument_kinds (rule_row c.args.name).form in
    let base : c.min-count.result ≡ min (length c.kinds_of-kinds.result.first.now) (length words) = search rules in
    let cut = base ∙ ap (λ (l : List ArgumentKind). min (length l) (length words)) c.kinds_of-kinds.ensures.first in
    let front = texts (take c.min-count.result words) in
    let first = (rw c.in_default.is at c.in_ok-first.ensures.trees) ∙ arguments_same s s' g x c.requires c.kinds_of-kinds.result.first.now [] front ∙ ap (λ (l : List ArgumentKind). arguments t x.table.now r l [] front) c.kinds_of-kinds.ensures.first in
    no_first t x.table.now r ks words c.min-count.result cut first

pub returns-in-Some-2-clause-trees : goal.returns-in-Some-2-clause-trees
returns-in-Some-2-clause-trees c =
    let s = c.args.store.now in
    let s' = c.types_of_first.new.store in
    let x = c.args.x.now in
    let t = task_at s x.task.now in
    let r = earlier_at s x in
    let words = c.args.words.now in
    let g = c.in_ok-own.ensures.grows in
    let ks = argument_kinds (rule_row c.args.name).form in
    let base : c.min-count.result ≡ min (length c.kinds_of-kinds.result.first.now) (length words) = search rules in
    let cut = base ∙ ap (λ (l : List ArgumentKind). min (length l) (length words)) c.kinds_of-kinds.ensures.first in
    let front = texts (take c.min-count.result words) in
    let back = texts (take (length words - c.min-count.result) (drop c.min-count.result words)) in
    let own = c.in_ok-own.ensures.trees ∙ ap (λ (l : List ArgumentKind). own_types t x.table.now r l (texts words)) c.kinds_of-kinds.ensures.first in
    let first = (rw c.in-Some.is at c.in_ok-first.ensures.trees) ∙ arguments_same s s' g x c.requires c.kinds_of-kinds.result.first.now [] front ∙ ap (λ (l : List ArgumentKind). arguments t x.table.now r l [] front) c.kinds_of-kinds.ensures.first in
    let rest = (rw c.in-Some-2.is at c.in_ok-rest.ensures.trees) ∙ arguments_same s s' g x c.requires [] c.kinds_of-kinds.result.repeated.now back ∙ ap (λ (l : List ArgumentKind). arguments t x.table.now r [] l back) c.kinds_of-kinds.ensures.repeated in
    let items = c.in_ok-join_arguments-in-Some-2.ensures ∙ ap (λ (l : List Argument). c.in-Some.first.items ++ (l ++ c.deref-in-Some-2.result.now)) c.deref.ensures.value ∙ ap (λ (l : List Argument). c.in-Some.first.items ++ (c.in_ok-own.own.items ++ l)) c.deref-in-Some-2.ensures.value in
    ap Some (three_lists s' c.in_ok-join_arguments-in-Some-2.field-0.items c.in-Some.first.items c.in_ok-own.own.items c.in-Some-2.rest.items items)
    ∙ all_made t x.table.now r ks words c.min-count.result cut (arguments_at s' c.in_ok-own.own.items) (arguments_at s' c.in-Some.first.items) (arguments_at s' c.in-Some-2.rest.items) own first rest

pub returns-in-Some-2-clause-held : goal.returns-in-Some-2-clause-held
returns-in-Some-2-clause-held c =
    let s' = c.types_of_first.new.store in
    let first = rw c.in-Some.is at c.in_ok-first.ensures.held in
    let rest = rw c.in-Some-2.is at c.in_ok-rest.ensures.held in
    let items = c.in_ok-join_arguments-in-Some-2.ensures ∙ ap (λ (l : List Argument). c.in-Some.first.items ++ (l ++ c.deref-in-Some-2.result.now)) c.deref.ensures.value ∙ ap (λ (l : List Argument). c.in-Some.first.items ++ (c.in_ok-own.own.items ++ l)) c.deref-in-Some-2.ensures.value in
    let all = All-append (ArgumentHeld s') c.in-Some.first.items (c.in_ok-own.own.items ++ c.in-Some-2.rest.items) first (All-append (ArgumentHeld s') c.in_ok-own.own.items c.in-Some-2.rest.items c.in_ok-own.ensures.held rest) in
    subst (λ (l : List Argument). All (ArgumentHeld s') l) (sym items) all

pub returns-clause-trees : goal.returns-clause-trees
returns-clause-trees c =
    let s = c.args.store.now in
    let s' = c.types_of_first.new.store in
    let x = c.args.x.now in
    let t = task_at s x.task.now in
    let r = earlier_at s x in
    let words = c.args.words.now in
    let g = c.in_ok-own.ensures.grows in
    let ks = argument_kinds (rule_row c.args.name).form in
    let base : c.min-count.result ≡ min (length c.kinds_of-kinds.result.first.now) (length words) = search rules in
    let cut = base ∙ ap (λ (l : List ArgumentKind). min (length l) (length words)) c.kinds_of-kinds.ensures.first in
    let front = texts (take c.min-count.result words) in
    let back = texts (take (length words - c.min-count.result) (drop c.min-count.result words)) in
    let first = (rw c.in-Some.is at c.in_ok-first.ensures.trees) ∙ arguments_same s s' g x c.requires c.kinds_of-kinds.result.first.now [] front ∙ ap (λ (l : List ArgumentKind). arguments t x.table.now r l [] front) c.kinds_of-kinds.ensures.first in
    let rest = (rw c.in-None.is at c.in_ok-rest.ensures.trees) ∙ arguments_same s s' g x c.requires [] c.kinds_of-kinds.result.repeated.now back ∙ ap (λ (l : List ArgumentKind). arguments t x.table.now r [] l back) c.kinds_of-kinds.ensures.repeated in
    no_rest t x.table.now r ks words c.min-count.result cut (arguments_at s' c.in-Some.first.items) first rest
