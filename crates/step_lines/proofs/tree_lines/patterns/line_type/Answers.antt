use Rattle.std.proofs.Common.{◌≡◌, ◌-◌, List, Option, IfOk, length, take, drop, ap, subst, ◌∙◌}
use Rattle.std.specs.Option.{option_map, option_and_then}
use Rattle.trees.specs.declared.TermId.{TermId}
use Rattle.trees.specs.Tree.{Tree}
use Rattle.trees.specs.Node.{tree_at}
use Rattle.tasks.specs.Meaning.{task_at, trees_at}
use Rattle.step_lines.specs.tree_lines.Words.{texts}
use Rattle.step_lines.specs.tree_lines.Named.{named_type_at}
use Rattle.step_lines.specs.tree_lines.Made.{earlier_at, named_meaning}
use Rattle.step_lines.proofs.tree_lines.Making.{known_later, types_same, words_typed}
use Rattle.step_lines.proofs.tree_lines.patterns.line_type.Goals as goal

pub all_types-requires-clause-known : goal.all_types-requires-clause-known
all_types-requires-clause-known c = known_later c.args.store.now c.meaning_of.new.store c.in_ok-named.ensures.grows c.args.x.now c.requires

pub returns-in-Some-2-clause-tree : goal.returns-in-Some-2-clause-tree
returns-in-Some-2-clause-tree c =
    let s = c.args.store.now in
    let s' = c.meaning_of.new.store in
    let x = c.args.x.now in
    let n = named_meaning s' c.in-Some.named in
    let words = c.args.words.now in
    let rest = texts (take (length words - 1) (drop 1 words)) in
    let said = rw c.in-Some.is at c.in_ok-named.ensures.meaning in
    let types = (rw c.in-Some-2.is at c.in_ok-types.ensures.trees) ∙ types_same s s' c.in_ok-named.ensures.grows x c.requires n rest in
    let e = ap (λ (l : List TermId). named_type_at c.in-Some.named.symbol (trees_at s' l)) c.deref.ensures.value ∙ ap (option_and_then (named_type_at c.in-Some.named.symbol)) types
    ∙ words_typed (task_at s x.task.now) x.table.now (earlier_at s x) words _ n c.in-len1-up.len_at_least said in
    subst (λ (m : Option Tree). IfOk c.type_of_symbol.result (λ o. option_map (tree_at c.type_of_symbol.new.store) o ≡ m)) e c.type_of_symbol.ensures.tree

pub returns-in-None-clause-tree : goal.returns-in-None-clause-tree
returns-in-None-clause-tree c =
    let s = c.args.store.now in
    let s' = c.meaning_of.new.store in
    let x = c.args.x.now in
    let n = named_meaning s' c.in-Some.named in
    let words = c.args.words.now in
    let rest = texts (take (length words - 1) (drop 1 words)) in
    let said = rw c.in-Some.is at c.in_ok-named.ensures.meaning in
    let types = (rw c.in-None.is at c.in_ok-types.ensures.trees) ∙ types_same s s' c.in_ok-named.ensures.grows x c.requires n rest in
    ap (option_and_then (named_type_at c.in-Some.named.symbol)) types ∙ words_typed (task_at s x.task.now) x.table.now (earlier_at s x) words _ n c.in-len1-up.len_at_least said
