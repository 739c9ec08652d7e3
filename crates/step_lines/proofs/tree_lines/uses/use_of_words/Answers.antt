use Rattle.std.proofs.Common.{◌≡◌, ◌-◌, Option, IfOk, length, take, drop, subst, ◌∙◌}
use Rattle.std.specs.Option.{option_map}
use Rattle.tasks.specs.Meaning.{task_at, trees_at}
use Rattle.step_lines.specs.tree_lines.Words.{texts, at_number}
use Rattle.step_lines.specs.tree_lines.Lines.{SymbolUse}
use Rattle.step_lines.specs.tree_lines.Made.{earlier_at, named_meaning, use_at}
use Rattle.step_lines.proofs.tree_lines.Making.{known_later, uses_same, words_used}
use Rattle.step_lines.proofs.tree_lines.uses.use_of_words.Goals as goal

pub use_of_meaning-requires-clause-known : goal.use_of_meaning-requires-clause-known
use_of_meaning-requires-clause-known c = known_later c.args.store.now c.meaning_of.new.store c.in_ok-named.ensures.grows c.args.x.now c.requires.known

pub returns-in-Some-clause-uses : goal.returns-in-Some-clause-uses
returns-in-Some-clause-uses c =
    let s = c.args.store.now in
    let s' = c.meaning_of.new.store in
    let x = c.args.x.now in
    let n = named_meaning s' c.in-Some.named in
    let words = c.args.words.now in
    let said = rw c.in-Some.is at c.in_ok-named.ensures.meaning in
    let e = uses_same s s' c.in_ok-named.ensures.grows x c.requires.known c.args.parts.now c.requires.parts (texts (take (length words - 1) (drop 1 words))) n
    ∙ words_used (task_at s x.task.now) x.table.now (earlier_at s x) (at_number (trees_at s c.args.parts.now)) words _ n c.in-len1-up.len_at_least said in
    subst (λ (m : Option SymbolUse). IfOk c.use_of_meaning.result (λ o. option_map (use_at s') o ≡ m)) e c.use_of_meaning.ensures.uses
