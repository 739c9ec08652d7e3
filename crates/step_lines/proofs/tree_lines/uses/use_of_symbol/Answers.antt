use Rattle.std.proofs.Common.{◌≡◌, ℕ, ◌-◌, min, List, length, All, IfSome, Option, drop, sym, ap, subst, ◌∙◌, rules}
use Rattle.std.specs.Option.{option_map}
use Rattle.std.specs.Borrow.{Bor}
use Rattle.std.proofs.lemmas.List.{length-map}
use Rattle.trees.specs.declared.TermId.{TermId}
use Rattle.trees.specs.Node.{tree_at, Holds}
use Rattle.tasks.specs.Meaning.{trees_at, task_at, symbol_at}
use Rattle.step_lines.specs.tree_lines.Words.{LineWord, texts, at_number, each}
use Rattle.step_lines.specs.tree_lines.Made.{named_meaning, earlier_at}
use Rattle.step_lines.proofs.tree_lines.Making.{each_trees, each_held, slice_left}
use Rattle.step_lines.proofs.tree_lines.Applying.{uses_no_types, uses_made, uses_no_parts}
use Rattle.step_lines.proofs.tree_lines.uses.use_of_symbol.Goals as goal

pub returns-in_default-clause-uses : goal.returns-in_default-clause-uses
returns-in_default-clause-uses c =
    let s = c.args.store.now in
    let base : c.min-count.result ≡ min (c.args.symbol.info.now.vars - length c.args.named.types.items) (length c.args.words.now) = search rules in
    let cut = base ∙ ap (λ (k : ℕ). min (c.args.symbol.info.now.vars - k) (length c.args.words.now)) (sym (length-map c.args.named.types.items (tree_at s))) in
    let types = rw c.in_default.is at c.in_ok-types.ensures.trees in
    uses_no_types (task_at s c.args.x.now.task.now) c.args.x.now.table.now (earlier_at s c.args.x.now) (at_number (trees_at s c.args.parts.now)) (named_meaning s c.args.named) c.args.words.now c.args.symbol.number (symbol_at s c.args.symbol.info.now) c.min-count.result cut types

pub returns-in-Some-2-clause-uses : goal.returns-in-Some-2-clause-uses
returns-in-Some-2-clause-uses c =
    let s = c.args.store.now in
    let base : c.min-count.result ≡ min (c.args.symbol.info.now.vars - length c.args.named.types.items) (length c.args.words.now) = search rules in
    let cut = base ∙ ap (λ (k : ℕ). min (c.args.symbol.info.now.vars - k) (length c.args.words.now)) (sym (length-map c.args.named.types.items (tree_at s))) in
    let types = rw c.in-Some.is at c.in_ok-types.ensures.trees in
    let ids = (rw c.in-Some-2.is at c.in_ok-parts.ensures) ∙ ap (λ (l : List (Bor LineWord)). each (at_number c.args.parts.now) (texts l)) (slice_left c.min-count.result c.args.words.now) in
    let parts = ap (option_map (trees_at s)) ids ∙ sym (each_trees s c.args.parts.now (texts (drop c.min-count.result c.args.words.now))) in
    uses_made (task_at s c.args.x.now.task.now) c.args.x.now.table.now (earlier_at s c.args.x.now) (at_number (trees_at s c.args.parts.now)) (named_meaning s c.args.named) c.args.words.now c.args.symbol.number (symbol_at s c.args.symbol.info.now) c.min-count.result cut
    (trees_at s c.in-Some.types.items) (trees_at s c.in-Some-2.parts.items) types parts

pub returns-in-Some-2-clause-held : goal.returns-in-Some-2-clause-held
returns-in-Some-2-clause-held c =
    let s = c.args.store.now in
    let ids = (rw c.in-Some-2.is at c.in_ok-parts.ensures) ∙ ap (λ (l : List (Bor LineWord)). each (at_number c.args.parts.now) (texts l)) (slice_left c.min-count.result c.args.words.now) in
    let types = rw c.in-Some.is at c.in_ok-types.ensures.held in
    let parts : All (Holds s) c.in-Some-2.parts.items = subst (λ (o : Option (List TermId)). IfSome o (λ l. All (Holds s) l)) (sym ids) (each_held s c.args.parts.now (texts (drop c.min-count.result c.args.words.now)) c.requires.parts) in
    record { result = c.requires.info.result; types = types; parts = parts }

pub returns-in-None-clause-uses : goal.returns-in-None-clause-uses
returns-in-None-clause-uses c =
    let s = c.args.store.now in
    let base : c.min-count.result ≡ min (c.args.symbol.info.now.vars - length c.args.named.types.items) (length c.args.words.now) = search rules in
    let cut = base ∙ ap (λ (k : ℕ). min (c.args.symbol.info.now.vars - k) (length c.args.words.now)) (sym (length-map c.args.named.types.items (tree_at s))) in
    let types = rw c.in-Some.is at c.in_ok-types.ensures.trees in
    let ids = (rw c.in-None.is at c.in_ok-parts.ensures) ∙ ap (λ (l : List (Bor LineWord)). each (at_number c.args.parts.now) (texts l)) (slice_left c.min-count.result c.args.words.now) in
    let parts = ap (option_map (trees_at s)) ids ∙ sym (each_trees s c.args.parts.now (texts (drop c.min-count.result c.args.words.now))) in
    uses_no_parts (task_at s c.args.x.now.task.now) c.args.x.now.table.now (earlier_at s c.args.x.now) (at_number (trees_at s c.args.parts.now)) (named_meaning s c.args.named) c.args.words.now c.args.symbol.number (symbol_at s c.args.symbol.info.now) c.min-count.result cut
    (trees_at s c.in-Some.types.items) types parts
