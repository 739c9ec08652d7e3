use Rattle.std.proofs.Common.{◌≡◌, ◌≤◌, ◌^◌, [], length, arith, rules, sym, ap, ◌∙◌}
use Rattle.tasks.specs.Meaning.{task_at}
use Rattle.name_tables.specs.declared.name_entries.names.NameEntry.{NameEntry}
use Rattle.name_tables.specs.Tables.{names_of}
use Rattle.name_tables.specs.Seen.{seen_occurrences}
use Rattle.name_tables.proofs.Entries.{WithEntries, entries_end}
use Rattle.name_tables.proofs.Differ.{names_differ}
use Rattle.name_tables.proofs.table.names_of.Goals as goal

pub returns-clause-differ : goal.returns-clause-differ
returns-clause-differ c =
    let s = c.args.store.now in
    let t = task_at s c.args.task.now in
    let all = seen_occurrences s c.args.things.now in
    let keys = c.as_slice-key-items.result.now in
    let is : c.loop-key.names.items ≡ names_of t all = sym (entries_end t all s c.loop-key.names.items keys c.loop-key.key-index c.loop-key-test.false) ∙ c.loop-key.invariant ∙ ap (WithEntries t all s []) c.as_slice-key-items.ensures in
    let small : length c.loop-key.names.items ≤ 2 ^ 64 = omega (arith, c.len-count.type_inv, c.len-count.ensures, c.loop-key.names.ok) in
    names_differ t all c.loop-key.names.items is small
