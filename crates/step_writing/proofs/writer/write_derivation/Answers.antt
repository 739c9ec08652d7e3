use Rattle.std.proofs.Common.{◌≡◌, ◌≤◌, ◌^◌, length, sym, ap, subst, ◌∙◌, arith}
use Rattle.kernel.specs.tasks.Meaning.{task_at}
use Rattle.kernel.specs.rules.Meaning.{steps_at}
use Rattle.name_tables.specs.Tables.{task_names, NamesDiffer}
use Rattle.step_writing.proofs.Derivations.{table_words, table_named}
use Rattle.step_writing.proofs.writer.write_derivation.Goals as goal

pub write_steps-requires-clause-words : goal.write_steps-requires-clause-words
write_steps-requires-clause-words c =
    let t = task_at c.args.store.now c.args.task.now in
    let table = c.in_ok-table.table in
    let is : c.deref.result.now ≡ task_names t = c.deref.ensures.value ∙ c.in_ok-table.ensures.names in
    let small : length c.deref.result.now ≤ 2 ^ 64 = omega (arith, ap length c.deref.ensures.value, table.ok.0, table.small) in
    table_words t c.deref.result.now is c.requires.names small

pub write_steps-requires-clause-named : goal.write_steps-requires-clause-named
write_steps-requires-clause-named c =
    let s = c.args.store.now in
    let t = task_at s c.args.task.now in
    let is : c.deref.result.now ≡ task_names t = c.deref.ensures.value ∙ c.in_ok-table.ensures.names in
    table_named t c.deref.result.now is c.requires.valid (subst NamesDiffer (sym c.deref.ensures.value) c.in_ok-table.ensures.differ) (steps_at s c.args.steps.now) c.requires.closes.right
