use Rattle.std.proofs.Common.{List, [], subst}
use Rattle.tasks.specs.declared.declaration.Decl.{Decl}
use Rattle.tasks.specs.Meaning.{declarations_at, task_at}
use Rattle.name_tables.specs.Seen.{Sees}
use Rattle.name_tables.specs.Fronts.{declared_occurrences}
use Rattle.name_tables.proofs.Loops.{task_gathered}
use Rattle.name_tables.proofs.walk.seen_in.Goals as goal

pub returns : goal.returns
returns c =
    let s = c.args.store.now in
    let t = task_at s c.args.task.now in
    task_gathered s t c.in_ok-seen.seen.keys c.note_rest.new.seen.keys (subst (λ (ds : List Decl). Sees s [] (declared_occurrences (declarations_at s ds)) c.in_ok-seen.seen.keys) c.as_slice.ensures c.in_ok-seen.ensures) c.in_ok-note_rest.ensures
