use Rattle.std.proofs.Common.{◌≡◌, ap, ◌∙◌}
use Rattle.std.proofs.lemmas.Result.{IfOk-weaker}
use Rattle.tasks.specs.Meaning.{task_at}
use Rattle.name_tables.specs.Occurrences.{task_occurrences}
use Rattle.name_tables.specs.Seen.{seen_occurrences}
use Rattle.name_tables.specs.Fronts.{things_among}
use Rattle.name_tables.proofs.Grouped.{gathered_among}
use Rattle.name_tables.proofs.things.Things.of_problem.Goals as goal

pub returns-clause-things : goal.returns-clause-things
returns-clause-things c =
    let s = c.args.store.now in
    let t = task_at s c.args.task.now in
    let seen = ap (seen_occurrences s) c.as_slice.ensures.keys ∙ c.in_ok-seen.ensures.is in
    IfOk-weaker c.of_seen.result (λ v. seen_occurrences s v ≡ things_among t (seen_occurrences s c.as_slice.result.now)) _ (λ v e. e ∙ ap (things_among t) seen ∙ gathered_among t (task_occurrences t)) c.of_seen.ensures.things
