use Rattle.std.proofs.Common.{◌≡◌, List, ℕ, [], map, rules, subst, ◌∙◌}
use Rattle.tasks.specs.Meaning.{task_at}
use Rattle.name_tables.specs.Occurrences.{whole_occurrence}
use Rattle.name_tables.specs.Seen.{GainsKeys}
use Rattle.name_tables.proofs.Grouped.{task_gained}
use Rattle.name_tables.proofs.things.Things.of_task.Goals as goal

pub returns-clause-things : goal.returns-clause-things
returns-clause-things c =
    let s = c.args.store.now in
    let none : c.new-keys.result.keys ≡ [] = search rules in
    let gains : GainsKeys s [] (map whole_occurrence c.as_slice.result.now) c.add_wholes.new.keys.keys = subst (λ (z : List (ℕ × ℕ)). GainsKeys s z (map whole_occurrence c.as_slice.result.now) c.add_wholes.new.keys.keys) none c.in_ok-add_wholes.ensures in
    task_gained s (task_at s c.args.task.now) c.as_slice.result.now c.add_wholes.new.keys.keys (c.as_slice.ensures.value ∙ c.in_ok-symbols.ensures s) gains
