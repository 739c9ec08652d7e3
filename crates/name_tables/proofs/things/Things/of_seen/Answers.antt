use Rattle.std.proofs.Common.{◌≡◌, ℕ, List, [], rules, sym, subst, ◌∙◌}
use Rattle.std.specs.List.{flat_map}
use Rattle.tasks.specs.declared.signature.Signature.{Signature}
use Rattle.tasks.specs.Meaning.{task_at}
use Rattle.name_tables.specs.Seen.{GainsKeys}
use Rattle.name_tables.specs.Groups.{AreGroups, instances_in}
use Rattle.name_tables.proofs.Grouped.{among_gained}
use Rattle.name_tables.proofs.things.Things.of_seen.Goals as goal

pub returns-clause-things : goal.returns-clause-things
returns-clause-things c =
    let s = c.args.store.now in
    let t = task_at s c.args.task.now in
    let groups = c.as_slice.result.now in
    let ks = c.as_slice-2.result.now in
    let none : c.new-keys.result.keys ≡ [] = search rules in
    let are : AreGroups s c.args.seen.now groups = subst (AreGroups s c.args.seen.now) (sym c.as_slice.ensures.value) c.in_ok-groups.ensures in
    let begun : GainsKeys s [] (flat_map (instances_in s c.deref.result.now.ints groups) ks) c.add_all_instances.new.keys.keys =
    subst (λ (z : List (ℕ × ℕ)). GainsKeys s z (flat_map (instances_in s c.deref.result.now.ints groups) ks) c.add_all_instances.new.keys.keys) none c.in_ok-add_all_instances.ensures in
    let gains : GainsKeys s [] (flat_map (instances_in s t.ints groups) ks) c.add_all_instances.new.keys.keys =
    subst (λ (z : Signature). GainsKeys s [] (flat_map (instances_in s z.ints groups) ks) c.add_all_instances.new.keys.keys) c.deref.ensures begun in
    among_gained s t c.args.seen.now groups ks c.add_all_instances.new.keys.keys are (c.as_slice-2.ensures.value ∙ c.in_ok-symbols.ensures s) gains
