use Rattle.std.proofs.Common.{rules, ◌≡◌, ℕ, length, sym, subst}
use Rattle.tasks.specs.Meaning.{task_at}
use Rattle.stages.specs.transformations.Transformations.{equation_of}
use Rattle.stages.specs.Steps.{ArePushed}
use Rattle.stages.proofs.CarriedTasks.{pushed_of}
use Rattle.stages.proofs.carrying.push_tasks.Goals as goal

pub returns-in_ok-append-in-Ok-clause-pushed : goal.returns-in_ok-append-in-Ok-clause-pushed
returns-in_ok-append-in-Ok-clause-pushed c =
    let s = c.args.store.now in
    let count : c.len-count.result ≡ length c.in-Ok.made.items = search rules in
    subst (λ (n : ℕ). ArePushed (equation_of c.args.stage.now (task_at s c.args.task.now)) s c.args.all.now.items c.apply.new.store c.append.new.self.items n) (sym count)
    (pushed_of c.args.stage.now s c.apply.new.store c.in-Ok.ensures.grows c.args.task.now c.args.all.now.items c.in-Ok.made.items c.append.new.self.items
    c.requires.valid c.requires.all c.in-Ok.ensures.held c.in-Ok.ensures.tasks c.in_ok-append-in-Ok.ensures.items)
