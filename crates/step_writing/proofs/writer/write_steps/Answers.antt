use Rattle.std.proofs.Common.{None, subst}
use Rattle.std.specs.Prelude.{IfSome, IfNone}
use Rattle.kernel.specs.rules.Meaning.{steps_at}
use Rattle.kernel.specs.tasks.Meaning.{task_at}
use Rattle.step_writing.specs.Named.{AreWords, AreNamed}
use Rattle.step_writing.specs.Written.{StepsReadBack}
use Rattle.step_writing.proofs.Derivations.{no_low}
use Rattle.step_writing.proofs.writer.write_steps.Goals as goal

pub unreachable-requires : goal.unreachable-requires
unreachable-requires c =
    (subst (λ o. IfNone o (AreWords c.args.table.now → AreNamed c.args.table.now (steps_at c.args.store.now c.args.steps.now) → ⊥)) c.in-None.is c.in_ok-found.ensures.none) c.requires.words c.requires.named

pub returns-clause-reads_back : goal.returns-clause-reads_back
returns-clause-reads_back c =
    let all = steps_at c.args.store.now c.args.steps.now in
    (subst (λ o. IfSome o (λ v. StepsReadBack c.args.table.now all v.items)) c.in-Some.is c.in_ok-found.ensures.some) (task_at c.args.store.now c.args.task.now) None c.requires.closes (no_low all)

pub returns-clause-low : goal.returns-clause-low
returns-clause-low c =
    let all = steps_at c.args.store.now c.args.steps.now in
    λ tallest low. (subst (λ o. IfSome o (λ v. StepsReadBack c.args.table.now all v.items)) c.in-Some.is c.in_ok-found.ensures.some) (task_at c.args.store.now c.args.task.now) tallest c.requires.closes low
