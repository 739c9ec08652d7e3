use Rattle.std.proofs.Common.{All, sym, subst}
use Rattle.tasks.specs.Meaning.{tasks_at}
use Rattle.tasks.specs.Valid.{IsValid}
use Rattle.evidence.specs.stage_limits.Laws.{limited_gives}
use Rattle.stages.proofs.carrying.limited_at.Goals as goal

pub returns-in-Ok-clause-tasks : goal.returns-in-Ok-clause-tasks
returns-in-Ok-clause-tasks c =
    let s = c.args.store.now in
    let e = c.in-Ok.ensures.tasks in
    record {
      are = record { held = c.in-Ok.ensures.held; valid = subst (All IsValid) (sym (limited_gives (tasks_at s c.args.tasks.items) (tasks_at s c.in-Ok.tasks.items) e)) c.requires.valid };
      is = e;
    }
