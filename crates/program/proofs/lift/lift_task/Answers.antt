use Rattle.std.proofs.Common.{rules, length, map, string_bytes, sym, subst}
use Rattle.tasks.specs.Task.{TaskTree}
use Rattle.tasks.specs.Meaning.{task_at}
use Rattle.tasks.specs.Valid.{IsValid}
use Rattle.tasks.proofs.Growth.{task_later, task_held_later}
use Rattle.stages.specs.evidence.Stages.{parts_at}
use Rattle.tasks.specs.Words.{NamesAreWords}
use Rattle.program.specs.Lifted.{IsLifted, IsRefutedTask}
use Rattle.program.specs.source_goals.Order.{setting_of}
use Rattle.program.proofs.Lifting.{lifted_answers, lifting_stop}
use Rattle.program.proofs.lift.lift_task.Goals as goal

pub lifted_text-requires-clause-held : goal.lifted_text-requires-clause-held
lifted_text-requires-clause-held g c = task_held_later c.args.store c.read_handed.new.store c.read_handed.ensures.grows c.args.setting.now.task c.requires.held

pub lifted_text-requires-clause-valid : goal.lifted_text-requires-clause-valid
lifted_text-requires-clause-valid g c = subst IsValid (sym (task_later c.args.store c.read_handed.new.store c.read_handed.ensures.grows c.args.setting.now.task c.requires.held)) c.requires.valid

pub lifted_text-requires-clause-names : goal.lifted_text-requires-clause-names
lifted_text-requires-clause-names g c = subst NamesAreWords (sym (task_later c.args.store c.read_handed.new.store c.read_handed.ensures.grows c.args.setting.now.task c.requires.held)) c.requires.names

pub lifted_text-requires-clause-refuted : goal.lifted_text-requires-clause-refuted
lifted_text-requires-clause-refuted g c =
    subst (λ (z : TaskTree). IsRefutedTask c.read_handed.new.store z c.in_ok-refuted.refuted)
    (sym (task_later c.args.store c.read_handed.new.store c.read_handed.ensures.grows c.args.setting.now.task c.requires.held)) c.in_ok-refuted.ensures.refuted

pub returns-in_err-refuted : goal.returns-in_err-refuted
returns-in_err-refuted g c =
    let x = setting_of c.args.setting.now.driver (task_at c.args.store c.args.setting.now.task) in
    let whole = lifting_stop (map string_bytes c.args.refs.now) x (length c.args.refs.now) c.in_err-refuted.ensures.answers in
    search rules

pub returns : goal.returns
returns g c =
    let s1 = c.read_handed.new.store in
    let x = setting_of c.args.setting.now.driver (task_at c.args.store c.args.setting.now.task) in
    let handed = parts_at s1 c.in_ok-refuted.refuted.handed.items in
    let lifted = subst (λ (z : TaskTree). IsLifted z handed c.in_ok-text.text.items) (task_later c.args.store s1 c.read_handed.ensures.grows c.args.setting.now.task c.requires.held) c.in_ok-text.ensures in
    lifted_answers (map string_bytes c.args.refs.now) x (length c.args.refs.now) handed c.in_ok-text.text.items c.in_ok-refuted.ensures.answers lifted
