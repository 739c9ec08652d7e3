use Rattle.std.proofs.Common.{rules, ◌+◌, List, Ok, Err, length, map, string_bytes, sym, subst}
use Rattle.tasks.specs.declared.task.Task.{Task}
use Rattle.tasks.specs.Task.{TaskTree}
use Rattle.tasks.specs.Meaning.{task_at, tasks_at}
use Rattle.tasks.proofs.Growth.{tasks_later}
use Rattle.stages.specs.evidence.Stages.{parts_at, PartsClose}
use Rattle.stages.specs.transformations.Transformations.{equation_of}
use Rattle.stages.proofs.CarriedTasks.{carried_later}
use Rattle.statuses.specs.fault_order.Answers.{Answers}
use Rattle.program.specs.Order.{Handed}
use Rattle.program.specs.Values.{setting_at}
use Rattle.program.proofs.Lifting.{read_after, read_stop}
use Rattle.program.proofs.lift.read_handed.Goals as goal

pub returns-in_err-parts-clause-answers : goal.returns-in_err-parts-clause-answers
returns-in_err-parts-clause-answers g c =
    let x = setting_at c.args.store.now c.args.setting.now in
    let n = length c.args.refs.now + x.driver.next_file in
    let whole = read_stop (map string_bytes c.args.refs.now) x {s = g.L.Library.state c.args.lib.now} (λ _. n) c.in_err-parts.field-0.0 c.in_err-parts.ensures.parts in
    search rules

pub returns-clause-answers : goal.returns-clause-answers
returns-clause-answers g c =
    let x = setting_at c.args.store.now c.args.setting.now in
    let n = length c.args.refs.now + x.driver.next_file in
    let names = map string_bytes c.args.refs.now in
    let s = c.find_parts.new.store in
    let parts = c.in_ok-parts.parts.staged.carried.tasks.items in
    let handed = parts_at c.read_counted.new.store c.in_ok-handed.handed.items in
    let read = subst (λ (ts : List Task). Answers (Handed x.driver names (tasks_at s ts)) x.driver.next_file (λ _. n) (g.L.Library.state c.args.lib.now) (g.L.Library.state c.read_counted.new.lib) (Ok handed))
    c.deref.ensures.value c.in_ok-handed.ensures.answers in
    read_after names x (λ _. n) (tasks_at s parts) c.in_ok-parts.ensures.parts read

pub returns-in_err-handed-clause-answers : goal.returns-in_err-handed-clause-answers
returns-in_err-handed-clause-answers g c =
    let x = setting_at c.args.store.now c.args.setting.now in
    let n = length c.args.refs.now + x.driver.next_file in
    let names = map string_bytes c.args.refs.now in
    let s = c.find_parts.new.store in
    let parts = c.in_ok-parts.parts.staged.carried.tasks.items in
    let read = subst (λ (ts : List Task). Answers (Handed x.driver names (tasks_at s ts)) x.driver.next_file (λ _. n) (g.L.Library.state c.args.lib.now) (g.L.Library.state c.read_counted.new.lib) (Err c.in_err-handed.field-0.0))
    c.deref.ensures.value c.in_err-handed.ensures.answers in
    let whole = read_after names x (λ _. n) (tasks_at s parts) c.in_ok-parts.ensures.parts read in
    search rules

pub returns-clause-refuted : goal.returns-clause-refuted
returns-clause-refuted g c =
    let s = c.find_parts.new.store in
    let s1 = c.read_counted.new.store in
    let t = task_at c.args.store.now c.args.setting.now.task in
    let staged = c.in_ok-parts.parts.staged in
    let tasks = staged.carried.tasks.items in
    let handed = parts_at s1 c.in_ok-handed.handed.items in
    let is = c.in_ok-parts.ensures.staged in
    let close = subst (λ (ts : List Task). PartsClose (tasks_at s ts) handed) c.deref.ensures.value c.in_ok-handed.ensures.refuted in
    record {
      staged = carried_later (map equation_of staged.stages.items) s s1 c.read_counted.ensures.grows t staged.carried.levels.items tasks is;
      held = c.in_ok-handed.ensures.held;
      close = subst (λ (ts : List TaskTree). PartsClose ts handed) (sym (tasks_later s s1 c.read_counted.ensures.grows tasks is.are.held)) close;
    }
