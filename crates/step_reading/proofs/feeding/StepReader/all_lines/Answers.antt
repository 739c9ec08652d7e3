use Rattle.std.proofs.Common.{rules}
use Rattle.tasks.specs.Meaning.{task_at}
use Rattle.step_reading.proofs.Fed.{bytes_read, fault_said, fault_of_file, all_ended, last_read, last_fault}
use Rattle.step_reading.proofs.feeding.StepReader.all_lines.Goals as goal

pub returns-in-Some-clause-fault : goal.returns-in-Some-clause-fault
returns-in-Some-clause-fault c = λ bytes h.
    fault_of_file (task_at c.args.store.now c.args.task.now) c.args.names.now c.args.self.tallest bytes c.in-Some.fault (fault_said c.args.store.now c.args.task.now c.args.names.now bytes c.args.self h c.in-Some.fault c.in-Some.is)

pub returns-then-is_empty-clause-read : goal.returns-then-is_empty-clause-read
returns-then-is_empty-clause-read c = λ bytes h.
    let s = c.args.store.now in
    let r = c.args.self in
    all_ended (task_at s c.args.task.now) c.args.names.now r.tallest s bytes r.lines (bytes_read s c.args.task.now c.args.names.now bytes r h c.in_default.is) (search rules)

pub read_piece-requires-clause-tables : goal.read_piece-requires-clause-tables
read_piece-requires-clause-tables c = c.requires.fed.1.tables

pub read_piece-requires-clause-lines : goal.read_piece-requires-clause-lines
read_piece-requires-clause-lines c = (c.requires.fed.0, bytes_read c.args.store.now c.args.task.now c.args.names.now c.requires.fed.0 c.args.self c.requires.fed.1 c.in_default.is)

pub returns-in-Ok-clause-read : goal.returns-in-Ok-clause-read
returns-in-Ok-clause-read c = λ bytes h.
    let s = c.args.store.now in
    let r = c.args.self in
    let b = bytes_read s c.args.task.now c.args.names.now bytes r h c.in_default.is in
    last_read (task_at s c.args.task.now) c.args.names.now r.tallest s bytes r.lines b (λ e. search rules) c.read_piece.new.store c.read_piece.new.self.lines (c.in-Ok.ensures.read bytes b)

pub returns-in-Err-clause-fault : goal.returns-in-Err-clause-fault
returns-in-Err-clause-fault c = λ bytes h.
    let s = c.args.store.now in
    let r = c.args.self in
    let b = bytes_read s c.args.task.now c.args.names.now bytes r h c.in_default.is in
    last_fault (task_at s c.args.task.now) c.args.names.now r.tallest s bytes r.lines b (λ e. search rules) c.in-Err.fault (c.in-Err.ensures.fault bytes b)
