use Rattle.std.proofs.Common.{◌++◌, Option, ℕ, refl, sym, subst, ◌∙◌}
use Rattle.tasks.specs.Meaning.{task_at}
use Rattle.tasks.proofs.Growth.{task_later}
use Rattle.step_reading.specs.Words.{ended_lines}
use Rattle.step_reading.specs.Fed.{AreBytesRead, IsLineFault}
use Rattle.step_reading.proofs.Fed.{bytes_read, fault_said, fault_longer, still_refused, fed_on, now_refused, ended_right}
use Rattle.step_reading.proofs.feeding.StepReader.feed.Goals as goal

pub read_piece-requires-clause-tables : goal.read_piece-requires-clause-tables
read_piece-requires-clause-tables c = c.requires.fed.1.tables

pub read_piece-requires-clause-lines : goal.read_piece-requires-clause-lines
read_piece-requires-clause-lines c = (c.requires.fed.0, bytes_read c.args.store.now c.args.task.now c.args.names.now c.requires.fed.0 c.args.self.now c.requires.fed.1 c.in_default.is)

pub returns-in-Some-clause-fed : goal.returns-in-Some-clause-fed
returns-in-Some-clause-fed c = λ bytes h. still_refused c.args.store.now c.args.task.now c.args.names.now bytes c.args.self.now h c.args.piece.now c.in-Some.fault c.in-Some.is

pub returns-in-Some-clause-wrong : goal.returns-in-Some-clause-wrong
returns-in-Some-clause-wrong c = λ bytes h.
    fault_longer (task_at c.args.store.now c.args.task.now) c.args.names.now c.args.self.now.tallest bytes c.args.piece.now c.in-Some.fault (fault_said c.args.store.now c.args.task.now c.args.names.now bytes c.args.self.now h c.in-Some.fault c.in-Some.is)

pub returns-in-Ok-clause-fed : goal.returns-in-Ok-clause-fed
returns-in-Ok-clause-fed c = λ bytes h.
    let s = c.args.store.now in
    let s' = c.read_piece.new.store in
    let task = c.args.task.now in
    let names = c.args.names.now in
    let t = task_at s task in
    let r = c.args.self.now in
    let r' = c.read_piece.new.self in
    let b = c.in-Ok.ensures.read bytes (bytes_read s task names bytes r h c.in_default.is) in
    fed_on t s' task names (bytes ++ c.args.piece.now) r' (task_later s s' c.in-Ok.ensures.grows task c.requires.task) c.in-Ok.ensures.tables (c.in-Ok.ensures.same.1 ∙ c.in_default.is)
    (subst (λ (k : Option ℕ). AreBytesRead t names k s' (bytes ++ c.args.piece.now) r'.lines) (sym c.in-Ok.ensures.same.0) b)

pub returns-in-Ok-clause-right : goal.returns-in-Ok-clause-right
returns-in-Ok-clause-right c = λ bytes h line w.
    let s = c.args.store.now in
    let names = c.args.names.now in
    let r = c.args.self.now in
    let b = c.in-Ok.ensures.read bytes (bytes_read s c.args.task.now names bytes r h c.in_default.is) in
    ended_right (task_at s c.args.task.now) names r.tallest c.read_piece.new.store (bytes ++ c.args.piece.now) c.read_piece.new.self.lines b line w

pub returns-in-Err-clause-fed : goal.returns-in-Err-clause-fed
returns-in-Err-clause-fed c = λ bytes h.
    let s = c.args.store.now in
    let s' = c.read_piece.new.store in
    let task = c.args.task.now in
    let names = c.args.names.now in
    let t = task_at s task in
    let r = c.args.self.now in
    let e = c.in-Err.fault in
    let f = c.in-Err.ensures.fault bytes (bytes_read s task names bytes r h c.in_default.is) in
    now_refused t s' task names (bytes ++ c.args.piece.now) _ (task_later s s' c.in-Err.ensures.grows task c.requires.task) c.in-Err.ensures.tables e refl
    (subst (λ (k : Option ℕ). IsLineFault t names k (ended_lines (bytes ++ c.args.piece.now)) e) (sym c.in-Err.ensures.same.0) f)

pub returns-in-Err-clause-wrong : goal.returns-in-Err-clause-wrong
returns-in-Err-clause-wrong c = λ bytes h. c.in-Err.ensures.fault bytes (bytes_read c.args.store.now c.args.task.now c.args.names.now bytes c.args.self.now h c.in_default.is)
