use Rattle.std.proofs.Common.{◌≡◌, ◌==◌, false, [], ◌∷◌, ◌++◌, refl, sym, subst, rules}
use Rattle.std.proofs.lemmas.Result.{IfErr-weaker}
use Rattle.tasks.specs.Meaning.{task_at}
use Rattle.step_reading.specs.Words.{ended_lines}
use Rattle.step_reading.specs.Fed.{AreBytesRead, IsLineFault}
use Rattle.step_reading.proofs.Fed.{line_fed, line_fault, byte_kept, both_ok}
use Rattle.step_reading.proofs.ended.read_byte.Goals as goal

pub read_line-requires-clause-lines : goal.read_line-requires-clause-lines
read_line-requires-clause-lines c = (c.requires.lines.1.lines, c.requires.lines.1.read)

pub returns-then-byte-eq10-clause-read : goal.returns-then-byte-eq10-clause-read
returns-then-byte-eq10-clause-read c =
    let s = c.args.store.now in
    let s' = c.read_line.new.store in
    let t = task_at s c.args.x.now.task.now in
    let names = c.args.x.now.table.now in
    let tallest = c.args.x.now.tallest in
    let l = c.args.lines.now in
    let l' = c.read_line.new.lines in
    let feed : c.args.byte ≡ 10 = search rules in
    both_ok c.read_line.result c.read_line.ensures.read c.read_line.ensures.rest
    (λ k rest bytes b. subst (λ z. AreBytesRead t names tallest s' (bytes ++ z ∷ []) l') (sym feed) (line_fed t names tallest s bytes l b s' l' (k b.lines b.read) rest))

pub returns-then-byte-eq10-clause-fault : goal.returns-then-byte-eq10-clause-fault
returns-then-byte-eq10-clause-fault c =
    let s = c.args.store.now in
    let t = task_at s c.args.x.now.task.now in
    let names = c.args.x.now.table.now in
    let tallest = c.args.x.now.tallest in
    let feed : c.args.byte ≡ 10 = search rules in
    IfErr-weaker c.read_line.result _ _
    (λ e k bytes b. subst (λ z. IsLineFault t names tallest (ended_lines (bytes ++ z ∷ [])) e) (sym feed) (line_fault t names tallest s bytes c.args.lines.now b e (k b.lines b.read)))
    c.read_line.ensures.fault

pub returns-clause-read : goal.returns-clause-read
returns-clause-read c = λ bytes b.
    let s = c.args.store.now in
    let other : (c.args.byte == 10) ≡ false = search rules in
    byte_kept (task_at s c.args.x.now.task.now) c.args.x.now.table.now c.args.x.now.tallest s bytes c.args.lines.now b c.args.byte other _ refl refl refl (search rules)
