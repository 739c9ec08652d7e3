use Rattle.std.proofs.Common.{◌≡◌, ◌+◌, ◌<◌, [], ◌∷◌, ◌++◌, length, get_or, take, drop, sym, ap, subst, ◌∙◌, rules}
use Rattle.std.proofs.lemmas.List.{append-nil}
use Rattle.tasks.proofs.trees.Nodes.{Grows_refl, Grows_trans}
use Rattle.tasks.specs.Task.{TaskTree}
use Rattle.tasks.specs.Meaning.{task_at}
use Rattle.tasks.proofs.Growth.{task_held_later, task_later}
use Rattle.step_reading.specs.Words.{ended_lines}
use Rattle.step_reading.specs.Fed.{AreBytesRead, IsLineFault}
use Rattle.step_reading.proofs.Fed.{fed_so_far, fed_whole, fault_longer, passed_on}
use Rattle.step_reading.proofs.ended.read_piece.Goals as goal

pub loop-i-init : goal.loop-i-init
loop-i-init c = record {
  grows = Grows_refl c.args.store.now;
  read = λ bytes h. subst (λ bs. AreBytesRead (task_at c.args.store.now c.args.x.now.task.now) c.args.x.now.table.now c.args.x.now.tallest c.args.store.now bs c.args.lines.now) (sym (append-nil bytes)) h;
}

pub read_byte-requires-clause-reader : goal.read_byte-requires-clause-reader
read_byte-requires-clause-reader c = record {
  task = task_held_later c.args.store.now c.loop-i.store c.loop-i.invariant.grows c.args.x.now.task.now c.requires.reader.task;
  index = c.requires.reader.index;
  names = c.requires.reader.names;
}

pub read_byte-requires-clause-lines : goal.read_byte-requires-clause-lines
read_byte-requires-clause-lines c =
    let s = c.loop-i.store in
    let same = task_later c.args.store.now s c.loop-i.invariant.grows c.args.x.now.task.now c.requires.reader.task in
    let bytes = c.requires.lines.0 ++ take c.loop-i.i c.args.piece.now in
    (bytes, subst (λ (u : TaskTree). AreBytesRead u c.args.x.now.table.now c.args.x.now.tallest s bytes c.loop-i.lines) (sym same) (c.loop-i.invariant.read c.requires.lines.0 c.requires.lines.1))

pub returns-in_err-read_byte-clause-fault : goal.returns-in_err-read_byte-clause-fault
returns-in_err-read_byte-clause-fault c =
    let s0 = c.args.store.now in
    let s = c.loop-i.store in
    let task = c.args.x.now.task.now in
    let t = task_at s0 task in
    let names = c.args.x.now.table.now in
    let tallest = c.args.x.now.tallest in
    let piece = c.args.piece.now in
    let i = c.loop-i.i in
    let l = c.loop-i.lines in
    let e = c.in_err-read_byte.field-0.0 in
    let same : task_at s task ≡ t = task_later s0 s c.loop-i.invariant.grows task c.requires.reader.task in
    let within : i < length piece = search rules in
    passed_on c.from_residual.result e _ c.from_residual.ensures.1
    (λ bytes h.
    let b = c.loop-i.invariant.read bytes h in
    let f0 = c.in_err-read_byte.ensures.fault (bytes ++ take i piece) (subst (λ (u : TaskTree). AreBytesRead u names tallest s (bytes ++ take i piece) l) (sym same) b) in
    let f = subst (λ (u : TaskTree). IsLineFault u names tallest (ended_lines ((bytes ++ take i piece) ++ get_or piece i 0 ∷ [])) e) same f0 in
    let whole : ((bytes ++ take i piece) ++ get_or piece i 0 ∷ []) ++ drop (i + 1) piece ≡ bytes ++ piece = ap (λ z. z ++ drop (i + 1) piece) (sym (fed_so_far bytes piece i within)) ∙ fed_whole bytes piece (i + 1) in
    subst (λ bs. IsLineFault t names tallest (ended_lines bs) e) whole (fault_longer t names tallest ((bytes ++ take i piece) ++ get_or piece i 0 ∷ []) (drop (i + 1) piece) e f))

pub loop-i-preserved : goal.loop-i-preserved
loop-i-preserved c =
    let s0 = c.args.store.now in
    let s = c.loop-i.store in
    let s' = c.read_byte.new.store in
    let task = c.args.x.now.task.now in
    let t = task_at s0 task in
    let names = c.args.x.now.table.now in
    let tallest = c.args.x.now.tallest in
    let piece = c.args.piece.now in
    let i = c.loop-i.i in
    let l' = c.read_byte.new.lines in
    let same : task_at s task ≡ t = task_later s0 s c.loop-i.invariant.grows task c.requires.reader.task in
    let within : i < length piece = search rules in
    record {
      grows = Grows_trans s0 s s' c.loop-i.invariant.grows c.in_ok-read_byte.ensures.grows;
      read = λ bytes h.
          let b = c.loop-i.invariant.read bytes h in
          let r0 = c.in_ok-read_byte.ensures.read (bytes ++ take i piece) (subst (λ (u : TaskTree). AreBytesRead u names tallest s (bytes ++ take i piece) c.loop-i.lines) (sym same) b) in
          let r = subst (λ (u : TaskTree). AreBytesRead u names tallest s' ((bytes ++ take i piece) ++ get_or piece i 0 ∷ []) l') same r0 in
          subst (λ bs. AreBytesRead t names tallest s' bs l') (sym (fed_so_far bytes piece i within)) r;
    }
