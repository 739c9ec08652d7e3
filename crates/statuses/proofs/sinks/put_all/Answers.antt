use Rattle.std.proofs.Common.{arith, ◌≡◌, ◌-◌, ◌+◌, ◌∙◌, ◌++◌, take, drop, subst, sym, ℕ, List}
use Rattle.std.proofs.lemmas.Result.{err_from_is_err_and}
use Rattle.outside.specs.State.{Gains}
use Rattle.statuses.proofs.Gaining.{gains_more, put_later, front_to}
use Rattle.statuses.proofs.sinks.put_all.Goals as goal

pub returns-in_err-put : goal.returns-in_err-put
returns-in_err-put g c =
    let p = err_from_is_err_and c.from_residual.result c.from_residual.ensures.1 in
    rw (p.1, p.2) (put_later (g.W.Sink.state c.args.sink.now) (g.W.Sink.state c.loop-at.sink) (g.W.Sink.state c.put.new.self) c.args.text.now c.loop-at.at _ c.in_err-put.field-0.0
    c.loop-at.invariant.gained c.loop-at.invariant.faults c.in_err-put.ensures.answer)

pub loop-at-preserved : goal.loop-at-preserved
loop-at-preserved g c =
    let text = c.args.text.now in
    let at = c.loop-at.at in
    let end = c.loop-at.at + c.min.result in
    let whole : take end text ≡ take at text ++ take (end - at) (drop at text) = front_to at end text (omega arith) in
    let P : List ℕ → Type 0 = λ x. Gains (g.W.Sink.state c.args.sink.now).written x (g.W.Sink.state c.put.new.self).written in
    record {
      within = omega arith;
      gained = subst P (sym whole) (gains_more _ (g.W.Sink.state c.loop-at.sink).written _ (take at text) (take (end - at) (drop at text)) c.loop-at.invariant.gained c.in_ok-put.ensures.answer.0);
      faults = c.in_ok-put.ensures.answer.1 ∙ c.loop-at.invariant.faults;
    }
