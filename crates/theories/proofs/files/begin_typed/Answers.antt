use Rattle.theory_states.specs.declared.states.Typed.{Typed}
use Rattle.theories.proofs.Ending.{begin_right}
use Rattle.theories.proofs.files.begin_typed.Goals as goal
use Rattle.tasks.proofs.outside.Passed.{no_value}

pub returns-clause-right : goal.returns-clause-right
returns-clause-right c = λ s.
    let t : Typed = record { sig = c.in_ok-sig.sig; decls = c.new.result; known = c.new-2.result } in
    begin_right s t (c.in_ok-sig.ensures.kept s) (c.in_ok-sig.ensures.int s) c.new.ensures c.new-2.ensures

pub returns-in_err-sig-clause-ok : goal.returns-in_err-sig-clause-ok
returns-in_err-sig-clause-ok c = no_value _ _ c.from_residual.result c.from_residual.ensures.1

pub returns-in_err-sig-clause-right : goal.returns-in_err-sig-clause-right
returns-in_err-sig-clause-right c = no_value _ _ c.from_residual.result c.from_residual.ensures.1
