use Rattle.std.proofs.Common.{◌+◌, map}
use Rattle.std.proofs.lemmas.Result.{err_from_is_err_and, on_ok_weaker}
use Rattle.surface.specs.SurfaceDeclarations.{element_of}
use Rattle.theory_states.specs.Meaning.{state_at}
use Rattle.theories.specs.cloning.Cloned.{IsCloneFault}
use Rattle.theories.proofs.Passing.{passed_right, passed_is}
use Rattle.theories.proofs.Passed.{only_memory}
use Rattle.theories.proofs.declarations.type_clone.Goals as goal
use Rattle.tasks.proofs.outside.Passed.{no_ok}

pub returns-clause-right : goal.returns-clause-right
returns-clause-right c =
    let s = c.clone_theory.new.store in
    let t = c.clone_theory.new.typed in
    let o = c.clone_theory.new.open in
    on_ok_weaker c.pass.result (λ q. passed_right s t o c.pass.new.open (o.count + 1) q (record {
      held = c.in_ok-clone_theory.ensures.held;
      typed = c.in_ok-clone_theory.ensures.typed;
      placed = c.in_ok-clone_theory.ensures.placed;
    })) c.pass.ensures.ok

pub returns-clause-ok : goal.returns-clause-ok
returns-clause-ok c =
    let s = c.clone_theory.new.store in
    let t = c.clone_theory.new.typed in
    let o = c.clone_theory.new.open in
    on_ok_weaker c.pass.result (λ q. record { between = state_at s t o; first = c.in_ok-clone_theory.ensures.ok; second = passed_is s t o c.pass.new.open q }) c.pass.ensures.ok

pub returns-clause-err : goal.returns-clause-err
returns-clause-err c = only_memory (IsCloneFault c.args.path.now (map element_of c.args.elements.now) (state_at c.args.store.now c.args.typed.now c.args.open.now)) c.pass.result c.pass.ensures.err

pub returns-clause-grows : goal.returns-clause-grows
returns-clause-grows c = c.clone_theory.ensures.grows

pub returns-in_err-clone_theory-clause-ok : goal.returns-in_err-clone_theory-clause-ok
returns-in_err-clone_theory-clause-ok c = no_ok _ _ c.from_residual.result c.from_residual.ensures.1

pub returns-in_err-clone_theory-clause-right : goal.returns-in_err-clone_theory-clause-right
returns-in_err-clone_theory-clause-right c = no_ok _ _ c.from_residual.result c.from_residual.ensures.1

pub returns-in_err-clone_theory-clause-err : goal.returns-in_err-clone_theory-clause-err
returns-in_err-clone_theory-clause-err c =
    let p = err_from_is_err_and c.from_residual.result c.from_residual.ensures.1 in
    rw (p.1, p.2) c.in_err-clone_theory.ensures.err

pub returns-in_err-clone_theory-clause-grows : goal.returns-in_err-clone_theory-clause-grows
returns-in_err-clone_theory-clause-grows c = c.clone_theory.ensures.grows
