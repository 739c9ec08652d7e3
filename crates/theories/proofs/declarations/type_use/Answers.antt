use Rattle.std.proofs.Common.{◌+◌, map}
use Rattle.std.proofs.lemmas.Result.{err_from_is_err_and, on_ok_weaker}
use Rattle.theory_states.specs.Meaning.{known_at, state_at}
use Rattle.theory_states.specs.Uses.{IsUnknownTheory}
use Rattle.elaboration_laws.proofs.Keeping.{used_typed}
use Rattle.theories.proofs.Passing.{passed_right, passed_is}
use Rattle.theories.proofs.Passed.{only_memory}
use Rattle.theories.proofs.declarations.type_use.Goals as goal
use Rattle.tasks.proofs.outside.Passed.{no_ok}

pub returns-in_err-use_theory-clause-err : goal.returns-in_err-use_theory-clause-err
returns-in_err-use_theory-clause-err c =
    let p = err_from_is_err_and c.from_residual.result c.from_residual.ensures.1 in
    rw (p.1, p.2) (c.in_err-use_theory.ensures.err c.args.store.now)

pub returns-clause-right : goal.returns-clause-right
returns-clause-right c =
    let s = c.args.store.now in
    let t = c.args.typed.now in
    let o = c.use_theory.new.open in
    on_ok_weaker c.pass.result (λ q. passed_right s t o c.pass.new.open (o.count + 1) q (record {
      held = c.in_ok-use_theory.ensures.held s c.requires.held;
      typed = used_typed c.args.link c.args.path.now c.args.alias.now (state_at s t c.args.open.now) (state_at s t o) (c.in_ok-use_theory.ensures.ok s) c.requires.typed;
      placed = c.requires.placed;
    })) c.pass.ensures.ok

pub returns-clause-ok : goal.returns-clause-ok
returns-clause-ok c =
    let s = c.args.store.now in
    let t = c.args.typed.now in
    let o = c.use_theory.new.open in
    on_ok_weaker c.pass.result (λ q. record { between = state_at s t o; first = c.in_ok-use_theory.ensures.ok s; second = passed_is s t o c.pass.new.open q }) c.pass.ensures.ok

pub returns-clause-err : goal.returns-clause-err
returns-clause-err c = only_memory (IsUnknownTheory c.args.path.now (map (known_at c.args.store.now) c.args.typed.now.known) c.args.open.now.count) c.pass.result c.pass.ensures.err

pub returns-in_err-use_theory-clause-ok : goal.returns-in_err-use_theory-clause-ok
returns-in_err-use_theory-clause-ok c = no_ok _ _ c.from_residual.result c.from_residual.ensures.1

pub returns-in_err-use_theory-clause-right : goal.returns-in_err-use_theory-clause-right
returns-in_err-use_theory-clause-right c = no_ok _ _ c.from_residual.result c.from_residual.ensures.1
