use Rattle.std.proofs.Common.{◌+◌}
use Rattle.std.proofs.lemmas.Result.{err_from_is_err_and, on_ok_weaker}
use Rattle.surface.specs.SurfaceDeclarations.{decl_of}
use Rattle.theory_states.specs.Meaning.{state_at}
use Rattle.theories.specs.declaring.Declared.{IsDeclaredFault}
use Rattle.theories.proofs.Passing.{passed_right, passed_is}
use Rattle.theories.proofs.Placing.{declared_placed}
use Rattle.theories.proofs.Passed.{only_memory}
use Rattle.theories.proofs.declarations.type_logical.Goals as goal
use Rattle.tasks.proofs.outside.Passed.{no_ok}

pub returns-clause-ok : goal.returns-clause-ok
returns-clause-ok c =
    let s = c.type_declaration.new.store in
    let t = c.type_declaration.new.typed in
    let o = c.type_declaration.new.open in
    let e = c.in_ok-type_declaration.ensures in
    on_ok_weaker c.pass.result (λ q. record {
      between = state_at s t o;
      first = record { declared = e.ok; typed = e.typed; sound = e.sound };
      second = passed_is s t o c.pass.new.open q;
    }) c.pass.ensures.ok

pub returns-clause-right : goal.returns-clause-right
returns-clause-right c =
    let s = c.type_declaration.new.store in
    let t = c.type_declaration.new.typed in
    let o = c.type_declaration.new.open in
    on_ok_weaker c.pass.result (λ q. passed_right s t o c.pass.new.open (o.count + 1) q (record {
      held = c.in_ok-type_declaration.ensures.held;
      typed = c.in_ok-type_declaration.ensures.typed;
      placed = declared_placed (decl_of c.args.decl.now) (state_at c.args.store.now c.args.typed.now c.args.open.now) (state_at s t o) c.requires.right.typed.theory c.in_ok-type_declaration.ensures.ok c.requires.right.placed;
    })) c.pass.ensures.ok

pub returns-clause-err : goal.returns-clause-err
returns-clause-err c = only_memory (IsDeclaredFault (decl_of c.args.decl.now) (state_at c.args.store.now c.args.typed.now c.args.open.now)) c.pass.result c.pass.ensures.err

pub returns-clause-grows : goal.returns-clause-grows
returns-clause-grows c = c.type_declaration.ensures.grows

pub returns-in_err-type_declaration-clause-ok : goal.returns-in_err-type_declaration-clause-ok
returns-in_err-type_declaration-clause-ok c = no_ok _ _ c.from_residual.result c.from_residual.ensures.1

pub returns-in_err-type_declaration-clause-right : goal.returns-in_err-type_declaration-clause-right
returns-in_err-type_declaration-clause-right c = no_ok _ _ c.from_residual.result c.from_residual.ensures.1

pub returns-in_err-type_declaration-clause-err : goal.returns-in_err-type_declaration-clause-err
returns-in_err-type_declaration-clause-err c =
    let p = err_from_is_err_and c.from_residual.result c.from_residual.ensures.1 in
    rw (p.1, p.2) c.in_err-type_declaration.ensures.err

pub returns-in_err-type_declaration-clause-grows : goal.returns-in_err-type_declaration-clause-grows
returns-in_err-type_declaration-clause-grows c = c.type_declaration.ensures.grows
