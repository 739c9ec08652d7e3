use Rattle.std.proofs.Common.{sym, subst}
use Rattle.tasks.proofs.trees.Nodes.{Grows_trans}
use Rattle.tasks.specs.Meaning.{symbols_at}
use Rattle.theory_states.specs.Meaning.{move_at, MoveHeld}
use Rattle.theory_states.proofs.Moving.{move_stays, move_grows}
use Rattle.clones.specs.clone_copies.Moves.{move_mapped}
use Rattle.clones.proofs.Steps.{map_held, known_on}
use Rattle.clones.proofs.Loops.{copied_none, copied_all, copied_next}
use Rattle.clones.proofs.clone_copies.moves.map_moves.Goals as goal
use Rattle.tasks.proofs.outside.Passed.{no_ok, no_value}

pub loop-step-init : goal.loop-step-init
loop-step-init c = λ u. copied_none move_at MoveHeld (move_mapped (symbols_at u c.args.sig.now.symbols)) c.args.morphism.now c.args.store.now c.args.known.now c.new-out.result.items c.new-out.ensures.items c.requires.known

pub map_move-requires-clause-map_held : goal.map_move-requires-clause-map_held
map_move-requires-clause-map_held c = let s = c.args.store.now in map_held s c.loop-step.store (c.loop-step.invariant s).grows c.args.morphism.now c.requires.map_held

pub map_move-requires-clause-known : goal.map_move-requires-clause-known
map_move-requires-clause-known c = let s = c.args.store.now in known_on c.args.morphism.now s c.loop-step.store (c.loop-step.invariant s).grows c.requires.map_held c.loop-step.known (c.loop-step.invariant s).are_known

pub map_move-requires-clause-held : goal.map_move-requires-clause-held
map_move-requires-clause-held c =
    let s = c.args.store.now in
    let x = c.step-item.result in
    move_grows s c.loop-step.store (c.loop-step.invariant s).grows x (subst (MoveHeld s) (sym c.step-item.is) (c.requires.held c.loop-step.step-index x c.loop-step-test.true))

pub loop-step-preserved : goal.loop-step-preserved
loop-step-preserved c = λ u.
    copied_next move_at MoveHeld (move_mapped (symbols_at u c.args.sig.now.symbols)) move_stays move_grows c.args.morphism.now c.args.store.now c.loop-step.store c.map_move.new.store c.loop-step.known c.map_move.new.known
    c.args.moves.now c.loop-step.out.items c.push.new.self.items c.loop-step.step-index c.step-item.result c.in_ok-copy.copy c.requires.map_held c.requires.held c.loop-step-test.true c.step-item.is (c.loop-step.invariant u)
    c.map_move.ensures.grows c.in_ok-copy.ensures.known (c.in_ok-copy.ensures.is u) c.in_ok-copy.ensures.result_held c.in_ok-push.ensures.items

pub returns-clause-are : goal.returns-clause-are
returns-clause-are c = λ u.
    let l = c.loop-step in
    copied_all move_at MoveHeld (move_mapped (symbols_at u c.args.sig.now.symbols)) c.args.morphism.now c.args.store.now l.store l.known c.args.moves.now l.out.items l.step-index c.loop-step-test.false (l.invariant u)

pub returns-clause-result_held : goal.returns-clause-result_held
returns-clause-result_held c = (c.loop-step.invariant c.args.store.now).held

pub returns-in_err-copy-clause-are : goal.returns-in_err-copy-clause-are
returns-in_err-copy-clause-are c = no_value _ _ c.from_residual.result c.from_residual.ensures.1

pub returns-in_err-copy-clause-result_held : goal.returns-in_err-copy-clause-result_held
returns-in_err-copy-clause-result_held c = no_value _ _ c.from_residual.result c.from_residual.ensures.1

pub returns-in_err-copy-clause-known : goal.returns-in_err-copy-clause-known
returns-in_err-copy-clause-known c = no_ok _ _ c.from_residual.result c.from_residual.ensures.1

pub returns-in_err-push-clause-are : goal.returns-in_err-push-clause-are
returns-in_err-push-clause-are c = no_value _ _ c.from_residual-in_err-push.result c.from_residual-in_err-push.ensures.1

pub returns-in_err-push-clause-result_held : goal.returns-in_err-push-clause-result_held
returns-in_err-push-clause-result_held c = no_value _ _ c.from_residual-in_err-push.result c.from_residual-in_err-push.ensures.1

pub returns-in_err-push-clause-known : goal.returns-in_err-push-clause-known
returns-in_err-push-clause-known c = no_ok _ _ c.from_residual-in_err-push.result c.from_residual-in_err-push.ensures.1

pub returns-in_err-copy-clause-grows : goal.returns-in_err-copy-clause-grows
returns-in_err-copy-clause-grows c = Grows_trans c.args.store.now c.loop-step.store c.map_move.new.store (c.loop-step.invariant c.args.store.now).grows c.map_move.ensures.grows

pub returns-in_err-push-clause-grows : goal.returns-in_err-push-clause-grows
returns-in_err-push-clause-grows c = Grows_trans c.args.store.now c.loop-step.store c.map_move.new.store (c.loop-step.invariant c.args.store.now).grows c.map_move.ensures.grows

pub returns-clause-known : goal.returns-clause-known
returns-clause-known c = (c.loop-step.invariant c.args.store.now).are_known

pub returns-clause-grows : goal.returns-clause-grows
returns-clause-grows c = (c.loop-step.invariant c.args.store.now).grows
