use Rattle.std.proofs.Common.{◌≡◌, [], ◌∷◌, ◌++◌, refl, sym, subst}
use Rattle.tasks.specs.Vocabulary.{of_signature}
use Rattle.tasks.specs.Meaning.{symbols_at}
use Rattle.elaboration_laws.specs.scopes.Names.{ScopeNames}
use Rattle.elaboration_laws.specs.name_resolution.Naming.{scope_at}
use Rattle.elaboration_laws.specs.Scopes.{AreTypedScopes}
use Rattle.theory_states.specs.Moves.{left}
use Rattle.theory_states.specs.declared.moves.Move.TheVariants.{Closes}
use Rattle.theory_states.proofs.Moving.{left_held}
use Rattle.theory_states.specs.declared.states.Opened.{Opened}
use Rattle.theory_states.specs.Meaning.{NamesHeld}
use Rattle.theories.proofs.Passing.{scoped_right, left_scopes, moves_held, moves_typed}
use Rattle.theories.proofs.Passed.{is_memory}
use Rattle.theories.proofs.declarations.leave_scope.Goals as goal
use Rattle.tasks.proofs.outside.Passed.{no_ok}

pub returns-clause-right : goal.returns-clause-right
returns-clause-right c =
    let s = c.args.store.now in
    let t = c.args.typed.now in
    let o = c.args.open.now in
    let o' : Opened = record o { within = c.args.outer; scope = c.leave.new.scope; moves = c.push.new.self } in
    let e : c.leave.new.scope ≡ left o.scope = c.leave.ensures in
    let ms : c.push.new.self.items ≡ o.moves.items ++ Closes ∷ [] = c.in_ok-push.ensures.items in
    let names = subst (NamesHeld s) (sym e) (left_held s o.scope c.requires.held.opened.scope) in
    let scopes = subst (λ (ns : ScopeNames). AreTypedScopes (of_signature (symbols_at s t.sig.symbols)) (scope_at s ns)) (sym e) (left_scopes s t o c.requires) in
    let handed = moves_held s t o c.requires Closes c.push.new.self.items tt ms in
    let moves = moves_typed s t o c.requires Closes c.push.new.self.items tt ms in
    scoped_right s t o o' refl names handed scopes moves c.requires

pub returns-in_err-push-clause-ok : goal.returns-in_err-push-clause-ok
returns-in_err-push-clause-ok c = no_ok _ _ c.from_residual.result c.from_residual.ensures.1

pub returns-in_err-push-clause-right : goal.returns-in_err-push-clause-right
returns-in_err-push-clause-right c = no_ok _ _ c.from_residual.result c.from_residual.ensures.1

pub returns-in_err-push-clause-err : goal.returns-in_err-push-clause-err
returns-in_err-push-clause-err c = is_memory c.from_residual.result c.from_residual.ensures.1
