use Rattle.std.proofs.Common.{◌≡◌, ◌+◌, ℕ, Bool, true, false, codes, List, [], ◌∷◌, ◌++◌, map, Err, refl, sym, ap, subst, ◌∙◌, append_assoc}
use Rattle.std.specs.Prelude.{◌↔◌, IsTrue}
use Rattle.std.proofs.lemmas.Result.{err_from_is_err_and}
use Rattle.tasks.specs.Vocabulary.{of_signature}
use Rattle.tasks.specs.Meaning.{symbols_at}
use Rattle.elaboration_laws.specs.scopes.Names.{ScopeNames, with_scope, is_declared, entries_of, innermost}
use Rattle.elaboration_laws.specs.scopes.declared.Table.{Table}
use Rattle.elaboration_laws.specs.scopes.declared.Table.TheVariants.{Scopes}
use Rattle.elaboration_laws.specs.name_resolution.Naming.{type_tree_at, scope_at}
use Rattle.elab_groups.proofs.scopes.Mapped.{opened_with}
use Rattle.elab_groups.proofs.parts.AtScope.{declared_at}
use Rattle.theory_states.specs.States.{StateTree}
use Rattle.elaboration_laws.specs.Scopes.{AreTypedScopes}
use Rattle.theory_states.specs.declared.moves.Move.TheVariants.{Opens}
use Rattle.theory_states.proofs.Moving.{opened_held}
use Rattle.theory_states.specs.declared.states.Opened.{Opened}
use Rattle.theory_states.specs.Meaning.{move_at, opened_at, state_at, NamesHeld}
use Rattle.theories.specs.Typing.{IsTwice}
use Rattle.theories.specs.Right.{IsStateRight}
use Rattle.theories.proofs.Passing.{scoped_right, scoped_state, opened_scopes, further_moves, moves_held, moves_typed}
use Rattle.theories.proofs.Passed.{memory_so}
use Rattle.theories.proofs.declarations.enter_scope.Goals as goal
use Rattle.tasks.proofs.outside.Passed.{no_ok}

pub returns-clause-right : goal.returns-clause-right
returns-clause-right c =
    let s = c.args.store.now in
    let t = c.args.typed.now in
    let o = c.args.open.now in
    let o' : Opened = record o { within = c.push.new.self; scope = c.open_name.new.self; moves = c.push-2.new.self; count = o.count + 1 } in
    let e : c.open_name.new.self ≡ with_scope c.as_slice.result.now true o.scope = c.in-Ok.ensures.ok in
    let ms : c.push-2.new.self.items ≡ o.moves.items ++ Opens c.in_ok-clone.field-0 ∷ [] = c.in_ok-push-2.ensures.items in
    let names = subst (NamesHeld s) (sym e) (opened_held s c.as_slice.result.now true o.scope c.requires.held.opened.scope) in
    let scopes = subst (λ (ns : ScopeNames). AreTypedScopes (of_signature (symbols_at s t.sig.symbols)) (scope_at s ns)) (sym e) (opened_scopes s t o c.requires c.as_slice.result.now) in
    let handed = moves_held s t o c.requires (Opens c.in_ok-clone.field-0) c.push-2.new.self.items tt ms in
    let moves = moves_typed s t o c.requires (Opens c.in_ok-clone.field-0) c.push-2.new.self.items tt ms in
    subst (IsStateRight s t) (sym c.in_ok-pass.ensures.ok) (scoped_right s t o o' refl names handed scopes moves c.requires)

pub returns-in_err-extend_from_slice-clause-ok : goal.returns-in_err-extend_from_slice-clause-ok
returns-in_err-extend_from_slice-clause-ok c = no_ok _ _ c.from_residual.result c.from_residual.ensures.1

pub returns-in_err-extend_from_slice-clause-right : goal.returns-in_err-extend_from_slice-clause-right
returns-in_err-extend_from_slice-clause-right c = no_ok _ _ c.from_residual.result c.from_residual.ensures.1

pub returns-in_err-push-clause-ok : goal.returns-in_err-push-clause-ok
returns-in_err-push-clause-ok c = no_ok _ _ c.from_residual-in_err-push.result c.from_residual-in_err-push.ensures.1

pub returns-in_err-push-clause-right : goal.returns-in_err-push-clause-right
returns-in_err-push-clause-right c = no_ok _ _ c.from_residual-in_err-push.result c.from_residual-in_err-push.ensures.1

pub returns-in_err-clone-clause-ok : goal.returns-in_err-clone-clause-ok
returns-in_err-clone-clause-ok c = no_ok _ _ c.from_residual-in_err-clone.result c.from_residual-in_err-clone.ensures.1

pub returns-in_err-clone-clause-right : goal.returns-in_err-clone-clause-right
returns-in_err-clone-clause-right c = no_ok _ _ c.from_residual-in_err-clone.result c.from_residual-in_err-clone.ensures.1

pub returns-in_err-push-2-clause-ok : goal.returns-in_err-push-2-clause-ok
returns-in_err-push-2-clause-ok c = no_ok _ _ c.from_residual-in_err-push-2.result c.from_residual-in_err-push-2.ensures.1

pub returns-in_err-push-2-clause-right : goal.returns-in_err-push-2-clause-right
returns-in_err-push-2-clause-right c = no_ok _ _ c.from_residual-in_err-push-2.result c.from_residual-in_err-push-2.ensures.1

pub returns-in_err-pass-clause-ok : goal.returns-in_err-pass-clause-ok
returns-in_err-pass-clause-ok c = no_ok _ _ c.from_residual-in_err-pass.result c.from_residual-in_err-pass.ensures.1

pub returns-in_err-pass-clause-right : goal.returns-in_err-pass-clause-right
returns-in_err-pass-clause-right c = no_ok _ _ c.from_residual-in_err-pass.result c.from_residual-in_err-pass.ensures.1

pub returns-in_err-pass-clause-err : goal.returns-in_err-pass-clause-err
returns-in_err-pass-clause-err c =
    let p = err_from_is_err_and c.from_residual-in_err-pass.result c.from_residual-in_err-pass.ensures.1 in
    rw (p.1, p.2) (memory_so (IsTwice c.args.name.now (state_at c.args.store.now c.args.typed.now c.args.open.now)) c.in_err-pass.field-0.0 c.in_err-pass.ensures.err)

-- the innermost scope has no scope of this name
not_so : {P : Type 0} (b : Bool) → (P → ⊥) → ◌↔◌ P (IsTrue b) → b ≡ false
not_so false n h = refl
not_so true n h = absurd (n (h.1 refl))

pub returns-clause-ok : goal.returns-clause-ok
returns-clause-ok c =
    let s = c.args.store.now in
    let t = c.args.typed.now in
    let o = c.args.open.now in
    let x = c.args.name.now.text in
    let o' : Opened = record o { within = c.push.new.self; scope = c.open_name.new.self; moves = c.push-2.new.self; count = o.count + 1 } in
    let free : is_declared Scopes c.as_slice.result.now (entries_of o.scope (innermost o.scope)) ≡ false = not_so (is_declared Scopes c.as_slice.result.now (entries_of o.scope (innermost o.scope))) (λ q. cc) c.in-Ok.ensures.duplicate in
    let scopes : scope_at s c.open_name.new.self ≡ with_scope x true (scope_at s o.scope) =
    ap (scope_at s) c.in-Ok.ensures.ok ∙ opened_with (type_tree_at s) c.as_slice.result.now true o.scope ∙ ap (λ (y : List ℕ). with_scope y true (scope_at s o.scope)) c.as_slice.ensures in
    let moves : map (move_at s) c.push-2.new.self.items ≡ map (move_at s) o.moves.items ++ Opens x ∷ [] =
    further_moves s t o c.requires (Opens c.in_ok-clone.field-0) c.push-2.new.self.items c.in_ok-push-2.ensures.items ∙ ap (λ (y : List ℕ). map (move_at s) o.moves.items ++ Opens y ∷ []) c.in_ok-clone.ensures.cases in
    let within : c.push.new.self.items ≡ o.within.items ++ (x ++ codes ".") =
    c.in_ok-push.ensures.items ∙ ap (λ (ys : List ℕ). ys ++ codes ".") (c.in_ok-extend_from_slice.ensures.items ∙ ap (λ (ys : List ℕ). o.within.items ++ ys) c.as_slice-2.ensures) ∙ append_assoc o.within.items x (codes ".") in
    let mk : List ℕ → StateTree = λ w. record (state_at s t o) {
      opened = record (opened_at s o) { within = w; scope = with_scope x true (scope_at s o.scope); moves = map (move_at s) o.moves.items ++ Opens x ∷ [] };
      number = o.count + 1;
    } in
    record {
      new = ap (λ (f : Table → List ℕ → Bool). f Scopes x) (declared_at s o.scope) ∙ (ap (λ (y : List ℕ). is_declared Scopes y (entries_of o.scope (innermost o.scope))) (sym c.as_slice.ensures) ∙ free);
      is = ap (state_at s t) c.in_ok-pass.ensures.ok ∙ (scoped_state s t o c.requires o' refl (with_scope x true (scope_at s o.scope)) (map (move_at s) o.moves.items ++ Opens x ∷ []) scopes moves ∙ ap mk within);
    }

pub returns-in-Err-Duplicate-clause-err : goal.returns-in-Err-Duplicate-clause-err
returns-in-Err-Duplicate-clause-err c =
    let s = c.args.store.now in
    let o = c.args.open.now in
    let x = c.args.name.now.text in
    let old : is_declared Scopes c.as_slice.result.now (entries_of o.scope (innermost o.scope)) ≡ true = c.in-Err-Duplicate.ensures.duplicate.0 (ap Err c.in-Err-Duplicate.field-0-is) in
    record {
      declared = ap (λ (f : Table → List ℕ → Bool). f Scopes x) (declared_at s o.scope) ∙ (ap (λ (y : List ℕ). is_declared Scopes y (entries_of o.scope (innermost o.scope))) (sym c.as_slice.ensures) ∙ old);
      is = refl;
    }
