use Rattle.std.proofs.Common.{◌≡◌, Some, map, All, sym, ap, subst, ◌∙◌}
use Rattle.tasks.specs.trees.declared.ints.Ints.{Ints}
use Rattle.tasks.specs.declared.signature.Signature.{Signature}
use Rattle.tasks.specs.Meaning.{symbols_at, SymbolHeld}
use Rattle.elaboration_laws.specs.theory_states.goal_tasks.Meaning.{AreTuples}
use Rattle.theory_states.specs.declared.states.KnownTheory.{KnownTheory}
use Rattle.theories.specs.Ints.{int_entries}
use Rattle.theories.proofs.Ending.{collected_is, collected_held, symbols_held}
use Rattle.theories.proofs.Passed.{is_memory}
use Rattle.theories.proofs.files.collect.Goals as goal
use Rattle.tasks.proofs.outside.Passed.{no_value}

pub returns-clause-ok : goal.returns-clause-ok
returns-clause-ok c = λ n.
    let t = c.args.typed in
    let v : c.in_ok-new.field-0.value ≡ record { symbols = t.sig.symbols; ints = Some int_entries } = c.in_ok-new.ensures.ok ∙ ap (λ (i : Ints). let it : Signature = record { symbols = t.sig.symbols; ints = Some i } in it) c.int_entries.ensures in
    let q : c.in_ok-list.list ≡ map (λ (k : KnownTheory). k.theory) t.known = c.in_ok-list.ensures ∙ ap (map (λ (k : KnownTheory). k.theory)) c.into_vec.ensures in
    collected_is c.args.store.now t c.in_ok-new.field-0.value c.in_ok-list.list c.args.embedded n v q

pub returns-clause-held : goal.returns-clause-held
returns-clause-held c =
    let s = c.args.store.now in
    let t = c.args.typed in
    let v : c.in_ok-new.field-0.value ≡ record { symbols = t.sig.symbols; ints = Some int_entries } = c.in_ok-new.ensures.ok ∙ ap (λ (i : Ints). let it : Signature = record { symbols = t.sig.symbols; ints = Some i } in it) c.int_entries.ensures in
    let q : c.in_ok-list.list ≡ map (λ (k : KnownTheory). k.theory) t.known = c.in_ok-list.ensures ∙ ap (map (λ (k : KnownTheory). k.theory)) c.into_vec.ensures in
    record {
      symbols = subst (λ (g : Signature). All (SymbolHeld s) g.symbols) (sym v) (symbols_held s t.sig.symbols c.requires.held.signature.typed);
      decls = c.requires.held.decls;
      theories = collected_held s t c.in_ok-list.list q c.requires.held;
    }

pub returns-clause-tuples : goal.returns-clause-tuples
returns-clause-tuples c =
    let s = c.args.store.now in
    let t = c.args.typed in
    let v : c.in_ok-new.field-0.value ≡ record { symbols = t.sig.symbols; ints = Some int_entries } = c.in_ok-new.ensures.ok ∙ ap (λ (i : Ints). let it : Signature = record { symbols = t.sig.symbols; ints = Some i } in it) c.int_entries.ensures in
    subst (λ (g : Signature). AreTuples (symbols_at s g.symbols)) (sym v) c.requires.typed.built.tuples

pub returns-in_err-list-clause-ok : goal.returns-in_err-list-clause-ok
returns-in_err-list-clause-ok c = no_value _ _ c.from_residual.result c.from_residual.ensures.1

pub returns-in_err-list-clause-held : goal.returns-in_err-list-clause-held
returns-in_err-list-clause-held c = no_value _ _ c.from_residual.result c.from_residual.ensures.1

pub returns-in_err-list-clause-tuples : goal.returns-in_err-list-clause-tuples
returns-in_err-list-clause-tuples c = no_value _ _ c.from_residual.result c.from_residual.ensures.1

pub returns-in_err-new-clause-ok : goal.returns-in_err-new-clause-ok
returns-in_err-new-clause-ok c = no_value _ _ c.from_residual-in_err-new.result c.from_residual-in_err-new.ensures.1

pub returns-in_err-new-clause-held : goal.returns-in_err-new-clause-held
returns-in_err-new-clause-held c = no_value _ _ c.from_residual-in_err-new.result c.from_residual-in_err-new.ensures.1

pub returns-in_err-new-clause-tuples : goal.returns-in_err-new-clause-tuples
returns-in_err-new-clause-tuples c = no_value _ _ c.from_residual-in_err-new.result c.from_residual-in_err-new.ensures.1

pub returns-in_err-list-clause-err : goal.returns-in_err-list-clause-err
returns-in_err-list-clause-err c = is_memory c.from_residual.result c.from_residual.ensures.1

pub returns-in_err-new-clause-err : goal.returns-in_err-new-clause-err
returns-in_err-new-clause-err c = is_memory c.from_residual-in_err-new.result c.from_residual-in_err-new.ensures.1
