use Rattle.std.proofs.Common.{ℕ, List, subst}
use Rattle.std.proofs.lemmas.List.{take_all}
use Rattle.tasks.specs.Task.{symbol_or}
use Rattle.tasks.specs.Meaning.{symbols_at}
use Rattle.theory_states.specs.goal_tasks.Named.{signature_named, signatures_named}
use Rattle.theory_states.specs.goal_tasks.Gathered.{Walks}
use Rattle.theory_states.proofs.goal_tasks.Lists.{walks_step}
use Rattle.theory_states.proofs.goal_tasks.Steps.{walks_none}
use Rattle.theory_states.proofs.goal_tasks.declarations.note_symbols.Goals as goal
use Rattle.tasks.proofs.plain_laws.Lists.{flat_take}
use Rattle.tasks.proofs.outside.Passed.{no_ok}

pub loop-symbol-init : goal.loop-symbol-init
loop-symbol-init c = walks_none c.args.store.now _ _ c.requires.walk

pub loop-symbol-preserved : goal.loop-symbol-preserved
loop-symbol-preserved c = walks_step c.args.store.now _ _ _ _ _ _ _ _ (flat_take (λ k. signature_named (symbol_or (symbols_at c.args.store.now c.args.sig.now.symbols) k)) c.args.symbols.now c.loop-symbol.symbol-index 0 c.loop-symbol-test.true) c.loop-symbol.invariant c.in_ok-note_symbol.ensures

pub note_symbol-requires-clause-walk : goal.note_symbol-requires-clause-walk
note_symbol-requires-clause-walk c = c.loop-symbol.invariant.is_done

pub note_symbol-requires-clause-symbols_held : goal.note_symbol-requires-clause-symbols_held
note_symbol-requires-clause-symbols_held c = c.requires.symbols_held

pub returns-in_err-note_symbol : goal.returns-in_err-note_symbol
returns-in_err-note_symbol c = no_ok _ _ c.from_residual.result c.from_residual.ensures.1

pub returns : goal.returns
returns c =
    let s = c.args.store.now in
    let l = c.loop-symbol in
    subst (λ (ks : List ℕ). Walks s c.args.found.now.keys l.found.keys l.done.keys (signatures_named (symbols_at s c.args.sig.now.symbols) ks)) (take_all l.symbol-index c.args.symbols.now c.loop-symbol-test.false) l.invariant
