use Rattle.std.proofs.Common.{◌≡◌, ℕ, List, subst, ◌∙◌}
use Rattle.std.proofs.lemmas.Result.{on_ok_weaker}
use Rattle.tasks.specs.Task.{made_by}
use Rattle.tasks.specs.Meaning.{symbols_at, body_at}
use Rattle.theory_states.specs.goal_tasks.Named.{signatures_named}
use Rattle.theory_states.specs.goal_tasks.Gathered.{Walks}
use Rattle.theory_states.proofs.goal_tasks.Steps.{walks_then}
use Rattle.theory_states.proofs.goal_tasks.declarations.note_declaration.Goals as goal
use Rattle.tasks.proofs.outside.Passed.{no_ok}

pub returns-in_err-made : goal.returns-in_err-made
returns-in_err-made c = no_ok _ _ c.from_residual.result c.from_residual.ensures.1

pub note_symbols-requires-clause-walk : goal.note_symbols-requires-clause-walk
note_symbols-requires-clause-walk c = c.requires.walk

pub note_symbols-requires-clause-symbols_held : goal.note_symbols-requires-clause-symbols_held
note_symbols-requires-clause-symbols_held c = c.requires.symbols_held

pub returns-in_err-note_symbols : goal.returns-in_err-note_symbols
returns-in_err-note_symbols c = no_ok _ _ c.from_residual-in_err-note_symbols.result c.from_residual-in_err-note_symbols.ensures.1

pub note_said-requires-clause-walk : goal.note_said-requires-clause-walk
note_said-requires-clause-walk c = c.in_ok-note_symbols.ensures.is_done

pub note_said-requires-clause-held : goal.note_said-requires-clause-held
note_said-requires-clause-held c = c.requires.held

pub returns : goal.returns
returns c =
    let s = c.args.store.now in
    let symbols = symbols_at s c.args.sig.now.symbols in
    let made : c.as_slice.result.now ≡ made_by (body_at s c.args.decl.now.body) = c.as_slice.ensures.value ∙ c.in_ok-made.ensures s in
    let first = subst (λ (ks : List ℕ). Walks s c.args.found.now.keys c.note_symbols.new.found.keys c.note_symbols.new.done.keys (signatures_named symbols ks)) made c.in_ok-note_symbols.ensures in
    on_ok_weaker c.note_said.result (λ k. walks_then s _ _ _ _ _ _ _ first k) c.note_said.ensures
