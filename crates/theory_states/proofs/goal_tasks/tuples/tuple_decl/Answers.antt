use Rattle.std.proofs.Common.{◌≡◌, ℕ, ◌++◌, codes, List, ap, ◌∙◌, arith}
use Rattle.std.specs.Fmt.{decimal}
use Rattle.tasks.specs.Task.{SymbolTree, AlgebraicTree, Constructs, DeclarationTree}
use Rattle.tasks.specs.Meaning.{algebraics_at, symbols_at}
use Rattle.tasks.specs.Entries.{builtin}
use Rattle.theory_states.proofs.goal_tasks.TuplesMade.{entry_within, type_name}
use Rattle.theory_states.proofs.goal_tasks.tuples.tuple_decl.Goals as goal
use Rattle.tasks.proofs.outside.Passed.{no_value}

pub returns-in_err-name-clause-tree : goal.returns-in_err-name-clause-tree
returns-in_err-name-clause-tree c = no_value _ _ c.from_residual.result c.from_residual.ensures.1

pub returns-in_err-name-clause-held : goal.returns-in_err-name-clause-held
returns-in_err-name-clause-held c = no_value _ _ c.from_residual.result c.from_residual.ensures.1

pub returns-in_err-theory-clause-tree : goal.returns-in_err-theory-clause-tree
returns-in_err-theory-clause-tree c = no_value _ _ c.from_residual-in_err-theory.result c.from_residual-in_err-theory.ensures.1

pub returns-in_err-theory-clause-held : goal.returns-in_err-theory-clause-held
returns-in_err-theory-clause-held c = no_value _ _ c.from_residual-in_err-theory.result c.from_residual-in_err-theory.ensures.1

pub returns-in_err-types-clause-tree : goal.returns-in_err-types-clause-tree
returns-in_err-types-clause-tree c = no_value _ _ c.from_residual-in_err-types.result c.from_residual-in_err-types.ensures.1

pub returns-in_err-types-clause-held : goal.returns-in_err-types-clause-held
returns-in_err-types-clause-held c = no_value _ _ c.from_residual-in_err-types.result c.from_residual-in_err-types.ensures.1

pub entry_at-requires-clause-symbols_held : goal.entry_at-requires-clause-symbols_held
entry_at-requires-clause-symbols_held c = c.requires.symbols_held

pub entry_at-requires-clause-within : goal.entry_at-requires-clause-within
entry_at-requires-clause-within c =
    let w = entry_within c.args.store.now c.args.sig.now.symbols c.args.width c.args.symbol c.requires.at in
    omega (arith, w, c.requires.at.type_before)

pub tuple_types-requires-clause-symbols_held : goal.tuple_types-requires-clause-symbols_held
tuple_types-requires-clause-symbols_held c = c.requires.symbols_held

pub tuple_types-requires-clause-at : goal.tuple_types-requires-clause-at
tuple_types-requires-clause-at c = c.requires.at

pub returns-clause-tree : goal.returns-clause-tree
returns-clause-tree c =
    let s = c.args.store.now in
    let n = c.args.width in
    let types = algebraics_at s c.in_ok-types.types in
    let theory : c.in_ok-theory.theory ≡ builtin = c.in_ok-theory.ensures in
    let name : c.in_ok-name.name ≡ codes "tuple" ++ decimal n = c.in_ok-name.ensures.cases ∙ ap (λ (e : SymbolTree). e.name) c.entry_at.ensures.tree ∙ type_name (symbols_at s c.args.sig.now.symbols) n c.args.symbol c.requires.at in
    let mk : List ℕ → List ℕ → List AlgebraicTree → DeclarationTree = λ t m ts. record { theory = t; name = m; vars = n; body = Constructs ts } in
    ap (λ t. mk t c.in_ok-name.name types) theory ∙ ap (λ m. mk builtin m types) name ∙ ap (mk builtin (codes "tuple" ++ decimal n)) c.in_ok-types.ensures.tree

pub returns-clause-held : goal.returns-clause-held
returns-clause-held c = c.in_ok-types.ensures.held
