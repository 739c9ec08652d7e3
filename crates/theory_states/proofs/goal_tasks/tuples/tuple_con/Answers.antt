use Rattle.std.proofs.Common.{arith, ◌≡◌, ℕ, ◌+◌, ◌-◌, List, All, sym, ap, subst, ◌∙◌}
use Rattle.std.specs.List.{range_with_len}
use Rattle.trees.specs.Tree.{Tree}
use Rattle.trees.specs.declared.TermId.{TermId}
use Rattle.trees.specs.Node.{Holds}
use Rattle.tasks.specs.Task.{SymbolTree, ConstructorTree}
use Rattle.tasks.specs.Equations.{type_variables}
use Rattle.tasks.specs.Meaning.{trees_at, symbols_at}
use Rattle.theory_states.proofs.goal_tasks.TuplesMade.{entry_within, con_args}
use Rattle.theory_states.proofs.goal_tasks.tuples.tuple_con.Goals as goal
use Rattle.tasks.proofs.outside.Passed.{no_value}

pub prove-unreachable-requires : goal.prove-unreachable-requires
prove-unreachable-requires c =
    let w = entry_within c.args.store.now c.args.sig.now.symbols c.args.width c.args.symbol c.requires.at in
    omega (arith, w, c.len-count.ensures)

pub numbers-requires : goal.numbers-requires
numbers-requires c =
    let w = entry_within c.args.store.now c.args.sig.now.symbols c.args.width c.args.symbol c.requires.at in
    omega (arith, w, c.len-count.ensures)

pub returns-in_err-projections-clause-tree : goal.returns-in_err-projections-clause-tree
returns-in_err-projections-clause-tree c = no_value _ _ c.from_residual.result c.from_residual.ensures.1

pub returns-in_err-projections-clause-held : goal.returns-in_err-projections-clause-held
returns-in_err-projections-clause-held c = no_value _ _ c.from_residual.result c.from_residual.ensures.1

pub returns-in_err-fields-clause-tree : goal.returns-in_err-fields-clause-tree
returns-in_err-fields-clause-tree c = no_value _ _ c.from_residual-in_err-fields.result c.from_residual-in_err-fields.ensures.1

pub returns-in_err-fields-clause-held : goal.returns-in_err-fields-clause-held
returns-in_err-fields-clause-held c = no_value _ _ c.from_residual-in_err-fields.result c.from_residual-in_err-fields.ensures.1

pub entry_at-requires-clause-symbols_held : goal.entry_at-requires-clause-symbols_held
entry_at-requires-clause-symbols_held c = c.requires.symbols_held

pub entry_at-requires-clause-within : goal.entry_at-requires-clause-within
entry_at-requires-clause-within c =
    let w = entry_within c.args.store.now c.args.sig.now.symbols c.args.width c.args.symbol c.requires.at in
    omega (arith, w)

pub returns-clause-tree : goal.returns-clause-tree
returns-clause-tree c =
    let s = c.args.store.now in
    let symbols = symbols_at s c.args.sig.now.symbols in
    let n = c.args.width in
    let k = c.args.symbol in
    let first = c.requires.at.type_before in
    let here : k ≡ k - 1 + 1 = omega (arith, first) in
    let after : k + 1 ≡ k - 1 + 2 = omega (arith, first) in
    let fields : trees_at s c.in_ok-fields.fields ≡ type_variables 0 n = ap (trees_at s) c.in_ok-fields.ensures.cases ∙ ap (λ (e : SymbolTree). e.args) c.entry_at.ensures.tree ∙ con_args symbols n k c.requires.at in
    let mk : ℕ → List Tree → List ℕ → ConstructorTree = λ a b d. record { symbol = a; fields = b; projections = d } in
    ap (λ a. mk a (trees_at s c.in_ok-fields.fields) c.in_ok-projections.projections) here
    ∙ ap (λ b. mk (k - 1 + 1) b c.in_ok-projections.projections) fields
    ∙ ap (mk (k - 1 + 1) (type_variables 0 n)) (c.in_ok-projections.ensures ∙ ap (λ z. range_with_len z n) after)

pub returns-clause-held : goal.returns-clause-held
returns-clause-held c = record { fields = subst (λ (es : List TermId). All (Holds c.args.store.now) es) (sym c.in_ok-fields.ensures.cases) c.entry_at.ensures.held.args }
