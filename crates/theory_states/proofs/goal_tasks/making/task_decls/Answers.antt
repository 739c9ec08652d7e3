use Rattle.std.proofs.Common.{◌≡◌, ℕ, ◌++◌, List, take, All, sym, ap, subst, ◌∙◌}
use Rattle.std.proofs.lemmas.Result.{IfOk-weaker}
use Rattle.trees.specs.Node.{tree_at}
use Rattle.tasks.specs.declared.declaration.Decl.{Decl}
use Rattle.tasks.specs.declared.signature.Signature.{Signature}
use Rattle.tasks.specs.Task.{DeclarationTree}
use Rattle.tasks.specs.Meaning.{symbols_at, declarations_at, SymbolHeld, DeclHeld}
use Rattle.theory_states.specs.goal_tasks.Named.{named, declarations_named}
use Rattle.theory_states.specs.goal_tasks.Tuples.{tuples_in}
use Rattle.theory_states.specs.goal_tasks.Meaning.{placed, AreTuples}
use Rattle.theory_states.proofs.goal_tasks.Placed.{before_is, placed_all}
use Rattle.theory_states.proofs.goal_tasks.making.task_decls.Goals as goal
use Rattle.tasks.proofs.outside.Passed.{no_value}

pub returns-in_err-own-clause-tree : goal.returns-in_err-own-clause-tree
returns-in_err-own-clause-tree c = no_value _ _ c.from_residual.result c.from_residual.ensures.1

pub returns-in_err-own-clause-new_held : goal.returns-in_err-own-clause-new_held
returns-in_err-own-clause-new_held c = no_value _ _ c.from_residual.result c.from_residual.ensures.1

pub with_tuples-requires-clause-symbols_held : goal.with_tuples-requires-clause-symbols_held
with_tuples-requires-clause-symbols_held c = subst (λ (g : Signature). All (SymbolHeld c.args.store.now) g.symbols) (sym c.deref.ensures) c.requires.held.symbols

pub with_tuples-requires-clause-tuples : goal.with_tuples-requires-clause-tuples
with_tuples-requires-clause-tuples c = subst (λ (g : Signature). AreTuples (symbols_at c.args.store.now g.symbols)) (sym c.deref.ensures) c.requires.tuples

pub with_tuples-requires-clause-held : goal.with_tuples-requires-clause-held
with_tuples-requires-clause-held c =
    let P = DeclHeld c.args.store.now in
    let ds = c.args.all.now.decls in
    let n = c.args.goal.now.before in
    let ks = c.args.theory.now.visible in
    let q : c.in_ok-own.own.items ≡ placed ds (take n ks) = c.in_ok-own.ensures ∙ ap (λ (z : List ℕ). placed ds (take n z)) c.as_slice.ensures in
    subst (λ (z : List Decl). All P z) (sym q) (placed_all P ds (take n ks) c.requires.held.decls)

pub with_tuples-requires-clause-goal_held : goal.with_tuples-requires-clause-goal_held
with_tuples-requires-clause-goal_held c = c.requires.goal_held

pub returns-clause-tree : goal.returns-clause-tree
returns-clause-tree c =
    let s = c.args.store.now in
    let ds = c.args.all.now.decls in
    let n = c.args.goal.now.before in
    let ks = c.args.theory.now.visible in
    let own = c.in_ok-own.own.items in
    let q : own ≡ placed ds (take n ks) = c.in_ok-own.ensures ∙ ap (λ (z : List ℕ). placed ds (take n z)) c.as_slice.ensures in
    let before : declarations_at s own ≡ take n (declarations_at s (placed ds ks)) = ap (declarations_at s) q ∙ before_is s ds n ks c.requires.theory_held.visible in
    let mk : Signature → List DeclarationTree → List DeclarationTree = λ g es. tuples_in (symbols_at s g.symbols) (declarations_named (symbols_at s g.symbols) es ++ named (tree_at s c.args.goal.now.prop)) ++ es in
    IfOk-weaker c.with_tuples.result _ _ (λ v h. h ∙ ap (λ (g : Signature). mk g (declarations_at s own)) c.deref.ensures ∙ ap (mk c.args.all.now.sig.value) before) c.with_tuples.ensures.tree

pub returns-clause-new_held : goal.returns-clause-new_held
returns-clause-new_held c = c.with_tuples.ensures.new_held
