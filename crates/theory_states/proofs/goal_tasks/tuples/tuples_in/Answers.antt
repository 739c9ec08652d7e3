use Rattle.std.proofs.Common.{◌++◌, ℕ, List, Option, sym, ap, ◌∙◌, ◌≡◌, length, arith}
use Rattle.std.proofs.lemmas.List.{length-map}
use Rattle.tasks.specs.declared.signature.SymbolInfo.{SymbolInfo}
use Rattle.tasks.specs.Task.{DeclarationTree}
use Rattle.tasks.specs.Meaning.{symbols_at, symbol_at}
use Rattle.theory_states.specs.declared.goal_tasks.tuples.TupleName.{TupleName}
use Rattle.tasks.specs.Entries.{tuple_in}
use Rattle.theory_states.specs.goal_tasks.Tuples.{symbol_of_width, tuples_of}
use Rattle.theory_states.proofs.goal_tasks.TuplesMade.{tuples_below, tuples_more, tuple_there}
use Rattle.theory_states.proofs.goal_tasks.tuples.tuples_in.Goals as goal
use Rattle.tasks.proofs.outside.Passed.{no_value}

pub push_tuple-requires-clause-at : goal.push_tuple-requires-clause-at
push_tuple-requires-clause-at c =
    let s = c.args.store.now in
    let w = c.loop-width.width in
    let q = c.tuple_named-symbol.ensures ∙ ap (λ (z : List TupleName). symbol_of_width z w) c.deref.ensures.value ∙ c.in_ok-names.ensures s w ∙ ap (λ (z : List SymbolInfo). tuple_in (symbols_at s z) w) c.as_slice-symbols.ensures in
    tuple_there (symbols_at s c.args.sig.now.symbols) c.requires.tuples w c.tuple_named-symbol.result q

pub loop-width-preserved : goal.loop-width-preserved
loop-width-preserved c =
    let s = c.args.store.now in
    let w = c.loop-width.width in
    let ks = c.args.found.now.keys in
    let symbols = symbols_at s c.args.sig.now.symbols in
    let q = c.tuple_named-symbol.ensures ∙ ap (λ (z : List TupleName). symbol_of_width z w) c.deref.ensures.value ∙ c.in_ok-names.ensures s w ∙ ap (λ (z : List SymbolInfo). tuple_in (symbols_at s z) w) c.as_slice-symbols.ensures in (
      c.in_ok-push_tuple.ensures.tree ∙ ap (λ (z : List DeclarationTree). z ++ tuples_of ks w c.tuple_named-symbol.result) c.loop-width.invariant.0
          ∙ ap (λ (o : Option ℕ). tuples_below symbols ks w ++ tuples_of ks w o) q ∙ sym (tuples_more symbols ks w),
      c.in_ok-push_tuple.ensures.new_held,
    )

pub returns-in_err-names-clause-tree : goal.returns-in_err-names-clause-tree
returns-in_err-names-clause-tree c = no_value _ _ c.from_residual.result c.from_residual.ensures.1

pub returns-in_err-names-clause-held : goal.returns-in_err-names-clause-held
returns-in_err-names-clause-held c = no_value _ _ c.from_residual.result c.from_residual.ensures.1

pub returns-in_err-push_tuple-clause-tree : goal.returns-in_err-push_tuple-clause-tree
returns-in_err-push_tuple-clause-tree c = no_value _ _ c.from_residual-in_err-push_tuple.result c.from_residual-in_err-push_tuple.ensures.1

pub returns-in_err-push_tuple-clause-held : goal.returns-in_err-push_tuple-clause-held
returns-in_err-push_tuple-clause-held c = no_value _ _ c.from_residual-in_err-push_tuple.result c.from_residual-in_err-push_tuple.ensures.1

pub push_tuple-requires-clause-symbols_held : goal.push_tuple-requires-clause-symbols_held
push_tuple-requires-clause-symbols_held c = c.requires.symbols_held

pub push_tuple-requires-clause-held : goal.push_tuple-requires-clause-held
push_tuple-requires-clause-held c = c.loop-width.invariant.1

pub returns-clause-tree : goal.returns-clause-tree
returns-clause-tree c =
    let s = c.args.store.now in
    let xs = c.args.sig.now.symbols in
    let whole : c.loop-width.width ≡ length (symbols_at s xs) = omega (arith, length-map xs (symbol_at s), ap length c.as_slice-symbols.ensures, c.loop-width-test.false) in
    c.loop-width.invariant.0 ∙ ap (tuples_below (symbols_at s xs) c.args.found.now.keys) whole

pub returns-clause-held : goal.returns-clause-held
returns-clause-held c = c.loop-width.invariant.1
