use Rattle.std.proofs.Common.{◌≡◌, List, get_or, sym, ap, subst, ◌∙◌}
use Rattle.tasks.specs.declared.signature.SymbolInfo.{SymbolInfo}
use Rattle.tasks.specs.Meaning.{SymbolHeld}
use Rattle.theory_states.proofs.goal_tasks.TuplesMade.{entry_is}
use Rattle.theory_states.proofs.goal_tasks.tuples.entry_at.Goals as goal

pub returns-clause-tree : goal.returns-clause-tree
returns-clause-tree c =
    let x = c.index-as_slice-symbol.result in
    let k = c.args.symbol in
    let q : x ≡ get_or c.args.sig.now.symbols k x = c.index-as_slice-symbol.is ∙ ap (λ (xs : List SymbolInfo). get_or xs k x) c.as_slice.ensures in
    entry_is c.args.store.now c.args.sig.now.symbols k x c.requires.within q

pub returns-clause-held : goal.returns-clause-held
returns-clause-held c =
    let P = SymbolHeld c.args.store.now in
    let x = c.index-as_slice-symbol.result in
    let k = c.args.symbol in
    let q : x ≡ get_or c.args.sig.now.symbols k x = c.index-as_slice-symbol.is ∙ ap (λ (xs : List SymbolInfo). get_or xs k x) c.as_slice.ensures in
    let h : P x = subst P (sym q) (c.requires.symbols_held k x c.requires.within) in
    h
