use Rattle.std.proofs.Common.{List, get_or, sym, ap, subst, ◌∙◌}
use Rattle.std.proofs.lemmas.Option.{slice_get_within, get_or_from_slice_get}
use Rattle.tasks.specs.declared.signature.SymbolInfo.{SymbolInfo}
use Rattle.tasks.specs.Task.{int_symbol}
use Rattle.tasks.specs.Meaning.{symbol_at, SymbolHeld}
use Rattle.clones.proofs.clone_elements.Looked.{got_some, first_is}
use Rattle.clones.proofs.clone_elements.elements.entry_or.Goals as goal
use Rattle.tasks.proofs.plain_laws.Lists.{got_none}

pub returns-in-None-clause-entry : goal.returns-in-None-clause-entry
returns-in-None-clause-entry c = λ s e.
    let is = c.args.sig.now.symbols in
    let i = c.index-as_slice-0.result in
    ap (symbol_at s) (c.index-as_slice-0.is ∙ ap (λ (z : List SymbolInfo). get_or z 0 i) c.as_slice.ensures) ∙ (first_is (symbol_at s) is i int_symbol e ∙ sym (got_none (symbol_at s) is c.args.symbol int_symbol (sym c.in-None.ensures.value)))

pub returns-in-Some-clause-entry : goal.returns-in-Some-clause-entry
returns-in-Some-clause-entry c = λ s e. sym (got_some (symbol_at s) c.args.sig.now.symbols c.args.symbol c.in-Some.info.now int_symbol (sym c.in-Some.ensures.value))

pub returns-in-Some-clause-held : goal.returns-in-Some-clause-held
returns-in-Some-clause-held c = λ s h.
    let is = c.args.sig.now.symbols in
    let i = c.in-Some.info.now in
    let there = sym c.in-Some.ensures.value in
    subst (SymbolHeld s) (get_or_from_slice_get is c.args.symbol i i there) (h c.args.symbol i (slice_get_within is c.args.symbol i there))

pub returns-in-None-clause-held : goal.returns-in-None-clause-held
returns-in-None-clause-held c = λ s h.
    let i = c.index-as_slice-0.result in
    subst (SymbolHeld s) (sym (c.index-as_slice-0.is ∙ ap (λ (z : List SymbolInfo). get_or z 0 i) c.as_slice.ensures)) (h 0 i c.requires)
