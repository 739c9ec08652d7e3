use Rattle.std.proofs.Common.{ap, ◌∙◌}
use Rattle.std.proofs.lemmas.Result.{on_ok_weaker}
use Rattle.clones.specs.clone_elements.Replacements.{with_symbols, with_mapped_types}
use Rattle.clones.specs.clone_elements.Meaning.{type_pairs_at, symbol_pairs}
use Rattle.clones.proofs.clone_elements.replacements.fill_map.Goals as goal
use Rattle.tasks.proofs.outside.Passed.{no_ok}

pub put_types-requires : goal.put_types-requires
put_types-requires c = c.requires

pub returns-clause-is : goal.returns-clause-is
returns-clause-is c =
    let s = c.args.store.now in
    let ts = type_pairs_at s c.args.types.now in
    let ps = symbol_pairs c.args.symbols.now in
    on_ok_weaker c.put_types.result (λ h. h ∙ ap (with_mapped_types ts) (c.in_ok-put_symbols.ensures.is s ∙ ap (with_symbols ps) (c.in_ok-put_numbers.ensures.is s))) c.put_types.ensures.is

pub returns-clause-held : goal.returns-clause-held
returns-clause-held c = on_ok_weaker c.put_types.result (λ h m. h (c.in_ok-put_symbols.ensures.held c.args.store.now (c.in_ok-put_numbers.ensures.held c.args.store.now m))) c.put_types.ensures.held

pub returns-in_err-put_numbers-clause-is : goal.returns-in_err-put_numbers-clause-is
returns-in_err-put_numbers-clause-is c = no_ok _ _ c.from_residual.result c.from_residual.ensures.1

pub returns-in_err-put_numbers-clause-held : goal.returns-in_err-put_numbers-clause-held
returns-in_err-put_numbers-clause-held c = no_ok _ _ c.from_residual.result c.from_residual.ensures.1

pub returns-in_err-put_symbols-clause-is : goal.returns-in_err-put_symbols-clause-is
returns-in_err-put_symbols-clause-is c = no_ok _ _ c.from_residual-in_err-put_symbols.result c.from_residual-in_err-put_symbols.ensures.1

pub returns-in_err-put_symbols-clause-held : goal.returns-in_err-put_symbols-clause-held
returns-in_err-put_symbols-clause-held c = no_ok _ _ c.from_residual-in_err-put_symbols.result c.from_residual-in_err-put_symbols.ensures.1
