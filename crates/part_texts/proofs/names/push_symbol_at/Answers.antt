use Rattle.std.proofs.Common.{◌≡◌, ◌∙◌, ◌++◌, List, ap, sym}
use Rattle.tasks.specs.declared.signature.SymbolInfo.{SymbolInfo}
use Rattle.tasks.specs.Task.{SymbolTree, symbol_or}
use Rattle.tasks.specs.Meaning.{symbol_at, symbols_at}
use Rattle.part_texts.specs.Names.{symbol_words}
use Rattle.part_texts.proofs.Parted.{symbol_there}
use Rattle.part_texts.proofs.names.push_symbol_at.Goals as goal

pub returns-then-symbol-symbols : goal.returns-then-symbol-symbols
returns-then-symbol-symbols c = λ s.
    let own : c.as_slice-symbols.result.now ≡ c.args.sig.now.symbols = c.as_slice-symbols.ensures in
    let e : symbol_or (symbols_at s c.args.sig.now.symbols) c.args.symbol ≡ symbol_at s c.index-symbols-symbol.result =
    ap (λ (is : List SymbolInfo). symbol_or (symbols_at s is) c.args.symbol) (sym own) ∙ symbol_there s c.as_slice-symbols.result.now c.args.symbol c.index-symbols-symbol.result c.index-symbols-symbol.is c.if-symbol-symbols.true in
    c.in_ok-push_symbol.ensures s ∙ ap (λ (z : SymbolTree). c.args.out.now.items ++ symbol_words z) (sym e)
