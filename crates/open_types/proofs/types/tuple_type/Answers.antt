use Rattle.std.proofs.Common.{sym, ap, ◌∙◌}
use Rattle.std.proofs.lemmas.Result.{IfOk-weaker}
use Rattle.trees.specs.Binding.{inst_types}
use Rattle.tasks.specs.Meaning.{trees_at}
use Rattle.tasks.specs.Task.{SymbolTree}
use Rattle.name_resolution.specs.Naming.{where_at}
use Rattle.open_types.specs.Patterns.{NumberedEntry, entry_of, result_or_int}
use Rattle.open_types.specs.Drafts.{symbol_got}
use Rattle.open_types.proofs.Arguments.{entry_got}
use Rattle.open_types.proofs.types.tuple_type.Goals as goal

pub returns-clause-tree : goal.returns-clause-tree
returns-clause-tree c =
    let s = c.args.store.now in
    let es = (where_at s c.args.world.now).symbols in
    let number = c.entry_number-symbol.ensures es ∙ ap (entry_of es) (c.tuple_named.ensures s) in
    let e = ap (symbol_got s) c.entry_at-info.ensures ∙ (sym (entry_got s c.args.world.now.symbols.now c.entry_number-symbol.result) ∙ ap (λ (x : NumberedEntry). x.symbol) number) in
    IfOk-weaker c.put_types.result _ _ (λ id h. h ∙ ap (λ (x : SymbolTree). inst_types (result_or_int x.result) (trees_at s c.args.types.now)) e) (rw c.result_type-ty.ensures.tree at c.put_types.ensures.tree)
