use Rattle.std.proofs.Common.{ap, ◌∙◌, sym, slice_get}
use Rattle.std.specs.Option.{option_map}
use Rattle.std.proofs.lemmas.Option.{slice_get-map}
use Rattle.tasks.specs.declared.signature.Signature.{Signature}
use Rattle.tasks.specs.Meaning.{symbol_at, SymbolHeld}
use Rattle.step_lines.proofs.tree_lines.Gets.{copied_map, held_copied}
use Rattle.step_lines.proofs.tree_lines.uses.symbol_entry.Goals as goal

pub returns-clause-tree : goal.returns-clause-tree
returns-clause-tree c =
    let s = c.args.store.now in
    let e = c.get.ensures.value ∙ ap (λ (z : Signature). slice_get z.symbols c.args.symbol) c.deref.ensures in
    copied_map (symbol_at s) c.get.result ∙ ap (option_map (symbol_at s)) e ∙ sym (slice_get-map (symbol_at s) c.args.x.now.task.now.sig.value.symbols c.args.symbol)

pub returns-clause-held : goal.returns-clause-held
returns-clause-held c =
    let e = c.get.ensures.value ∙ ap (λ (z : Signature). slice_get z.symbols c.args.symbol) c.deref.ensures in
    held_copied (SymbolHeld c.args.store.now) c.get.result c.args.x.now.task.now.sig.value.symbols c.args.symbol e c.requires.task.symbols
