use Rattle.std.proofs.Common.{◌≡◌, take, All}
use Rattle.tasks.specs.trees.Node.{Grows}
use Rattle.tasks.specs.Meaning.{symbols_at, SymbolHeld}
use Rattle.clones.specs.Meaning.{map_at, AreKnown}
use Rattle.clones.specs.clone_copies.Entries.{entries_copied}
use Rattle.clones.proofs.clone_copies.entries.copy_entries.Given as goal

abbrev pub invariant-loop-symbol : goal.invariant-loop-symbol
invariant-loop-symbol l = record {
  grows : Grows l.initial.store l.store;
  known : AreKnown (map_at l.initial.store l.morphism) l.store l.known;
  made : symbols_at l.store l.out.items ≡ entries_copied (symbols_at l.initial.store l.sig.symbols) (map_at l.initial.store l.morphism) l.theory l.within (take l.symbol-index l.symbols);
  held : All (SymbolHeld l.store) l.out.items;
}
