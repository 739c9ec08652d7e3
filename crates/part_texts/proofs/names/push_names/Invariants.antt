use Rattle.std.proofs.Common.{◌≡◌, ◌++◌, List, drop}
use Rattle.std.specs.List.{flat_map}
use Rattle.tasks.specs.trees.Tree.{Tree}
use Rattle.tasks.specs.Meaning.{symbols_at}
use Rattle.part_texts.specs.Names.{entry_line}
use Rattle.part_texts.proofs.names.push_names.Given as goal

abbrev pub invariant-loop-entry : goal.invariant-loop-entry
invariant-loop-entry l = (s : List Tree) → l.out.items ++ flat_map (entry_line (symbols_at s l.sig.symbols) l.names) (drop l.entry-index l.names)
    ≡ l.initial.out.items ++ flat_map (entry_line (symbols_at s l.sig.symbols) l.names) l.names
