use Rattle.std.proofs.Common.{All, take}
use Rattle.name_tables.specs.declared.name_entries.names.NameEntry.{NameEntry}
use Rattle.step_writing.specs.Named.{IsName}
use Rattle.step_writing.proofs.named.are_words.Given as goal

abbrev pub invariant-loop-entry : goal.invariant-loop-entry
invariant-loop-entry l = All (λ (n : NameEntry). IsName n.name) (take l.entry-index l.table)
