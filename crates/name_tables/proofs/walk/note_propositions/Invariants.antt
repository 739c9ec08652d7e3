use Rattle.std.proofs.Common.{take}
use Rattle.std.specs.List.{flat_map}
use Rattle.tasks.specs.Task.{props_of}
use Rattle.tasks.specs.Meaning.{declarations_at}
use Rattle.name_tables.specs.Occurrences.{in_proposition}
use Rattle.name_tables.specs.Seen.{WalksTerms}
use Rattle.name_tables.proofs.walk.note_propositions.Given as goal

abbrev pub invariant-loop-decl : goal.invariant-loop-decl
invariant-loop-decl l = WalksTerms l.store l.initial.seen.keys (flat_map in_proposition (props_of (declarations_at l.store (take l.decl-index l.decls)))) l.seen.keys l.done.keys
