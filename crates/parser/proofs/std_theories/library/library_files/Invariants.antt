use Rattle.std.proofs.Common.{map, take}
use Rattle.parser.specs.std_theories.Library.{AreFilesOf, library_entry}
use Rattle.parser.proofs.std_theories.library.library_files.Given as goal

abbrev pub invariant-loop-entry : goal.invariant-loop-entry
invariant-loop-entry l = AreFilesOf (map library_entry (take l.entry-index l.all)) l.files.items
