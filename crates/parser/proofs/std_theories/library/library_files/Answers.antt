use Rattle.parser.proofs.std_theories.Files.{files_next, files_all}
use Rattle.parser.specs.std_theories.Library.{library_entry}
use Rattle.parser.proofs.std_theories.Sources.{entry_source}
use Rattle.parser.proofs.std_theories.library.library_files.Goals as goal
use Rattle.outside.proofs.Passed.{no_value}

pub push_file-requires : goal.push_file-requires
push_file-requires c = entry_source library_entry c.entries-all.result.now c.loop-entry.entry-index _ c.entries-all.ensures c.loop-entry-test.true

pub loop-entry-preserved : goal.loop-entry-preserved
loop-entry-preserved c = files_next c.entries-all.result.now c.loop-entry.entry-index _ c.loop-entry.files.items c.push_file.new.out.items c.loop-entry-test.true c.loop-entry.invariant c.in_ok-push_file.ensures

pub returns : goal.returns
returns c = files_all c.entries-all.result.now c.loop-entry.entry-index c.loop-entry.files.items c.loop-entry-test.false c.loop-entry.invariant c.entries-all.ensures

pub returns-in_err-push_file : goal.returns-in_err-push_file
returns-in_err-push_file c = no_value _ _ c.from_residual.result c.from_residual.ensures.1
