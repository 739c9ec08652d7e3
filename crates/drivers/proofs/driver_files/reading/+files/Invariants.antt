use Rattle.std.proofs.Common.{◌≡◌, ◌+◌, ◌*◌, None, drop, map}
use Rattle.drivers.specs.driver_tokens.File.{lines_in, line_in}
use Rattle.drivers.specs.driver_files.Calls.{LinesMeaning, place_with}
use Rattle.drivers.proofs.driver_files.Answering.{Goes}
use Rattle.drivers.proofs.driver_files.reading.+files.Given as goal

abbrev pub decreases-read_file : goal.decreases-read_file
decreases-read_file g l = 6 * l.room + 5

abbrev pub decreases-read_bytes : goal.decreases-read_bytes
decreases-read_bytes g l = 6 * l.at.room + 4

abbrev pub decreases-read_whole : goal.decreases-read_whole
decreases-read_whole g l = 6 * l.at.room + 3

abbrev pub decreases-read_lines : goal.decreases-read_lines
decreases-read_lines g l = 6 * l.at.room + 2

abbrev pub decreases-read_line : goal.decreases-read_line
decreases-read_line g l = 6 * l.at.room + 1

abbrev pub decreases-read_import : goal.decreases-read_import
decreases-read_import g l = 6 * l.at.room

-- the lines so far have come to what is left
abbrev pub invariant-read_lines-loop-line : goal.invariant-read_lines-loop-line
invariant-read_lines-loop-line g l = record {
  goes : Goes (LinesMeaning l.context.symbols.now l.context.theories.now (place_with l.at l.fn.opened) None (lines_in l.at.text.now l.its) l.fn.progress) (LinesMeaning l.context.symbols.now l.context.theories.now (place_with l.at l.fn.opened) l.block (map (line_in l.at.text.now l.its.tokens.items) (drop l.line-index l.its.lines.items)) l.progress) l.fn.progress.next l.progress.next (g.L.Library.state l.fn.lib) (g.L.Library.state l.lib);
  opened : l.opened ≡ l.fn.opened;
}
