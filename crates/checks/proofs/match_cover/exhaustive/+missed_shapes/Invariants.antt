use Rattle.std.proofs.Common.{All, take}
use Rattle.tasks.specs.Meaning.{symbols_at}
use Rattle.checks.specs.match_cover.Tables.{effort}
use Rattle.checks.specs.match_cover.Meaning.{table_at}
use Rattle.checks.proofs.match_cover.Answering.{PartCovers}
use Rattle.checks.proofs.match_cover.exhaustive.+missed_shapes.Given as goal

abbrev pub invariant-loop-con : goal.invariant-loop-con
invariant-loop-con l =
    All (PartCovers (symbols_at l.store l.sig.symbols) l.columns (table_at l.store l.at l.rows)) (take l.con-index l.found)

abbrev pub decreases-missed_shapes : goal.decreases-missed_shapes
decreases-missed_shapes l = effort (symbols_at l.store.now l.sig.now.symbols) (table_at l.store.now l.at l.rows.now)
