use Rattle.tasks.specs.Meaning.{symbols_at}
use Rattle.printed_problems.specs.printed_terms.Meaning.{printing}
use Rattle.part_texts.specs.tff_texts.Text.{tff_symbol_line}
use Rattle.part_texts.proofs.tff_texts.lines.push_symbol_lines.Goals as goal
use Rattle.tasks.proofs.plain_laws.Lists.{lines_step}
use Rattle.tasks.proofs.outside.Passed.{no_ok}

pub loop-place-preserved : goal.loop-place-preserved
loop-place-preserved c =
    lines_step (tff_symbol_line (printing c.args.c.now) (symbols_at c.args.c.now.store.now c.args.symbols.now)) c.args.places.now c.loop-place.place-index _ c.loop-place.out.items _ _ c.loop-place-test.true c.in_ok-push_symbol_line.ensures c.loop-place.invariant

pub returns-in_err-push_symbol_line : goal.returns-in_err-push_symbol_line
returns-in_err-push_symbol_line c = no_ok _ _ c.from_residual.result c.from_residual.ensures.1
