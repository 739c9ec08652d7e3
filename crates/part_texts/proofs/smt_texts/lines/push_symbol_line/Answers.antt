use Rattle.part_texts.proofs.smt_texts.lines.push_symbol_line.Goals as goal
use Rattle.tasks.proofs.outside.Passed.{no_ok}

pub returns-in_err-rank-in-Some : goal.returns-in_err-rank-in-Some
returns-in_err-rank-in-Some c = no_ok _ _ c.from_residual.result c.from_residual.ensures.1
