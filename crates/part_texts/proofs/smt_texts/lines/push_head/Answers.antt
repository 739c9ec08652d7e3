use Rattle.part_texts.proofs.smt_texts.lines.push_head.Goals as goal
use Rattle.tasks.proofs.outside.Passed.{no_ok}

pub returns-in_err-extend_from_slice : goal.returns-in_err-extend_from_slice
returns-in_err-extend_from_slice c = no_ok _ _ c.from_residual.result c.from_residual.ensures.1

pub returns-in_err-push_number : goal.returns-in_err-push_number
returns-in_err-push_number c = no_ok _ _ c.from_residual-in_err-push_number.result c.from_residual-in_err-push_number.ensures.1

pub returns-in_err-extend_from_slice-2 : goal.returns-in_err-extend_from_slice-2
returns-in_err-extend_from_slice-2 c = no_ok _ _ c.from_residual-in_err-extend_from_slice-2.result c.from_residual-in_err-extend_from_slice-2.ensures.1

pub returns-in_err-push_number-2 : goal.returns-in_err-push_number-2
returns-in_err-push_number-2 c = no_ok _ _ c.from_residual-in_err-push_number-2.result c.from_residual-in_err-push_number-2.ensures.1
