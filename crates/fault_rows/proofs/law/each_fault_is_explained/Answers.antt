use Rattle.fault_rows.proofs.Explained.{explained}
use Rattle.fault_rows.proofs.law.each_fault_is_explained.Goals as goal

pub returns : goal.returns
returns c = explained
