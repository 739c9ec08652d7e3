use Rattle.printed_problems.proofs.Faultless.{empty_checked}
use Rattle.printed_problems.proofs.making.Shared.new.Goals as goal

pub returns : goal.returns
returns c p s = record { noted = c.new.ensures s; checked = empty_checked c.new-2.result c.new-2.ensures p s }
