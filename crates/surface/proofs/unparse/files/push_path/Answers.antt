use Rattle.surface.proofs.unparse.Common.{arith, common_steps}
use Rattle.surface.proofs.unparse.PathLemmas.{any_first}
use Rattle.surface.proofs.unparse.files.push_path.Goals as goal

pub loop-part-preserved : goal.loop-part-preserved
loop-part-preserved c = grind (arith, common_steps, any_first)
