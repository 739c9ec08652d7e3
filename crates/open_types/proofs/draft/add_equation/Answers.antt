use Rattle.std.proofs.Common.{refl}
use Rattle.std.proofs.lemmas.Result.{on_ok_weaker}
use Rattle.open_types.proofs.Noting.{equation_noted}
use Rattle.open_types.proofs.draft.add_equation.Goals as goal

pub returns : goal.returns
returns c = record { noted = on_ok_weaker c.push.result (λ e. equation_noted c.requires.ready c.requires.left c.requires.right e refl refl) c.push.ensures.ok }
