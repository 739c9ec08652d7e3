use Rattle.std.proofs.Common.{◌∙◌, Some, ap}
use Rattle.statuses.proofs.Range.{stress_range}
use Rattle.statuses.specs.declared.words.Command.{Command}
use Rattle.program.specs.Run.{bytes_of_words}
use Rattle.program.proofs.Stressing.{ends_stress}
use Rattle.program.proofs.top.run_command.Goals as goal

pub stress-requires-clause-some : goal.stress-requires-clause-some
stress-requires-clause-some g c = (stress_range (bytes_of_words c.args.words.now) c.in-Stress.parts (c.requires ∙ ap (λ (x : Command). Some x) c.in-Stress.is)).0

pub stress-requires-clause-most : goal.stress-requires-clause-most
stress-requires-clause-most g c = (stress_range (bytes_of_words c.args.words.now) c.in-Stress.parts (c.requires ∙ ap (λ (x : Command). Some x) c.in-Stress.is)).1

pub returns-in-Ok : goal.returns-in-Ok
returns-in-Ok g c = ends_stress c.args.command c.in-Stress.parts (bytes_of_words c.args.words.now) (g.L.Library.state c.args.lib.now) c.in-Ok.text.items c.in-Stress.is c.in-Ok.ensures
