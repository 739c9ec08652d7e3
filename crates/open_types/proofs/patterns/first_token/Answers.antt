use Rattle.std.proofs.Common.{sym, ap, ◌∙◌}
use Rattle.std.specs.Option.{option_copied}
use Rattle.name_resolution.proofs.Nodes.{first_got}
use Rattle.open_types.proofs.patterns.first_token.Goals as goal

pub returns-in-Some : goal.returns-in-Some
returns-in-Some c = sym (first_got c.args.patterns.now c.in-Some.first.now (sym c.first.ensures.value ∙ ap option_copied c.in-Some.is))
