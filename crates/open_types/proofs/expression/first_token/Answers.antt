use Rattle.std.proofs.Common.{sym, ap, ◌∙◌}
use Rattle.std.specs.Option.{option_copied}
use Rattle.open_types.proofs.Firsts.{first_value}
use Rattle.open_types.proofs.expression.first_token.Goals as goal

pub returns-in-Some : goal.returns-in-Some
returns-in-Some c = sym (first_value c.args.values.now c.in-Some.first.now (sym c.first.ensures.value ∙ ap option_copied c.in-Some.is))
