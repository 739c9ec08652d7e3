use Rattle.std.proofs.Common.{ap, ◌∙◌, arith}
use Rattle.step_lines.specs.tree_lines.Words.{number}
use Rattle.step_writing.proofs.tree_writing.Numerals.{number_decimal}
use Rattle.step_writing.proofs.tree_writing.referring.number_word.Goals as goal

pub returns : goal.returns
returns c = ap (λ v. number v.items) c.into_bytes.ensures.value ∙ ap number c.in_ok-digits.ensures.ok ∙ number_decimal c.args.n (omega (arith, c.ranges.n.fits))
