use Rattle.std.proofs.Common.{ap, ◌∙◌, arith}
use Rattle.step_lines.specs.tree_lines.Words.{number}
use Rattle.step_writing.proofs.tree_writing.Numerals.{number_decimal}
use Rattle.step_writing.proofs.tree_writing.Reading.{on_ok}
use Rattle.step_writing.proofs.words.push_number.Goals as goal

pub returns : goal.returns
returns c =
    on_ok c.push_word.result c.push_word.ensures
    (λ h. record {
      word = c.as_bytes.result.now;
      is = h;
      writes = ap number (c.as_bytes.ensures.value ∙ c.format.ensures.text) ∙ number_decimal c.args.number (omega (arith, c.ranges.number.fits));
    })
