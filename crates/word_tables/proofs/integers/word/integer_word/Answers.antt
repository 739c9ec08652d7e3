use Rattle.std.proofs.Common.{ap, ◌∙◌}
use Rattle.std.specs.Fmt.{signed_decimal}
use Rattle.std.specs.Int.{w128}
use Rattle.std.proofs.lemmas.Int.{to_z-of_z}
use Rattle.word_tables.specs.integers.Integers.{integer}
use Rattle.word_tables.proofs.integers.Decimals.{signed_back}
use Rattle.word_tables.proofs.integers.word.integer_word.Goals as goal

pub returns : goal.returns
returns c =
    ap integer c.in_ok-word.ensures.ok ∙ ap (λ z. integer (signed_decimal z)) (to_z-of_z w128 c.args.n c.ranges.n) ∙ signed_back c.args.n c.ranges.n
