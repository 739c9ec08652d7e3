use Rattle.std.proofs.Common.{sym, ap, ◌∙◌}
use Rattle.std.proofs.lemmas.List.{drop_all}
use Rattle.word_tables.specs.integers.Integers.{number_from}
use Rattle.step_lines.proofs.tree_lines.Digits.{digit_more, too_low, too_high, too_large}
use Rattle.step_lines.proofs.tree_lines.words.digits.Goals.{then-c-lt48-via-then-c-lt48, then-c-lt48-via-else-c-lt48+then-c-gt57}
use Rattle.step_lines.proofs.tree_lines.words.digits.Goals as goal

pub loop-c-preserved : goal.loop-c-preserved
loop-c-preserved c = (c.if-next-ge18446744073709551616.false, digit_more 18446744073709551616 c.loop-c.number c.args.word.now c.loop-c.c-index 0 _ c.loop-c-test.true c.loop-c.invariant.1 c.from.result c.from-in-loop-c.result c.if-c-lt48.false c.if-c-gt57.false c.from.ensures c.from-in-loop-c.ensures c.if-next-ge18446744073709551616.false)

pub returns-then-c-lt48 : goal.returns-then-c-lt48
returns-then-c-lt48 c =
    elim c.then-c-lt48.branch [
      | then-c-lt48-via-then-c-lt48 w ↦ too_low 18446744073709551616 c.loop-c.number c.args.word.now c.loop-c.c-index 0 _ c.loop-c-test.true c.loop-c.invariant.1 w.if-c-lt48.true
      | then-c-lt48-via-else-c-lt48+then-c-gt57 w ↦ too_high 18446744073709551616 c.loop-c.number c.args.word.now c.loop-c.c-index 0 _ c.loop-c-test.true c.loop-c.invariant.1 w.if-c-gt57.true
    ]

pub returns-then-next-ge18446744073709551616 : goal.returns-then-next-ge18446744073709551616
returns-then-next-ge18446744073709551616 c = too_large 18446744073709551616 c.loop-c.number c.args.word.now c.loop-c.c-index 0 _ c.loop-c-test.true c.loop-c.invariant.1 c.from.result c.from-in-loop-c.result c.from.ensures c.from-in-loop-c.ensures c.if-next-ge18446744073709551616.true

pub returns : goal.returns
returns c = sym (ap (number_from 18446744073709551616 c.loop-c.number) (drop_all c.loop-c.c-index c.args.word.now c.loop-c-test.false)) ∙ c.loop-c.invariant.1
