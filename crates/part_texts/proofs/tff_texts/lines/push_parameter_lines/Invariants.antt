use Rattle.std.proofs.Common.{◌≡◌, ◌++◌, drop}
use Rattle.tasks.specs.Meaning.{trees_at}
use Rattle.printed_problems.specs.printed_terms.Meaning.{printing}
use Rattle.part_texts.specs.tff_texts.Text.{tff_parameter_lines}
use Rattle.part_texts.proofs.tff_texts.lines.push_parameter_lines.Given as goal

abbrev pub invariant-loop-number : goal.invariant-loop-number
invariant-loop-number l =
    l.out.items ++ tff_parameter_lines (printing l.c) l.number (trees_at l.c.store.now (drop l.number l.types)) ≡ l.initial.out.items ++ tff_parameter_lines (printing l.c) 0 (trees_at l.c.store.now l.types)
