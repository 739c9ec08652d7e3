use Rattle.std.proofs.Common.{◌≡◌, ◌++◌, drop}
use Rattle.std.specs.List.{flat_map}
use Rattle.tasks.specs.Meaning.{trees_at}
use Rattle.printed_problems.specs.printed_terms.Meaning.{printing}
use Rattle.part_texts.specs.smt_texts.Text.{assertion}
use Rattle.part_texts.proofs.smt_texts.lines.push_assertions.Given as goal

abbrev pub invariant-loop-formula : goal.invariant-loop-formula
invariant-loop-formula l =
    l.out.items ++ flat_map (assertion (printing l.c)) (trees_at l.c.store.now (drop l.formula-index l.formulas)) ≡ l.initial.out.items ++ flat_map (assertion (printing l.c)) (trees_at l.c.store.now l.formulas)
