use Rattle.std.proofs.Common.{◌≡◌, ◌++◌, drop}
use Rattle.printed_problems.specs.printed_terms.Texts.{each_after}
use Rattle.printed_problems.specs.printed_terms.Ranks.{sorts_at}
use Rattle.printed_problems.specs.printed_terms.Meaning.{printing}
use Rattle.printed_problems.proofs.printed_terms.ranks.push_each_sort.Given as goal

abbrev pub invariant-loop-place : goal.invariant-loop-place
invariant-loop-place l =
    l.out.items ++ each_after l.separator (sorts_at (printing l.c) (drop l.place-index l.places)) ≡ l.initial.out.items ++ each_after l.separator (sorts_at (printing l.c) l.places)
