use Rattle.std.proofs.Common.{◌≡◌, ◌++◌, List, drop}
use Rattle.trees.specs.Tree.{Tree}
use Rattle.tasks.specs.Meaning.{declarations_at}
use Rattle.printed_problems.specs.Problems.{texts_where}
use Rattle.printed_problems.specs.Made.{is_told}
use Rattle.printed_problems.proofs.making.push_preludes.Given as goal

abbrev pub invariant-loop-prelude : goal.invariant-loop-prelude
invariant-loop-prelude l =
    (s : List Tree) → l.made.items ++ texts_where (is_told l.special (declarations_at s l.decls)) (drop l.prelude-index l.from) ≡ l.initial.made.items ++ texts_where (is_told l.special (declarations_at s l.decls)) l.from
