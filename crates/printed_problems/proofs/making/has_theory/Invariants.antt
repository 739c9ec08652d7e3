use Rattle.std.proofs.Common.{◌≡◌, List, drop}
use Rattle.std.specs.List.{list_any}
use Rattle.trees.specs.Tree.{Tree}
use Rattle.tasks.specs.Meaning.{declarations_at}
use Rattle.printed_problems.specs.Problems.{is_of_theory}
use Rattle.printed_problems.proofs.making.has_theory.Given as goal

abbrev pub invariant-loop-decl : goal.invariant-loop-decl
invariant-loop-decl l = (s : List Tree) → list_any (is_of_theory l.path) (declarations_at s (drop l.decl-index l.decls)) ≡ list_any (is_of_theory l.path) (declarations_at s l.decls)
