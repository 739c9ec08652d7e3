use Rattle.std.proofs.Common.{◌≡◌, ◌++◌, List, drop}
use Rattle.tasks.specs.trees.Tree.{Tree}
use Rattle.tasks.specs.Meaning.{declarations_at}
use Rattle.stages.specs.Listing.{removed_of}
use Rattle.stages.proofs.listing.push_all_removed.Given as goal

abbrev pub invariant-loop-decl : goal.invariant-loop-decl
invariant-loop-decl l = (s : List Tree) → l.names.items ++ removed_of l.paths (declarations_at s (drop l.decl-index l.decls)) ≡ l.initial.names.items ++ removed_of l.paths (declarations_at s l.decls)
