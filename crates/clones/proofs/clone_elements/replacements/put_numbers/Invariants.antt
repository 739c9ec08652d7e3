use Rattle.std.proofs.Common.{◌≡◌, ◌+◌, List, drop}
use Rattle.tasks.specs.trees.Tree.{Tree}
use Rattle.clones.specs.Meaning.{map_at, MapHeld}
use Rattle.clones.specs.clone_elements.Replacements.{with_numbers}
use Rattle.clones.proofs.clone_elements.replacements.put_numbers.Given as goal

abbrev pub invariant-loop-symbol : goal.invariant-loop-symbol
invariant-loop-symbol l = record {
  number : l.number ≡ l.first + l.symbol-index;
  is : (s : List Tree) → with_numbers l.number (drop l.symbol-index l.others) (map_at s l.morphism) ≡ with_numbers l.first l.others (map_at s l.initial.morphism);
  held : (s : List Tree) → MapHeld s l.initial.morphism → MapHeld s l.morphism;
}
