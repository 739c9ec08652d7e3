use Rattle.std.proofs.Common.{◌≡◌, ◌++◌, List, drop}
use Rattle.tasks.specs.trees.Tree.{Tree}
use Rattle.clones.specs.clone_elements.Replacements.{kept, kept_of}
use Rattle.clones.specs.clone_elements.Origins.{origin_at}
use Rattle.clones.specs.clone_elements.Meaning.{effects_at}
use Rattle.clones.proofs.clone_elements.replacements.kept_symbols.Given as goal

abbrev pub invariant-loop-place : goal.invariant-loop-place
invariant-loop-place l = (s : List Tree) → l.out.items ++ kept_of (origin_at s l.source) (effects_at l.effects) (drop l.place-index l.source.own.now) ≡ kept (origin_at s l.source) (effects_at l.effects)
