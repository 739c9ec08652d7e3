-- What the parts of a clone in code stand for.
use Rattle.std.specs.Prelude.{nat_eq, List}
use Rattle.indexmap.specs.IndexMap.{get}
use Rattle.tasks.specs.trees.Tree.{Tree}
use Rattle.clones.specs.Meaning.{map_at}
use Rattle.clones.specs.clone_elements.Meaning.{effects_at}
use Rattle.clones.specs.declared.clone_copies.places.CopiedBy.{CopiedBy}
use Rattle.clones.specs.clone_copies.Places.{Copying}

abbrev pub copying_at : List Tree → CopiedBy → Copying
copying_at s x = record {
  path = x.path.now;
  axioms = get nat_eq x.axioms.now;
  effects =
      effects_at x.replacement.now.effects;
  all = x.replacement.now.all_axioms;
  mapping =
      map_at s x.morphism.now;
  within = x.within.now;
}
