-- What a theory that is cloned and its table of names stand for.
use Rattle.std.specs.Prelude.{ℕ, nat_eq, List, Option}
use Rattle.std.specs.Option.{is_some}
use Rattle.std.specs.HashMap.{get_by}
use Rattle.std.specs.Str.{bytes_eq}
use Rattle.indexmap.specs.IndexMap.{get}
use Rattle.tasks.specs.trees.Tree.{Tree}
use Rattle.tasks.specs.Meaning.{declarations_at}
use Rattle.surface.specs.Lexeme.{Word}
use Rattle.clones.specs.declared.clone_elements.left.ClonedTheory.{ClonedTheory}
use Rattle.clones.specs.declared.clone_elements.left.LeftNames.{LeftNames}
use Rattle.clones.specs.clone_elements.Left.{Origin}

abbrev pub origin_at : List Tree → ClonedTheory → Origin
origin_at s x = record {
  decls = declarations_at s x.decls.now;
  own = x.own.now;
  axioms =
      λ k. is_some (get nat_eq x.axioms.now k);
}

-- the place that a table has at a key
abbrev pub place_at : LeftNames → Word → Option ℕ
place_at n x = get_by (λ k. bytes_eq x k.items) n.places
