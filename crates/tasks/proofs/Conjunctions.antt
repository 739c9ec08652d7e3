-- The conjunction of a list that has more than one formula.
use Rattle.std.proofs.Common.{◌≡◌, List, [], ◌∷◌, refl}
use Rattle.trees.specs.Tree.{Tree, Two, HJoin}
use Rattle.trees.specs.declared.Op.TheVariants.{And}
use Rattle.tasks.specs.Conjunctions.{conjunction}

pub conjunction_more : (a : Tree) (more : List Tree) → (more ≡ [] → ⊥) → conjunction (a ∷ more) ≡ Two (HJoin And) a (conjunction more)
conjunction_more a [] n = absurd (n refl)
conjunction_more a (b ∷ more) n = refl
