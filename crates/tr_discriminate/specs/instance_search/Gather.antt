-- What is gathered from trees, each once, and the numbers that stand for it over a store.
use Rattle.std.specs.Prelude.{◌≡◌, ℕ, List, [], ◌∷◌, ◌++◌, get_or}
use Rattle.trees.specs.Tree.{Tree, Leaf, One, Two, Three, HEnd}
use Rattle.name_tables.specs.Occurrences.{Occurrence}
use Rattle.name_tables.specs.Seen.{seen_occurrences, with_all, AreIn, KeysHeld}
use Rattle.tr_discriminate.specs.wanted_instances.Instances.{two_instance, three_instance, inner_instances, leaf_types, one_types, types_within}
use Rattle.tr_discriminate.specs.declared.instance_search.gathering.Sought.{Sought}
use Rattle.tr_discriminate.specs.declared.instance_search.gathering.Sought.TheVariants.{Instances, Types}

abbrev pub gathered : Sought → Tree → List Occurrence
gathered Instances e = inner_instances e
gathered Types e = types_within e

-- what the operator at the top adds before its children, and after them
abbrev pub own_instances : Tree → List Occurrence
own_instances (Leaf h) = []
own_instances (One h a) = []
own_instances (Two h a b) = two_instance h a
own_instances (Three h a b c) = three_instance h a

abbrev pub types_at_top : Tree → List Occurrence
types_at_top (Leaf h) = leaf_types h
types_at_top (One h a) = one_types h a
types_at_top (Two h a b) = []
types_at_top (Three h a b c) = []

abbrev pub before_parts : Sought → Tree → List Occurrence
before_parts Instances e = own_instances e
before_parts Types e = []

abbrev pub after_parts : Sought → Tree → List Occurrence
after_parts Instances e = []
after_parts Types e = types_at_top e

-- what the children have
abbrev pub in_parts : Sought → Tree → List Occurrence
in_parts w (Leaf h) = []
in_parts w (One h a) = gathered w a
in_parts w (Two h a b) = gathered w a ++ gathered w b
in_parts w (Three h a b c) = gathered w a ++ (gathered w b ++ gathered w c)

-- all that is sought in these trees is there
abbrev pub TreesAreIn : List Tree → Sought → List Occurrence → List ℕ → Type 0
TreesAreIn s w os [] = Unit {0}
TreesAreIn s w os (id ∷ ids) =
    AreIn os (gathered w (get_or s id (Leaf HEnd))) × TreesAreIn s w os ids

-- what a walk has gathered, and the trees that it has done
pub record IsGathering (s : List Tree) (w : Sought) (keys : List (ℕ × ℕ))
    (ids : List ℕ) : Type 0 where
  pub held : KeysHeld s keys
  pub done : TreesAreIn s w (seen_occurrences s keys) ids

-- a walk has gained these
pub record WalkGains (s : List Tree) (w : Sought) (old : List (ℕ × ℕ)) (ps : List Occurrence)
    (new : List (ℕ × ℕ)) (ids : List ℕ) : Type 0 where
  pub walk : IsGathering s w new ids
  pub is : seen_occurrences s new ≡ with_all (seen_occurrences s old) ps
