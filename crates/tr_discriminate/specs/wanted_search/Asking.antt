-- What asks for instances of a formula, over a store and a set of instances.
use Rattle.std.specs.Prelude.{◌≡◌, ℕ, ◌==◌, nat_eq, Bool, false, List, [], map, filter, All}
use Rattle.trees.specs.Tree.{Tree, Leaf, Head, HTyVar, above_ty_vars}
use Rattle.trees.specs.Node.{tree_at, Holds}
use Rattle.name_tables.specs.Occurrences.{Occurrence, occurrence}
use Rattle.name_tables.specs.Seen.{KeysHeld, GainsKeys}
use Rattle.tr_discriminate.specs.wanted_instances.Instances.{types_within}
use Rattle.tr_discriminate.specs.wanted_instances.Wanted.{occurring, named_suffice}
use Rattle.tr_discriminate.specs.declared.wanted_search.asking.AskingInstance.{AskingInstance}
use Rattle.tr_discriminate.specs.declared.wanted_search.asking.Asking.{Asking}

abbrev pub head_is_type_variable : ℕ → Head → Bool
head_is_type_variable j (HTyVar i) = j == i
head_is_type_variable j _ = false

-- whether a tree is a type variable
abbrev pub is_type_variable : ℕ → Tree → Bool
is_type_variable j (Leaf h) = head_is_type_variable j h
is_type_variable j _ = false

abbrev pub asking_at : List Tree → AskingInstance → Occurrence
asking_at s d = occurrence d.symbol (tree_at s d.types)

-- an instance with the types in its types, and instances of a set
pub record IsAskingInstance (s : List Tree) (d : AskingInstance) : Type 0 where
  pub held : Holds s d.types
  pub candidates_held : KeysHeld s d.candidates
  pub inside : GainsKeys s [] (types_within (tree_at s d.types)) d.inside

-- these are those that have its symbol
abbrev pub HasCandidates : List (ℕ × ℕ) → AskingInstance → Type 0
HasCandidates set d = d.candidates ≡ filter (λ (k : ℕ × ℕ). nat_eq d.symbol k.0) set

-- the instances of a formula are its instances
pub record IsAsking (s : List Tree) (set : List (ℕ × ℕ)) (a : Tree) (m : Asking) : Type 0 where
  pub above : m.above ≡ above_ty_vars a
  pub inside : GainsKeys s [] (types_within a) m.inside
  pub instances : All (IsAskingInstance s) m.instances
  pub candidates : All (HasCandidates set) m.instances
  pub occurring : map (asking_at s) m.instances ≡ occurring a
  pub named_only : m.named_only ≡ named_suffice a
