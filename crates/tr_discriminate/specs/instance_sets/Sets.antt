-- The sets of instances over a store.
use Rattle.std.specs.Prelude.{◌≡◌, ◌<◌, ℕ, List}
use Rattle.std.specs.List.{flat_map}
use Rattle.tasks.specs.trees.Tree.{Tree}
use Rattle.tasks.specs.Task.{TaskTree, nodes, props}
use Rattle.evidence.specs.declared.stage.StageFault.{StageFault}
use Rattle.evidence.specs.declared.stage.StageFault.TheVariants as fault
use Rattle.name_tables.specs.Occurrences.{Occurrence}
use Rattle.name_tables.specs.Seen.{seen_occurrences, AreIn, KeysHeld}
use Rattle.tr_discriminate.specs.wanted_instances.Instances.{inner_instances}
use Rattle.tr_discriminate.specs.wanted_instances.Discriminated.{monomorphic, last_set, discriminated_at}
use Rattle.tr_discriminate.specs.wanted_instances.Growing.{GoesOn}

-- keys of a set
pub record IsKeySet (s : List Tree) (set : List Occurrence) (keys : List (ℕ × ℕ)) : Type 0 where
  pub held : KeysHeld s keys
  pub is : seen_occurrences s keys ≡ set

-- one that the last set goes on from, with the instances of monomorphic propositions
pub record IsEarlySet (t : TaskTree) (set : List Occurrence) : Type 0 where
  pub goes : GoesOn set (last_set t)
  pub own : AreIn set (flat_map inner_instances (monomorphic (props t)))

-- a task has more than 2^20 nodes at a set from which the last one goes on
pub record IsLargeAt (t : TaskTree) : Type 0 where
  pub set : List Occurrence
  pub goes : GoesOn set (last_set t)
  pub large : 1048576 < nodes (discriminated_at set t)

-- want of memory, or that it is so
abbrev pub IsLargeAtSet : TaskTree → StageFault → Type 0
IsLargeAtSet t fault.Memory = Unit {0}
IsLargeAtSet t (fault.Misplaced decl) = ⊥
IsLargeAtSet t fault.TooLarge = IsLargeAt t
