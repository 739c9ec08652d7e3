-- The laws of the crate, as statements.
use Rattle.std.specs.Prelude.{◌≡◌, ◌≤◌, ℕ, zero, suc, true, false, List, [], ◌∷◌, ◌++◌, length, All}
use Rattle.std.specs.List.{flat_map}
use Rattle.tasks.specs.trees.Tree.{Tree, above_ty_vars}
use Rattle.tasks.specs.Task.{TaskTree, DeclarationTree, nodes, props}
use Rattle.tasks.specs.Vocabulary.{of_task}
use Rattle.tasks.specs.Valid.{IsValid, IsValidDecl}
use Rattle.name_tables.specs.Occurrences.{Occurrence}
use Rattle.tr_discriminate.specs.wanted_instances.Wanted.{type_choices, is_wanted}
use Rattle.tr_discriminate.specs.wanted_instances.Discriminated.{first_set, next_set, last_set, put_in_place, discriminated_at}
use Rattle.tr_discriminate.specs.wanted_instances.Search.{found_from, may_go_on}
use Rattle.tr_discriminate.specs.wanted_instances.Growing.{GoesOn}

-- what is wanted at a set is wanted at each that goes on from it
abbrev pub WantedStays : Type 0
WantedStays = (s u : List Occurrence) → GoesOn s u → (a : Tree) (ys : List Tree)
    → is_wanted s a ys ≡ true → is_wanted u a ys ≡ true

-- so the task has no fewer nodes there
abbrev pub NodesRise : Type 0
NodesRise = (s u : List Occurrence) → GoesOn s u → (t : TaskTree)
    → nodes (discriminated_at s t) ≤ nodes (discriminated_at u t)

-- the last set goes on from the two before it
abbrev pub SetsGoOn : Type 0
SetsGoOn = (t : TaskTree) → GoesOn (first_set t) (next_set (props t) (first_set t))
    × GoesOn (next_set (props t) (first_set t)) (last_set t)

-- The search goes on by one type variable, with each of its types in order. It finds nothing where
-- it may not go on, and where all type variables are known and it may, what is known.
abbrev pub SearchFinds : Type 0
SearchFinds = (s : List Occurrence) (types : List Tree) (a : Tree) (known : List Tree)
    → ((n : ℕ) → found_from s types a known (suc n)
    ≡ flat_map (λ ty. found_from s types a (known ++ ty ∷ []) n)
    (type_choices types a (length known)))
    × ((n : ℕ) → may_go_on s a known ≡ false → found_from s types a known n ≡ [])
    × (above_ty_vars a ≤ length known → may_go_on s a known ≡ true
    → found_from s types a known 0 ≡ known ∷ [])

-- what is put in the place of a declaration of a valid task is valid
abbrev pub InstancesAreValid : Type 0
InstancesAreValid = (t : TaskTree) → IsValid t → (d : DeclarationTree) → IsValidDecl (of_task t) d
    → All (IsValidDecl (of_task t)) (put_in_place (last_set t) d d.body)
