-- Places of declarations among which those of each theory are kept whole.
use Rattle.std.specs.Prelude.{◌≡◌, ℕ, List, slice_get, Some}
use Rattle.std.specs.List.{Contains}
use Rattle.elab_groups.specs.tasks.Task.{DeclarationTree}

-- with the place of a declaration stand those of all declarations of its theory
abbrev pub IsWhole : List DeclarationTree → List ℕ → Type 0
IsWhole ds ks = (j k : ℕ) (d e : DeclarationTree) → slice_get ds j ≡ Some d
    → slice_get ds k ≡ Some e → Contains ks k → d.theory ≡ e.theory → Contains ks j
