-- The search for wanted assignments, over a store.
use Rattle.std.specs.Prelude.{◌≡◌, ℕ, ◌+◌, ◌≤◌, Bool, not, ◌&&◌, ◌||◌, List, [], ◌∷◌, ◌++◌, map, length, take, All}
use Rattle.std.specs.List.{flat_map, list_any}
use Rattle.trees.specs.declared.TermId.{TermId}
use Rattle.trees.specs.Tree.{Tree}
use Rattle.trees.specs.Node.{Holds, trees_at}
use Rattle.name_tables.specs.Occurrences.{Occurrence}
use Rattle.name_tables.specs.Seen.{occurrence_at}
use Rattle.tr_discriminate.specs.wanted_instances.Instances.{mentions}
use Rattle.tr_discriminate.specs.wanted_instances.Wanted.{is_of_symbol}
use Rattle.tr_discriminate.specs.wanted_instances.Search.{found_from, matches}

-- the type at which a key is an instance of `=`
abbrev pub key_type : List Tree → ℕ × ℕ → Tree
key_type s key = (occurrence_at s key).types

abbrev pub assignments_at : List Tree → List (List TermId) → List (List Tree)
assignments_at s yss = map (trees_at s) yss

abbrev pub AssignmentsHeld : List Tree → List (List TermId) → Type 0
AssignmentsHeld s yss = All (All (Holds s)) yss

-- no more than these have been found
pub record IsSearchResult (s : List Tree) (most : ℕ) (yss : List (List TermId)) : Type 0 where
  pub held : AssignmentsHeld s yss
  pub few : length yss ≤ most + 1

-- the first ones of what was found and of these, one more than so many
pub record FindsUpTo (s : List Tree) (most : ℕ) (old : List (List TermId))
    (found : List (List Tree)) (new : List (List TermId)) : Type 0 where
  pub is_found : IsSearchResult s most new
  pub are : assignments_at s new ≡ take (most + 1) (assignments_at s old ++ found)

-- whether an instance in the formula asks, mentions a type variable, and may be in a set
abbrev pub may_ask : List Occurrence → Bool → List Tree → ℕ → Occurrence → Bool
may_ask s named_only known j o =
    (not named_only || is_of_symbol o) && (mentions j o && list_any (matches known o) s)

-- what is found with each of these types next
abbrev pub found_each : List Occurrence → List Tree → Tree → List Tree → ℕ → List Tree
    → List (List Tree)
found_each s types a known n choices =
    flat_map (λ ty. found_from s types a (known ++ ty ∷ []) n) choices
