use Rattle.std.proofs.Common.{◌≡◌, take, All}
use Rattle.tasks.specs.Meaning.{trees_at}
use Rattle.open_types.specs.Patterns.{place_types}
use Rattle.open_types.specs.Drafts.{HoldsType}
use Rattle.open_types.proofs.records.place_types.Given as goal

abbrev pub invariant-loop-place : goal.invariant-loop-place
invariant-loop-place l = All (HoldsType l.store) l.them.items × (trees_at l.store l.them.items ≡ place_types (take l.place-index l.places) (trees_at l.store l.types))
