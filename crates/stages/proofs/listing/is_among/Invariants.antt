use Rattle.std.proofs.Common.{◌≡◌, drop}
use Rattle.std.specs.List.{list_any}
use Rattle.std.specs.Str.{bytes_eq}
use Rattle.stages.proofs.listing.is_among.Given as goal

abbrev pub invariant-loop-path : goal.invariant-loop-path
invariant-loop-path l = list_any (bytes_eq l.its) (drop l.path-index l.paths) ≡ list_any (bytes_eq l.its) l.paths
