use Rattle.std.proofs.Common.{◌≡◌, drop}
use Rattle.name_resolution.specs.Records.{each_named}
use Rattle.name_resolution.proofs.records.each_named.Given as goal

abbrev pub invariant-loop-it : goal.invariant-loop-it
invariant-loop-it l = each_named (drop l.it-index l.named) ≡ each_named l.named
