use Rattle.std.proofs.Common.{◌≡◌, ◌≤◌, drop}
use Rattle.name_tables.specs.Spelling.{after_dots, own_name}
use Rattle.name_tables.proofs.spelling.own_name.Given as goal

abbrev pub invariant-loop-place : goal.invariant-loop-place
invariant-loop-place l = (l.start ≤ l.place) × (after_dots (drop l.start l.name) (drop l.place l.name) ≡ own_name l.name)
