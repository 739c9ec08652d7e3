-- The type variables and widths in code.
use Rattle.name_resolution.specs.variables.Seen.{SeenTree}
use Rattle.name_resolution.specs.declared.variables.variables.Seen.{Seen as SeenCode}

abbrev pub seen_at : SeenCode → SeenTree
seen_at s = record { vars = s.vars; widths = s.widths }
