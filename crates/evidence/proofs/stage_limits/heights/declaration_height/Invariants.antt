use Rattle.std.proofs.Common.{◌≡◌, ◌≤◌, max, min, drop}
use Rattle.tasks.specs.Meaning.{declarations_at}
use Rattle.evidence.specs.stage_limits.Limits.{declaration_height}
use Rattle.evidence.proofs.stage_limits.heights.declaration_height.Given as goal

abbrev pub invariant-loop-decl : goal.invariant-loop-decl
invariant-loop-decl l =
    (l.top ≤ 18446744073709551615)
    × (min (max l.top (declaration_height (declarations_at l.store (drop l.decl-index l.decls)))) 18446744073709551615
    ≡ min (declaration_height (declarations_at l.store l.decls)) 18446744073709551615)
