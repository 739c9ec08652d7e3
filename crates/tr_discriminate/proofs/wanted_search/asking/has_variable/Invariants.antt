use Rattle.std.proofs.Common.{◌≡◌, ℕ, drop}
use Rattle.std.specs.List.{list_any}
use Rattle.name_tables.specs.Seen.{occurrence_at}
use Rattle.tr_discriminate.specs.wanted_search.Asking.{is_type_variable}
use Rattle.tr_discriminate.proofs.wanted_search.asking.has_variable.Given as goal

abbrev pub invariant-loop-key : goal.invariant-loop-key
invariant-loop-key l = list_any (λ (k : ℕ × ℕ). is_type_variable l.number (occurrence_at l.store k).types) (drop l.key-index l.inside) ≡ list_any (λ (k : ℕ × ℕ). is_type_variable l.number (occurrence_at l.store k).types) l.inside
