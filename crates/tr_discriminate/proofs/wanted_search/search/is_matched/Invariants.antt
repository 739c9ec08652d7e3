use Rattle.std.proofs.Common.{◌≡◌, ℕ, drop}
use Rattle.std.specs.List.{list_any}
use Rattle.trees.specs.Node.{tree_at, trees_at}
use Rattle.tr_discriminate.specs.wanted_instances.Search.{may_fit}
use Rattle.tr_discriminate.specs.wanted_search.Search.{key_type}
use Rattle.tr_discriminate.proofs.wanted_search.search.is_matched.Given as goal

abbrev pub invariant-loop-key : goal.invariant-loop-key
invariant-loop-key l =
    list_any (λ (k : ℕ × ℕ). may_fit (trees_at l.store l.known) (tree_at l.store l.instance.types) (key_type l.store k)) (drop l.key-index l.instance.candidates)
    ≡ list_any (λ (k : ℕ × ℕ). may_fit (trees_at l.store l.known) (tree_at l.store l.instance.types) (key_type l.store k)) l.instance.candidates
