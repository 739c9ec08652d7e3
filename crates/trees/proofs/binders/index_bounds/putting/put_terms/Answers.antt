use Rattle.std.proofs.Common.{ℕ, ◌-◌, ◌≤◌, List, subst, arith}
use Rattle.trees.specs.Tree.{Tree}
use Rattle.trees.specs.Node.{tree_at, Holds}
use Rattle.trees.specs.Sorts.{WellSorted}
use Rattle.trees.specs.declared.TermId.{TermId}
use Rattle.trees.proofs.Sizes.{sorted_fits}
use Rattle.trees.specs.binders.index_bounds.Bounds.{above_indices, AreIndicesWithin}
use Rattle.trees.proofs.binders.index_bounds.Fits.{many_fit}
use Rattle.trees.proofs.binders.index_bounds.putting.put_terms.Goals as goal

pub inst_many-requires-clause-fits : goal.inst_many-requires-clause-fits
inst_many-requires-clause-fits g c =
    let s = g.G.Grow.trees c.args.g.now in
    let sorted : (id : TermId) → Holds s id → WellSorted (tree_at s id) = subst (λ (z : List Tree). (id : TermId) → Holds z id → WellSorted (tree_at z id)) c.store.ensures c.laws.ensures.sorted in
    let above : above_indices (tree_at s c.args.body) ≤ c.in_ok-bound.bound = subst (λ (z : List Tree). above_indices (tree_at z c.args.body) ≤ c.in_ok-bound.bound) c.store-2.ensures c.in_ok-bound.ensures in
    let within : AreIndicesWithin s (18446744073709551615 - c.in_ok-bound.bound) c.args.terms.now =
    subst (λ (z : List Tree). AreIndicesWithin z (18446744073709551615 - c.in_ok-bound.bound) c.args.terms.now) c.store-3.ensures (c.in_ok-fits.ensures c.if-not-fits.false) in
    many_fit s (tree_at s c.args.body) c.args.terms.now c.in_ok-bound.bound (18446744073709551615 - c.in_ok-bound.bound) (sorted_fits (tree_at s c.args.body) (sorted c.args.body c.requires.body_held)) above (omega arith) within
