use Rattle.std.proofs.Common.{◌≡◌, ◌+◌, ◌<◌, List, All, refl, sym, ap, subst, ◌∙◌, arith}
use Rattle.trees.specs.declared.TermId.{TermId}
use Rattle.trees.specs.Tree.{Tree, loose, size}
use Rattle.trees.specs.Node.{tree_at, trees_at, Holds}
use Rattle.trees.specs.Binding.{inst_many}
use Rattle.trees.specs.Facts.{IndicesFit}
use Rattle.trees.specs.Sorts.{WellSorted}
use Rattle.trees.proofs.Sizes.{sorted_fits}
use Rattle.tasks.specs.Typing.{members}
use Rattle.trees.specs.binders.Visits.{HoldTerms}
use Rattle.tr_inline.proofs.full_bodies.Indices.{many_small}
use Rattle.tr_inline.proofs.full_bodies.ListMembers.{small_at}
use Rattle.tr_inline.proofs.full_bodies.putting.put_arguments.Goals as goal

pub are_small-requires : goal.are_small-requires
are_small-requires g c =
    let s = g.G.Grow.trees c.args.g.now in
    let ids = c.in_ok-of_args.of_args.items in
    let h : HoldTerms s ids = subst (λ (z : List Tree). HoldTerms z ids) c.store.ensures c.in_ok-of_args.ensures.held in
    subst (λ (z : List Tree). HoldTerms z c.deref.result.now) (sym c.store-else-not-is_small.ensures) (subst (HoldTerms s) (sym c.deref.ensures.value) h)

pub inst_many-requires-clause-terms : goal.inst_many-requires-clause-terms
inst_many-requires-clause-terms g c =
    let s = g.G.Grow.trees c.args.g.now in
    let ids = c.in_ok-of_args.of_args.items in
    let h : HoldTerms s ids = subst (λ (z : List Tree). HoldTerms z ids) c.store.ensures c.in_ok-of_args.ensures.held in
    subst (HoldTerms s) (sym c.deref-2.ensures.value) h

pub inst_many-requires-clause-fits : goal.inst_many-requires-clause-fits
inst_many-requires-clause-fits g c =
    let s = g.G.Grow.trees c.args.g.now in
    let ids = c.in_ok-of_args.of_args.items in
    let body = c.args.body in
    let sorted : WellSorted (tree_at s body) = subst (λ (z : List Tree). (id : TermId) → Holds z id → WellSorted (tree_at z id)) c.store-2.ensures c.laws.ensures.sorted body c.requires.body_held in
    let small : loose (tree_at s body) + size (tree_at s body) < 6000000000000000000 = subst (λ (z : List Tree). loose (tree_at z body) + size (tree_at z body) < 6000000000000000000) c.store-3.ensures (c.if-not-is_small.ensures refl) in
    let all : All (λ (id : TermId). loose (tree_at s id) + size (tree_at s id) < 6000000000000000000) ids =
    subst (λ (z : List TermId). All (λ (id : TermId). loose (tree_at s id) + size (tree_at s id) < 6000000000000000000) z) c.deref.ensures.value
    (subst (λ (y : List Tree). All (λ (id : TermId). loose (tree_at y id) + size (tree_at y id) < 6000000000000000000) c.deref.result.now) c.store-else-not-is_small.ensures (c.if-not-are_small.ensures refl)) in
    let fits : IndicesFit (inst_many (tree_at s body) (trees_at s ids)) =
    many_small (trees_at s ids) 6000000000000000000 (λ k e l. let m = small_at s 6000000000000000000 ids all k e l in omega (arith, m)) (tree_at s body) (sorted_fits (tree_at s body) sorted) (omega (arith, small)) in
    subst (λ (z : List TermId). IndicesFit (inst_many (tree_at s body) (trees_at s z))) (sym c.deref-2.ensures.value) fits

pub returns-clause-tree : goal.returns-clause-tree
returns-clause-tree g c =
    let s = g.G.Grow.trees c.args.g.now in
    let ids = c.in_ok-of_args.of_args.items in
    let args_are : trees_at s ids ≡ members (tree_at s c.args.args) = subst (λ (z : List Tree). trees_at z ids ≡ members (tree_at z c.args.args)) c.store.ensures c.in_ok-of_args.ensures.are in
    c.in_ok-made.ensures.tree ∙ ap (λ (z : List TermId). inst_many (tree_at s c.args.body) (trees_at s z)) c.deref-2.ensures.value ∙ ap (inst_many (tree_at s c.args.body)) args_are
