use Rattle.std.proofs.Common.{◌≡◌, List, map, refl, ap, ◌∙◌}
use Rattle.tasks.specs.trees.Tree.{Tree}
use Rattle.tasks.specs.trees.Sorts.{sort_of}
use Rattle.tasks.specs.Meaning.{trees_at}
use Rattle.open_types.specs.Drafts.{match_at, notes_at, instances}
use Rattle.elab_groups.specs.parts.Values.{notes_after, match_instance}
use Rattle.elab_groups.proofs.parts.Putting.{trees_stay}
use Rattle.elab_groups.proofs.BodiesSolved.{group_solved, instances_sorts}
use Rattle.elab_groups.proofs.solving.solve_bodies.Goals as goal

pub returns-clause-sorts : goal.returns-clause-sorts
returns-clause-sorts c =
    let s = c.args.store.now in
    let s2 = c.solve_draft.new.store in
    let s3 = c.put_trees.new.store in
    let s4 = c.put_matches.new.store in
    let ids = c.args.ids.now in
    let types = c.in_ok-types.types.items in
    let out = c.put_trees.new.them.items in
    let is : trees_at s3 out ≡ instances (trees_at s2 types) (trees_at s2 ids) = rw (c.new-trees.ensures.items, c.as_slice.ensures.value) at c.in_ok-put_trees.ensures.trees in
    let last : trees_at s4 out ≡ instances (trees_at s2 types) (trees_at s2 ids) = trees_stay s3 s4 c.in_ok-put_matches.ensures.grows out c.in_ok-put_trees.ensures.held ∙ is in
    ap (λ (es : List Tree). map sort_of es) last ∙ (instances_sorts s2 types c.in_ok-types.ensures.ok.held (trees_at s2 ids) ∙ ap (λ (es : List Tree). map sort_of es) (trees_stay s s2 c.in_ok-types.ensures.grows ids c.requires.ids))

pub returns-clause-ok : goal.returns-clause-ok
returns-clause-ok c =
    let s = c.args.store.now in
    let s2 = c.solve_draft.new.store in
    let s3 = c.put_trees.new.store in
    let s4 = c.put_matches.new.store in
    let r = c.args.rigid in
    let d = c.args.draft.now in
    let ns = notes_after r (notes_at s d) in
    let types = c.in_ok-types.types.items in
    let out = c.put_trees.new.them.items in
    let is : trees_at s3 out ≡ instances (trees_at s2 types) (trees_at s2 c.args.ids.now) = rw (c.new-trees.ensures.items, c.as_slice.ensures.value) at c.in_ok-put_trees.ensures.trees in
    let done : map (match_at s4) c.put_matches.new.them.items ≡ map (match_instance (trees_at s3 types)) (map (match_at s3) d.matches) = rw (c.new-matches.ensures.items, c.as_slice-2.ensures, c.as_slice-3.ensures.value) at c.in_ok-put_matches.ensures.patterns in
    rw c.from_vec.ensures (group_solved s s2 s3 s4 c.in_ok-types.ensures.grows c.in_ok-put_trees.ensures.grows c.in_ok-put_matches.ensures.grows r ns types c.in_ok-types.ensures.ok c.args.ids.now out c.requires.ids
    c.requires.bounded.trees c.requires.bounded.matches c.in_ok-put_trees.ensures.held is d.matches c.put_matches.new.them.items c.requires.ready.matches refl done)
