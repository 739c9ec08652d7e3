use Rattle.std.proofs.Common.{◌≡◌, replicate, refl, sym, ap, ◌∙◌}
use Rattle.std.proofs.lemmas.Result.{IfOk-weaker}
use Rattle.trees.specs.Node.{tree_at}
use Rattle.trees.specs.Sorts.{sort_of}
use Rattle.trees.proofs.Nodes.{tree_at-grows}
use Rattle.tasks.specs.Meaning.{trees_at}
use Rattle.tasks.specs.Typing.{members}
use Rattle.name_resolution.specs.Records.{put_at_places}
use Rattle.trees.specs.binders.Visits.{HoldsTerm}
use Rattle.open_types.proofs.Fielding.{values_put, values_held}
use Rattle.open_types.proofs.records.place_values.Goals as goal

pub list_of_terms-requires : goal.list_of_terms-requires
list_of_terms-requires c =
    let own = c.push_terms.new.out.items in
    let e : c.as_slice-2.result.now ≡ put_at_places c.args.places.now own (replicate c.args.count c.in_ok-none.none) = rw (c.as_slice-2.ensures, c.put_values.ensures, c.as_slice.ensures.value, c.in_ok-items.ensures) refl in
    let none : HoldsTerm c.add.new.self c.in_ok-none.none = (c.in_ok-none.ensures.held, ap sort_of c.in_ok-none.ensures.tree) in
    values_held c.add.new.self c.args.places.now own c.as_slice-2.result.now c.in_ok-none.none c.args.count e c.in_ok-push_terms.ensures.new_held none

pub returns-clause-tree : goal.returns-clause-tree
returns-clause-tree c =
    let s1 = c.add.new.self in
    let own = c.push_terms.new.out.items in
    let e : c.as_slice-2.result.now ≡ put_at_places c.args.places.now own (replicate c.args.count c.in_ok-none.none) = rw (c.as_slice-2.ensures, c.put_values.ensures, c.as_slice.ensures.value, c.in_ok-items.ensures) refl in
    let told : trees_at s1 own ≡ members (tree_at c.args.store.now c.args.values) = rw (sym (tree_at-grows c.args.store.now s1 c.args.values c.add.ensures.grows c.requires.values)) (rw c.new-own.ensures.items at c.in_ok-push_terms.ensures.tree) in
    let placed = values_put s1 c.args.places.now own c.as_slice-2.result.now c.in_ok-none.none c.args.count (tree_at c.args.store.now c.args.values) e told c.in_ok-none.ensures.tree in
    IfOk-weaker c.list_of_terms.result _ _ (λ id q. q ∙ placed) c.list_of_terms.ensures.tree
