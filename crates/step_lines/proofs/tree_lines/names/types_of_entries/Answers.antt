use Rattle.std.proofs.Common.{◌≡◌, ℕ, None, Option, length, get_or, sym, ap, ◌∙◌}
use Rattle.std.specs.Option.{option_map}
use Rattle.trees.specs.Tree.{Tree}
use Rattle.trees.specs.Node.{tree_at}
use Rattle.trees.proofs.Nodes.{Grows_trans}
use Rattle.tasks.specs.Meaning.{trees_at}
use Rattle.step_lines.specs.tree_lines.Named.{entry_type}
use Rattle.step_lines.proofs.tree_lines.Lists.{each_missing, each_done}
use Rattle.step_lines.proofs.tree_lines.Entries.{types_more, entries_more}
use Rattle.step_lines.proofs.tree_lines.names.types_of_entries.Goals as goal

pub loop-place-preserved : goal.loop-place-preserved
loop-place-preserved c =
    let table = c.args.table.now in
    let F : ℕ → Option Tree = λ k. entry_type (length table) table k in
    let s = c.loop-place.store in
    let s' = c.type_of_entry.new.store in
    let i = c.loop-place.invariant in
    let types = c.loop-place.types.items in
    let g = c.in_ok-ty.ensures.grows in
    rw (c.in_ok-push-in-Some.ensures.items) (record {
      grows = Grows_trans c.args.store.now s s' i.grows g;
      held = types_more s s' g types c.in-Some.ty c.in_ok-ty.field-0 c.in-Some.is i.held c.in_ok-ty.ensures.held;
      trees = entries_more s s' g types c.in-Some.ty c.in_ok-ty.field-0 c.in-Some.is i.held F c.args.places.now c.loop-place.place-index 0 _ c.loop-place-test.true c.in_ok-ty.ensures.tree i.trees;
    })

pub returns-in-None-clause-trees : goal.returns-in-None-clause-trees
returns-in-None-clause-trees c =
    let table = c.args.table.now in
    let F : ℕ → Option Tree = λ k. entry_type (length table) table k in
    let f : F (get_or c.args.places.now c.loop-place.place-index 0) ≡ None = sym c.in_ok-ty.ensures.tree ∙ ap (option_map (tree_at c.type_of_entry.new.store)) c.in-None.is in
    each_missing F c.args.places.now c.loop-place.place-index 0 _ _ c.loop-place-test.true f c.loop-place.invariant.trees

pub returns-in-None-clause-grows : goal.returns-in-None-clause-grows
returns-in-None-clause-grows c = Grows_trans c.args.store.now c.loop-place.store c.type_of_entry.new.store c.loop-place.invariant.grows c.in_ok-ty.ensures.grows

pub returns-in_err-ty-clause-grows : goal.returns-in_err-ty-clause-grows
returns-in_err-ty-clause-grows c = Grows_trans c.args.store.now c.loop-place.store c.type_of_entry.new.store c.loop-place.invariant.grows c.in_err-ty.ensures.grows

pub returns-in_err-push-in-Some-clause-grows : goal.returns-in_err-push-in-Some-clause-grows
returns-in_err-push-in-Some-clause-grows c = Grows_trans c.args.store.now c.loop-place.store c.type_of_entry.new.store c.loop-place.invariant.grows c.in_ok-ty.ensures.grows

pub returns-clause-trees : goal.returns-clause-trees
returns-clause-trees c =
    let table = c.args.table.now in
    let F : ℕ → Option Tree = λ k. entry_type (length table) table k in
    each_done F c.args.places.now c.loop-place.place-index (trees_at c.loop-place.store c.loop-place.types.items) _ c.loop-place-test.false c.loop-place.invariant.trees

pub returns-clause-held : goal.returns-clause-held
returns-clause-held c = c.loop-place.invariant.held

pub returns-clause-grows : goal.returns-clause-grows
returns-clause-grows c = c.loop-place.invariant.grows
