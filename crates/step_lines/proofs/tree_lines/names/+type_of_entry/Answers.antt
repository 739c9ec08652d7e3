use Rattle.std.proofs.Common.{◌≡◌, ℕ, ◌-◌, ◌<◌, None, get_or, IfOk, Option, List, sym, ap, subst, ◌∙◌, arith}
use Rattle.std.specs.Option.{option_map}
use Rattle.trees.specs.declared.TermId.{TermId}
use Rattle.trees.specs.Tree.{Tree}
use Rattle.trees.specs.Node.{tree_at}
use Rattle.trees.proofs.Nodes.{Grows_trans}
use Rattle.trees.specs.binders.Visits.{HoldTypes}
use Rattle.tasks.specs.Meaning.{trees_at}
use Rattle.step_lines.specs.tree_lines.Named.{named_type_at, entry_type}
use Rattle.step_lines.proofs.tree_lines.Lists.{each_missing, each_done}
use Rattle.step_lines.proofs.tree_lines.Entries.{entry_done, entry_missing, entry_absent, entry_zero, types_more, entries_more}
use Rattle.step_lines.proofs.tree_lines.names.+type_of_entry.Goals as goal

pub returns-in-None-clause-tree : goal.returns-in-None-clause-tree
returns-in-None-clause-tree t c =
    let table = c.args.table.now in
    let places = c.as_slice-under-items.result.now in
    let F : ℕ → Option Tree = λ k. entry_type (c.args.most - 1) table k in
    let some : 0 < c.args.most = omega (arith, c.if-most-eq0.false) in
    let f : F (get_or places c.loop-under.under-index 0) ≡ None = sym c.in_ok-ty.ensures.tree ∙ ap (option_map (tree_at c.type_of_entry.new.store)) c.in-None.is in
    entry_missing table c.args.most c.args.place c.in-Some.entry.now some c.in-Some.ensures places c.as_slice-under-items.ensures
    (each_missing F places c.loop-under.under-index 0 _ _ c.loop-under-test.true f c.loop-under.invariant.trees)

pub loop-under-preserved : goal.loop-under-preserved
loop-under-preserved t c =
    let table = c.args.table.now in
    let F : ℕ → Option Tree = λ k. entry_type (c.args.most - 1) table k in
    let s = c.loop-under.store in
    let s' = c.type_of_entry.new.store in
    let i = c.loop-under.invariant in
    let types = c.loop-under.types.items in
    let g = c.in_ok-ty.ensures.grows in
    rw (c.in_ok-push-in-Some-2.ensures.items) (record {
      grows = Grows_trans c.args.store.now s s' i.grows g;
      held = types_more s s' g types c.in-Some-2.ty c.in_ok-ty.field-0 c.in-Some-2.is i.held c.in_ok-ty.ensures.held;
      trees = entries_more s s' g types c.in-Some-2.ty c.in_ok-ty.field-0 c.in-Some-2.is i.held F c.as_slice-under-items.result.now c.loop-under.under-index 0 _ c.loop-under-test.true c.in_ok-ty.ensures.tree i.trees;
    })

pub returns-clause-tree : goal.returns-clause-tree
returns-clause-tree t c =
    let table = c.args.table.now in
    let places = c.as_slice-under-items.result.now in
    let F : ℕ → Option Tree = λ k. entry_type (c.args.most - 1) table k in
    let s = c.loop-under.store in
    let some : 0 < c.args.most = omega (arith, c.if-most-eq0.false) in
    let done = each_done F places c.loop-under.under-index (trees_at s c.loop-under.types.items) _ c.loop-under-test.false c.loop-under.invariant.trees in
    let e = ap (λ (l : List TermId). named_type_at c.in-Some.entry.now.symbol (trees_at s l)) c.deref.ensures.value ∙ entry_done table c.args.most c.args.place c.in-Some.entry.now some c.in-Some.ensures places c.as_slice-under-items.ensures (trees_at s c.loop-under.types.items) done in
    subst (λ (m : Option Tree). IfOk c.type_of_symbol.result (λ o. option_map (tree_at c.type_of_symbol.new.store) o ≡ m)) e c.type_of_symbol.ensures.tree

pub returns-then-most-eq0-clause-tree : goal.returns-then-most-eq0-clause-tree
returns-then-most-eq0-clause-tree t c = entry_zero c.args.table.now c.args.most c.args.place c.if-most-eq0.true

pub returns-in_default-clause-tree : goal.returns-in_default-clause-tree
returns-in_default-clause-tree t c = entry_absent c.args.table.now c.args.most c.args.place c.in_default.ensures

pub returns-in-None-clause-grows : goal.returns-in-None-clause-grows
returns-in-None-clause-grows t c = Grows_trans c.args.store.now c.loop-under.store c.type_of_entry.new.store c.loop-under.invariant.grows c.in_ok-ty.ensures.grows

pub returns-in_err-ty-clause-grows : goal.returns-in_err-ty-clause-grows
returns-in_err-ty-clause-grows t c = Grows_trans c.args.store.now c.loop-under.store c.type_of_entry.new.store c.loop-under.invariant.grows c.in_err-ty.ensures.grows

pub returns-in_err-push-in-Some-2-clause-grows : goal.returns-in_err-push-in-Some-2-clause-grows
returns-in_err-push-in-Some-2-clause-grows t c = Grows_trans c.args.store.now c.loop-under.store c.type_of_entry.new.store c.loop-under.invariant.grows c.in_ok-ty.ensures.grows

pub type_of_symbol-requires : goal.type_of_symbol-requires
type_of_symbol-requires t c = subst (HoldTypes c.loop-under.store) (sym c.deref.ensures.value) c.loop-under.invariant.held

pub returns-clause-held : goal.returns-clause-held
returns-clause-held t c = c.type_of_symbol.ensures.held

pub returns-clause-grows : goal.returns-clause-grows
returns-clause-grows t c = Grows_trans c.args.store.now c.loop-under.store c.type_of_symbol.new.store c.loop-under.invariant.grows c.type_of_symbol.ensures.grows
