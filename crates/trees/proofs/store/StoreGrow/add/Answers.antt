use Rattle.std.proofs.Common.{◌≡◌, None, get_or, arith}
use Rattle.trees.specs.Tree.{Leaf, HEnd}
use Rattle.trees.specs.Node.{node_tree}
use Rattle.std.specs.Map.{keys_of, lookup}
use Rattle.indexmap.proofs.CallerLemmas.{insert_entry-new}
use Rattle.trees.specs.contracts.NodePartialEq.TheImpl.{ghosts}
use Rattle.trees.proofs.store.NodeLists.{found_tree, node_sorted}
use Rattle.trees.proofs.store.Tables.{length_table, length_keys, looked_in, none_of, not_there, added_table, added_held, added_tree, added_grows}
use Rattle.trees.proofs.store.StoreGrow.add.Goals as goal

pub returns-in-Some-clause-held : goal.returns-in-Some-clause-held
returns-in-Some-clause-held c = omega (arith, length_table c.self.inside.nodes.entries c.args.self.now c.self.view_is, c.in-Some.ensures.within)

pub returns-in-Some-clause-tree : goal.returns-in-Some-clause-tree
returns-in-Some-clause-tree c =
    let l = looked_in c.self.inside.nodes.entries c.args.node c.in-Some.at c.in-Some.ensures.index in
    found_tree (keys_of c.self.inside.nodes.entries) c.args.self.now c.self.view_is c.self.invariant.sound c.args.node c.in-Some.at (omega (arith, l.0, length_keys c.self.inside.nodes.entries)) l.1

pub returns-in_err-insert-clause-again : goal.returns-in_err-insert-clause-again
returns-in_err-insert-clause-again c =
    λ h. absurd (not_there c.self.inside.nodes.entries c.args.self.now c.self.view_is c.self.invariant c.args.node c.requires.held c.requires.fits (none_of _ c.in_default.ensures.found) h)

pub invariant_of-self-2 : goal.invariant_of-self-2
invariant_of-self-2 c =
    let out : lookup ((ghosts).eq c.args.node) c.self.inside.nodes.entries ≡ None = none_of _ c.in_default.ensures.found in
    rw (c.in_ok-insert.ensures.entries, insert_entry-new (ghosts).eq c.self.inside.nodes c.args.node c.summary_of-summary.result out)
    (added_table c.self.inside.nodes.entries c.args.self.now c.self.view_is c.self.invariant c.args.node c.requires.held c.requires.fits out c.summary_of-summary.result c.summary_of-summary.ensures)

pub returns-clause-again : goal.returns-clause-again
returns-clause-again c =
    λ h. absurd (not_there c.self.inside.nodes.entries c.args.self.now c.self.view_is c.self.invariant c.args.node c.requires.held c.requires.fits (none_of _ c.in_default.ensures.found) h)

pub returns-clause-held : goal.returns-clause-held
returns-clause-held c =
    let out : lookup ((ghosts).eq c.args.node) c.self.inside.nodes.entries ≡ None = none_of _ c.in_default.ensures.found in
    rw (c.in_ok-insert.ensures.entries, insert_entry-new (ghosts).eq c.self.inside.nodes c.args.node c.summary_of-summary.result out)
    (added_held c.self.inside.nodes.entries c.args.self.now c.self.view_is c.args.node c.summary_of-summary.result c.len.result c.len.ensures.len)

pub returns-clause-tree : goal.returns-clause-tree
returns-clause-tree c =
    let out : lookup ((ghosts).eq c.args.node) c.self.inside.nodes.entries ≡ None = none_of _ c.in_default.ensures.found in
    rw (c.in_ok-insert.ensures.entries, insert_entry-new (ghosts).eq c.self.inside.nodes c.args.node c.summary_of-summary.result out)
    (added_tree c.self.inside.nodes.entries c.args.self.now c.self.view_is c.args.node c.summary_of-summary.result c.len.result c.len.ensures.len)

pub returns-clause-grows : goal.returns-clause-grows
returns-clause-grows c =
    let out : lookup ((ghosts).eq c.args.node) c.self.inside.nodes.entries ≡ None = none_of _ c.in_default.ensures.found in
    rw (c.in_ok-insert.ensures.entries, insert_entry-new (ghosts).eq c.self.inside.nodes c.args.node c.summary_of-summary.result out)
    (added_grows c.self.inside.nodes.entries c.args.self.now c.self.view_is c.args.node c.summary_of-summary.result)

pub returns-in-Some-clause-sorted : goal.returns-in-Some-clause-sorted
returns-in-Some-clause-sorted c =
    let l = looked_in c.self.inside.nodes.entries c.args.node c.in-Some.at c.in-Some.ensures.index in
    let es = keys_of c.self.inside.nodes.entries in
    let is : get_or c.args.self.now c.in-Some.at (Leaf HEnd) ≡ node_tree c.args.self.now c.args.node =
    found_tree es c.args.self.now c.self.view_is c.self.invariant.sound c.args.node c.in-Some.at (omega (arith, l.0, length_keys c.self.inside.nodes.entries)) l.1 in
    rw is (node_sorted es c.args.self.now c.self.view_is c.self.invariant.sound c.args.node c.requires.held c.requires.fits)

pub returns-clause-sorted : goal.returns-clause-sorted
returns-clause-sorted c =
    let out : lookup ((ghosts).eq c.args.node) c.self.inside.nodes.entries ≡ None = none_of _ c.in_default.ensures.found in
    rw (
      c.in_ok-insert.ensures.entries,
      insert_entry-new (ghosts).eq c.self.inside.nodes c.args.node c.summary_of-summary.result out,
      added_tree c.self.inside.nodes.entries c.args.self.now c.self.view_is c.args.node c.summary_of-summary.result c.len.result c.len.ensures.len,
    )
    (node_sorted (keys_of c.self.inside.nodes.entries) c.args.self.now c.self.view_is c.self.invariant.sound c.args.node c.requires.held c.requires.fits)
