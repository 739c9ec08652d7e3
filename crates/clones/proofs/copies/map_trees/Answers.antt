use Rattle.std.proofs.Common.{get_or, map, All, sym, ap, subst, ◌∙◌, List}
use Rattle.std.proofs.lemmas.List.{get_or_default}
use Rattle.trees.specs.declared.TermId.{TermId}
use Rattle.trees.specs.Node.{tree_at, Holds}
use Rattle.clones.specs.Mapped.{mapped}
use Rattle.trees.proofs.Nodes.{Grows_trans}
use Rattle.clones.proofs.Steps.{map_held, known_on}
use Rattle.clones.proofs.Stays.{tree_stays, tree_held}
use Rattle.clones.proofs.Loops.{copied_none, copied_all, copied_next}
use Rattle.clones.proofs.copies.map_trees.Goals as goal
use Rattle.tasks.proofs.outside.Passed.{no_ok, no_value}

abbrev none : TermId
none = record { 0 = 0 }

pub loop-tree-init : goal.loop-tree-init
loop-tree-init c = copied_none tree_at Holds mapped c.args.morphism.now c.args.store.now c.args.known.now c.new-out.result.items c.new-out.ensures.items c.requires.known

pub map_tree-requires-clause-map_held : goal.map_tree-requires-clause-map_held
map_tree-requires-clause-map_held c = map_held c.args.store.now c.loop-tree.store c.loop-tree.invariant.grows c.args.morphism.now c.requires.map_held

pub map_tree-requires-clause-known : goal.map_tree-requires-clause-known
map_tree-requires-clause-known c = known_on c.args.morphism.now c.args.store.now c.loop-tree.store c.loop-tree.invariant.grows c.requires.map_held c.loop-tree.known c.loop-tree.invariant.are_known

pub map_tree-requires-clause-held : goal.map_tree-requires-clause-held
map_tree-requires-clause-held c = tree_held c.args.store.now c.loop-tree.store c.loop-tree.invariant.grows (get_or c.args.trees.now c.loop-tree.tree-index none) (c.requires.held c.loop-tree.tree-index none c.loop-tree-test.true)

pub loop-tree-preserved : goal.loop-tree-preserved
loop-tree-preserved c =
    copied_next tree_at Holds mapped tree_stays tree_held c.args.morphism.now c.args.store.now c.loop-tree.store c.map_tree.new.store c.loop-tree.known c.map_tree.new.known c.args.trees.now c.loop-tree.out.items c.push.new.self.items c.loop-tree.tree-index
    (get_or c.args.trees.now c.loop-tree.tree-index none) c.in_ok-copy.copy c.requires.map_held c.requires.held c.loop-tree-test.true (get_or_default c.args.trees.now c.loop-tree.tree-index none (get_or c.args.trees.now c.loop-tree.tree-index none) c.loop-tree-test.true) c.loop-tree.invariant c.in_ok-copy.ensures.grows c.in_ok-copy.ensures.known c.in_ok-copy.ensures.mapped.is c.in_ok-copy.ensures.mapped.held c.in_ok-push.ensures.items

pub returns-clause-tree : goal.returns-clause-tree
returns-clause-tree c = ap (map (tree_at c.loop-tree.store)) c.from_vec.ensures ∙ copied_all tree_at Holds mapped c.args.morphism.now c.args.store.now c.loop-tree.store c.loop-tree.known c.args.trees.now c.loop-tree.out.items c.loop-tree.tree-index c.loop-tree-test.false c.loop-tree.invariant

pub returns-clause-new_held : goal.returns-clause-new_held
returns-clause-new_held c = subst (λ (z : List TermId). All (Holds c.loop-tree.store) z) (sym c.from_vec.ensures) c.loop-tree.invariant.held

pub returns-clause-new_known : goal.returns-clause-new_known
returns-clause-new_known c = c.loop-tree.invariant.are_known

pub returns-clause-grows : goal.returns-clause-grows
returns-clause-grows c = c.loop-tree.invariant.grows

pub returns-in_err-copy-clause-grows : goal.returns-in_err-copy-clause-grows
returns-in_err-copy-clause-grows c = Grows_trans c.args.store.now c.loop-tree.store c.map_tree.new.store c.loop-tree.invariant.grows c.map_tree.ensures.grows

pub returns-in_err-push-clause-grows : goal.returns-in_err-push-clause-grows
returns-in_err-push-clause-grows c = Grows_trans c.args.store.now c.loop-tree.store c.map_tree.new.store c.loop-tree.invariant.grows c.map_tree.ensures.grows

pub returns-in_err-copy-clause-tree : goal.returns-in_err-copy-clause-tree
returns-in_err-copy-clause-tree c = no_value _ _ c.from_residual.result c.from_residual.ensures.1

pub returns-in_err-copy-clause-new_held : goal.returns-in_err-copy-clause-new_held
returns-in_err-copy-clause-new_held c = no_value _ _ c.from_residual.result c.from_residual.ensures.1

pub returns-in_err-copy-clause-new_known : goal.returns-in_err-copy-clause-new_known
returns-in_err-copy-clause-new_known c = no_ok _ _ c.from_residual.result c.from_residual.ensures.1

pub returns-in_err-push-clause-tree : goal.returns-in_err-push-clause-tree
returns-in_err-push-clause-tree c = no_value _ _ c.from_residual-in_err-push.result c.from_residual-in_err-push.ensures.1

pub returns-in_err-push-clause-new_held : goal.returns-in_err-push-clause-new_held
returns-in_err-push-clause-new_held c = no_value _ _ c.from_residual-in_err-push.result c.from_residual-in_err-push.ensures.1

pub returns-in_err-push-clause-new_known : goal.returns-in_err-push-clause-new_known
returns-in_err-push-clause-new_known c = no_ok _ _ c.from_residual-in_err-push.result c.from_residual-in_err-push.ensures.1
