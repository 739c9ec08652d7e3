use Rattle.std.proofs.Common.{Option, Some, IfSome, sym, ap, subst, ◌∙◌}
use Rattle.std.specs.Option.{option_map}
use Rattle.trees.specs.declared.TermId.{TermId}
use Rattle.trees.specs.Tree.{Tree}
use Rattle.trees.specs.Node.{tree_at, Holds}
use Rattle.clones.specs.Mapped.{mapped}
use Rattle.clones.specs.Meaning.{map_at}
use Rattle.clones.proofs.copies.map_result.Goals as goal
use Rattle.tasks.proofs.outside.Passed.{no_ok, no_value}

pub map_tree-requires-clause-map_held : goal.map_tree-requires-clause-map_held
map_tree-requires-clause-map_held c = c.requires.map_held

pub map_tree-requires-clause-known : goal.map_tree-requires-clause-known
map_tree-requires-clause-known c = c.requires.known

pub map_tree-requires-clause-held : goal.map_tree-requires-clause-held
map_tree-requires-clause-held c = subst (λ (o : Option TermId). IfSome o (Holds c.args.store.now)) c.in-Some.is c.requires.held

pub returns-in_ok-made-in-Some-clause-tree : goal.returns-in_ok-made-in-Some-clause-tree
returns-in_ok-made-in-Some-clause-tree c =
    let s = c.args.store.now in
    ap (λ (e : Tree). Some e) c.in_ok-made-in-Some.ensures.mapped.is ∙ ap (λ (o : Option TermId). option_map (mapped (map_at s c.args.morphism.now)) (option_map (tree_at s) o)) (sym c.in-Some.is)

pub returns-in_ok-made-in-Some-clause-new_held : goal.returns-in_ok-made-in-Some-clause-new_held
returns-in_ok-made-in-Some-clause-new_held c = c.in_ok-made-in-Some.ensures.mapped.held

pub returns-in_ok-made-in-Some-clause-new_known : goal.returns-in_ok-made-in-Some-clause-new_known
returns-in_ok-made-in-Some-clause-new_known c = c.in_ok-made-in-Some.ensures.known

pub returns-in_ok-made-in-Some-clause-grows : goal.returns-in_ok-made-in-Some-clause-grows
returns-in_ok-made-in-Some-clause-grows c = c.map_tree.ensures.grows

pub returns-in_err-made-in-Some-clause-tree : goal.returns-in_err-made-in-Some-clause-tree
returns-in_err-made-in-Some-clause-tree c = no_value _ _ c.from_residual.result c.from_residual.ensures.1

pub returns-in_err-made-in-Some-clause-new_held : goal.returns-in_err-made-in-Some-clause-new_held
returns-in_err-made-in-Some-clause-new_held c = no_value _ _ c.from_residual.result c.from_residual.ensures.1

pub returns-in_err-made-in-Some-clause-new_known : goal.returns-in_err-made-in-Some-clause-new_known
returns-in_err-made-in-Some-clause-new_known c = no_ok _ _ c.from_residual.result c.from_residual.ensures.1

pub returns-in_err-made-in-Some-clause-grows : goal.returns-in_err-made-in-Some-clause-grows
returns-in_err-made-in-Some-clause-grows c = c.map_tree.ensures.grows
