use Rattle.std.proofs.Common.{◌∙◌}
use Rattle.tasks.proofs.trees.Nodes.{Grows_refl}
use Rattle.clones.specs.Meaning.{map_at}
use Rattle.theories.proofs.cloning.Contents.{renaming_by}
use Rattle.theories.proofs.cloning.copying.copy_contents.Goals as goal
use Rattle.tasks.proofs.outside.Passed.{no_ok, no_value}

pub rename-requires : goal.rename-requires
rename-requires c = c.requires.types

pub copy_renamed-requires-clause-ready : goal.copy_renamed-requires-clause-ready
copy_renamed-requires-clause-ready c = c.requires

pub copy_renamed-requires-clause-made : goal.copy_renamed-requires-clause-made
copy_renamed-requires-clause-made c = renaming_by c.args.store.now c.args.typed.now c.args.open.now c.args.theory c.args.own.now c.args.replacement.now c.args.within.now c.requires c.source_of-source.result (c.source_of-source.ensures.decls ∙ c.as_slice.ensures) c.source_of-source.ensures.own c.source_of-source.ensures.axioms c.in_ok-made.made c.in_ok-made.ensures

pub copy_renamed-requires-clause-known : goal.copy_renamed-requires-clause-known
copy_renamed-requires-clause-known c = c.no_trees-trees.ensures (map_at c.args.store.now c.in_ok-made.made.morphism) c.args.store.now

pub returns-clause-copies : goal.returns-clause-copies
returns-clause-copies c = c.copy_renamed.ensures.copies

pub returns-clause-moves_held : goal.returns-clause-moves_held
returns-clause-moves_held c = c.copy_renamed.ensures.moves_held

pub returns-clause-held : goal.returns-clause-held
returns-clause-held c = c.copy_renamed.ensures.held

pub returns-clause-grows : goal.returns-clause-grows
returns-clause-grows c = c.copy_renamed.ensures.grows

pub returns-in_err-made-clause-copies : goal.returns-in_err-made-clause-copies
returns-in_err-made-clause-copies c = no_value _ _ c.from_residual.result c.from_residual.ensures.1

pub returns-in_err-made-clause-moves_held : goal.returns-in_err-made-clause-moves_held
returns-in_err-made-clause-moves_held c = no_value _ _ c.from_residual.result c.from_residual.ensures.1

pub returns-in_err-made-clause-held : goal.returns-in_err-made-clause-held
returns-in_err-made-clause-held c = no_ok _ _ c.from_residual.result c.from_residual.ensures.1

pub returns-in_err-made-clause-grows : goal.returns-in_err-made-clause-grows
returns-in_err-made-clause-grows c = Grows_refl c.args.store.now
