use Rattle.trees.specs.declared.TermId.{TermId}
use Rattle.trees.specs.Node.{tree_at}
use Rattle.name_tables.specs.Occurrences.{in_type}
use Rattle.name_tables.proofs.Loops.{sees_step}
use Rattle.name_tables.proofs.walk.note_types.Goals as goal
use Rattle.tasks.proofs.plain_laws.Lists.{flat_more}

abbrev no_id : TermId
no_id = record { 0 = 0 }

pub loop-ty-preserved : goal.loop-ty-preserved
loop-ty-preserved c =
    sees_step c.args.store.now _ _ _ _ _ _ (flat_more in_type (tree_at c.args.store.now) c.args.types.now c.loop-ty.ty-index no_id c.loop-ty-test.true) c.loop-ty.invariant c.in_ok-note_type.ensures
