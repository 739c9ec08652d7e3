use Rattle.trees.specs.declared.TermId.{TermId}
use Rattle.trees.specs.Node.{tree_at}
use Rattle.name_tables.specs.Occurrences.{occurrences}
use Rattle.name_tables.proofs.Loops.{walks_step}
use Rattle.name_tables.proofs.walk.note_formulas.Goals as goal
use Rattle.tasks.proofs.plain_laws.Lists.{flat_more}

abbrev no_id : TermId
no_id = record { 0 = 0 }

pub loop-formula-preserved : goal.loop-formula-preserved
loop-formula-preserved c =
    walks_step c.args.store.now _ _ _ _ _ _ _ _ (flat_more occurrences (tree_at c.args.store.now) c.args.formulas.now c.loop-formula.formula-index no_id c.loop-formula-test.true) c.loop-formula.invariant c.in_ok-note_term.ensures
