use Rattle.std.proofs.Common.{◌++◌}
use Rattle.tasks.specs.trees.Node.{tree_at}
use Rattle.tasks.specs.Meaning.{trees_at}
use Rattle.evidence.specs.Drafts.{Extends}
use Rattle.evidence.specs.Stages.{HaveSequents}
use Rattle.tr_split.specs.parts.Glue.{sequent_of_part}
use Rattle.tr_split.specs.Over.{extra_of, inners}
use Rattle.tr_split.proofs.over.ends_over.Given as goal

abbrev pub invariant-loop-end : goal.invariant-loop-end
invariant-loop-end l = record {
  grows : Extends l.initial.draft l.draft;
  made : HaveSequents l.draft l.made.items (sequent_of_part (trees_at l.initial.draft.trees l.front ++ extra_of l.initial.draft.trees l.over) (inners l.initial.draft.trees l.over (tree_at l.initial.draft.trees l.fn.formula))) l.end-index;
}
