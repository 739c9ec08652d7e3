use Rattle.std.proofs.Common.{List, All, Option, subst}
use Rattle.std.specs.Prelude.{IfSome}
use Rattle.trees.specs.declared.TermId.{TermId}
use Rattle.trees.specs.Node.{tree_at, Holds}
use Rattle.tasks.specs.declared.facts.Fact.{Fact}
use Rattle.tasks.specs.Meaning.{trees_at}
use Rattle.evidence.specs.Facts.{IsFact}
use Rattle.evidence.proofs.Formulas.{none_formulas}
use Rattle.evidence.proofs.lift.cite_or_cut.Goals as goal

pub by_fact-requires-clause-front : goal.by_fact-requires-clause-front
by_fact-requires-clause-front c = none_formulas c.args.draft.now

pub by_fact-requires-clause-types_held : goal.by_fact-requires-clause-types_held
by_fact-requires-clause-types_held c =
    let s = c.args.draft.now.trees in
    rw c.as_slice.ensures (subst (λ (o : Option (Fact × List TermId)). IfSome o (λ p. All (Holds s) p.1)) c.in-Some.is c.in_ok-name.ensures.held)

pub by_fact-requires-clause-fact : goal.by_fact-requires-clause-fact
by_fact-requires-clause-fact c =
    let d = c.args.draft.now in
    rw c.as_slice.ensures (subst (λ (o : Option (Fact × List TermId)). IfSome o (λ p. IsFact d.task d.task p.0 (trees_at d.trees p.1) (tree_at d.trees c.args.formula))) c.in-Some.is c.in_ok-name.ensures.fact)
