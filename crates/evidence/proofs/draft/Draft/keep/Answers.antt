use Rattle.std.proofs.Common.{[], ◌∷◌, sym, subst, All}
use Rattle.trees.specs.Node.{Holds}
use Rattle.tasks.specs.Meaning.{trees_at}
use Rattle.rules.specs.declared.rule.Rule.TheVariants as rule
use Rattle.evidence.proofs.Rules.{step_right}
use Rattle.evidence.proofs.Formulas.{none_formulas, keep_names, kept_added}
use Rattle.evidence.proofs.draft.Draft.keep.Goals as goal

pub push-requires-clause-held : goal.push-requires-clause-held
push-requires-clause-held c = record { sequent = subst (All (Holds c.args.self.now.trees)) (sym c.in_ok-sequent.ensures) c.requires.sequent.held; rule = tt }

pub push-requires-clause-right : goal.push-requires-clause-right
push-requires-clause-right c =
    let d = c.args.self.now in
    rw c.in_ok-places.ensures (step_right d [] c.args.sequent.now c.in_ok-sequent.sequent (rule.Keep c.args.places.now) c.in_ok-premises.premises (c.args.step ∷ []) c.in_ok-sequent.ensures c.in_ok-premises.ensures (none_formulas d) c.requires.sequent
    (keep_names d.task c.args.places.now) (kept_added d (trees_at d.trees c.args.sequent.now) c.args.places.now c.args.step c.requires.kept))
