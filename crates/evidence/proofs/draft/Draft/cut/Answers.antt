use Rattle.std.proofs.Common.{[], ◌∷◌, sym, subst, All}
use Rattle.trees.specs.Node.{Holds}
use Rattle.rules.specs.declared.rule.Rule.TheVariants as rule
use Rattle.evidence.proofs.Rules.{step_right}
use Rattle.evidence.proofs.Formulas.{none_formulas, cut_names, cut_added}
use Rattle.evidence.proofs.draft.Draft.cut.Goals as goal

pub push-requires-clause-held : goal.push-requires-clause-held
push-requires-clause-held c = record { sequent = subst (All (Holds c.args.self.now.trees)) (sym c.in_ok-sequent.ensures) c.requires.sequent.held; rule = c.requires.formula.held }

pub push-requires-clause-right : goal.push-requires-clause-right
push-requires-clause-right c =
    let d = c.args.self.now in
    let a = c.args.formula in
    step_right d [] c.args.sequent.now c.in_ok-sequent.sequent (rule.Cut a) c.in_ok-premises.premises (c.args.yes ∷ c.args.no ∷ []) c.in_ok-sequent.ensures c.in_ok-premises.ensures (none_formulas d) c.requires.sequent
    (cut_names d a c.requires.formula) (cut_added d c.args.sequent.now a c.args.yes c.args.no c.requires.formula c.requires.yes c.requires.no)
