use Rattle.std.proofs.Common.{◌≡◌, ◌∙◌, ◌∷◌, [], List, sym, subst}
use Rattle.std.proofs.lemmas.Result.{IfOk-weaker}
use Rattle.trees.specs.Tree.{Tree}
use Rattle.trees.specs.Node.{tree_at}
use Rattle.tasks.specs.Task.{neg}
use Rattle.tasks.specs.Meaning.{trees_at, task_at}
use Rattle.evidence.specs.Drafts.{Refutes}
use Rattle.evidence.specs.Facts.{IsFact}
use Rattle.evidence.specs.Laws.{Extends_trans}
use Rattle.evidence.proofs.Rules.{refutes_later}
use Rattle.evidence.proofs.Formulas.{same, formula_later, formulas_later}
use Rattle.evidence.proofs.lift.lift_cited.Goals as goal

pub last_formula-formula-requires : goal.last_formula-formula-requires
last_formula-formula-requires g c = record { front = trees_at c.args.draft.now.trees c.args.sequent.now; last = c.requires.cites.formula; refutes = c.requires.cites.taken }

pub lemma_for-requires-clause-fact : goal.lemma_for-requires-clause-fact
lemma_for-requires-clause-fact g c =
    let d = c.args.draft.now in
    let e = c.last_formula-formula.ensures.is (trees_at d.trees c.args.sequent.now) c.requires.cites.formula c.requires.cites.taken in
    subst (λ (z : Tree). IsFact d.task (task_at d.trees c.args.to.now) c.args.name (trees_at d.trees c.args.types.now) z) (sym e) c.requires.cites.fact

pub cite_or_cut-requires-clause-sequent : goal.cite_or_cut-requires-clause-sequent
cite_or_cut-requires-clause-sequent g c = formulas_later c.args.draft.now c.lemma_for.new.draft c.in_ok-lemma.ensures.grows c.args.sequent.now c.requires.sequent

pub cite_or_cut-requires-clause-formula : goal.cite_or_cut-requires-clause-formula
cite_or_cut-requires-clause-formula g c = formula_later c.args.draft.now c.lemma_for.new.draft c.in_ok-lemma.ensures.grows c.last_formula-formula.result c.last_formula-formula.ensures.formula

pub cite_or_cut-requires-clause-taken : goal.cite_or_cut-requires-clause-taken
cite_or_cut-requires-clause-taken g c =
    let d = c.args.draft.now in
    let d1 = c.lemma_for.new.draft in
    let x = c.in_ok-lemma.ensures.grows in
    let a = c.last_formula-formula.result in
    let e = c.last_formula-formula.ensures.is (trees_at d.trees c.args.sequent.now) c.requires.cites.formula c.requires.cites.taken in
    let b : tree_at d1.trees a ≡ c.requires.cites.formula = x.trees.same _ c.last_formula-formula.ensures.formula.held ∙ e in
    rw (same d d1 x c.args.sequent.now c.requires.sequent, b) (refutes_later d d1 x c.args.with_fact _ c.requires.cites.taken)

pub cite_or_cut-requires-clause-proved : goal.cite_or_cut-requires-clause-proved
cite_or_cut-requires-clause-proved g c =
    let d1 = c.lemma_for.new.draft in
    let b = c.in_ok-lemma.ensures.grows.trees.same _ c.last_formula-formula.ensures.formula.held in
    subst (λ (z : Tree). Refutes d1 c.in_ok-lemma.lemma (neg z ∷ [])) (sym b) c.in_ok-lemma.ensures.refutes

pub returns-clause-refutes : goal.returns-clause-refutes
returns-clause-refutes g c =
    let d = c.args.draft.now in
    let d1 = c.lemma_for.new.draft in
    let e = same d d1 c.in_ok-lemma.ensures.grows c.args.sequent.now c.requires.sequent in
    IfOk-weaker c.cite_or_cut.result _ _ (λ k r. subst (λ (z : List Tree). Refutes c.cite_or_cut.new.draft k z) e r) c.cite_or_cut.ensures.refutes

pub returns-clause-grows : goal.returns-clause-grows
returns-clause-grows g c = Extends_trans _ _ _ c.in_ok-lemma.ensures.grows c.cite_or_cut.ensures.grows
