use Rattle.std.proofs.Common.{◌≡◌, ◌∙◌, ◌∷◌, [], subst}
use Rattle.std.proofs.lemmas.Result.{IfOk-weaker}
use Rattle.trees.specs.Tree.{Tree}
use Rattle.trees.specs.Node.{tree_at}
use Rattle.tasks.specs.Task.{neg}
use Rattle.tasks.proofs.Growth.{all_held_later}
use Rattle.evidence.specs.Drafts.{Refutes}
use Rattle.evidence.specs.Laws.{Extends_trans, AddsTrees_extends}
use Rattle.evidence.proofs.Formulas.{none_formulas, one_formula, two_formulas, formula_later, fact_later, clash_of, first_negated}
use Rattle.evidence.proofs.by.fact_lemma.Goals as goal

pub by_clash-requires-clause-front : goal.by_clash-requires-clause-front
by_clash-requires-clause-front c = none_formulas c.negation.new.draft

pub by_clash-requires-clause-tail : goal.by_clash-requires-clause-tail
by_clash-requires-clause-tail c =
    let d1 = c.negation.new.draft in
    two_formulas d1 c.in_ok-no_fact.no_fact c.args.formula c.in_ok-no_fact.ensures.formula (formula_later c.args.draft.now d1 (AddsTrees_extends _ _ c.in_ok-no_fact.ensures.grows) c.args.formula c.requires.formula)

pub by_clash-requires-clause-clash : goal.by_clash-requires-clause-clash
by_clash-requires-clause-clash c =
    first_negated c.args.draft.now c.negation.new.draft (AddsTrees_extends _ _ c.in_ok-no_fact.ensures.grows) c.in_ok-no_fact.no_fact c.args.formula c.requires.formula c.in_ok-no_fact.ensures.tree

pub returns-in_err-clash-clause-grows : goal.returns-in_err-clash-clause-grows
returns-in_err-clash-clause-grows c = Extends_trans _ _ _ (AddsTrees_extends _ _ c.in_ok-no_fact.ensures.grows) c.by_clash.ensures.grows

pub by_fact-requires-clause-front : goal.by_fact-requires-clause-front
by_fact-requires-clause-front c = none_formulas c.by_clash.new.draft

pub by_fact-requires-clause-tail : goal.by_fact-requires-clause-tail
by_fact-requires-clause-tail c =
    let d2 = c.by_clash.new.draft in
    one_formula d2 c.in_ok-no_fact.no_fact (formula_later c.negation.new.draft d2 c.in_ok-clash.ensures.grows c.in_ok-no_fact.no_fact c.in_ok-no_fact.ensures.formula)

pub by_fact-requires-clause-types_held : goal.by_fact-requires-clause-types_held
by_fact-requires-clause-types_held c =
    let x = Extends_trans c.args.draft.now c.negation.new.draft c.by_clash.new.draft (AddsTrees_extends _ _ c.in_ok-no_fact.ensures.grows) c.in_ok-clash.ensures.grows in
    all_held_later c.args.draft.now.trees c.by_clash.new.draft.trees x.trees c.args.types.now c.requires.types_held

pub by_fact-requires-clause-fact : goal.by_fact-requires-clause-fact
by_fact-requires-clause-fact c =
    let x = Extends_trans c.args.draft.now c.negation.new.draft c.by_clash.new.draft (AddsTrees_extends _ _ c.in_ok-no_fact.ensures.grows) c.in_ok-clash.ensures.grows in
    fact_later c.args.draft.now c.by_clash.new.draft x c.args.name c.args.types.now c.args.formula c.requires.types_held c.requires.formula.held c.requires.fact

pub by_fact-requires-clause-premise : goal.by_fact-requires-clause-premise
by_fact-requires-clause-premise c =
    clash_of c.args.draft.now c.negation.new.draft c.by_clash.new.draft (AddsTrees_extends _ _ c.in_ok-no_fact.ensures.grows) c.in_ok-clash.ensures.grows c.in_ok-no_fact.no_fact c.args.formula c.in_ok-clash.clash
    c.requires.formula c.in_ok-no_fact.ensures.formula c.in_ok-clash.ensures.refutes

pub returns-clause-refutes : goal.returns-clause-refutes
returns-clause-refutes c =
    let d2 = c.by_clash.new.draft in
    let e : tree_at d2.trees c.in_ok-no_fact.no_fact ≡ neg (tree_at c.args.draft.now.trees c.args.formula) = c.in_ok-clash.ensures.grows.trees.same _ c.in_ok-no_fact.ensures.formula.held ∙ c.in_ok-no_fact.ensures.tree in
    IfOk-weaker c.by_fact.result _ _ (λ k r. subst (λ (z : Tree). Refutes c.by_fact.new.draft k (z ∷ [])) e r) c.by_fact.ensures.refutes

pub returns-clause-grows : goal.returns-clause-grows
returns-clause-grows c = Extends_trans _ _ _ (Extends_trans _ _ _ (AddsTrees_extends _ _ c.in_ok-no_fact.ensures.grows) c.in_ok-clash.ensures.grows) c.by_fact.ensures.grows
