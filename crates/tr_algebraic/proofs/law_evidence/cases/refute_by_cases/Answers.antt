use Rattle.std.proofs.Common.{ℕ, List, [], ◌∷◌, sym, ap, subst, ◌∙◌}
use Rattle.tasks.specs.trees.Tree.{Tree}
use Rattle.tasks.specs.trees.Node.{tree_at}
use Rattle.tasks.specs.Task.{TaskTree}
use Rattle.kernel.specs.rules.Trees.{RCase}
use Rattle.evidence.specs.Drafts.{RefuteAll}
use Rattle.evidence.specs.Rules.{RefuteAdded}
use Rattle.evidence.specs.Laws.{AddsTrees_extends, Extends_trans}
use Rattle.tr_algebraic.specs.law_evidence.Shapes.{disjuncts, HasCasesOf}
use Rattle.tr_algebraic.specs.law_evidence.CaseSteps.{with_each}
use Rattle.tr_algebraic.proofs.law_evidence.CaseLists.{cases_added}
use Rattle.tr_algebraic.proofs.law_evidence.cases.refute_by_cases.Goals as goal

pub by_rule-requires-clause-added : goal.by_rule-requires-clause-added
by_rule-requires-clause-added c =
    let d = c.args.draft.now in
    let d1 = c.negation.new.draft in
    let d2 = c.refute_cases.new.draft in
    let m = c.in_ok-negated in
    let x = AddsTrees_extends d d1 m.ensures.grows in
    let y = c.in_ok-refute_cases.ensures.grows in
    let z = Extends_trans d d1 d2 x y in
    let whole = tree_at d.trees c.args.whole in
    let made = c.in_ok-refute_cases.ensures.steps [] (subst (λ (ks : List ℕ). RefuteAll d1 ks []) (sym c.new-steps.ensures.items) tt) in
    let refuted = subst (λ (w : Tree). RefuteAll d2 c.refute_cases.new.steps.items (with_each w (disjuncts w))) (x.trees.same c.args.whole.0 c.requires.whole.held) made in
    let cases = subst (λ (t : TaskTree). HasCasesOf t (tree_at d2.trees c.args.term) whole) (sym z.task) (subst (λ (e : Tree). HasCasesOf d.task e whole) (sym (z.trees.same c.args.term.0 c.requires.term.held)) c.requires.cases) in
    let start = ap (λ (e : Tree). e ∷ []) (y.trees.same m.negated.0 m.ensures.formula.held ∙ m.ensures.tree) in
    subst (RefuteAdded d2 (tree_at d2.trees m.negated ∷ []) (RCase (tree_at d2.trees c.args.term))) (sym c.deref.ensures.value)
    (cases_added d2 (tree_at d2.trees c.args.term) whole (tree_at d2.trees m.negated ∷ []) c.refute_cases.new.steps.items start cases refuted)

pub returns-in_err-made-clause-grows : goal.returns-in_err-made-clause-grows
returns-in_err-made-clause-grows c =
    let d = c.args.draft.now in
    let d1 = c.negation.new.draft in
    let d2 = c.refute_cases.new.draft in
    Extends_trans d d2 c.by_rule.new.draft (Extends_trans d d1 d2 (AddsTrees_extends d d1 c.in_ok-negated.ensures.grows) c.in_ok-refute_cases.ensures.grows) c.in_err-made.ensures.grows

pub returns-clause-grows : goal.returns-clause-grows
returns-clause-grows c =
    let d = c.args.draft.now in
    let d1 = c.negation.new.draft in
    let d2 = c.refute_cases.new.draft in
    Extends_trans d d2 c.by_rule.new.draft (Extends_trans d d1 d2 (AddsTrees_extends d d1 c.in_ok-negated.ensures.grows) c.in_ok-refute_cases.ensures.grows) c.in_ok-made.ensures.grows
