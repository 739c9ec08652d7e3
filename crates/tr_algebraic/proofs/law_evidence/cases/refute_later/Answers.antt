use Rattle.std.proofs.Common.{[], ◌∷◌, sym, subst}
use Rattle.tasks.specs.trees.Tree.{Tree}
use Rattle.tasks.specs.trees.Node.{tree_at}
use Rattle.tasks.specs.Task.{neg}
use Rattle.evidence.specs.Drafts.{Refutes}
use Rattle.evidence.specs.Laws.{AddsTrees_extends}
use Rattle.evidence.proofs.Rules.{refutes_later}
use Rattle.tr_algebraic.proofs.law_evidence.Scripts.{case_later}
use Rattle.tr_algebraic.proofs.law_evidence.cases.refute_later.Goals as goal

pub derive-requires-clause-follow : goal.derive-requires-clause-follow
derive-requires-clause-follow c =
    let d = c.args.draft.now in
    let d1 = c.negation.new.draft in
    let m = c.in_ok-negated in
    let x = AddsTrees_extends d d1 m.ensures.grows in
    let i = c.requires.inner in
    let r = subst (λ (z : Tree). Refutes d1 c.args.inner (neg i.rest ∷ z ∷ [])) (sym (x.trees.same c.args.case.0 c.requires.case.held)) (refutes_later d d1 x c.args.inner _ i.refutes) in
    case_later d1 (tree_at d1.trees m.negated) (tree_at d1.trees c.args.case) (tree_at d.trees c.args.whole) i.first i.rest c.args.inner m.ensures.tree i.is r
