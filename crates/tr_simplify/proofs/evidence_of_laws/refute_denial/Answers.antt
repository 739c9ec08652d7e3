use Rattle.std.proofs.Common.{[], ◌∷◌, sym, subst}
use Rattle.trees.specs.Tree.{Tree}
use Rattle.evidence.specs.Laws.{AddsTrees_extends}
use Rattle.evidence.specs.proof_scripts.Scripts.{Follows, lines_at}
use Rattle.tr_simplify.proofs.evidence_of_laws.refute_denial.Goals as goal

pub derive-requires-clause-follow : goal.derive-requires-clause-follow
derive-requires-clause-follow c =
    let d1 = c.denial.new.draft in
    subst (λ (z : Tree). Follows d1 [] (lines_at d1.trees c.args.lines.now) ((z ∷ []) ∷ [])) (sym c.in_ok-goal.ensures.tree) (c.requires.follow d1 (AddsTrees_extends c.args.draft.now d1 c.in_ok-goal.ensures.grows))
