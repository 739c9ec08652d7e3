use Rattle.std.proofs.Common.{◌∷◌, [], sym, subst}
use Rattle.trees.specs.Node.{tree_at}
use Rattle.tasks.specs.Task.{neg}
use Rattle.evidence.specs.Drafts.{DraftTree, Refutes}
use Rattle.evidence.proofs.draft.Draft.lemma_of.Goals as goal

pub returns-in-Some : goal.returns-in-Some
returns-in-Some c =
    let k = c.in-Some.step.now in
    let h = c.self.invariant.lemmas_refute c.args.formula k (sym c.in-Some.ensures.value) in
    subst (λ (d : DraftTree). Refutes d k (neg (tree_at d.trees c.args.formula) ∷ [])) c.self.view_is h.1
