-- The step of a pair of numbers shows the trees alike.
use Rattle.std.proofs.Common.{◌≡◌, ℕ, [], ◌∷◌, subst}
use Rattle.trees.specs.declared.TermId.{TermId}
use Rattle.trees.specs.Tree.{Tree}
use Rattle.trees.specs.Node.{tree_at}
use Rattle.tasks.specs.Task.{neg}
use Rattle.congruence.specs.kernel.rules.Forms.{alike}
use Rattle.evidence.specs.Drafts.{DraftTree, Refutes}
use Rattle.agreement.specs.Questions.{IsProvedPair}

pub step_here : (d : DraftTree) (a : TermId × TermId × ℕ) (l r : Tree) → IsProvedPair d a → tree_at d.trees a.0 ≡ l → tree_at d.trees a.1 ≡ r → Refutes d a.2 (neg (alike l r) ∷ [])
step_here d a l r p e f = subst (λ (z : Tree). Refutes d a.2 (neg (alike z r) ∷ [])) e (subst (λ (z : Tree). Refutes d a.2 (neg (alike (tree_at d.trees a.0) z) ∷ [])) f p.refutes)
