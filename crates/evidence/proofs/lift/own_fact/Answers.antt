use Rattle.std.proofs.Common.{◌≡◌, ◌∷◌, ◌++◌, [], ℕ, List, length, get_or, ap, sym, subst, ◌∙◌, arith}
use Rattle.trees.specs.Tree.{Tree}
use Rattle.trees.specs.Node.{tree_at}
use Rattle.tasks.specs.Meaning.{trees_at}
use Rattle.evidence.specs.Drafts.{Refutes}
use Rattle.evidence.specs.Facts.{IsFact}
use Rattle.evidence.proofs.Lifted.{cited_at}
use Rattle.evidence.proofs.lift.own_fact.Goals as goal

pub bounds-as_slice-0 : goal.bounds-as_slice-0
bounds-as_slice-0 c =
    let d = c.args.draft.now in
    let x = c.index-steps-step.result in
    let q = cited_at d c.steps.result.now c.args.step x c.in-Some.name (trees_at d.trees c.in-Some.types.now) c.steps.ensures.trees c.steps.ensures.right c.index-steps-step.is c.requires (c.in-Some.ensures.some d.trees) in
    let one : length c.as_slice.result.now ≡ 1 = ap length (c.as_slice.ensures ∙ q.one) in
    omega (arith, one)

pub last_formula-cited-requires : goal.last_formula-cited-requires
last_formula-cited-requires c =
    let d = c.args.draft.now in
    let x = c.index-steps-step.result in
    let q = cited_at d c.steps.result.now c.args.step x c.in-Some.name (trees_at d.trees c.in-Some.types.now) c.steps.ensures.trees c.steps.ensures.right c.index-steps-step.is c.requires (c.in-Some.ensures.some d.trees) in
    let at : get_or c.as_slice.result.now 0 0 ≡ q.premise = ap (λ (z : List ℕ). get_or z 0 0) (c.as_slice.ensures ∙ q.one) in
    record { front = q.front; last = q.formula; refutes = subst (λ (k : ℕ). Refutes d k (q.front ++ q.formula ∷ [])) (sym at) q.taken }

pub returns-clause-fact : goal.returns-clause-fact
returns-clause-fact c =
    let d = c.args.draft.now in
    let x = c.index-steps-step.result in
    let q = cited_at d c.steps.result.now c.args.step x c.in-Some.name (trees_at d.trees c.in-Some.types.now) c.steps.ensures.trees c.steps.ensures.right c.index-steps-step.is c.requires (c.in-Some.ensures.some d.trees) in
    let at : get_or c.as_slice.result.now 0 0 ≡ q.premise = ap (λ (z : List ℕ). get_or z 0 0) (c.as_slice.ensures ∙ q.one) in
    let taken = subst (λ (k : ℕ). Refutes d k (q.front ++ q.formula ∷ [])) (sym at) q.taken in
    let is : tree_at d.trees c.last_formula-cited.result ≡ q.formula = c.last_formula-cited.ensures.is q.front q.formula taken in
    let same : c.last_formula-cited.result.0 ≡ c.args.formula.0 = omega arith in
    let formula : q.formula ≡ tree_at d.trees c.args.formula = sym is ∙ ap (λ (k : ℕ). tree_at d.trees (record { 0 = k })) same in
    rw c.in_ok-types.ensures (subst (λ (z : Tree). IsFact d.task d.task c.in-Some.name (trees_at d.trees c.in-Some.types.now) z) formula q.fact)
