use Rattle.std.proofs.Common.{◌≡◌, ◌<◌, List, All, IsTrue, length, refl, sym, ap, subst, arith}
use Rattle.std.proofs.lemmas.List.Elements.{All-head, All-tail}
use Rattle.trees.specs.Tree.{Tree}
use Rattle.trees.specs.Node.{tree_at}
use Rattle.agreement.specs.Questions.{IsProvedPair}
use Rattle.agreement.proofs.PairSteps.{step_here}
use Rattle.agreement.proofs.questions.+step_for.Goals as goal

pub same-same_left-requires-clause-a_held : goal.same-same_left-requires-clause-a_held
same-same_left-requires-clause-a_held t c =
    let d = c.args.draft.now in
    let p = All-head (IsProvedPair d) c.in-Some.atom.now c.in-Some.others.now (subst (All (IsProvedPair d)) c.in-Some.ensures.cases.0 c.requires.atoms) in
    subst (λ (s : List Tree). c.in-Some.atom.now.0.0 < length s) (sym c.store.ensures) p.left

pub same-same_right-requires-clause-a_held : goal.same-same_right-requires-clause-a_held
same-same_right-requires-clause-a_held t c =
    let d = c.args.draft.now in
    let p = All-head (IsProvedPair d) c.in-Some.atom.now c.in-Some.others.now (subst (All (IsProvedPair d)) c.in-Some.ensures.cases.0 c.requires.atoms) in
    subst (λ (s : List Tree). c.in-Some.atom.now.1.0 < length s) (sym c.store-in-Some.ensures) p.right

pub step_for-requires : goal.step_for-requires
step_for-requires t c =
    let d = c.args.draft.now in
    let less = ap length c.in-Some.ensures.cases.0 in
    (omega (arith, less), (c.requires.left, (c.requires.right, All-tail (IsProvedPair d) c.in-Some.atom.now c.in-Some.others.now (subst (All (IsProvedPair d)) c.in-Some.ensures.cases.0 c.requires.atoms))))

pub returns-then-same_right-clause-some : goal.returns-then-same_right-clause-some
returns-then-same_right-clause-some t c =
    let d = c.args.draft.now in
    let a = c.in-Some.atom.now in
    let p = All-head (IsProvedPair d) a c.in-Some.others.now (subst (All (IsProvedPair d)) c.in-Some.ensures.cases.0 c.requires.atoms) in
    let e = subst (λ (s : List Tree). tree_at s a.0 ≡ tree_at s c.args.left) c.store.ensures (c.same-same_left.ensures.trees.0 (subst IsTrue (sym c.if-same_left.true) refl)) in
    let f = subst (λ (s : List Tree). tree_at s a.1 ≡ tree_at s c.args.right) c.store-in-Some.ensures (c.same-same_right.ensures.trees.0 (subst IsTrue (sym c.if-same_right.true) refl)) in
    step_here d a (tree_at d.trees c.args.left) (tree_at d.trees c.args.right) p e f
