use Rattle.std.proofs.Common.{ℕ, ◌≤◌, [], ◌∷◌, sym, subst}
use Rattle.std.proofs.lemmas.Result.{IfOk-weaker}
use Rattle.trees.specs.Tree.{Tree, above_params}
use Rattle.trees.specs.Node.{tree_at}
use Rattle.tasks.specs.Task.{neg}
use Rattle.congruence.specs.kernel.rules.Forms.{alike}
use Rattle.evidence.specs.Drafts.{Refutes}
use Rattle.evidence.specs.Laws.{Extends_trans}
use Rattle.congruence.specs.Alike.{Shows}
use Rattle.congruence.proofs.Later.{tree_later, pair_later}
use Rattle.agreement.specs.Agreement.{AgreeWithin}
use Rattle.agreement.specs.Questions.{pairs_at}
use Rattle.agreement.proofs.agreeing.equiv.Goals as goal

pub agree-requires-clause-asked : goal.agree-requires-clause-asked
agree-requires-clause-asked c =
    let d = c.args.draft.now in
    let n = c.parameter_count-number.ensures in
    record {
      pair = c.requires.sides;
      left_above = subst (λ (k : ℕ). above_params (tree_at d.trees c.args.left) ≤ k) (sym n) c.requires.left_own;
      right_above = subst (λ (k : ℕ). above_params (tree_at d.trees c.args.right) ≤ k) (sym n) c.requires.right_own;
    }

pub agree-requires-clause-agree : goal.agree-requires-clause-agree
agree-requires-clause-agree c =
    let d = c.args.draft.now in
    let a = c.requires.agree in
    (a.0, subst (λ (k : ℕ). AgreeWithin a.0 d.task (pairs_at d.trees c.args.atoms.now) k (tree_at d.trees c.args.left) (tree_at d.trees c.args.right)) (sym c.parameter_count-number.ensures) a.1)

pub step_of_alike-requires-clause-pair : goal.step_of_alike-requires-clause-pair
step_of_alike-requires-clause-pair c = pair_later c.args.draft.now c.agree.new.draft c.in_ok-alike.ensures.grows c.args.left c.args.right c.requires.sides

pub step_of_alike-requires-clause-shows : goal.step_of_alike-requires-clause-shows
step_of_alike-requires-clause-shows c =
    let d = c.args.draft.now in
    let d1 = c.agree.new.draft in
    let x = c.in_ok-alike.ensures.grows in
    let p = c.requires.sides in
    let s : Shows d1 c.in_ok-alike.alike (tree_at d1.trees c.args.left) (tree_at d1.trees c.args.right) = rw (tree_later d d1 x c.args.left p.left.held, tree_later d d1 x c.args.right p.right.held) c.in_ok-alike.ensures.shows in
    s

pub returns-clause-grows : goal.returns-clause-grows
returns-clause-grows c = Extends_trans _ _ _ c.in_ok-alike.ensures.grows c.step_of_alike.ensures.grows

pub returns-clause-refutes : goal.returns-clause-refutes
returns-clause-refutes c =
    let d = c.args.draft.now in
    let d1 = c.agree.new.draft in
    let d2 = c.step_of_alike.new.draft in
    let x = c.in_ok-alike.ensures.grows in
    let p = c.requires.sides in
    IfOk-weaker c.step_of_alike.result _ _ (λ k r. subst (λ (z : Tree). Refutes d2 k (neg (alike z (tree_at d.trees c.args.right)) ∷ [])) (tree_later d d1 x c.args.left p.left.held) (subst (λ (z : Tree). Refutes d2 k (neg (alike (tree_at d1.trees c.args.left) z) ∷ [])) (tree_later d d1 x c.args.right p.right.held) r)) c.step_of_alike.ensures.refutes
