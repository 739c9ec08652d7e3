use Rattle.std.proofs.Common.{◌≡◌, [], ◌∷◌, sym, ap, subst, ◌∙◌}
use Rattle.trees.specs.Tree.{Tree}
use Rattle.trees.specs.Node.{tree_at}
use Rattle.tasks.specs.Task.{TaskTree, neg}
use Rattle.congruence.specs.kernel.rules.Forms.{equal}
use Rattle.evidence.specs.Drafts.{Refutes}
use Rattle.evidence.specs.Laws.{Extends_trans, AddsTrees_extends, AddsTrees_trans}
use Rattle.trees.specs.Sorts.{sort_of}
use Rattle.congruence.proofs.Later.{tree_later, pair_later}
use Rattle.tr_recursion.specs.constructor_matches.Fields.{IsFieldOf}
use Rattle.tr_recursion.proofs.constructor_matches.Follows.{field_follows}
use Rattle.tr_recursion.proofs.constructor_matches.replacing.alike_field.Goals as goal

pub derive-requires-clause-follow : goal.derive-requires-clause-follow
derive-requires-clause-follow c =
    let d = c.args.draft.now in
    let d1 = c.add.new.self in
    let d2 = c.add-2.new.self in
    let x1 = AddsTrees_extends d d1 c.in_ok-claim.ensures.grows in
    let x2 = AddsTrees_extends d1 d2 c.in_ok-goal.ensures.grows in
    let x = Extends_trans d d1 d2 x1 x2 in
    let p = c.requires.pair in
    let a = tree_later d d2 x c.args.projected p.left.held in
    let b = tree_later d d2 x c.args.field p.right.held in
    let g : tree_at d2.trees c.in_ok-goal.goal ≡ neg (equal (tree_at d2.trees c.args.projected) (tree_at d2.trees c.args.field)) =
    c.in_ok-goal.ensures.tree ∙ ap neg c.in_ok-claim.ensures.tree ∙ ap (λ (z : Tree). neg (equal z (tree_at d.trees c.args.field))) (sym a) ∙ ap (λ (z : Tree). neg (equal (tree_at d2.trees c.args.projected) z)) (sym b) in
    let f : IsFieldOf d2.task (tree_at d2.trees c.args.projected) (tree_at d2.trees c.args.field) =
    subst (λ (t : TaskTree). IsFieldOf t (tree_at d2.trees c.args.projected) (tree_at d2.trees c.args.field)) (sym x.task)
    (subst (λ (z : Tree). IsFieldOf d.task z (tree_at d2.trees c.args.field)) (sym a) (subst (λ (z : Tree). IsFieldOf d.task (tree_at d.trees c.args.projected) z) (sym b) c.requires.is)) in
    field_follows d2 (tree_at d2.trees c.in_ok-goal.goal) (tree_at d2.trees c.args.projected) (tree_at d2.trees c.args.field) g (pair_later d d2 x c.args.projected c.args.field p).left.ground (ap sort_of a ∙ c.requires.term) f

pub returns-clause-shows : goal.returns-clause-shows
returns-clause-shows c = (c.requires.term, subst (λ (z : Tree). Refutes c.derive.new.draft c.in_ok-step.step (z ∷ [])) (c.in_ok-goal.ensures.tree ∙ ap neg c.in_ok-claim.ensures.tree) c.in_ok-step.ensures.refutes)

pub returns-in_err-goal-clause-grows : goal.returns-in_err-goal-clause-grows
returns-in_err-goal-clause-grows c = AddsTrees_extends _ _ (AddsTrees_trans _ _ _ c.in_ok-claim.ensures.grows c.add-2.ensures.grows)

pub returns-in_err-step-clause-grows : goal.returns-in_err-step-clause-grows
returns-in_err-step-clause-grows c = Extends_trans _ _ _ (AddsTrees_extends _ _ (AddsTrees_trans _ _ _ c.in_ok-claim.ensures.grows c.in_ok-goal.ensures.grows)) c.derive.ensures.grows

pub returns-clause-grows : goal.returns-clause-grows
returns-clause-grows c = Extends_trans _ _ _ (AddsTrees_extends _ _ (AddsTrees_trans _ _ _ c.in_ok-claim.ensures.grows c.in_ok-goal.ensures.grows)) c.in_ok-step.ensures.grows
