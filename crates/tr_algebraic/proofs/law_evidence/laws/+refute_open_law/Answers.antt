use Rattle.std.proofs.Common.{ℕ, [], ◌∷◌, length, length-append, sym, ap, subst, arith}
use Rattle.tasks.specs.trees.Node.{tree_at}
use Rattle.tasks.specs.trees.Binding.{Param}
use Rattle.tasks.specs.Task.{TaskTree}
use Rattle.evidence.specs.Laws.{AddsTrees_extends, Extends_trans}
use Rattle.tr_algebraic.specs.law_evidence.Shapes.{leading_quantifiers, Quantified, IsProjectedOrApart}
use Rattle.tr_algebraic.proofs.law_evidence.Shapes.{IsNext, next_of, leaf_of, open_stays, none_leads, open_begins, projected_of, apart_of}
use Rattle.tr_algebraic.proofs.law_evidence.laws.+refute_open_law.Goals as goal

pub open_body-requires-clause-is : goal.open_body-requires-clause-is
open_body-requires-clause-is t c = rw c.store.ensures at c.in-Forall.ensures.tree

pub refute_open_law-requires : goal.refute_open_law-requires
refute_open_law-requires t c =
    let d = c.args.draft.now in
    let d1 = c.open_body.new.draft in
    let i = c.in_ok-inner-in-Forall in
    let e = rw c.store.ensures at c.in-Forall.ensures.tree in
    let k = next_of (IsProjectedOrApart d.task) (open_stays d.task) (none_leads d.task) (tree_at d.trees c.args.formula) (tree_at d.trees c.in-Forall.ty) (tree_at d.trees c.in-Forall.body) (Param c.len-fresh.result (tree_at d.trees c.in-Forall.ty)) e c.requires.shape in
    let k1 = subst (IsNext (IsProjectedOrApart d.task) (tree_at d.trees c.args.formula)) (sym i.ensures.tree) k in
    let shape = subst (λ (u : TaskTree). (n : ℕ) × Quantified (IsProjectedOrApart u) n (tree_at d1.trees i.inner)) (sym i.ensures.grows.task) k1.shape in
    (omega (arith, k1.less, c.decreases), (i.ensures.formula, (omega (arith, i.ensures.below, c.len-fresh.ensures, ap length c.in_ok-push-in-Forall.ensures.items, length-append c.args.opened.now.items (c.in-Forall.ty ∷ [])), (shape, open_begins d1.task shape.0 (tree_at d1.trees i.inner) shape.1))))

pub returns-in_err-made-in-Forall-clause-grows : goal.returns-in_err-made-in-Forall-clause-grows
returns-in_err-made-in-Forall-clause-grows t c =
    let d = c.args.draft.now in
    let d1 = c.open_body.new.draft in
    let d2 = c.refute_open_law.new.draft in
    Extends_trans d d2 c.by_new_parameter.new.draft (Extends_trans d d1 d2 (AddsTrees_extends d d1 c.in_ok-inner-in-Forall.ensures.grows) c.in_ok-step-in-Forall.ensures.grows) c.in_err-made-in-Forall.ensures.grows

pub returns-in_ok-made-in-Forall-clause-grows : goal.returns-in_ok-made-in-Forall-clause-grows
returns-in_ok-made-in-Forall-clause-grows t c =
    let d = c.args.draft.now in
    let d1 = c.open_body.new.draft in
    let d2 = c.refute_open_law.new.draft in
    Extends_trans d d2 c.by_new_parameter.new.draft (Extends_trans d d1 d2 (AddsTrees_extends d d1 c.in_ok-inner-in-Forall.ensures.grows) c.in_ok-step-in-Forall.ensures.grows) c.in_ok-made-in-Forall.ensures.grows

pub refute_projection-requires-clause-shape : goal.refute_projection-requires-clause-shape
refute_projection-requires-clause-shape t c =
    let d = c.args.draft.now in
    let e = rw c.store.ensures at c.in-Eq.ensures.tree in
    projected_of d.task (tree_at d.trees c.args.formula) (tree_at d.trees c.in-Eq.whole) (tree_at d.trees c.in-Eq.value) e
    (leaf_of (IsProjectedOrApart d.task) (tree_at d.trees c.args.formula) (ap leading_quantifiers e) (none_leads d.task) c.requires.shape)

pub refute_equation-requires-clause-shape : goal.refute_equation-requires-clause-shape
refute_equation-requires-clause-shape t c =
    let d = c.args.draft.now in
    let e = rw c.store.ensures at c.in-Not.ensures.tree in
    apart_of d.task (tree_at d.trees c.args.formula) (tree_at d.trees c.in-Not.equation) e
    (leaf_of (IsProjectedOrApart d.task) (tree_at d.trees c.args.formula) (ap leading_quantifiers e) (none_leads d.task) c.requires.shape)
