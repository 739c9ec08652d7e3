use Rattle.std.proofs.Common.{rules, ◌≡◌, ◌<◌, List, ap, sym, subst, ◌∙◌}
use Rattle.trees.specs.Tree.{Tree, Two, HForall}
use Rattle.trees.specs.Node.{tree_at, node_tree}
use Rattle.tasks.specs.Task.{TaskTree}
use Rattle.evidence.specs.Laws.{Extends_trans, AddsTrees_extends}
use Rattle.tr_inline.specs.inlining.branch_equations.Branches.{quantifiers}
use Rattle.tr_inline.specs.Definitions.{IsDefinedIn, defined_later}
use Rattle.tr_recursion.specs.branch_steps.Instances.{OpensToBranch}
use Rattle.tr_recursion.proofs.branch_steps.Quantifiers.{fewer_at, none_counted, opened_at, opened_whole}
use Rattle.tr_recursion.proofs.branch_steps.NewBodies.{type_closed}
use Rattle.tr_recursion.proofs.branch_steps.branches.+opened_step.Goals as goal

pub body_at-requires-clause-is : goal.body_at-requires-clause-is
body_at-requires-clause-is t c = subst (λ (s : List Tree). tree_at s c.args.formula ≡ Two HForall (tree_at s c.in-Forall.ty) (tree_at s c.in-Forall.body)) c.store.ensures c.in-Forall.ensures.tree

pub opened_step-requires : goal.opened_step-requires
opened_step-requires t c =
    let d = c.args.draft.now in
    let d1 = c.body_at.new.draft in
    let k = c.args.def.symbol in
    let m = c.in_ok-inner-in-Forall in
    let x = AddsTrees_extends d d1 m.ensures.grows in
    let T = tree_at d.trees c.in-Forall.ty in
    let B = tree_at d.trees c.in-Forall.body in
    let e : tree_at d.trees c.args.formula ≡ Two HForall T B = subst (λ (s : List Tree). tree_at s c.args.formula ≡ Two HForall (tree_at s c.in-Forall.ty) (tree_at s c.in-Forall.body)) c.store.ensures c.in-Forall.ensures.tree in
    let defined : IsDefinedIn d1 c.args.def = defined_later d d1 x c.args.def c.requires.defined in
    let closed = type_closed d.task (tree_at d.trees c.args.formula) T B e c.requires.formula.ground in
    let opens : OpensToBranch d1.task k (tree_at d1.trees m.inner) =
    subst (λ (u : TaskTree). OpensToBranch u k (tree_at d1.trees m.inner)) (sym x.task) (opened_at d.task k c.in_ok-number-in-Forall.number T B (tree_at d.trees c.args.formula) (tree_at d1.trees m.inner) closed e m.ensures.tree c.requires.opens) in
    let less : quantifiers (tree_at d1.trees m.inner) < quantifiers (tree_at d.trees c.args.formula) = fewer_at c.in_ok-number-in-Forall.number T B (tree_at d.trees c.args.formula) (tree_at d1.trees m.inner) e m.ensures.tree in
    search rules

pub returns-in_err-made-in-Forall-clause-grows : goal.returns-in_err-made-in-Forall-clause-grows
returns-in_err-made-in-Forall-clause-grows t c = Extends_trans _ _ _ (Extends_trans _ _ _ (AddsTrees_extends _ _ c.in_ok-inner-in-Forall.ensures.grows) c.in_ok-step-in-Forall.ensures.grows) c.universal_step.ensures.grows

pub returns-in_ok-made-in-Forall-clause-grows : goal.returns-in_ok-made-in-Forall-clause-grows
returns-in_ok-made-in-Forall-clause-grows t c = Extends_trans _ _ _ (Extends_trans _ _ _ (AddsTrees_extends _ _ c.in_ok-inner-in-Forall.ensures.grows) c.in_ok-step-in-Forall.ensures.grows) c.in_ok-made-in-Forall.ensures.grows

pub instance_step-requires : goal.instance_step-requires
instance_step-requires t c =
    let d = c.args.draft.now in
    let q : tree_at d.trees c.args.formula ≡ node_tree d.trees c.node.result = subst (λ (s : List Tree). tree_at s c.args.formula ≡ node_tree s c.node.result) c.store.ensures c.node.ensures.tree in
    let none : quantifiers (tree_at d.trees c.args.formula) ≡ 0 = ap quantifiers q ∙ none_counted d.trees c.node.result c.in_default.not-Forall in
    record { defined = c.requires.defined; formula = c.requires.formula; instance = opened_whole d.task c.args.def.symbol (tree_at d.trees c.args.formula) none c.requires.opens }
