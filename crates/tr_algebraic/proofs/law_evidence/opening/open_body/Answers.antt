use Rattle.std.proofs.Common.{◌≤◌, [], ap, subst, ◌∙◌, arith}
use Rattle.std.proofs.lemmas.List.Elements.{All-nil}
use Rattle.tasks.specs.trees.Tree.{Tree, above_params}
use Rattle.tasks.specs.trees.Node.{tree_at}
use Rattle.tasks.specs.trees.Binding.{inst}
use Rattle.tasks.specs.typed_trees.instances.Instances.{IsInstance}
use Rattle.evidence.proofs.task_parts.Opened.{kind, opened_formula, opened_below}
use Rattle.tr_algebraic.proofs.law_evidence.opening.open_body.Goals as goal

pub parameter-requires-clause-kind : goal.parameter-requires-clause-kind
parameter-requires-clause-kind c = kind c.args.draft.now c.args.formula c.args.ty c.args.body c.requires.formula c.requires.is

pub instance-requires-clause-body_held : goal.instance-requires-clause-body_held
instance-requires-clause-body_held c = omega (arith, c.in_ok-term.ensures.grows.trees.longer, c.requires.body_held)

pub returns-clause-formula : goal.returns-clause-formula
returns-clause-formula c =
    let d = c.args.draft.now in
    let d1 = c.parameter.new.g in
    let d2 = c.instance.new.g in
    let x = c.in_ok-term.ensures.grows in
    let i = subst (λ (z : Tree). IsInstance (tree_at d.trees c.args.body) z (tree_at d2.trees c.in_ok-made.made)) c.in_ok-term.ensures.tree
    (subst (λ (z : Tree). IsInstance z (tree_at d1.trees c.in_ok-term.term) (tree_at d2.trees c.in_ok-made.made)) (x.trees.same c.args.body.0 c.requires.body_held) c.in_ok-made.ensures.keeps) in
    opened_formula d c.args.formula c.args.ty c.args.body c.requires.formula c.requires.is d2 c.in_ok-made.made c.args.fresh (c.in_ok-made.ensures.grows.task ∙ x.task) c.in_ok-made.ensures.held i

pub returns-clause-tree : goal.returns-clause-tree
returns-clause-tree c =
    let d = c.args.draft.now in
    let d1 = c.parameter.new.g in
    c.in_ok-made.ensures.tree ∙ ap (λ (z : Tree). inst z (tree_at d1.trees c.in_ok-term.term)) (c.in_ok-term.ensures.grows.trees.same c.args.body.0 c.requires.body_held) ∙ ap (inst (tree_at d.trees c.args.body)) c.in_ok-term.ensures.tree

pub returns-clause-below : goal.returns-clause-below
returns-clause-below c =
    let d = c.args.draft.now in
    let d1 = c.parameter.new.g in
    let d2 = c.instance.new.g in
    let x = c.in_ok-term.ensures.grows in
    let i = subst (λ (z : Tree). IsInstance (tree_at d.trees c.args.body) z (tree_at d2.trees c.in_ok-made.made)) c.in_ok-term.ensures.tree
    (subst (λ (z : Tree). IsInstance z (tree_at d1.trees c.in_ok-term.term) (tree_at d2.trees c.in_ok-made.made)) (x.trees.same c.args.body.0 c.requires.body_held) c.in_ok-made.ensures.keeps) in
    (opened_below d c.args.formula c.args.ty c.args.body c.requires.formula c.requires.is [] c.args.fresh (tree_at d2.trees c.in_ok-made.made) (record { front = All-nil (λ a. above_params a ≤ c.args.fresh); goal = c.requires.below }) i).goal
