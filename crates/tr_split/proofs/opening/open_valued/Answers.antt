use Rattle.std.proofs.Common.{◌≡◌, ◌∙◌, map, sym, ap}
use Rattle.tasks.specs.trees.Tree.{Tree, Two, HLet}
use Rattle.tasks.specs.trees.Node.{tree_at}
use Rattle.tasks.specs.trees.Binding.{inst}
use Rattle.tasks.specs.Meaning.{trees_at}
use Rattle.evidence.specs.Laws.{AddsTrees_extends, Extends_trans}
use Rattle.evidence.proofs.Formulas.{same, formulas_later, formula_later}
use Rattle.tasks.specs.typed_trees.instances.Instances.{IsInstance}
use Rattle.tr_split.specs.parts.Split.{split}
use Rattle.tr_split.specs.declared.over.Over.TheVariants as stands
use Rattle.tr_split.specs.Over.{wholes, inners}
use Rattle.tr_split.proofs.Inner.{valued_formula}
use Rattle.tr_split.proofs.Opened.{valued_below, valued_split, wholes_ends, inner_ends}
use Rattle.tr_split.proofs.Overs.{over_later}
use Rattle.tr_split.proofs.Values.{value_at}
use Rattle.tr_split.proofs.opening.open_valued.Goals as goal
use Rattle.tasks.proofs.outside.Passed.{no_value}

pub instance-requires-clause-body_held : goal.instance-requires-clause-body_held
instance-requires-clause-body_held c = c.requires.body_held

pub instance-requires-clause-by_held : goal.instance-requires-clause-by_held
instance-requires-clause-by_held c = c.requires.value_held

pub instance-requires-clause-closed : goal.instance-requires-clause-closed
instance-requires-clause-closed c = (value_at c.args.draft.now c.args.goal c.args.value c.args.body c.requires.can.goal c.requires.tree c.requires.value_held).term.closed

pub ends_over-requires-clause-front : goal.ends_over-requires-clause-front
ends_over-requires-clause-front c = formulas_later c.args.draft.now c.instance.new.g (AddsTrees_extends _ _ c.in_ok-inner.ensures.grows) c.args.front.now c.requires.can.front

pub ends_over-requires-clause-over : goal.ends_over-requires-clause-over
ends_over-requires-clause-over c =
    let d = c.args.draft.now in
    over_later d c.instance.new.g (AddsTrees_extends _ _ c.in_ok-inner.ensures.grows) (stands.Value c.args.value) (value_at d c.args.goal c.args.value c.args.body c.requires.can.goal c.requires.tree c.requires.value_held)

pub ends_over-requires-clause-ends : goal.ends_over-requires-clause-ends
ends_over-requires-clause-ends c =
    let d = c.args.draft.now in
    let d1 = c.instance.new.g in
    let x1 = AddsTrees_extends d d1 c.in_ok-inner.ensures.grows in
    let B = tree_at d.trees c.args.body in
    let v1 : tree_at d1.trees c.args.value ≡ tree_at d.trees c.args.value = x1.trees.same c.args.value.0 c.requires.value_held in
    let b1 : tree_at d1.trees c.args.body ≡ B = x1.trees.same c.args.body.0 c.requires.body_held in
    let w = wholes d1.trees (stands.Value c.args.value) (tree_at d1.trees c.args.body) in
    let q : split (tree_at d.trees c.args.goal) ≡ w =
    ap split c.requires.tree ∙ ap (λ (z : Tree). map (Two HLet z) (split B)) (sym v1) ∙ ap (λ (z : Tree). map (Two HLet (tree_at d1.trees c.args.value)) (split z)) (sym b1) in
    wholes_ends d d1 x1 c.args.front.now c.requires.can.front c.args.goal c.args.ends.now w q c.requires.can.ends

pub returns-clause-opened : goal.returns-clause-opened
returns-clause-opened c =
    let d = c.args.draft.now in
    let F = c.args.front.now in
    let d1 = c.instance.new.g in
    let d2 = c.ends_over.new.draft in
    let x1 = AddsTrees_extends d d1 c.in_ok-inner.ensures.grows in
    let x2 = c.in_ok-made.ensures.grows in
    let V = tree_at d.trees c.args.value in
    let B = tree_at d.trees c.args.body in
    let id = c.in_ok-inner.inner in
    let i = c.in_ok-inner.ensures in
    let o = value_at d c.args.goal c.args.value c.args.body c.requires.can.goal c.requires.tree c.requires.value_held in
    let v1 : tree_at d1.trees c.args.value ≡ V = x1.trees.same c.args.value.0 c.requires.value_held in
    let b1 : tree_at d1.trees c.args.body ≡ B = x1.trees.same c.args.body.0 c.requires.body_held in
    let q : inners d1.trees (stands.Value c.args.value) (tree_at d1.trees c.args.body) ≡ split (inst B V) =
    ap (λ (z : Tree). map (λ (v : Tree). inst v z) (split (tree_at d1.trees c.args.body))) v1 ∙ ap (λ (z : Tree). map (λ (v : Tree). inst v V) (split z)) b1 ∙ sym (valued_split d c.args.goal c.args.value c.args.body c.requires.can.goal c.requires.tree V) in
    let k : IsInstance B V (inst B V) = rw i.tree at i.keeps in
    record {
      is = x2.trees.same id.0 i.held ∙ i.tree;
      formula = formula_later d1 d2 x2 id (valued_formula d c.args.goal c.args.body c.args.value c.requires.can.goal c.requires.tree o d1 id i.grows.task i.held i.keeps);
      below = valued_below d c.args.goal c.args.value c.args.body c.requires.can.goal c.requires.tree (trees_at d.trees F) c.args.number (inst B V) c.requires.can.below k;
      ends = inner_ends d d2 c.in_ok-made.made.items (trees_at d.trees F) (trees_at d1.trees F) (split (inst B V)) (inners d1.trees (stands.Value c.args.value) (tree_at d1.trees c.args.body)) (same d d1 x1 F c.requires.can.front) q c.in_ok-made.ensures.ends;
    }

pub returns-clause-grows : goal.returns-clause-grows
returns-clause-grows c = Extends_trans _ _ _ (AddsTrees_extends _ _ c.in_ok-inner.ensures.grows) c.in_ok-made.ensures.grows

pub returns-in_err-inner : goal.returns-in_err-inner
returns-in_err-inner c = record { opened = no_value _ _ c.from_residual.result c.from_residual.ensures.1; grows = AddsTrees_extends _ _ c.instance.ensures.grows }

pub returns-in_err-made : goal.returns-in_err-made
returns-in_err-made c = record {
  opened = no_value _ _ c.from_residual-in_err-made.result c.from_residual-in_err-made.ensures.1;
  grows = Extends_trans _ _ _ (AddsTrees_extends _ _ c.in_ok-inner.ensures.grows) c.ends_over.ensures.grows;
}
