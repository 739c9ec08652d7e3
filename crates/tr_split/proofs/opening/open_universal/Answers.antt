use Rattle.std.proofs.Common.{◌≡◌, ◌∙◌, map, sym, ap}
use Rattle.tasks.specs.trees.Tree.{Tree, Two, HForall}
use Rattle.tasks.specs.trees.Node.{tree_at}
use Rattle.tasks.specs.trees.Binding.{inst, Param}
use Rattle.tasks.specs.Meaning.{trees_at}
use Rattle.evidence.specs.Laws.{Extends_trans, AddsTrees_extends, AddsTrees_trans}
use Rattle.evidence.proofs.Formulas.{same, formulas_later, formula_later}
use Rattle.tasks.specs.typed_trees.instances.Instances.{IsInstance}
use Rattle.evidence.proofs.task_parts.Opened.{kind, opened_below}
use Rattle.tr_split.specs.parts.Split.{split}
use Rattle.tr_split.specs.declared.over.Over.TheVariants as stands
use Rattle.tr_split.specs.Over.{wholes, inners}
use Rattle.tr_split.proofs.Inner.{opened_formula}
use Rattle.tr_split.proofs.Opened.{param_at, opened_split, wholes_ends, inner_ends}
use Rattle.tr_split.proofs.opening.open_universal.Goals as goal
use Rattle.tasks.proofs.outside.Passed.{no_value}

pub parameter-requires-clause-held : goal.parameter-requires-clause-held
parameter-requires-clause-held c = c.requires.ty_held

pub parameter-requires-clause-kind : goal.parameter-requires-clause-kind
parameter-requires-clause-kind c = kind c.args.draft.now c.args.goal c.args.ty c.args.body c.requires.can.goal c.requires.tree

pub instance-requires-clause-by_held : goal.instance-requires-clause-by_held
instance-requires-clause-by_held c = c.in_ok-param.ensures.held

pub instance-requires-clause-closed : goal.instance-requires-clause-closed
instance-requires-clause-closed c = c.in_ok-param.ensures.closed

pub ends_over-requires-clause-front : goal.ends_over-requires-clause-front
ends_over-requires-clause-front c =
    let y = AddsTrees_extends _ _ (AddsTrees_trans _ _ _ c.in_ok-param.ensures.grows c.in_ok-inner.ensures.grows) in
    formulas_later c.args.draft.now c.instance.new.g y c.args.front.now c.requires.can.front

pub ends_over-requires-clause-ends : goal.ends_over-requires-clause-ends
ends_over-requires-clause-ends c =
    let d = c.args.draft.now in
    let d2 = c.instance.new.g in
    let y = AddsTrees_extends d d2 (AddsTrees_trans d c.parameter.new.g d2 c.in_ok-param.ensures.grows c.in_ok-inner.ensures.grows) in
    let B = tree_at d.trees c.args.body in
    let t2 : tree_at d2.trees c.args.ty ≡ tree_at d.trees c.args.ty = y.trees.same c.args.ty.0 c.requires.ty_held in
    let b2 : tree_at d2.trees c.args.body ≡ B = y.trees.same c.args.body.0 c.requires.body_held in
    let w = wholes d2.trees (stands.Universal c.args.ty c.in_ok-param.param) (tree_at d2.trees c.args.body) in
    let q : split (tree_at d.trees c.args.goal) ≡ w =
    ap split c.requires.tree ∙ ap (λ (z : Tree). map (Two HForall z) (split B)) (sym t2) ∙ ap (λ (z : Tree). map (Two HForall (tree_at d2.trees c.args.ty)) (split z)) (sym b2) in
    wholes_ends d d2 y c.args.front.now c.requires.can.front c.args.goal c.args.ends.now w q c.requires.can.ends

pub returns-clause-opened : goal.returns-clause-opened
returns-clause-opened c =
    let d = c.args.draft.now in
    let F = c.args.front.now in
    let d1 = c.parameter.new.g in
    let d2 = c.instance.new.g in
    let d3 = c.ends_over.new.draft in
    let x1 = AddsTrees_extends d d1 c.in_ok-param.ensures.grows in
    let x2 = AddsTrees_extends d1 d2 c.in_ok-inner.ensures.grows in
    let x3 = c.in_ok-made.ensures.grows in
    let y = Extends_trans d d1 d2 x1 x2 in
    let T = tree_at d.trees c.args.ty in
    let B = tree_at d.trees c.args.body in
    let P = Param c.args.number T in
    let param = c.in_ok-param.param in
    let id = c.in_ok-inner.inner in
    let o = c.in_ok-param.ensures in
    let i = c.in_ok-inner.ensures in
    let t1 : tree_at d1.trees c.args.ty ≡ T = x1.trees.same c.args.ty.0 c.requires.ty_held in
    let b1 : tree_at d1.trees c.args.body ≡ B = x1.trees.same c.args.body.0 c.requires.body_held in
    let b2 : tree_at d2.trees c.args.body ≡ B = y.trees.same c.args.body.0 c.requires.body_held in
    let p2 : tree_at d2.trees param ≡ P = x2.trees.same param.0 o.held ∙ o.tree in
    let f1 = formula_later d d1 x1 c.args.goal c.requires.can.goal in
    let q1 : Two HForall T B ≡ Two HForall (tree_at d1.trees c.args.ty) (tree_at d1.trees c.args.body) = cc (t1, b1) in
    let is1 : tree_at d1.trees c.args.goal ≡ Two HForall (tree_at d1.trees c.args.ty) (tree_at d1.trees c.args.body) = x1.trees.same c.args.goal.0 c.requires.can.goal.held ∙ c.requires.tree ∙ q1 in
    let t = param_at d1 c.args.goal c.args.ty c.args.body f1 is1 c.args.number param o.held (o.tree ∙ ap (Param c.args.number) (sym t1)) o.closed in
    let i1 : inst (tree_at d1.trees c.args.body) (tree_at d1.trees param) ≡ inst B P = cc (b1, o.tree) in
    let q : inners d2.trees (stands.Universal c.args.ty param) (tree_at d2.trees c.args.body) ≡ split (inst B P) =
    ap (λ (z : Tree). map (λ (v : Tree). inst v z) (split (tree_at d2.trees c.args.body))) p2 ∙ ap (λ (z : Tree). map (λ (v : Tree). inst v P) (split z)) b2 ∙ sym (opened_split d c.args.goal c.args.ty c.args.body c.requires.can.goal c.requires.tree P) in
    let k : IsInstance B P (inst B P) = rw (i.tree, b1, o.tree) at i.keeps in
    record {
      is = x3.trees.same id.0 i.held ∙ i.tree ∙ i1;
      formula = formula_later d2 d3 x3 id (opened_formula d1 c.args.goal c.args.body param (tree_at d1.trees c.args.ty) f1 is1 t d2 id i.grows.task i.held i.keeps);
      below = opened_below d c.args.goal c.args.ty c.args.body c.requires.can.goal c.requires.tree (trees_at d.trees F) c.args.number (inst B P) c.requires.can.below k;
      ends = inner_ends d d3 c.in_ok-made.made.items (trees_at d.trees F) (trees_at d2.trees F) (split (inst B P)) (inners d2.trees (stands.Universal c.args.ty param) (tree_at d2.trees c.args.body)) (same d d2 y F c.requires.can.front) q c.in_ok-made.ensures.ends;
    }

pub returns-clause-grows : goal.returns-clause-grows
returns-clause-grows c = Extends_trans _ _ _ (AddsTrees_extends _ _ (AddsTrees_trans _ _ _ c.in_ok-param.ensures.grows c.in_ok-inner.ensures.grows)) c.in_ok-made.ensures.grows

pub returns-in_err-param : goal.returns-in_err-param
returns-in_err-param c = record { opened = no_value _ _ c.from_residual.result c.from_residual.ensures.1; grows = AddsTrees_extends _ _ c.parameter.ensures.grows }

pub returns-in_err-inner : goal.returns-in_err-inner
returns-in_err-inner c = record {
  opened = no_value _ _ c.from_residual-in_err-inner.result c.from_residual-in_err-inner.ensures.1;
  grows = AddsTrees_extends _ _ (AddsTrees_trans _ _ _ c.in_ok-param.ensures.grows c.instance.ensures.grows);
}

pub returns-in_err-made : goal.returns-in_err-made
returns-in_err-made c = record {
  opened = no_value _ _ c.from_residual-in_err-made.result c.from_residual-in_err-made.ensures.1;
  grows = Extends_trans _ _ _ (AddsTrees_extends _ _ (AddsTrees_trans _ _ _ c.in_ok-param.ensures.grows c.in_ok-inner.ensures.grows)) c.ends_over.ensures.grows;
}
