use Rattle.std.proofs.Common.{sym, subst, IfOk}
use Rattle.trees.specs.Node.{tree_at}
use Rattle.congruence.specs.declared.alike.AlikeBy.{AlikeBy}
use Rattle.congruence.specs.declared.quantified.Quantifier.{Quantifier}
use Rattle.congruence.specs.declared.quantified.Quantified.{Quantified}
use Rattle.congruence.specs.Alike.{Shows}
use Rattle.congruence.specs.Quantifiers.{IsQuantifierHeld, IsQuantifiedAt}
use Rattle.congruence.proofs.quantified.alike_quantified.Goals as goal

pub alike_by_bodies-requires : goal.alike_by_bodies-requires
alike_by_bodies-requires c =
    let d = c.args.draft.now in
    let r = c.requires in
    let k = c.args in
    let q : Quantifier = record { universal = k.universal; ty = k.ty; number = k.number; term = k.term } in
    let l : Quantified = record { whole = k.left; body = k.a; at_parameter = k.at_a } in
    let g : Quantified = record { whole = k.right; body = k.b; at_parameter = k.at_b } in
    let left : IsQuantifiedAt d q l = record { whole = r.left; body = r.a_held; at_parameter = r.at_a; whole_is = r.left_is; at_parameter_is = r.at_a_is; new = r.left_above } in
    let right : IsQuantifiedAt d q g = record { whole = r.right; body = r.b_held; at_parameter = r.at_b; whole_is = r.right_is; at_parameter_is = r.at_b_is; new = r.right_above } in
    record {
      quantifier = subst (IsQuantifierHeld d) (sym c.new-over.ensures) (record { ty = r.ty_held; term = r.term; term_is = r.term_is });
      left = subst (λ (z : Quantifier). IsQuantifiedAt d z c.new-l.result) (sym c.new-over.ensures) (subst (IsQuantifiedAt d q) (sym c.new-l.ensures) left);
      right = subst (λ (z : Quantifier). IsQuantifiedAt d z c.new-r.result) (sym c.new-over.ensures) (subst (IsQuantifiedAt d q) (sym c.new-r.ensures) right);
      shows = subst (λ (z : Quantified). Shows d k.alike (tree_at d.trees z.at_parameter) (tree_at d.trees c.new-r.result.at_parameter)) (sym c.new-l.ensures) (subst (λ (z : Quantified). Shows d k.alike (tree_at d.trees k.at_a) (tree_at d.trees z.at_parameter)) (sym c.new-r.ensures) r.shows);
    }

pub returns-clause-shows : goal.returns-clause-shows
returns-clause-shows c =
    let d = c.args.draft.now in
    let d1 = c.alike_by_bodies.new.draft in
    let made = c.alike_by_bodies.result in
    subst (λ (z : Quantified). IfOk made (λ (w : AlikeBy). Shows d1 w (tree_at d.trees z.whole) (tree_at d.trees c.args.right))) c.new-l.ensures
    (subst (λ (z : Quantified). IfOk made (λ (w : AlikeBy). Shows d1 w (tree_at d.trees c.new-l.result.whole) (tree_at d.trees z.whole))) c.new-r.ensures c.alike_by_bodies.ensures.shows)
