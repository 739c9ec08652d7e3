use Rattle.std.proofs.Common.{ap, ◌∙◌}
use Rattle.std.proofs.lemmas.Result.{IfOk-weaker}
use Rattle.trees.specs.Sorts.{sort_of}
use Rattle.evidence.specs.Laws.{Extends_trans, AddsTrees_extends}
use Rattle.congruence.proofs.Later.{tree_later, pair_later, shows_at, shows_after}
use Rattle.congruence.proofs.values.alike_value.Goals as goal

pub hole_value-requires : goal.hole_value-requires
hole_value-requires c = let r = c.requires in record { sides = r.sides; pair = r.pair; term = r.term; body_held = r.body_held; left_is = r.left_is; right_is = r.right_is }

pub alike_replaced-requires : goal.alike_replaced-requires
alike_replaced-requires c =
    let d = c.args.draft.now in
    let d1 = c.hole_value.new.draft in
    let n = c.in_ok-hole in
    let x = AddsTrees_extends d d1 n.ensures.grows in
    let r = c.requires in
    record {
      pair = pair_later d d1 x c.args.a c.args.b r.pair;
      term = ap sort_of (tree_later d d1 x c.args.a r.pair.left.held) ∙ r.term;
      hole = n.ensures.hole;
      sides = pair_later d d1 x c.args.left c.args.right r.sides;
      shows = shows_at d d1 x c.args.alike c.args.a c.args.b r.pair.left.held r.pair.right.held r.shows;
    }

pub returns : goal.returns
returns c =
    let d = c.args.draft.now in
    let d1 = c.hole_value.new.draft in
    let d2 = c.alike_replaced.new.draft in
    let x = AddsTrees_extends d d1 c.in_ok-hole.ensures.grows in
    let e = c.alike_replaced.ensures.grows in
    let p = pair_later d d1 x c.args.left c.args.right c.requires.sides in
    record {
      shows = IfOk-weaker c.alike_replaced.result _ _ (λ w h. shows_after d1 d2 e d2 w c.args.left c.args.right p.left.held p.right.held h) c.alike_replaced.ensures.shows;
      grows = Extends_trans d d1 d2 x e;
    }
