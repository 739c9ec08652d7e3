use Rattle.std.proofs.Common.{refl, arith}
use Rattle.tr_let.proofs.Nodes.{other_stays, let_node}
use Rattle.tr_let.proofs.lets.LetsRewrite.link.Goals as goal

pub link_let-requires-clause-value_held : goal.link_let-requires-clause-value_held
link_let-requires-clause-value_held c = omega (arith, c.in-Let.ensures.below.0, c.requires.place.open_held)

pub link_let-requires-clause-body_held : goal.link_let-requires-clause-body_held
link_let-requires-clause-body_held c = omega (arith, c.in-Let.ensures.below.1, c.requires.place.open_held)

pub link_let-requires-clause-open : goal.link_let-requires-clause-open
link_let-requires-clause-open c = let_node c.args.draft.now.trees c.store.result.now c.store.ensures c.args.e c.in-Let.value c.in-Let.body c.in-Let.ensures.tree

pub returns-in_default-clause-link : goal.returns-in_default-clause-link
returns-in_default-clause-link c =
    let d = c.args.draft.now in
    record {
      is = other_stays d.trees c.store.result.now c.store.ensures c.args.e c.node.result c.node.ensures.tree c.in_default.not-Let;
      place = c.requires.place;
      sort = refl;
      type = refl;
      shows = refl;
    }
