use Rattle.trees.specs.Node.{tree_at}
use Rattle.evidence.specs.Laws.{Extends_trans, AddsTrees_extends}
use Rattle.tr_inline.specs.Definitions.{defined_later}
use Rattle.tr_inline.proofs.Unfolded.{left_use, right_later, use_link}
use Rattle.tr_inline.proofs.unfolding.link_use.Goals as goal

pub alike_unfolded-requires-clause-defined : goal.alike_unfolded-requires-clause-defined
alike_unfolded-requires-clause-defined c = defined_later c.args.draft.now c.unfolded_at.new.draft (AddsTrees_extends _ _ c.in_ok-made.ensures.grows) c.args.def c.requires.defined

pub alike_unfolded-requires-clause-pair : goal.alike_unfolded-requires-clause-pair
alike_unfolded-requires-clause-pair c = c.in_ok-made.ensures.unfolded.pair

pub alike_unfolded-requires-clause-left_is : goal.alike_unfolded-requires-clause-left_is
alike_unfolded-requires-clause-left_is c =
    let d = c.args.draft.now in
    left_use d c.unfolded_at.new.draft (AddsTrees_extends _ _ c.in_ok-made.ensures.grows) c.args.def.symbol c.args.env.now c.args.e c.args.left c.args.fresh c.requires.place (tree_at d.trees c.args.at.types) (tree_at d.trees c.args.at.args) c.requires.used.is

pub alike_unfolded-requires-clause-right_is : goal.alike_unfolded-requires-clause-right_is
alike_unfolded-requires-clause-right_is c =
    right_later c.args.draft.now c.unfolded_at.new.draft (AddsTrees_extends _ _ c.in_ok-made.ensures.grows) c.args.def.symbol c.args.env.now c.args.e c.args.left c.args.fresh c.requires.place c.in_ok-made.made.right c.in_ok-made.ensures.unfolded.right_is

pub returns-in_err-made-clause-grows : goal.returns-in_err-made-clause-grows
returns-in_err-made-clause-grows c = AddsTrees_extends _ _ c.unfolded_at.ensures.grows

pub returns-in_err-alike-clause-grows : goal.returns-in_err-alike-clause-grows
returns-in_err-alike-clause-grows c = Extends_trans _ _ _ (AddsTrees_extends _ _ c.in_ok-made.ensures.grows) c.in_err-alike.ensures.grows

pub returns-clause-grows : goal.returns-clause-grows
returns-clause-grows c = Extends_trans _ _ _ (AddsTrees_extends _ _ c.in_ok-made.ensures.grows) c.in_ok-alike.ensures.grows

pub returns-clause-link : goal.returns-clause-link
returns-clause-link c =
    let d = c.args.draft.now in
    let d1 = c.unfolded_at.new.draft in
    use_link d d1 (AddsTrees_extends _ _ c.in_ok-made.ensures.grows) c.args.def.symbol c.args.env.now c.args.e c.args.left c.args.fresh c.requires.place c.in_ok-made.made.image c.in_ok-made.made.right c.in_ok-made.ensures.unfolded c.alike_unfolded.new.draft
    c.in_ok-alike.ensures.grows c.in_ok-alike.alike c.in_ok-alike.ensures.shows
