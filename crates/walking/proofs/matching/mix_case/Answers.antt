use Rattle.std.proofs.Common.{ap, ◌∙◌}
use Rattle.trees.specs.Tree.{HCase}
use Rattle.trees.specs.Sorts.{sort_of}
use Rattle.evidence.specs.Laws.{Extends_trans, AddsTrees_extends}
use Rattle.congruence.proofs.Later.{held_later, tree_later, pair_later, node_later, shows_at}
use Rattle.walking.proofs.PlacesLater.{place_later}
use Rattle.walking.proofs.matching.mix_case.Goals as goal

pub alike_scrutinee-requires-clause-pair : goal.alike_scrutinee-requires-clause-pair
alike_scrutinee-requires-clause-pair c = pair_later c.args.draft.now c.case_trees.new.draft (AddsTrees_extends c.args.draft.now c.case_trees.new.draft c.in_ok-m.ensures.grows) c.args.parts.scrutinee c.args.one.right c.requires.pair

pub alike_scrutinee-requires-clause-term : goal.alike_scrutinee-requires-clause-term
alike_scrutinee-requires-clause-term c =
    ap sort_of (tree_later c.args.draft.now c.case_trees.new.draft (AddsTrees_extends c.args.draft.now c.case_trees.new.draft c.in_ok-m.ensures.grows) c.args.parts.scrutinee c.requires.pair.left.held) ∙ c.requires.term

pub alike_scrutinee-requires-clause-left_is : goal.alike_scrutinee-requires-clause-left_is
alike_scrutinee-requires-clause-left_is c =
    let s = c.args.parts in
    node_later c.args.draft.now c.case_trees.new.draft (AddsTrees_extends c.args.draft.now c.case_trees.new.draft c.in_ok-m.ensures.grows) HCase c.args.left s.scrutinee s.arms c.requires.place.left_held c.requires.pair.left.held c.requires.arms_held c.requires.left_is

pub alike_scrutinee-requires-clause-shows : goal.alike_scrutinee-requires-clause-shows
alike_scrutinee-requires-clause-shows c =
    shows_at c.args.draft.now c.case_trees.new.draft (AddsTrees_extends c.args.draft.now c.case_trees.new.draft c.in_ok-m.ensures.grows) c.args.one.alike c.args.parts.scrutinee c.args.one.right c.requires.pair.left.held c.requires.pair.right.held c.requires.one.shows

pub returns-in_err-alike-clause-grows : goal.returns-in_err-alike-clause-grows
returns-in_err-alike-clause-grows c = Extends_trans _ _ _ (AddsTrees_extends _ _ c.in_ok-m.ensures.grows) c.in_err-alike.ensures.grows

pub returns-clause-grows : goal.returns-clause-grows
returns-clause-grows c = Extends_trans _ _ _ (AddsTrees_extends _ _ c.in_ok-m.ensures.grows) c.in_ok-alike.ensures.grows

pub returns-clause-place : goal.returns-clause-place
returns-clause-place c = place_later c.case_trees.new.draft c.alike_scrutinee.new.draft c.in_ok-alike.ensures.grows c.args.env.now c.in_ok-m.m.e c.in_ok-m.m.left c.args.fresh c.in_ok-m.ensures.place

pub returns-clause-node : goal.returns-clause-node
returns-clause-node c =
    let d = c.args.draft.now in
    let d1 = c.case_trees.new.draft in
    let x = AddsTrees_extends d d1 c.in_ok-m.ensures.grows in
    node_later d1 c.alike_scrutinee.new.draft c.in_ok-alike.ensures.grows HCase c.in_ok-m.m.e c.args.one.image c.args.open.arms c.in_ok-m.ensures.place.open_held (held_later d d1 x c.args.one.image c.requires.one.place.open_held) (held_later d d1 x c.args.open.arms c.requires.open_arms_held) c.in_ok-m.ensures.node

pub returns-clause-pair : goal.returns-clause-pair
returns-clause-pair c = pair_later c.case_trees.new.draft c.alike_scrutinee.new.draft c.in_ok-alike.ensures.grows c.args.left c.in_ok-m.m.left c.in_ok-m.ensures.pair
