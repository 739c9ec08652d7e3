use Rattle.trees.specs.Node.{tree_at}
use Rattle.evidence.specs.Laws.{Extends_trans}
use Rattle.congruence.specs.Alike.{Shows}
use Rattle.congruence.specs.Conditionals.{IsLastBranch}
use Rattle.congruence.proofs.Later.{tree_later, pair_later, shows_at}
use Rattle.agreement.proofs.QuestionsLater.{link_later}
use Rattle.agreement.proofs.ShownSince.{shown_since}
use Rattle.agreement.proofs.branches.alike_lasts.Goals as goal

pub alike_branch-requires-clause-pair : goal.alike_branch-requires-clause-pair
alike_branch-requires-clause-pair c = c.requires.last.left_pair

pub alike_branch-requires-clause-is : goal.alike_branch-requires-clause-is
alike_branch-requires-clause-is c = c.requires.last.left_is

pub alike_branch-requires-2-clause-pair : goal.alike_branch-requires-2-clause-pair
alike_branch-requires-2-clause-pair c = pair_later c.args.draft.now c.alike_branch.new.draft c.in_ok-first.ensures.grows c.args.right.whole c.args.body.right c.requires.last.right_pair

pub alike_branch-requires-2-clause-is : goal.alike_branch-requires-2-clause-is
alike_branch-requires-2-clause-is c =
    let d = c.args.draft.now in
    let d1 = c.alike_branch.new.draft in
    let x = c.in_ok-first.ensures.grows in
    let k = c.requires.last in
    let i : IsLastBranch d1.task (tree_at d1.trees c.args.right.whole) (tree_at d1.trees c.args.body.right) = rw (x.task, tree_later d d1 x c.args.right.whole k.right_pair.left.held, tree_later d d1 x c.args.body.right k.right_pair.right.held) k.right_is in
    i

pub through-requires-clause-sides : goal.through-requires-clause-sides
through-requires-clause-sides c = pair_later c.args.draft.now c.alike_branch-2.new.draft (Extends_trans _ _ _ c.in_ok-first.ensures.grows c.in_ok-second.ensures.grows) c.args.left.whole c.args.right.whole c.requires.last.pair

pub through-requires-clause-left_pair : goal.through-requires-clause-left_pair
through-requires-clause-left_pair c = pair_later c.args.draft.now c.alike_branch-2.new.draft (Extends_trans _ _ _ c.in_ok-first.ensures.grows c.in_ok-second.ensures.grows) c.args.left.whole c.args.body.left c.requires.last.left_pair

pub through-requires-clause-right_pair : goal.through-requires-clause-right_pair
through-requires-clause-right_pair c = pair_later c.args.draft.now c.alike_branch-2.new.draft (Extends_trans _ _ _ c.in_ok-first.ensures.grows c.in_ok-second.ensures.grows) c.args.right.whole c.args.body.right c.requires.last.right_pair

pub through-requires-clause-part : goal.through-requires-clause-part
through-requires-clause-part c = link_later c.args.draft.now c.alike_branch-2.new.draft (Extends_trans _ _ _ c.in_ok-first.ensures.grows c.in_ok-second.ensures.grows) c.args.body c.requires.last.linked

pub through-requires-clause-left : goal.through-requires-clause-left
through-requires-clause-left c =
    let d = c.args.draft.now in
    let d1 = c.alike_branch.new.draft in
    let d2 = c.alike_branch-2.new.draft in
    let x = c.in_ok-first.ensures.grows in
    let k = c.requires.last.left_pair in
    let p = pair_later d d1 x c.args.left.whole c.args.body.left k in
    let s : Shows d1 c.in_ok-first.first (tree_at d1.trees c.args.left.whole) (tree_at d1.trees c.args.body.left) = rw (tree_later d d1 x c.args.left.whole k.left.held, tree_later d d1 x c.args.body.left k.right.held) c.in_ok-first.ensures.shows in
    shows_at d1 d2 c.in_ok-second.ensures.grows c.in_ok-first.first c.args.left.whole c.args.body.left p.left.held p.right.held s

pub through-requires-clause-right : goal.through-requires-clause-right
through-requires-clause-right c =
    let d = c.args.draft.now in
    let d1 = c.alike_branch.new.draft in
    let d2 = c.alike_branch-2.new.draft in
    let y = c.in_ok-second.ensures.grows in
    let p = pair_later d d1 c.in_ok-first.ensures.grows c.args.right.whole c.args.body.right c.requires.last.right_pair in
    let s : Shows d2 c.in_ok-second.second (tree_at d2.trees c.args.right.whole) (tree_at d2.trees c.args.body.right) = rw (tree_later d1 d2 y c.args.right.whole p.left.held, tree_later d1 d2 y c.args.body.right p.right.held) c.in_ok-second.ensures.shows in
    s

pub returns-in_err-second-clause-grows : goal.returns-in_err-second-clause-grows
returns-in_err-second-clause-grows c = Extends_trans _ _ _ c.in_ok-first.ensures.grows c.in_err-second.ensures.grows

pub returns-clause-grows : goal.returns-clause-grows
returns-clause-grows c = Extends_trans _ _ _ (Extends_trans _ _ _ c.in_ok-first.ensures.grows c.in_ok-second.ensures.grows) c.through.ensures.grows

pub returns-clause-shows : goal.returns-clause-shows
returns-clause-shows c = shown_since c.through.result c.args.draft.now c.alike_branch-2.new.draft c.through.new.draft (Extends_trans _ _ _ c.in_ok-first.ensures.grows c.in_ok-second.ensures.grows) c.args.left.whole c.args.right.whole c.requires.last.pair c.through.ensures.shows
