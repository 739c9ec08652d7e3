use Rattle.std.proofs.Common.{sym, ap, subst, ◌∙◌}
use Rattle.trees.specs.Tree.{Tree}
use Rattle.trees.specs.Node.{tree_at}
use Rattle.trees.specs.Sorts.{sort_of}
use Rattle.evidence.specs.Laws.{Extends_trans, AddsTrees_extends}
use Rattle.congruence.specs.Alike.{Shows}
use Rattle.congruence.proofs.Later.{held_later, tree_later, closed_later, pair_later, shows_at}
use Rattle.walking.proofs.PlacesLater.{all_later}
use Rattle.congruence.proofs.ApplicationHoles.{symbol_later}
use Rattle.walking.proofs.ArgumentPlaces.{argument_link, after_tree, one_pair}
use Rattle.walking.proofs.arguments.link_argument.Goals as goal

pub replace_argument-requires-clause-left : goal.replace_argument-requires-clause-left
replace_argument-requires-clause-left c =
    let d = c.args.draft.now in
    closed_later d c.argument_lists.new.draft (AddsTrees_extends d c.argument_lists.new.draft c.in_ok-lists.ensures.grows) c.args.after.right c.requires.after.pair.right

pub replace_argument-requires-clause-symbol_held : goal.replace_argument-requires-clause-symbol_held
replace_argument-requires-clause-symbol_held c =
    let d = c.args.draft.now in
    symbol_later d c.argument_lists.new.draft (AddsTrees_extends d c.argument_lists.new.draft c.in_ok-lists.ensures.grows) c.args.symbol c.requires.symbol_held

pub replace_argument-requires-clause-before_held : goal.replace_argument-requires-clause-before_held
replace_argument-requires-clause-before_held c =
    let d = c.args.draft.now in
    all_later d c.argument_lists.new.draft (AddsTrees_extends d c.argument_lists.new.draft c.in_ok-lists.ensures.grows) c.args.before.now c.requires.before_held

pub replace_argument-requires-clause-pair : goal.replace_argument-requires-clause-pair
replace_argument-requires-clause-pair c =
    let d = c.args.draft.now in
    pair_later d c.argument_lists.new.draft (AddsTrees_extends d c.argument_lists.new.draft c.in_ok-lists.ensures.grows) c.args.first c.args.one.right (one_pair d c.args.env.now c.args.first c.args.fresh c.args.one c.requires.first c.requires.one)

pub replace_argument-requires-clause-term : goal.replace_argument-requires-clause-term
replace_argument-requires-clause-term c =
    let d = c.args.draft.now in
    ap sort_of (tree_later d c.argument_lists.new.draft (AddsTrees_extends d c.argument_lists.new.draft c.in_ok-lists.ensures.grows) c.args.first c.requires.first.held) ∙ c.requires.term

pub replace_argument-requires-clause-left_is : goal.replace_argument-requires-clause-left_is
replace_argument-requires-clause-left_is c =
    let d = c.args.draft.now in
    let w = c.requires.after in
    after_tree d c.argument_lists.new.draft (AddsTrees_extends d c.argument_lists.new.draft c.in_ok-lists.ensures.grows) c.args.symbol c.args.before.now c.args.after.right c.args.first c.args.after.list c.requires.symbol_held c.requires.before_held c.requires.first.held w.places.left_held w.pair.right.held w.right

pub replace_argument-requires-clause-shows : goal.replace_argument-requires-clause-shows
replace_argument-requires-clause-shows c =
    let d = c.args.draft.now in
    shows_at d c.argument_lists.new.draft (AddsTrees_extends d c.argument_lists.new.draft c.in_ok-lists.ensures.grows) c.args.one.alike c.args.first c.args.one.right c.requires.first.held c.requires.one.place.left_held c.requires.one.shows

pub chain-requires-clause-left : goal.chain-requires-clause-left
chain-requires-clause-left c =
    let d = c.args.draft.now in
    let d1 = c.argument_lists.new.draft in
    let d2 = c.replace_argument.new.draft in
    pair_later d d2 (Extends_trans d d1 d2 (AddsTrees_extends d d1 c.in_ok-lists.ensures.grows) c.in_ok-made.ensures.grows) c.args.left c.args.after.right c.requires.after.pair

pub chain-requires-clause-first : goal.chain-requires-clause-first
chain-requires-clause-first c =
    let d = c.args.draft.now in
    let d1 = c.argument_lists.new.draft in
    let d2 = c.replace_argument.new.draft in
    let w = c.requires.after in
    shows_at d d2 (Extends_trans d d1 d2 (AddsTrees_extends d d1 c.in_ok-lists.ensures.grows) c.in_ok-made.ensures.grows) c.args.after.alike c.args.left c.args.after.right w.pair.left.held w.pair.right.held w.shows

pub chain-requires-clause-second : goal.chain-requires-clause-second
chain-requires-clause-second c =
    let d = c.args.draft.now in
    let d1 = c.argument_lists.new.draft in
    let d2 = c.replace_argument.new.draft in
    let w = c.requires.after in
    let h = held_later d d1 (AddsTrees_extends d d1 c.in_ok-lists.ensures.grows) c.args.after.right w.pair.right.held in
    subst (λ (z : Tree). Shows d2 c.in_ok-made.made.alike z (tree_at d2.trees c.in_ok-made.made.right)) (sym (tree_later d1 d2 c.in_ok-made.ensures.grows c.args.after.right h)) c.in_ok-made.ensures.shows

pub returns-in_err-made-clause-grows : goal.returns-in_err-made-clause-grows
returns-in_err-made-clause-grows c = Extends_trans _ _ _ (AddsTrees_extends _ _ c.in_ok-lists.ensures.grows) c.in_err-made.ensures.grows

pub returns-in_err-alike-clause-grows : goal.returns-in_err-alike-clause-grows
returns-in_err-alike-clause-grows c = Extends_trans _ _ _ (Extends_trans _ _ _ (AddsTrees_extends _ _ c.in_ok-lists.ensures.grows) c.in_ok-made.ensures.grows) c.in_err-alike.ensures.grows

pub returns-clause-grows : goal.returns-clause-grows
returns-clause-grows c = Extends_trans _ _ _ (Extends_trans _ _ _ (AddsTrees_extends _ _ c.in_ok-lists.ensures.grows) c.in_ok-made.ensures.grows) c.in_ok-alike.ensures.grows

pub returns-clause-links : goal.returns-clause-links
returns-clause-links c =
    let d = c.args.draft.now in
    let d1 = c.argument_lists.new.draft in
    let d2 = c.replace_argument.new.draft in
    let d3 = c.chain.new.draft in
    let w = c.requires.after in
    let m = c.in_ok-lists.lists in
    let r = c.in_ok-made.made.right in
    let x1 = AddsTrees_extends d d1 c.in_ok-lists.ensures.grows in
    argument_link d d1 d2 d3 x1 c.in_ok-made.ensures.grows c.in_ok-alike.ensures.grows c.args.env.now c.args.symbol c.args.before.now c.args.left c.args.fresh c.args.one c.args.after c.requires.symbol_held c.requires.before_held w.pair w.places.left_held c.requires.one.place.left_held
    m.image m.list c.in_ok-lists.ensures.places c.in_ok-lists.ensures.image c.in_ok-lists.ensures.list r c.in_ok-made.ensures.pair c.in_ok-made.ensures.right_is c.in_ok-alike.alike c.in_ok-alike.ensures.shows
