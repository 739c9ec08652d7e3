use Rattle.std.proofs.Common.{◌≡◌, List, All, length, refl, ap, sym, subst, ◌∙◌, arith}
use Rattle.trees.specs.declared.TermId.{TermId}
use Rattle.trees.specs.Tree.{Tree, Two, HCell}
use Rattle.trees.specs.Node.{tree_at, trees_at, Holds}
use Rattle.images.specs.Templates.{listed}
use Rattle.congruence.specs.Applications.{applied}
use Rattle.evidence.specs.Laws.{Extends_trans}
use Rattle.congruence.specs.Alike.{Shows}
use Rattle.congruence.proofs.Later.{tree_later, pair_later, shows_at}
use Rattle.congruence.proofs.CaseParts.{pair_through}
use Rattle.agreement.proofs.LinkCounts.{no_links}
use Rattle.agreement.proofs.MemberAnswers.{link, list_cell, other_cell, left_is, argument_term, go_on, right_after, none_left}
use Rattle.agreement.proofs.members.+replace_members.Goals as goal

pub member_parts-one-requires-clause-cell : goal.member_parts-one-requires-clause-cell
member_parts-one-requires-clause-cell t c = list_cell c.args.draft.now c.args.symbol c.args.before.now.items c.args.left c.args.list c.args.other c.in-Some.link.now c.in-Some.others.now c.args.links.now c.in-Some.ensures.cases.0 c.requires.can

pub member_parts-two-requires-clause-cell : goal.member_parts-two-requires-clause-cell
member_parts-two-requires-clause-cell t c = other_cell c.args.draft.now c.args.symbol c.args.before.now.items c.args.left c.args.list c.args.other c.in-Some.link.now c.in-Some.others.now c.args.links.now c.in-Some.ensures.cases.0 c.requires.can

pub replace_argument-requires-clause-pair : goal.replace_argument-requires-clause-pair
replace_argument-requires-clause-pair t c = (link c.args.draft.now c.args.symbol c.args.before.now.items c.args.left c.args.list c.args.other c.in-Some.link.now c.in-Some.others.now c.args.links.now c.in-Some.ensures.cases.0 c.requires.can).pair

pub replace_argument-requires-clause-term : goal.replace_argument-requires-clause-term
replace_argument-requires-clause-term t c = argument_term c.args.draft.now c.args.symbol c.args.before.now.items c.args.left c.args.list c.args.other c.in-Some.link.now c.in-Some.others.now c.args.links.now c.in-Some.ensures.cases.0 c.requires.can c.member_parts-one.result.first c.member_parts-one.result.others c.member_parts-two.result.first c.member_parts-two.result.others c.member_parts-one.ensures.tree c.member_parts-two.ensures.tree c.member_parts-one.ensures.others_held c.member_parts-two.ensures.others_held

pub replace_argument-requires-clause-left_is : goal.replace_argument-requires-clause-left_is
replace_argument-requires-clause-left_is t c =
    let d = c.args.draft.now in
    let m = Two HCell (tree_at d.trees c.in-Some.link.now.left) (tree_at d.trees c.member_parts-one.result.others) in
    subst (λ (z : List TermId). tree_at d.trees c.args.left ≡ applied d.trees c.args.symbol (listed (trees_at d.trees z) m)) (sym c.deref.ensures.value) (left_is c.args.draft.now c.args.symbol c.args.before.now.items c.args.left c.args.list c.args.other c.in-Some.link.now c.in-Some.others.now c.args.links.now c.in-Some.ensures.cases.0 c.requires.can c.member_parts-one.result.first c.member_parts-one.result.others c.member_parts-two.result.first c.member_parts-two.result.others c.member_parts-one.ensures.tree c.member_parts-two.ensures.tree c.member_parts-one.ensures.others_held c.member_parts-two.ensures.others_held)

pub replace_argument-requires-clause-shows : goal.replace_argument-requires-clause-shows
replace_argument-requires-clause-shows t c = (link c.args.draft.now c.args.symbol c.args.before.now.items c.args.left c.args.list c.args.other c.in-Some.link.now c.in-Some.others.now c.args.links.now c.in-Some.ensures.cases.0 c.requires.can).shows

pub replace_members-requires : goal.replace_members-requires
replace_members-requires t c =
    let e = c.in_ok-made-in-Some.ensures in
    let less = ap length c.in-Some.ensures.cases.0 in
    let d = c.args.draft.now in
    let m = Two HCell (tree_at d.trees c.in-Some.link.now.right) (tree_at d.trees c.member_parts-one.result.others) in
    (omega (arith, less), go_on c.args.draft.now c.args.symbol c.args.before.now.items c.args.left c.args.list c.args.other c.in-Some.link.now c.in-Some.others.now c.args.links.now c.in-Some.ensures.cases.0 c.requires.can c.member_parts-one.result.first c.member_parts-one.result.others c.member_parts-two.result.first c.member_parts-two.result.others c.member_parts-one.ensures.tree c.member_parts-two.ensures.tree c.member_parts-one.ensures.others_held c.member_parts-two.ensures.others_held c.replace_argument.new.draft e.grows c.push.new.self.items c.in_ok-push-in-Some.ensures.items c.in_ok-made-in-Some.made.right e.pair (subst (λ (z : List TermId). tree_at c.replace_argument.new.draft.trees c.in_ok-made-in-Some.made.right ≡ applied d.trees c.args.symbol (listed (trees_at d.trees z) m)) c.deref.ensures.value e.right_is))

pub chain-requires-clause-left : goal.chain-requires-clause-left
chain-requires-clause-left t c = pair_later c.replace_argument.new.draft c.replace_members.new.draft c.in_ok-more-in-Some.ensures.grows c.args.left c.in_ok-made-in-Some.made.right c.in_ok-made-in-Some.ensures.pair

pub chain-requires-clause-first : goal.chain-requires-clause-first
chain-requires-clause-first t c =
    let d = c.args.draft.now in
    let d1 = c.replace_argument.new.draft in
    let d2 = c.replace_members.new.draft in
    let e = c.in_ok-made-in-Some.ensures in
    let w = c.in_ok-made-in-Some.made.alike in
    let s : Shows d1 w (tree_at d1.trees c.args.left) (tree_at d1.trees c.in_ok-made-in-Some.made.right) = subst (λ (z : Tree). Shows d1 w z (tree_at d1.trees c.in_ok-made-in-Some.made.right)) (sym (tree_later d d1 e.grows c.args.left c.requires.can.whole.held)) e.shows in
    shows_at d1 d2 c.in_ok-more-in-Some.ensures.grows w c.args.left c.in_ok-made-in-Some.made.right e.pair.left.held e.pair.right.held s

pub chain-requires-clause-second : goal.chain-requires-clause-second
chain-requires-clause-second t c =
    let d1 = c.replace_argument.new.draft in
    let d2 = c.replace_members.new.draft in
    let r = c.in_ok-made-in-Some.made.right in
    let e = c.in_ok-more-in-Some.ensures in
    subst (λ (z : Tree). Shows d2 c.in_ok-more-in-Some.more.alike z (tree_at d2.trees c.in_ok-more-in-Some.more.right)) (sym (tree_later d1 d2 e.grows r c.in_ok-made-in-Some.ensures.pair.right.held)) e.shows

pub returns-in_ok-alike-in-Some-clause-pair : goal.returns-in_ok-alike-in-Some-clause-pair
returns-in_ok-alike-in-Some-clause-pair t c =
    let d1 = c.replace_argument.new.draft in
    let d2 = c.replace_members.new.draft in
    let d3 = c.chain.new.draft in
    let l = c.args.left in
    let m = c.in_ok-made-in-Some.made.right in
    let r = c.in_ok-more-in-Some.more.right in
    let e = c.in_ok-more-in-Some.ensures in
    pair_later d2 d3 c.in_ok-alike-in-Some.ensures.grows l r (pair_through d2 l m r (pair_later d1 d2 e.grows l m c.in_ok-made-in-Some.ensures.pair) e.pair)

pub returns-in_ok-alike-in-Some-clause-right_is : goal.returns-in_ok-alike-in-Some-clause-right_is
returns-in_ok-alike-in-Some-clause-right_is t c =
    let d1 = c.replace_argument.new.draft in
    let d2 = c.replace_members.new.draft in
    let d3 = c.chain.new.draft in
    let r = c.in_ok-more-in-Some.more.right in
    let e = c.in_ok-more-in-Some.ensures in
    right_after c.args.draft.now c.args.symbol c.args.before.now.items c.args.left c.args.list c.args.other c.in-Some.link.now c.in-Some.others.now c.args.links.now c.in-Some.ensures.cases.0 c.requires.can c.member_parts-one.result.first c.member_parts-one.result.others c.member_parts-two.result.first c.member_parts-two.result.others c.member_parts-one.ensures.tree c.member_parts-two.ensures.tree c.member_parts-one.ensures.others_held c.member_parts-two.ensures.others_held d1 c.in_ok-made-in-Some.ensures.grows c.push.new.self.items c.in_ok-push-in-Some.ensures.items (tree_at d3.trees r) (tree_later d2 d3 c.in_ok-alike-in-Some.ensures.grows r e.pair.right.held ∙ e.right_is)

pub returns-in_ok-alike-in-Some-clause-shows : goal.returns-in_ok-alike-in-Some-clause-shows
returns-in_ok-alike-in-Some-clause-shows t c =
    let d = c.args.draft.now in
    let d1 = c.replace_argument.new.draft in
    let d2 = c.replace_members.new.draft in
    let d3 = c.chain.new.draft in
    let l = c.args.left in
    let r = c.in_ok-more-in-Some.more.right in
    let w = c.in_ok-alike-in-Some.alike in
    let x = Extends_trans d d1 d2 c.in_ok-made-in-Some.ensures.grows c.in_ok-more-in-Some.ensures.grows in
    subst (λ (z : Tree). Shows d3 w z (tree_at d3.trees r)) (tree_later d d2 x l c.requires.can.whole.held) (subst (Shows d3 w (tree_at d2.trees l)) (sym (tree_later d2 d3 c.in_ok-alike-in-Some.ensures.grows r c.in_ok-more-in-Some.ensures.pair.right.held)) c.in_ok-alike-in-Some.ensures.shows)

pub returns-in_ok-alike-in-Some-clause-grows : goal.returns-in_ok-alike-in-Some-clause-grows
returns-in_ok-alike-in-Some-clause-grows t c = Extends_trans _ _ _ (Extends_trans _ _ _ c.in_ok-made-in-Some.ensures.grows c.in_ok-more-in-Some.ensures.grows) c.in_ok-alike-in-Some.ensures.grows

pub returns-in_err-more-in-Some-clause-grows : goal.returns-in_err-more-in-Some-clause-grows
returns-in_err-more-in-Some-clause-grows t c = Extends_trans _ _ _ c.in_ok-made-in-Some.ensures.grows c.in_err-more-in-Some.ensures.grows

pub returns-in_err-alike-in-Some-clause-grows : goal.returns-in_err-alike-in-Some-clause-grows
returns-in_err-alike-in-Some-clause-grows t c = Extends_trans _ _ _ (Extends_trans _ _ _ c.in_ok-made-in-Some.ensures.grows c.in_ok-more-in-Some.ensures.grows) c.in_err-alike-in-Some.ensures.grows

pub returns-in-None-clause-right_is : goal.returns-in-None-clause-right_is
returns-in-None-clause-right_is t c = none_left c.args.draft.now c.args.symbol c.args.before.now.items c.args.left c.args.list c.args.other c.args.links.now (no_links c.args.links.now c.in-None.ensures.cases) c.requires.can

pub replace_argument-requires-clause-left : goal.replace_argument-requires-clause-left
replace_argument-requires-clause-left t c = c.requires.can.whole

pub replace_argument-requires-clause-symbol_held : goal.replace_argument-requires-clause-symbol_held
replace_argument-requires-clause-symbol_held t c = c.requires.can.symbol_held

pub replace_argument-requires-clause-before_held : goal.replace_argument-requires-clause-before_held
replace_argument-requires-clause-before_held t c = subst (All (Holds c.args.draft.now.trees)) (sym c.deref.ensures.value) c.requires.can.before_held

pub replace_argument-requires-clause-rest_held : goal.replace_argument-requires-clause-rest_held
replace_argument-requires-clause-rest_held t c = c.member_parts-one.ensures.others_held

pub chain-requires-clause-right : goal.chain-requires-clause-right
chain-requires-clause-right t c = c.in_ok-more-in-Some.ensures.pair

pub returns-in-None-clause-pair : goal.returns-in-None-clause-pair
returns-in-None-clause-pair t c = record { left = c.requires.can.whole; right = c.requires.can.whole; sort = refl; type = refl }
