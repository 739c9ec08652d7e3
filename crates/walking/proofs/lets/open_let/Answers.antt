use Rattle.std.proofs.Common.{sym, ap, subst, ◌∙◌}
use Rattle.trees.specs.Tree.{Tree, HLet}
use Rattle.trees.specs.Node.{tree_at}
use Rattle.trees.specs.Sorts.{sort_of}
use Rattle.evidence.specs.Laws.{Extends_trans, AddsTrees_extends}
use Rattle.congruence.specs.Alike.{Shows}
use Rattle.congruence.proofs.Later.{held_later, tree_later, pair_later, node_later, shows_at}
use Rattle.congruence.proofs.CaseParts.{pair_through}
use Rattle.walking.proofs.lets.open_let.Goals as goal

pub alike_value-requires-clause-pair : goal.alike_value-requires-clause-pair
alike_value-requires-clause-pair c = pair_later c.args.draft.now c.let_trees.new.draft (AddsTrees_extends c.args.draft.now c.let_trees.new.draft c.in_ok-m.ensures.grows) c.args.value c.args.other c.requires.pair

pub alike_value-requires-clause-term : goal.alike_value-requires-clause-term
alike_value-requires-clause-term c =
    ap sort_of (tree_later c.args.draft.now c.let_trees.new.draft (AddsTrees_extends c.args.draft.now c.let_trees.new.draft c.in_ok-m.ensures.grows) c.args.value c.requires.pair.left.held) ∙ c.requires.term

pub alike_value-requires-clause-left_is : goal.alike_value-requires-clause-left_is
alike_value-requires-clause-left_is c =
    node_later c.args.draft.now c.let_trees.new.draft (AddsTrees_extends c.args.draft.now c.let_trees.new.draft c.in_ok-m.ensures.grows) HLet c.args.left c.args.value c.args.body c.requires.left.held c.requires.pair.left.held c.requires.body_held c.requires.left_is

pub alike_value-requires-clause-shows : goal.alike_value-requires-clause-shows
alike_value-requires-clause-shows c =
    shows_at c.args.draft.now c.let_trees.new.draft (AddsTrees_extends c.args.draft.now c.let_trees.new.draft c.in_ok-m.ensures.grows) c.args.alike c.args.value c.args.other c.requires.pair.left.held c.requires.pair.right.held c.requires.shows

pub alike_let-requires-clause-pair : goal.alike_let-requires-clause-pair
alike_let-requires-clause-pair c = pair_later c.let_trees.new.draft c.alike_value.new.draft c.in_ok-first.ensures.grows c.in_ok-m.m.middle c.in_ok-m.m.inner c.in_ok-m.ensures.pair

pub alike_let-requires-clause-value_held : goal.alike_let-requires-clause-value_held
alike_let-requires-clause-value_held c =
    held_later c.let_trees.new.draft c.alike_value.new.draft c.in_ok-first.ensures.grows c.args.other (held_later c.args.draft.now c.let_trees.new.draft (AddsTrees_extends c.args.draft.now c.let_trees.new.draft c.in_ok-m.ensures.grows) c.args.other c.requires.pair.right.held)

pub alike_let-requires-clause-body_held : goal.alike_let-requires-clause-body_held
alike_let-requires-clause-body_held c =
    held_later c.let_trees.new.draft c.alike_value.new.draft c.in_ok-first.ensures.grows c.args.body (held_later c.args.draft.now c.let_trees.new.draft (AddsTrees_extends c.args.draft.now c.let_trees.new.draft c.in_ok-m.ensures.grows) c.args.body c.requires.body_held)

pub alike_let-requires-clause-whole_is : goal.alike_let-requires-clause-whole_is
alike_let-requires-clause-whole_is c =
    let d = c.args.draft.now in
    let d1 = c.let_trees.new.draft in
    let x = AddsTrees_extends d d1 c.in_ok-m.ensures.grows in
    node_later d1 c.alike_value.new.draft c.in_ok-first.ensures.grows HLet c.in_ok-m.m.middle c.args.other c.args.body c.in_ok-m.ensures.sides.right.held (held_later d d1 x c.args.other c.requires.pair.right.held) (held_later d d1 x c.args.body c.requires.body_held) c.in_ok-m.ensures.middle_is

pub alike_let-requires-clause-inner_is : goal.alike_let-requires-clause-inner_is
alike_let-requires-clause-inner_is c =
    let d = c.args.draft.now in
    let d1 = c.let_trees.new.draft in
    let d2 = c.alike_value.new.draft in
    let x = AddsTrees_extends d d1 c.in_ok-m.ensures.grows in
    let y = c.in_ok-first.ensures.grows in
    tree_later d1 d2 y c.in_ok-m.m.inner c.in_ok-m.ensures.pair.right.held ∙ c.in_ok-m.ensures.inner_is
    ∙ sym (cc (tree_later d1 d2 y c.args.body (held_later d d1 x c.args.body c.requires.body_held), tree_later d1 d2 y c.args.other (held_later d d1 x c.args.other c.requires.pair.right.held)))

pub chain-requires-clause-left : goal.chain-requires-clause-left
chain-requires-clause-left c =
    let d1 = c.let_trees.new.draft in
    let d2 = c.alike_value.new.draft in
    let d3 = c.alike_let.new.draft in
    pair_later d1 d3 (Extends_trans d1 d2 d3 c.in_ok-first.ensures.grows c.in_ok-second.ensures.grows) c.args.left c.in_ok-m.m.middle c.in_ok-m.ensures.sides

pub chain-requires-clause-right : goal.chain-requires-clause-right
chain-requires-clause-right c =
    let d1 = c.let_trees.new.draft in
    let d2 = c.alike_value.new.draft in
    let d3 = c.alike_let.new.draft in
    pair_later d1 d3 (Extends_trans d1 d2 d3 c.in_ok-first.ensures.grows c.in_ok-second.ensures.grows) c.in_ok-m.m.middle c.in_ok-m.m.inner c.in_ok-m.ensures.pair

pub chain-requires-clause-first : goal.chain-requires-clause-first
chain-requires-clause-first c =
    let d1 = c.let_trees.new.draft in
    let d2 = c.alike_value.new.draft in
    let d3 = c.alike_let.new.draft in
    let y = c.in_ok-first.ensures.grows in
    let s = c.in_ok-m.ensures.sides in
    shows_at d2 d3 c.in_ok-second.ensures.grows c.in_ok-first.first c.args.left c.in_ok-m.m.middle (held_later d1 d2 y c.args.left s.left.held) (held_later d1 d2 y c.in_ok-m.m.middle s.right.held) c.in_ok-first.ensures.shows

pub chain-requires-clause-second : goal.chain-requires-clause-second
chain-requires-clause-second c =
    let d1 = c.let_trees.new.draft in
    let d2 = c.alike_value.new.draft in
    let d3 = c.alike_let.new.draft in
    let y = c.in_ok-first.ensures.grows in
    let z = c.in_ok-second.ensures.grows in
    let m = c.in_ok-m.m in
    let p = c.in_ok-m.ensures.pair in
    subst (λ (t : Tree). Shows d3 c.in_ok-second.second t (tree_at d3.trees m.inner)) (sym (tree_later d2 d3 z m.middle (held_later d1 d2 y m.middle p.left.held)))
    (subst (λ (t : Tree). Shows d3 c.in_ok-second.second (tree_at d2.trees m.middle) t) (sym (tree_later d2 d3 z m.inner (held_later d1 d2 y m.inner p.right.held))) c.in_ok-second.ensures.shows)

pub returns-in_err-first-clause-grows : goal.returns-in_err-first-clause-grows
returns-in_err-first-clause-grows c = Extends_trans _ _ _ (AddsTrees_extends _ _ c.in_ok-m.ensures.grows) c.in_err-first.ensures.grows

pub returns-in_err-second-clause-grows : goal.returns-in_err-second-clause-grows
returns-in_err-second-clause-grows c = Extends_trans _ _ _ (Extends_trans _ _ _ (AddsTrees_extends _ _ c.in_ok-m.ensures.grows) c.in_ok-first.ensures.grows) c.in_err-second.ensures.grows

pub returns-in_err-made-clause-grows : goal.returns-in_err-made-clause-grows
returns-in_err-made-clause-grows c = Extends_trans _ _ _ (Extends_trans _ _ _ (Extends_trans _ _ _ (AddsTrees_extends _ _ c.in_ok-m.ensures.grows) c.in_ok-first.ensures.grows) c.in_ok-second.ensures.grows) c.in_err-made.ensures.grows

pub returns-clause-grows : goal.returns-clause-grows
returns-clause-grows c = Extends_trans _ _ _ (Extends_trans _ _ _ (Extends_trans _ _ _ (AddsTrees_extends _ _ c.in_ok-m.ensures.grows) c.in_ok-first.ensures.grows) c.in_ok-second.ensures.grows) c.in_ok-made.ensures.grows

pub returns-clause-pair : goal.returns-clause-pair
returns-clause-pair c =
    let d1 = c.let_trees.new.draft in
    let d2 = c.alike_value.new.draft in
    let d3 = c.alike_let.new.draft in
    let d4 = c.chain.new.draft in
    let m = c.in_ok-m.m in
    pair_later d1 d4 (Extends_trans d1 d3 d4 (Extends_trans d1 d2 d3 c.in_ok-first.ensures.grows c.in_ok-second.ensures.grows) c.in_ok-made.ensures.grows) c.args.left m.inner (pair_through d1 c.args.left m.middle m.inner c.in_ok-m.ensures.sides c.in_ok-m.ensures.pair)

pub returns-clause-inner_is : goal.returns-clause-inner_is
returns-clause-inner_is c =
    let d = c.args.draft.now in
    let d1 = c.let_trees.new.draft in
    let d2 = c.alike_value.new.draft in
    let d3 = c.alike_let.new.draft in
    let d4 = c.chain.new.draft in
    let x = AddsTrees_extends d d1 c.in_ok-m.ensures.grows in
    let m = c.in_ok-m.m in
    tree_later d1 d4 (Extends_trans d1 d3 d4 (Extends_trans d1 d2 d3 c.in_ok-first.ensures.grows c.in_ok-second.ensures.grows) c.in_ok-made.ensures.grows) m.inner c.in_ok-m.ensures.pair.right.held ∙ c.in_ok-m.ensures.inner_is
    ∙ cc (tree_later d d1 x c.args.body c.requires.body_held, tree_later d d1 x c.args.other c.requires.pair.right.held)

pub returns-clause-shows : goal.returns-clause-shows
returns-clause-shows c =
    let d = c.args.draft.now in
    let d1 = c.let_trees.new.draft in
    let d2 = c.alike_value.new.draft in
    let d3 = c.alike_let.new.draft in
    let d4 = c.chain.new.draft in
    let m = c.in_ok-m.m in
    let x = AddsTrees_extends d d1 c.in_ok-m.ensures.grows in
    let y = Extends_trans d1 d2 d3 c.in_ok-first.ensures.grows c.in_ok-second.ensures.grows in
    let i = held_later d1 d3 y m.inner c.in_ok-m.ensures.pair.right.held in
    subst (λ (t : Tree). Shows d4 c.in_ok-made.made t (tree_at d4.trees m.inner)) (tree_later d d3 (Extends_trans d d1 d3 x y) c.args.left c.requires.left.held)
    (subst (λ (t : Tree). Shows d4 c.in_ok-made.made (tree_at d3.trees c.args.left) t) (sym (tree_later d3 d4 c.in_ok-made.ensures.grows m.inner i)) c.in_ok-made.ensures.shows)
