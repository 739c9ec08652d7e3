use Rattle.std.proofs.Common.{◌≡◌, List, sym, subst, ◌∙◌, arith}
use Rattle.trees.specs.Tree.{Tree, Two, HLet}
use Rattle.trees.specs.Node.{tree_at, Holds}
use Rattle.evidence.specs.Laws.{Extends_trans}
use Rattle.congruence.specs.Alike.{Shows}
use Rattle.congruence.proofs.Later.{held_later, tree_later, pair_later, shows_later}
use Rattle.agreement.proofs.AnswerParts.{let_is, let_right}
use Rattle.agreement.proofs.OpenedParts.{value_pair}
use Rattle.agreement.proofs.QuestionsLater.{link_later}
use Rattle.agreement.proofs.ShownSince.{shown_since}
use Rattle.agreement.proofs.answers.answer_let.Goals as goal

pub alike_let-requires-clause-pair : goal.alike_let-requires-clause-pair
alike_let-requires-clause-pair c =
    let d = c.args.draft.now in
    let m = let_is d.task c.args.q.number (tree_at d.trees c.args.q.left) (tree_at d.trees c.args.q.right) (tree_at d.trees c.args.v) (tree_at d.trees c.args.a) (tree_at d.trees c.args.part.left) (tree_at d.trees c.args.part.right) c.requires.left c.requires.parts in
    value_pair d c.args.q.left c.args.part.left _ _ c.requires.asked.pair.left c.requires.left c.requires.part.pair.left m.0

pub alike_let-requires-in-Let-clause-pair : goal.alike_let-requires-in-Let-clause-pair
alike_let-requires-in-Let-clause-pair c =
    let d = c.args.draft.now in
    let d1 = c.alike_let.new.draft in
    let q = c.args.q in
    let w = c.in-Let.w in
    let b = c.in-Let.b in
    let e : tree_at d.trees q.right ≡ Two HLet (tree_at d.trees w) (tree_at d.trees b) = subst (λ (s : List Tree). tree_at s q.right ≡ Two HLet (tree_at s w) (tree_at s b)) c.store.ensures c.in-Let.ensures.tree in
    let m = let_right d.task q.number (tree_at d.trees q.left) (tree_at d.trees q.right) (tree_at d.trees c.args.v) (tree_at d.trees c.args.a) (tree_at d.trees w) (tree_at d.trees b) (tree_at d.trees c.args.part.left) (tree_at d.trees c.args.part.right) c.requires.left e c.requires.parts in
    pair_later d d1 c.in_ok-left-in-Let.ensures.grows q.right c.args.part.right (value_pair d q.right c.args.part.right _ _ c.requires.asked.pair.right e c.requires.part.pair.right m)

pub returns-in_err-right-in-Let-clause-grows : goal.returns-in_err-right-in-Let-clause-grows
returns-in_err-right-in-Let-clause-grows c = Extends_trans _ _ _ c.in_ok-left-in-Let.ensures.grows c.in_err-right-in-Let.ensures.grows

pub through-requires-clause-left_pair : goal.through-requires-clause-left_pair
through-requires-clause-left_pair c =
    let d = c.args.draft.now in
    let m = let_is d.task c.args.q.number (tree_at d.trees c.args.q.left) (tree_at d.trees c.args.q.right) (tree_at d.trees c.args.v) (tree_at d.trees c.args.a) (tree_at d.trees c.args.part.left) (tree_at d.trees c.args.part.right) c.requires.left c.requires.parts in
    pair_later d c.alike_let-in-Let.new.draft (Extends_trans _ _ _ c.in_ok-left-in-Let.ensures.grows c.in_ok-right-in-Let.ensures.grows) c.args.q.left c.args.part.left
    (value_pair d c.args.q.left c.args.part.left _ _ c.requires.asked.pair.left c.requires.left c.requires.part.pair.left m.0)

pub through-requires-clause-right_pair : goal.through-requires-clause-right_pair
through-requires-clause-right_pair c =
    let d = c.args.draft.now in
    let d1 = c.alike_let.new.draft in
    let q = c.args.q in
    let w = c.in-Let.w in
    let b = c.in-Let.b in
    let e : tree_at d.trees q.right ≡ Two HLet (tree_at d.trees w) (tree_at d.trees b) = subst (λ (s : List Tree). tree_at s q.right ≡ Two HLet (tree_at s w) (tree_at s b)) c.store.ensures c.in-Let.ensures.tree in
    let m = let_right d.task q.number (tree_at d.trees q.left) (tree_at d.trees q.right) (tree_at d.trees c.args.v) (tree_at d.trees c.args.a) (tree_at d.trees w) (tree_at d.trees b) (tree_at d.trees c.args.part.left) (tree_at d.trees c.args.part.right) c.requires.left e c.requires.parts in
    pair_later d1 c.alike_let-in-Let.new.draft c.in_ok-right-in-Let.ensures.grows q.right c.args.part.right (pair_later d d1 c.in_ok-left-in-Let.ensures.grows q.right c.args.part.right (value_pair d q.right c.args.part.right _ _ c.requires.asked.pair.right e c.requires.part.pair.right m))

pub through-requires-clause-part : goal.through-requires-clause-part
through-requires-clause-part c = link_later c.args.draft.now c.alike_let-in-Let.new.draft (Extends_trans _ _ _ c.in_ok-left-in-Let.ensures.grows c.in_ok-right-in-Let.ensures.grows) c.args.part c.requires.part

pub through-requires-clause-left : goal.through-requires-clause-left
through-requires-clause-left c =
    let d = c.args.draft.now in
    let d1 = c.alike_let.new.draft in
    let d2 = c.alike_let-in-Let.new.draft in
    let y = c.in_ok-right-in-Let.ensures.grows in
    let x = Extends_trans d d1 d2 c.in_ok-left-in-Let.ensures.grows y in
    let left = c.in_ok-left-in-Let.left in
    let s = shows_later d1 d2 y left _ _ c.in_ok-left-in-Let.ensures.shows in
    subst (λ (z : Tree). Shows d2 left z (tree_at d2.trees c.args.part.left)) (sym (tree_later d d2 x c.args.q.left c.requires.asked.pair.left.held))
    (subst (λ (z : Tree). Shows d2 left (tree_at d.trees c.args.q.left) z) (sym (tree_later d d2 x c.args.part.left c.requires.part.pair.left.held)) s)

pub alike_let-requires-clause-value_held : goal.alike_let-requires-clause-value_held
alike_let-requires-clause-value_held c = c.requires.v_held

pub alike_let-requires-clause-body_held : goal.alike_let-requires-clause-body_held
alike_let-requires-clause-body_held c = c.requires.a_held

pub alike_let-requires-clause-whole_is : goal.alike_let-requires-clause-whole_is
alike_let-requires-clause-whole_is c = c.requires.left

pub alike_let-requires-clause-inner_is : goal.alike_let-requires-clause-inner_is
alike_let-requires-clause-inner_is c = (let_is c.args.draft.now.task c.args.q.number (tree_at c.args.draft.now.trees c.args.q.left) (tree_at c.args.draft.now.trees c.args.q.right) (tree_at c.args.draft.now.trees c.args.v) (tree_at c.args.draft.now.trees c.args.a) (tree_at c.args.draft.now.trees c.args.part.left) (tree_at c.args.draft.now.trees c.args.part.right) c.requires.left c.requires.parts).0

pub alike_let-requires-in-Let-clause-value_held : goal.alike_let-requires-in-Let-clause-value_held
alike_let-requires-in-Let-clause-value_held c =
    let d = c.args.draft.now in
    let d1 = c.alike_let.new.draft in
    let x = c.in_ok-left-in-Let.ensures.grows in
    let w = c.in-Let.w in
    let hw : Holds d.trees w = omega (arith, c.in-Let.ensures.below.0, c.requires.asked.pair.right.held) in
    held_later d d1 x w hw

pub alike_let-requires-in-Let-clause-body_held : goal.alike_let-requires-in-Let-clause-body_held
alike_let-requires-in-Let-clause-body_held c =
    let d = c.args.draft.now in
    let d1 = c.alike_let.new.draft in
    let x = c.in_ok-left-in-Let.ensures.grows in
    let b = c.in-Let.b in
    let hb : Holds d.trees b = omega (arith, c.in-Let.ensures.below.1, c.requires.asked.pair.right.held) in
    held_later d d1 x b hb

pub alike_let-requires-in-Let-clause-whole_is : goal.alike_let-requires-in-Let-clause-whole_is
alike_let-requires-in-Let-clause-whole_is c =
    let d = c.args.draft.now in
    let d1 = c.alike_let.new.draft in
    let x = c.in_ok-left-in-Let.ensures.grows in
    let q = c.args.q in
    let w = c.in-Let.w in
    let b = c.in-Let.b in
    let hw : Holds d.trees w = omega (arith, c.in-Let.ensures.below.0, c.requires.asked.pair.right.held) in
    let hb : Holds d.trees b = omega (arith, c.in-Let.ensures.below.1, c.requires.asked.pair.right.held) in
    let e : tree_at d.trees q.right ≡ Two HLet (tree_at d.trees w) (tree_at d.trees b) = subst (λ (s : List Tree). tree_at s q.right ≡ Two HLet (tree_at s w) (tree_at s b)) c.store.ensures c.in-Let.ensures.tree in
    tree_later d d1 x q.right c.requires.asked.pair.right.held ∙ e ∙ cc (tree_later d d1 x w hw, tree_later d d1 x b hb)

pub alike_let-requires-in-Let-clause-inner_is : goal.alike_let-requires-in-Let-clause-inner_is
alike_let-requires-in-Let-clause-inner_is c =
    let d = c.args.draft.now in
    let d1 = c.alike_let.new.draft in
    let x = c.in_ok-left-in-Let.ensures.grows in
    let q = c.args.q in
    let w = c.in-Let.w in
    let b = c.in-Let.b in
    let hw : Holds d.trees w = omega (arith, c.in-Let.ensures.below.0, c.requires.asked.pair.right.held) in
    let hb : Holds d.trees b = omega (arith, c.in-Let.ensures.below.1, c.requires.asked.pair.right.held) in
    let e : tree_at d.trees q.right ≡ Two HLet (tree_at d.trees w) (tree_at d.trees b) = subst (λ (s : List Tree). tree_at s q.right ≡ Two HLet (tree_at s w) (tree_at s b)) c.store.ensures c.in-Let.ensures.tree in
    let m = let_right d.task q.number (tree_at d.trees q.left) (tree_at d.trees q.right) (tree_at d.trees c.args.v) (tree_at d.trees c.args.a) (tree_at d.trees w) (tree_at d.trees b) (tree_at d.trees c.args.part.left) (tree_at d.trees c.args.part.right) c.requires.left e c.requires.parts in
    tree_later d d1 x c.args.part.right c.requires.part.pair.right.held ∙ m ∙ cc (tree_later d d1 x w hw, tree_later d d1 x b hb)

pub through-requires-clause-sides : goal.through-requires-clause-sides
through-requires-clause-sides c = pair_later c.args.draft.now c.alike_let-in-Let.new.draft (Extends_trans c.args.draft.now c.alike_let.new.draft c.alike_let-in-Let.new.draft c.in_ok-left-in-Let.ensures.grows c.in_ok-right-in-Let.ensures.grows) c.args.q.left c.args.q.right c.requires.asked.pair

pub through-requires-clause-right : goal.through-requires-clause-right
through-requires-clause-right c =
    let d = c.args.draft.now in
    let d1 = c.alike_let.new.draft in
    let d2 = c.alike_let-in-Let.new.draft in
    let x = c.in_ok-left-in-Let.ensures.grows in
    let y = c.in_ok-right-in-Let.ensures.grows in
    let hq = held_later d d1 x c.args.q.right c.requires.asked.pair.right.held in
    let hp = held_later d d1 x c.args.part.right c.requires.part.pair.right.held in
    subst (λ (z : Tree). Shows d2 c.in_ok-right-in-Let.right z (tree_at d2.trees c.args.part.right)) (sym (tree_later d1 d2 y c.args.q.right hq))
    (subst (λ (z : Tree). Shows d2 c.in_ok-right-in-Let.right (tree_at d1.trees c.args.q.right) z) (sym (tree_later d1 d2 y c.args.part.right hp)) c.in_ok-right-in-Let.ensures.shows)

pub returns-clause-grows : goal.returns-clause-grows
returns-clause-grows c = Extends_trans _ _ _ (Extends_trans _ _ _ c.in_ok-left-in-Let.ensures.grows c.in_ok-right-in-Let.ensures.grows) c.through.ensures.grows

pub returns-clause-shows : goal.returns-clause-shows
returns-clause-shows c = shown_since c.through.result c.args.draft.now c.alike_let-in-Let.new.draft c.through.new.draft (Extends_trans _ _ _ c.in_ok-left-in-Let.ensures.grows c.in_ok-right-in-Let.ensures.grows) c.args.q.left c.args.q.right c.requires.asked.pair c.through.ensures.shows
