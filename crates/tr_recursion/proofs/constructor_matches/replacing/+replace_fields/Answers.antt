use Rattle.std.proofs.Common.{◌≡◌, ◌∷◌, ◌++◌, List, length, refl, ap, sym, subst, ◌∙◌, arith}
use Rattle.trees.specs.declared.TermId.{TermId}
use Rattle.trees.specs.Tree.{Tree}
use Rattle.trees.specs.Node.{tree_at, trees_at}
use Rattle.evidence.specs.Laws.{Extends_trans}
use Rattle.congruence.specs.Alike.{Shows}
use Rattle.congruence.proofs.Later.{tree_later, pair_later, shows_at}
use Rattle.congruence.proofs.CaseParts.{pair_through}
use Rattle.tr_recursion.specs.constructor_matches.Places.{with_terms, CanReplaceProjections, CanReplaceOne}
use Rattle.tr_recursion.proofs.constructor_matches.Replaced.{field_pair, no_fields, first_pair, one_can, go_on, right_after, others_given, none_left}
use Rattle.tr_recursion.proofs.constructor_matches.replacing.+replace_fields.Goals as goal

pub split_fields-requires : goal.split_fields-requires
split_fields-requires t c = λ e.
    no_fields c.args.draft.now c.args.around c.args.before.now.items c.args.left c.in-Some.term.now c.in-Some.others.now c.args.terms.now c.in-Some.ensures.cases.0
    (subst (λ (z : List TermId). CanReplaceProjections c.args.draft.now c.args.around c.args.before.now.items c.args.left c.args.terms.now z) e c.requires.can)

pub alike_field-requires-clause-pair : goal.alike_field-requires-clause-pair
alike_field-requires-clause-pair t c =
    let d = c.args.draft.now in
    let p = first_pair d c.args.around c.args.before.now.items c.args.left c.in-Some.term.now c.in-Some.others.now c.args.terms.now c.in-Some.ensures.cases.0 c.split_fields.result.0 c.split_fields.result.1.now c.args.fields.now c.split_fields.ensures c.requires.can in
    field_pair d c.in-Some.term.now c.split_fields.result.0 p

pub alike_field-requires-clause-term : goal.alike_field-requires-clause-term
alike_field-requires-clause-term t c =
    let d = c.args.draft.now in
    (first_pair d c.args.around c.args.before.now.items c.args.left c.in-Some.term.now c.in-Some.others.now c.args.terms.now c.in-Some.ensures.cases.0 c.split_fields.result.0 c.split_fields.result.1.now c.args.fields.now c.split_fields.ensures c.requires.can).field.term

pub alike_field-requires-clause-is : goal.alike_field-requires-clause-is
alike_field-requires-clause-is t c =
    let d = c.args.draft.now in
    (first_pair d c.args.around c.args.before.now.items c.args.left c.in-Some.term.now c.in-Some.others.now c.args.terms.now c.in-Some.ensures.cases.0 c.split_fields.result.0 c.split_fields.result.1.now c.args.fields.now c.split_fields.ensures c.requires.can).field.field

pub replace_one-requires-clause-can : goal.replace_one-requires-clause-can
replace_one-requires-clause-can t c =
    let d = c.args.draft.now in
    let d1 = c.alike_field.new.draft in
    subst (λ (z : List TermId). CanReplaceOne d1 c.args.around z c.args.left c.in-Some.term.now c.split_fields.result.0 c.in-Some.others.now) (sym c.deref.ensures.value)
    (one_can d c.args.around c.args.before.now.items c.args.left c.in-Some.term.now c.in-Some.others.now c.args.terms.now c.in-Some.ensures.cases.0 c.split_fields.result.0 c.split_fields.result.1.now c.args.fields.now c.split_fields.ensures c.requires.can d1 c.in_ok-link-in-Some.ensures.grows)

pub replace_one-requires-clause-shows : goal.replace_one-requires-clause-shows
replace_one-requires-clause-shows t c =
    let d = c.args.draft.now in
    let d1 = c.alike_field.new.draft in
    let x = c.in_ok-link-in-Some.ensures.grows in
    let p = first_pair d c.args.around c.args.before.now.items c.args.left c.in-Some.term.now c.in-Some.others.now c.args.terms.now c.in-Some.ensures.cases.0 c.split_fields.result.0 c.split_fields.result.1.now c.args.fields.now c.split_fields.ensures c.requires.can in
    subst (λ (z : Tree). Shows d1 c.in_ok-link-in-Some.link z (tree_at d1.trees c.split_fields.result.0)) (sym (tree_later d d1 x c.in-Some.term.now p.projected))
    (subst (λ (z : Tree). Shows d1 c.in_ok-link-in-Some.link (tree_at d.trees c.in-Some.term.now) z) (sym (tree_later d d1 x c.split_fields.result.0 p.given)) c.in_ok-link-in-Some.ensures.shows)

pub replace_fields-requires : goal.replace_fields-requires
replace_fields-requires t c =
    let d = c.args.draft.now in
    let d1 = c.alike_field.new.draft in
    let d2 = c.replace_one.new.draft in
    let x = c.in_ok-link-in-Some.ensures.grows in
    let y = c.in_ok-made-in-Some.ensures.grows in
    let e = c.in_ok-made-in-Some.ensures in
    let less = ap length c.in-Some.ensures.cases.0 in
    let q : tree_at d2.trees c.in_ok-made-in-Some.made.right ≡ with_terms d1.trees c.args.around (trees_at d1.trees c.args.before.now.items ++ tree_at d1.trees c.split_fields.result.0 ∷ trees_at d1.trees c.in-Some.others.now) =
    subst (λ (z : List TermId). tree_at d2.trees c.in_ok-made-in-Some.made.right ≡ with_terms d1.trees c.args.around (trees_at d1.trees z ++ tree_at d1.trees c.split_fields.result.0 ∷ trees_at d1.trees c.in-Some.others.now)) c.deref.ensures.value e.right_is in (
      omega (arith, less),
      go_on d c.args.around c.args.before.now.items c.args.left c.in-Some.term.now c.in-Some.others.now c.args.terms.now c.in-Some.ensures.cases.0 c.split_fields.result.0 c.split_fields.result.1.now c.args.fields.now c.split_fields.ensures c.requires.can d1 x d2 y (Extends_trans d d1 d2 x y)
          c.in_ok-made-in-Some.made.right e.pair q c.push.new.self.items c.in_ok-push-in-Some.ensures.items,
    )

pub chain-requires-clause-left : goal.chain-requires-clause-left
chain-requires-clause-left t c = pair_later c.replace_one.new.draft c.replace_fields.new.draft c.in_ok-more-in-Some.ensures.grows c.args.left c.in_ok-made-in-Some.made.right c.in_ok-made-in-Some.ensures.pair

pub chain-requires-clause-first : goal.chain-requires-clause-first
chain-requires-clause-first t c =
    let d1 = c.alike_field.new.draft in
    let d2 = c.replace_one.new.draft in
    let d3 = c.replace_fields.new.draft in
    let e = c.in_ok-made-in-Some.ensures in
    let w = c.in_ok-made-in-Some.made.alike in
    let l = (pair_later c.args.draft.now d1 c.in_ok-link-in-Some.ensures.grows c.args.left c.args.left (record { left = c.requires.can.whole; right = c.requires.can.whole; sort = refl; type = refl })).left.held in
    let s : Shows d2 w (tree_at d2.trees c.args.left) (tree_at d2.trees c.in_ok-made-in-Some.made.right) = subst (λ (z : Tree). Shows d2 w z (tree_at d2.trees c.in_ok-made-in-Some.made.right)) (sym (tree_later d1 d2 e.grows c.args.left l)) e.shows in
    shows_at d2 d3 c.in_ok-more-in-Some.ensures.grows w c.args.left c.in_ok-made-in-Some.made.right e.pair.left.held e.pair.right.held s

pub chain-requires-clause-second : goal.chain-requires-clause-second
chain-requires-clause-second t c =
    let d2 = c.replace_one.new.draft in
    let d3 = c.replace_fields.new.draft in
    let e = c.in_ok-more-in-Some.ensures in
    subst (λ (z : Tree). Shows d3 c.in_ok-more-in-Some.more.alike z (tree_at d3.trees c.in_ok-more-in-Some.more.right)) (sym (tree_later d2 d3 e.grows c.in_ok-made-in-Some.made.right c.in_ok-made-in-Some.ensures.pair.right.held)) e.shows

pub returns-in_ok-alike-in-Some-clause-pair : goal.returns-in_ok-alike-in-Some-clause-pair
returns-in_ok-alike-in-Some-clause-pair t c =
    let d2 = c.replace_one.new.draft in
    let d3 = c.replace_fields.new.draft in
    let l = c.args.left in
    let m = c.in_ok-made-in-Some.made.right in
    let r = c.in_ok-more-in-Some.more.right in
    let e = c.in_ok-more-in-Some.ensures in
    pair_later d3 c.chain.new.draft c.in_ok-alike-in-Some.ensures.grows l r (pair_through d3 l m r (pair_later d2 d3 e.grows l m c.in_ok-made-in-Some.ensures.pair) e.pair)

pub returns-in_ok-alike-in-Some-clause-right_is : goal.returns-in_ok-alike-in-Some-clause-right_is
returns-in_ok-alike-in-Some-clause-right_is t c =
    let d = c.args.draft.now in
    let d1 = c.alike_field.new.draft in
    let d2 = c.replace_one.new.draft in
    let d3 = c.replace_fields.new.draft in
    let d4 = c.chain.new.draft in
    let x = c.in_ok-link-in-Some.ensures.grows in
    let y = c.in_ok-made-in-Some.ensures.grows in
    let e = c.in_ok-made-in-Some.ensures in
    let r = c.in_ok-more-in-Some.more.right in
    let q : tree_at d2.trees c.in_ok-made-in-Some.made.right ≡ with_terms d1.trees c.args.around (trees_at d1.trees c.args.before.now.items ++ tree_at d1.trees c.split_fields.result.0 ∷ trees_at d1.trees c.in-Some.others.now) =
    subst (λ (z : List TermId). tree_at d2.trees c.in_ok-made-in-Some.made.right ≡ with_terms d1.trees c.args.around (trees_at d1.trees z ++ tree_at d1.trees c.split_fields.result.0 ∷ trees_at d1.trees c.in-Some.others.now)) c.deref.ensures.value e.right_is in
    right_after d c.args.around c.args.before.now.items c.args.left c.in-Some.term.now c.in-Some.others.now c.args.terms.now c.in-Some.ensures.cases.0 c.split_fields.result.0 c.split_fields.result.1.now c.args.fields.now c.split_fields.ensures c.requires.can d1 x d2 y (Extends_trans d d1 d2 x y)
    c.in_ok-made-in-Some.made.right e.pair q c.push.new.self.items c.in_ok-push-in-Some.ensures.items (tree_at d4.trees r) (tree_later d3 d4 c.in_ok-alike-in-Some.ensures.grows r c.in_ok-more-in-Some.ensures.pair.right.held ∙ c.in_ok-more-in-Some.ensures.right_is)
    (others_given d c.args.around c.args.before.now.items c.args.left c.in-Some.term.now c.in-Some.others.now c.args.terms.now c.in-Some.ensures.cases.0 c.split_fields.result.0 c.split_fields.result.1.now c.args.fields.now c.split_fields.ensures c.requires.can)

pub returns-in_ok-alike-in-Some-clause-shows : goal.returns-in_ok-alike-in-Some-clause-shows
returns-in_ok-alike-in-Some-clause-shows t c =
    let d = c.args.draft.now in
    let d3 = c.replace_fields.new.draft in
    let d4 = c.chain.new.draft in
    let l = c.args.left in
    let r = c.in_ok-more-in-Some.more.right in
    let w = c.in_ok-alike-in-Some.alike in
    let x = Extends_trans _ _ _ (Extends_trans _ _ _ c.in_ok-link-in-Some.ensures.grows c.in_ok-made-in-Some.ensures.grows) c.in_ok-more-in-Some.ensures.grows in
    subst (λ (z : Tree). Shows d4 w z (tree_at d4.trees r)) (tree_later d d3 x l c.requires.can.whole.held) (subst (Shows d4 w (tree_at d3.trees l)) (sym (tree_later d3 d4 c.in_ok-alike-in-Some.ensures.grows r c.in_ok-more-in-Some.ensures.pair.right.held)) c.in_ok-alike-in-Some.ensures.shows)

pub returns-in_ok-alike-in-Some-clause-grows : goal.returns-in_ok-alike-in-Some-clause-grows
returns-in_ok-alike-in-Some-clause-grows t c = Extends_trans _ _ _ (Extends_trans _ _ _ (Extends_trans _ _ _ c.in_ok-link-in-Some.ensures.grows c.in_ok-made-in-Some.ensures.grows) c.in_ok-more-in-Some.ensures.grows) c.in_ok-alike-in-Some.ensures.grows

pub returns-in_err-made-in-Some-clause-grows : goal.returns-in_err-made-in-Some-clause-grows
returns-in_err-made-in-Some-clause-grows t c = Extends_trans _ _ _ c.in_ok-link-in-Some.ensures.grows c.in_err-made-in-Some.ensures.grows

pub returns-in_err-push-in-Some-clause-grows : goal.returns-in_err-push-in-Some-clause-grows
returns-in_err-push-in-Some-clause-grows t c = Extends_trans _ _ _ c.in_ok-link-in-Some.ensures.grows c.in_ok-made-in-Some.ensures.grows

pub returns-in_err-more-in-Some-clause-grows : goal.returns-in_err-more-in-Some-clause-grows
returns-in_err-more-in-Some-clause-grows t c = Extends_trans _ _ _ (Extends_trans _ _ _ c.in_ok-link-in-Some.ensures.grows c.in_ok-made-in-Some.ensures.grows) c.in_err-more-in-Some.ensures.grows

pub returns-in_err-alike-in-Some-clause-grows : goal.returns-in_err-alike-in-Some-clause-grows
returns-in_err-alike-in-Some-clause-grows t c = Extends_trans _ _ _ (Extends_trans _ _ _ (Extends_trans _ _ _ c.in_ok-link-in-Some.ensures.grows c.in_ok-made-in-Some.ensures.grows) c.in_ok-more-in-Some.ensures.grows) c.in_err-alike-in-Some.ensures.grows

pub returns-in-None-clause-right_is : goal.returns-in-None-clause-right_is
returns-in-None-clause-right_is t c = none_left c.args.draft.now c.args.around c.args.before.now.items c.args.left c.args.terms.now c.args.fields.now c.in-None.ensures.cases c.requires.can
