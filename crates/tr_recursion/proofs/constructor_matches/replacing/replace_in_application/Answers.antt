use Rattle.std.proofs.Common.{sym, ap, subst, ◌∙◌}
use Rattle.trees.specs.Tree.{Tree}
use Rattle.trees.specs.Node.{tree_at}
use Rattle.trees.specs.Sorts.{sort_of}
use Rattle.evidence.specs.Laws.{Extends_trans, AddsTrees_trans, AddsTrees_extends}
use Rattle.congruence.specs.Alike.{Shows}
use Rattle.congruence.specs.declared.applications.SymbolAt.TheVariants as symbol
use Rattle.congruence.proofs.Later.{tree_later, closed_later, pair_later, shows_at}
use Rattle.congruence.proofs.ApplicationHoles.{symbol_later}
use Rattle.tr_recursion.proofs.constructor_matches.Replaced.{terms_held, terms_later, terms_sorted, end_list, after_listed, application_is}
use Rattle.tr_recursion.proofs.constructor_matches.replacing.replace_in_application.Goals as goal

pub list_after-requires-clause-before_held : goal.list_after-requires-clause-before_held
list_after-requires-clause-before_held c = terms_held c.add.new.self c.args.following.now (terms_later c.args.draft.now c.add.new.self (AddsTrees_extends _ _ c.in_ok-end.ensures.grows) c.args.following.now c.requires.following)

pub list_after-requires-clause-before_terms : goal.list_after-requires-clause-before_terms
list_after-requires-clause-before_terms c = terms_sorted c.add.new.self c.args.following.now (terms_later c.args.draft.now c.add.new.self (AddsTrees_extends _ _ c.in_ok-end.ensures.grows) c.args.following.now c.requires.following)

pub list_after-requires-clause-terms : goal.list_after-requires-clause-terms
list_after-requires-clause-terms c = end_list (tree_at c.add.new.self.trees c.in_ok-end.end) c.in_ok-end.ensures.tree

pub replace_argument-requires-clause-left : goal.replace_argument-requires-clause-left
replace_argument-requires-clause-left c = closed_later c.args.draft.now c.list_after.new.draft (AddsTrees_extends _ _ (AddsTrees_trans _ _ _ c.in_ok-end.ensures.grows c.in_ok-rest.ensures.grows)) c.args.left c.requires.left

pub replace_argument-requires-clause-symbol_held : goal.replace_argument-requires-clause-symbol_held
replace_argument-requires-clause-symbol_held c = symbol_later c.args.draft.now c.list_after.new.draft (AddsTrees_extends _ _ (AddsTrees_trans _ _ _ c.in_ok-end.ensures.grows c.in_ok-rest.ensures.grows)) (symbol.Function c.args.function c.args.types c.args.ty) c.requires.function

pub replace_argument-requires-clause-before_held : goal.replace_argument-requires-clause-before_held
replace_argument-requires-clause-before_held c =
    let d2 = c.list_after.new.draft in
    terms_held d2 c.args.before.now (terms_later c.args.draft.now d2 (AddsTrees_extends _ _ (AddsTrees_trans _ _ _ c.in_ok-end.ensures.grows c.in_ok-rest.ensures.grows)) c.args.before.now c.requires.before)

pub replace_argument-requires-clause-pair : goal.replace_argument-requires-clause-pair
replace_argument-requires-clause-pair c = pair_later c.args.draft.now c.list_after.new.draft (AddsTrees_extends _ _ (AddsTrees_trans _ _ _ c.in_ok-end.ensures.grows c.in_ok-rest.ensures.grows)) c.args.a c.args.b c.requires.pair

pub replace_argument-requires-clause-term : goal.replace_argument-requires-clause-term
replace_argument-requires-clause-term c =
    ap sort_of (tree_later c.args.draft.now c.list_after.new.draft (AddsTrees_extends _ _ (AddsTrees_trans _ _ _ c.in_ok-end.ensures.grows c.in_ok-rest.ensures.grows)) c.args.a c.requires.pair.left.held) ∙ c.requires.term

pub replace_argument-requires-clause-left_is : goal.replace_argument-requires-clause-left_is
replace_argument-requires-clause-left_is c =
    let d = c.args.draft.now in
    let d1 = c.add.new.self in
    let d2 = c.list_after.new.draft in
    let x = AddsTrees_extends d d2 (AddsTrees_trans _ _ _ c.in_ok-end.ensures.grows c.in_ok-rest.ensures.grows) in
    let r = after_listed d d1 (AddsTrees_extends _ _ c.in_ok-end.ensures.grows) c.args.following.now c.requires.following (tree_at d1.trees c.in_ok-end.end) c.in_ok-end.ensures.tree (tree_at d2.trees c.in_ok-rest.rest) c.in_ok-rest.ensures.tree in
    tree_later d d2 x c.args.left c.requires.left.held ∙ c.requires.left_is ∙ sym (application_is d d2 x c.args.function c.args.types c.args.ty c.requires.function c.args.before.now c.requires.before c.args.following.now (tree_at d2.trees c.args.a) (tree_at d.trees c.args.a) (tree_later d d2 x c.args.a c.requires.pair.left.held) (tree_at d2.trees c.in_ok-rest.rest) r)

pub replace_argument-requires-clause-shows : goal.replace_argument-requires-clause-shows
replace_argument-requires-clause-shows c =
    shows_at c.args.draft.now c.list_after.new.draft (AddsTrees_extends _ _ (AddsTrees_trans _ _ _ c.in_ok-end.ensures.grows c.in_ok-rest.ensures.grows)) c.args.alike c.args.a c.args.b c.requires.pair.left.held c.requires.pair.right.held c.requires.shows

pub returns-clause-right_is : goal.returns-clause-right_is
returns-clause-right_is c =
    let d = c.args.draft.now in
    let d1 = c.add.new.self in
    let d2 = c.list_after.new.draft in
    let x = AddsTrees_extends d d2 (AddsTrees_trans _ _ _ c.in_ok-end.ensures.grows c.in_ok-rest.ensures.grows) in
    let r = after_listed d d1 (AddsTrees_extends _ _ c.in_ok-end.ensures.grows) c.args.following.now c.requires.following (tree_at d1.trees c.in_ok-end.end) c.in_ok-end.ensures.tree (tree_at d2.trees c.in_ok-rest.rest) c.in_ok-rest.ensures.tree in
    c.in_ok-made.ensures.right_is
    ∙ application_is d d2 x c.args.function c.args.types c.args.ty c.requires.function c.args.before.now c.requires.before c.args.following.now (tree_at d2.trees c.args.b) (tree_at d.trees c.args.b) (tree_later d d2 x c.args.b c.requires.pair.right.held) (tree_at d2.trees c.in_ok-rest.rest) r

pub returns-clause-shows : goal.returns-clause-shows
returns-clause-shows c =
    let d = c.args.draft.now in
    let d2 = c.list_after.new.draft in
    subst (λ (z : Tree). Shows c.replace_argument.new.draft c.in_ok-made.made.alike z (tree_at c.replace_argument.new.draft.trees c.in_ok-made.made.right))
    (tree_later d d2 (AddsTrees_extends _ _ (AddsTrees_trans _ _ _ c.in_ok-end.ensures.grows c.in_ok-rest.ensures.grows)) c.args.left c.requires.left.held) c.in_ok-made.ensures.shows

pub returns-in_err-end-clause-grows : goal.returns-in_err-end-clause-grows
returns-in_err-end-clause-grows c = AddsTrees_extends _ _ c.add.ensures.grows

pub returns-in_err-rest-clause-grows : goal.returns-in_err-rest-clause-grows
returns-in_err-rest-clause-grows c = AddsTrees_extends _ _ (AddsTrees_trans _ _ _ c.in_ok-end.ensures.grows c.list_after.ensures.grows)

pub returns-in_err-made-clause-grows : goal.returns-in_err-made-clause-grows
returns-in_err-made-clause-grows c = Extends_trans _ _ _ (AddsTrees_extends _ _ (AddsTrees_trans _ _ _ c.in_ok-end.ensures.grows c.in_ok-rest.ensures.grows)) c.in_err-made.ensures.grows

pub returns-clause-grows : goal.returns-clause-grows
returns-clause-grows c = Extends_trans _ _ _ (AddsTrees_extends _ _ (AddsTrees_trans _ _ _ c.in_ok-end.ensures.grows c.in_ok-rest.ensures.grows)) c.in_ok-made.ensures.grows
