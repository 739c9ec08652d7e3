use Rattle.std.proofs.Common.{sym, ap, subst, ◌∙◌, ◌++◌, ◌∷◌}
use Rattle.trees.specs.Node.{tree_at, trees_at}
use Rattle.tr_recursion.specs.declared.constructor_matches.replacing.Around.{Around}
use Rattle.tr_recursion.specs.constructor_matches.Places.{with_terms, IsAround}
use Rattle.tr_recursion.proofs.constructor_matches.replacing.replace_one.Goals as goal

pub replace_in_application-requires-clause-function : goal.replace_in_application-requires-clause-function
replace_in_application-requires-clause-function c =
    let d = c.args.draft.now in
    subst (λ (k : Around). IsAround d k (trees_at d.trees c.args.before.now ++ tree_at d.trees c.args.a ∷ trees_at d.trees c.args.following.now)) c.in-Application.is c.requires.can.around_held

pub replace_in_application-requires-clause-left_is : goal.replace_in_application-requires-clause-left_is
replace_in_application-requires-clause-left_is c =
    let d = c.args.draft.now in
    c.requires.can.is ∙ ap (λ (k : Around). with_terms d.trees k (trees_at d.trees c.args.before.now ++ tree_at d.trees c.args.a ∷ trees_at d.trees c.args.following.now)) c.in-Application.is

pub replace_variable-requires-clause-open : goal.replace_variable-requires-clause-open
replace_variable-requires-clause-open c =
    let d = c.args.draft.now in
    subst (λ (k : Around). IsAround d k (trees_at d.trees c.args.before.now ++ tree_at d.trees c.args.a ∷ trees_at d.trees c.args.following.now)) c.in-Open.is c.requires.can.around_held

pub replace_variable-requires-clause-left_is : goal.replace_variable-requires-clause-left_is
replace_variable-requires-clause-left_is c =
    let d = c.args.draft.now in
    c.requires.can.is ∙ ap (λ (k : Around). with_terms d.trees k (trees_at d.trees c.args.before.now ++ tree_at d.trees c.args.a ∷ trees_at d.trees c.args.following.now)) c.in-Open.is

pub returns-in_ok-made-in-Application-clause-right_is : goal.returns-in_ok-made-in-Application-clause-right_is
returns-in_ok-made-in-Application-clause-right_is c =
    let d = c.args.draft.now in
    c.in_ok-made-in-Application.ensures.right_is ∙ ap (λ (k : Around). with_terms d.trees k (trees_at d.trees c.args.before.now ++ tree_at d.trees c.args.b ∷ trees_at d.trees c.args.following.now)) (sym c.in-Application.is)

pub returns-in_ok-made-in-Open-clause-right_is : goal.returns-in_ok-made-in-Open-clause-right_is
returns-in_ok-made-in-Open-clause-right_is c =
    let d = c.args.draft.now in
    c.in_ok-made-in-Open.ensures.right_is ∙ ap (λ (k : Around). with_terms d.trees k (trees_at d.trees c.args.before.now ++ tree_at d.trees c.args.b ∷ trees_at d.trees c.args.following.now)) (sym c.in-Open.is)
