use Rattle.std.proofs.Common.{◌∷◌, ◌∙◌, refl, sym, ap, subst, arith}
use Rattle.tasks.specs.Equations.{cells}
use Rattle.trees.specs.Node.{tree_at, trees_at, Grows}
use Rattle.trees.specs.binders.Visits.{HoldTerms}
use Rattle.tasks.proofs.Lists.{split_all}
use Rattle.images.specs.PatternTerms.{HasClosedResult}
use Rattle.tasks.proofs.outside.Passed.{no_value}
use Rattle.images.specs.match_terms.Asking.{task_under}
use Rattle.images.proofs.match_terms.Growing.{at_later, results_later, rebuilt_made}
use Rattle.images.proofs.match_terms.applied.rebuild.Goals as goal

pub fields-requires-clause-results : goal.fields-requires-clause-results
fields-requires-clause-results g c =
    (split_all (HasClosedResult (task_under (g.G.Grow.trees c.args.g.now) c.args.at.look)) (c.args.constructor ∷ c.args.projections.now) c.args.constructor c.args.projections.now refl c.requires.results).1

pub apply-requires-clause-at : goal.apply-requires-clause-at
apply-requires-clause-at g c =
    let s = g.G.Grow.trees c.args.g.now in
    let s1 = g.G.Grow.trees c.fields.new.g in
    let s2 = g.G.Grow.trees c.add_list.new.g in
    let k : Grows s s2 = g.met.G.Grow.keeps_trees _ _ (g.met.G.Grow.grows_trans _ _ _ c.in_ok-out.ensures.grows c.in_ok-args.ensures.grows) in
    at_later s s2 k c.args.at c.requires.at

pub apply-requires-clause-result : goal.apply-requires-clause-result
apply-requires-clause-result g c =
    let s = g.G.Grow.trees c.args.g.now in
    let s2 = g.G.Grow.trees c.add_list.new.g in
    let k : Grows s s2 = g.met.G.Grow.keeps_trees _ _ (g.met.G.Grow.grows_trans _ _ _ c.in_ok-out.ensures.grows c.in_ok-args.ensures.grows) in
    results_later s s2 k c.args.at.look (c.args.constructor ∷ c.args.projections.now) c.requires.at.look c.requires.results 0 c.args.constructor (omega arith)

pub returns-clause-tree : goal.returns-clause-tree
returns-clause-tree g c =
    let s = g.G.Grow.trees c.args.g.now in
    let s1 = g.G.Grow.trees c.fields.new.g in
    let s2 = g.G.Grow.trees c.add_list.new.g in
    let k : Grows s s2 = g.met.G.Grow.keeps_trees _ _ (g.met.G.Grow.grows_trans _ _ _ c.in_ok-out.ensures.grows c.in_ok-args.ensures.grows) in
    rebuilt_made s s2 k c.args.at c.in_ok-args.args c.args.constructor c.args.projections.now (trees_at s1 c.in_ok-out.out.items) (tree_at (g.G.Grow.trees c.apply.new.g) c.in_ok-made.made) (tree_at s c.args.term)
    c.requires.at c.in_ok-made.ensures.tree (c.in_ok-args.ensures.tree ∙ ap (λ ids. cells (trees_at s1 ids)) c.as_slice.ensures.value) c.in_ok-out.ensures.trees

pub fields-requires-clause-at : goal.fields-requires-clause-at
fields-requires-clause-at g c = c.requires.at

pub fields-requires-clause-term : goal.fields-requires-clause-term
fields-requires-clause-term g c = c.requires.term

pub add_list-requires : goal.add_list-requires
add_list-requires g c = subst (HoldTerms (g.G.Grow.trees c.fields.new.g)) (sym c.as_slice.ensures.value) c.in_ok-out.ensures.held

pub apply-requires-clause-args_held : goal.apply-requires-clause-args_held
apply-requires-clause-args_held g c = c.in_ok-args.ensures.held

pub apply-requires-clause-args : goal.apply-requires-clause-args
apply-requires-clause-args g c = c.in_ok-args.ensures.list

pub returns-in_err-out-clause-term : goal.returns-in_err-out-clause-term
returns-in_err-out-clause-term g c = no_value _ _ c.from_residual.result c.from_residual.ensures.1

pub returns-in_err-out-clause-tree : goal.returns-in_err-out-clause-tree
returns-in_err-out-clause-tree g c = no_value _ _ c.from_residual.result c.from_residual.ensures.1

pub returns-in_err-out-clause-grows : goal.returns-in_err-out-clause-grows
returns-in_err-out-clause-grows g c = c.in_err-out.ensures.grows

pub returns-in_err-args-clause-term : goal.returns-in_err-args-clause-term
returns-in_err-args-clause-term g c = no_value _ _ c.from_residual-in_err-args.result c.from_residual-in_err-args.ensures.1

pub returns-in_err-args-clause-tree : goal.returns-in_err-args-clause-tree
returns-in_err-args-clause-tree g c = no_value _ _ c.from_residual-in_err-args.result c.from_residual-in_err-args.ensures.1

pub returns-in_err-args-clause-grows : goal.returns-in_err-args-clause-grows
returns-in_err-args-clause-grows g c = g.met.G.Grow.grows_trans _ _ _ c.in_ok-out.ensures.grows c.in_err-args.ensures.grows

pub returns-in_err-made-clause-term : goal.returns-in_err-made-clause-term
returns-in_err-made-clause-term g c = no_value _ _ c.from_residual-in_err-made.result c.from_residual-in_err-made.ensures.1

pub returns-in_err-made-clause-tree : goal.returns-in_err-made-clause-tree
returns-in_err-made-clause-tree g c = no_value _ _ c.from_residual-in_err-made.result c.from_residual-in_err-made.ensures.1

pub returns-in_err-made-clause-grows : goal.returns-in_err-made-clause-grows
returns-in_err-made-clause-grows g c = g.met.G.Grow.grows_trans _ _ _ (g.met.G.Grow.grows_trans _ _ _ c.in_ok-out.ensures.grows c.in_ok-args.ensures.grows) c.in_err-made.ensures.grows

pub returns-clause-term : goal.returns-clause-term
returns-clause-term g c = c.in_ok-made.ensures.term

pub returns-clause-grows : goal.returns-clause-grows
returns-clause-grows g c = g.met.G.Grow.grows_trans _ _ _ (g.met.G.Grow.grows_trans _ _ _ c.in_ok-out.ensures.grows c.in_ok-args.ensures.grows) c.in_ok-made.ensures.grows
