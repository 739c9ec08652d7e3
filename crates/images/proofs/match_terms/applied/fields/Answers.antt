use Rattle.std.proofs.Common.{◌++◌, sym, ap, subst, ◌∙◌}
use Rattle.trees.specs.Node.{trees_at, Grows}
use Rattle.trees.specs.binders.Visits.{HoldTerms}
use Rattle.tasks.proofs.outside.Passed.{no_value}
use Rattle.images.proofs.match_terms.Growing.{at_later, results_later, applied_at, fields_made}
use Rattle.images.proofs.match_terms.applied.fields.Goals as goal

pub push_applied-requires-clause-at : goal.push_applied-requires-clause-at
push_applied-requires-clause-at g c =
    let k : Grows (g.G.Grow.trees c.args.g.now) (g.G.Grow.trees c.add_list.new.g) = g.met.G.Grow.keeps_trees _ _ c.in_ok-args.ensures.grows in
    at_later (g.G.Grow.trees c.args.g.now) (g.G.Grow.trees c.add_list.new.g) k c.args.at c.requires.at

pub push_applied-requires-clause-results : goal.push_applied-requires-clause-results
push_applied-requires-clause-results g c =
    let k : Grows (g.G.Grow.trees c.args.g.now) (g.G.Grow.trees c.add_list.new.g) = g.met.G.Grow.keeps_trees _ _ c.in_ok-args.ensures.grows in
    results_later (g.G.Grow.trees c.args.g.now) (g.G.Grow.trees c.add_list.new.g) k c.args.at.look c.args.projections.now c.requires.at.look c.requires.results

pub returns-clause-trees : goal.returns-clause-trees
returns-clause-trees g c =
    let s = g.G.Grow.trees c.args.g.now in
    let s1 = g.G.Grow.trees c.add_list.new.g in
    let k : Grows s s1 = g.met.G.Grow.keeps_trees _ _ c.in_ok-args.ensures.grows in
    fields_made s s1 (g.G.Grow.trees c.push_applied.new.g) k c.args.at c.in_ok-args.args c.args.term c.args.projections.now c.push_applied.new.out.items c.requires.at c.in_ok-args.ensures.tree
    (c.in_ok-push_applied.ensures.trees ∙ ap (λ ids. trees_at s1 ids ++ applied_at s1 c.args.at c.in_ok-args.args c.args.projections.now) c.new-out.ensures.items)

pub add_list-requires : goal.add_list-requires
add_list-requires g c = (c.requires.term, tt)

pub push_applied-requires-clause-args_held : goal.push_applied-requires-clause-args_held
push_applied-requires-clause-args_held g c = c.in_ok-args.ensures.held

pub push_applied-requires-clause-args : goal.push_applied-requires-clause-args
push_applied-requires-clause-args g c = c.in_ok-args.ensures.list

pub push_applied-requires-clause-out_held : goal.push_applied-requires-clause-out_held
push_applied-requires-clause-out_held g c = subst (HoldTerms (g.G.Grow.trees c.add_list.new.g)) (sym c.new-out.ensures.items) tt

pub returns-in_err-args-clause-held : goal.returns-in_err-args-clause-held
returns-in_err-args-clause-held g c = no_value _ _ c.from_residual.result c.from_residual.ensures.1

pub returns-in_err-args-clause-trees : goal.returns-in_err-args-clause-trees
returns-in_err-args-clause-trees g c = no_value _ _ c.from_residual.result c.from_residual.ensures.1

pub returns-in_err-args-clause-grows : goal.returns-in_err-args-clause-grows
returns-in_err-args-clause-grows g c = c.in_err-args.ensures.grows

pub returns-in_err-push_applied-clause-held : goal.returns-in_err-push_applied-clause-held
returns-in_err-push_applied-clause-held g c = no_value _ _ c.from_residual-in_err-push_applied.result c.from_residual-in_err-push_applied.ensures.1

pub returns-in_err-push_applied-clause-trees : goal.returns-in_err-push_applied-clause-trees
returns-in_err-push_applied-clause-trees g c = no_value _ _ c.from_residual-in_err-push_applied.result c.from_residual-in_err-push_applied.ensures.1

pub returns-in_err-push_applied-clause-grows : goal.returns-in_err-push_applied-clause-grows
returns-in_err-push_applied-clause-grows g c = g.met.G.Grow.grows_trans _ _ _ c.in_ok-args.ensures.grows c.in_err-push_applied.ensures.grows

pub returns-clause-held : goal.returns-clause-held
returns-clause-held g c = c.in_ok-push_applied.ensures.held

pub returns-clause-grows : goal.returns-clause-grows
returns-clause-grows g c = g.met.G.Grow.grows_trans _ _ _ c.in_ok-args.ensures.grows c.in_ok-push_applied.ensures.grows
