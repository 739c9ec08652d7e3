use Rattle.std.proofs.Common.{subst, sym, ap, ◌∙◌, arith}
use Rattle.std.proofs.lemmas.List.{nil_from_length}
use Rattle.trees.specs.declared.Sort.TheVariants.{Term}
use Rattle.trees.specs.Node.{tree_at, trees_at, Grows}
use Rattle.trees.specs.Sorts.{sort_of}
use Rattle.trees.specs.laws.Sorts.{IsList_end, IsList_cell}
use Rattle.trees.specs.binders.Visits.{HoldTerms}
use Rattle.tasks.specs.Equations.{cells}
use Rattle.tasks.proofs.outside.Passed.{no_value}
use Rattle.images.proofs.match_terms.Growing.{cell_fits, cells_step}
use Rattle.images.proofs.match_terms.applied.+add_list.Goals as goal

pub add_list-requires : goal.add_list-requires
add_list-requires g t c κs within =
    let s = g.G.Grow.trees c.args.g.now in
    let cases = c.in-Some.ensures.cases in
    let held = subst (HoldTerms s) cases.0 c.requires in
    (omega (arith, cases.1), (within, held.1))

pub returns-in_err-tail-in-Some-clause-held : goal.returns-in_err-tail-in-Some-clause-held
returns-in_err-tail-in-Some-clause-held g t c = no_value _ _ c.from_residual.result c.from_residual.ensures.1

pub returns-in_err-tail-in-Some-clause-list : goal.returns-in_err-tail-in-Some-clause-list
returns-in_err-tail-in-Some-clause-list g t c = no_value _ _ c.from_residual.result c.from_residual.ensures.1

pub returns-in_err-tail-in-Some-clause-tree : goal.returns-in_err-tail-in-Some-clause-tree
returns-in_err-tail-in-Some-clause-tree g t c = no_value _ _ c.from_residual.result c.from_residual.ensures.1

pub returns-in_err-tail-in-Some-clause-grows : goal.returns-in_err-tail-in-Some-clause-grows
returns-in_err-tail-in-Some-clause-grows g t c = c.in_err-tail-in-Some.ensures.grows

pub add-requires-clause-held : goal.add-requires-clause-held
add-requires-clause-held g t c =
    let s = g.G.Grow.trees c.args.g.now in
    let s1 = g.G.Grow.trees c.add_list.new.g in
    let k : Grows s s1 = g.met.G.Grow.keeps_trees _ _ c.in_ok-tail-in-Some.ensures.grows in
    let held = subst (HoldTerms s) c.in-Some.ensures.cases.0 c.requires in
    (omega (arith, held.0.0, k.longer), c.in_ok-tail-in-Some.ensures.held)

pub add-requires-clause-fits : goal.add-requires-clause-fits
add-requires-clause-fits g t c =
    let s = g.G.Grow.trees c.args.g.now in
    let s1 = g.G.Grow.trees c.add_list.new.g in
    let k : Grows s s1 = g.met.G.Grow.keeps_trees _ _ c.in_ok-tail-in-Some.ensures.grows in
    let first = c.in-Some.first.now in
    let held = subst (HoldTerms s) c.in-Some.ensures.cases.0 c.requires in
    cell_fits (tree_at s1 first) (tree_at s1 c.in_ok-tail-in-Some.tail) (ap sort_of (k.same first.0 held.0.0) ∙ held.0.1) c.in_ok-tail-in-Some.ensures.list

pub returns-in_err-list-in-Some-clause-held : goal.returns-in_err-list-in-Some-clause-held
returns-in_err-list-in-Some-clause-held g t c = no_value _ _ c.from_residual-in_err-list-in-Some.result c.from_residual-in_err-list-in-Some.ensures.1

pub returns-in_err-list-in-Some-clause-list : goal.returns-in_err-list-in-Some-clause-list
returns-in_err-list-in-Some-clause-list g t c = no_value _ _ c.from_residual-in_err-list-in-Some.result c.from_residual-in_err-list-in-Some.ensures.1

pub returns-in_err-list-in-Some-clause-tree : goal.returns-in_err-list-in-Some-clause-tree
returns-in_err-list-in-Some-clause-tree g t c = no_value _ _ c.from_residual-in_err-list-in-Some.result c.from_residual-in_err-list-in-Some.ensures.1

pub returns-in_err-list-in-Some-clause-grows : goal.returns-in_err-list-in-Some-clause-grows
returns-in_err-list-in-Some-clause-grows g t c = g.met.G.Grow.grows_trans _ _ _ c.in_ok-tail-in-Some.ensures.grows c.in_err-list-in-Some.ensures.grows

pub add-requires-in-None-clause-held : goal.add-requires-in-None-clause-held
add-requires-in-None-clause-held g t c = tt

pub add-requires-in-None-clause-fits : goal.add-requires-in-None-clause-fits
add-requires-in-None-clause-fits g t c = tt

pub returns-in_err-list-in-None-clause-held : goal.returns-in_err-list-in-None-clause-held
returns-in_err-list-in-None-clause-held g t c = no_value _ _ c.from_residual-in_err-list-in-None.result c.from_residual-in_err-list-in-None.ensures.1

pub returns-in_err-list-in-None-clause-list : goal.returns-in_err-list-in-None-clause-list
returns-in_err-list-in-None-clause-list g t c = no_value _ _ c.from_residual-in_err-list-in-None.result c.from_residual-in_err-list-in-None.ensures.1

pub returns-in_err-list-in-None-clause-tree : goal.returns-in_err-list-in-None-clause-tree
returns-in_err-list-in-None-clause-tree g t c = no_value _ _ c.from_residual-in_err-list-in-None.result c.from_residual-in_err-list-in-None.ensures.1

pub returns-in_err-list-in-None-clause-grows : goal.returns-in_err-list-in-None-clause-grows
returns-in_err-list-in-None-clause-grows g t c = c.in_err-list-in-None.ensures.grows

pub returns-in_ok-list-in-Some-clause-held : goal.returns-in_ok-list-in-Some-clause-held
returns-in_ok-list-in-Some-clause-held g t c = c.in_ok-list-in-Some.ensures.held

pub returns-in_ok-list-in-Some-clause-list : goal.returns-in_ok-list-in-Some-clause-list
returns-in_ok-list-in-Some-clause-list g t c =
    let s = g.G.Grow.trees c.args.g.now in
    let s1 = g.G.Grow.trees c.add_list.new.g in
    let s2 = g.G.Grow.trees c.add.new.self in
    let k : Grows s s1 = g.met.G.Grow.keeps_trees _ _ c.in_ok-tail-in-Some.ensures.grows in
    let first = c.in-Some.first.now in
    let held = subst (HoldTerms s) c.in-Some.ensures.cases.0 c.requires in
    IsList_cell Term (tree_at s1 first) (tree_at s1 c.in_ok-tail-in-Some.tail) (tree_at s2 c.in_ok-list-in-Some.list) c.in_ok-list-in-Some.ensures.tree (ap sort_of (k.same first.0 held.0.0) ∙ held.0.1)

pub returns-in_ok-list-in-Some-clause-tree : goal.returns-in_ok-list-in-Some-clause-tree
returns-in_ok-list-in-Some-clause-tree g t c =
    let s = g.G.Grow.trees c.args.g.now in
    let s1 = g.G.Grow.trees c.add_list.new.g in
    let k : Grows s s1 = g.met.G.Grow.keeps_trees _ _ c.in_ok-tail-in-Some.ensures.grows in
    cells_step s s1 k c.args.terms.now c.in-Some.rest.now c.in-Some.first.now c.in_ok-tail-in-Some.tail (tree_at (g.G.Grow.trees c.add.new.self) c.in_ok-list-in-Some.list) c.requires c.in-Some.ensures.cases.0 c.in_ok-list-in-Some.ensures.tree c.in_ok-tail-in-Some.ensures.tree

pub returns-in_ok-list-in-Some-clause-grows : goal.returns-in_ok-list-in-Some-clause-grows
returns-in_ok-list-in-Some-clause-grows g t c = g.met.G.Grow.grows_trans _ _ _ c.in_ok-tail-in-Some.ensures.grows c.in_ok-list-in-Some.ensures.grows

pub returns-in_ok-list-in-None-clause-held : goal.returns-in_ok-list-in-None-clause-held
returns-in_ok-list-in-None-clause-held g t c = c.in_ok-list-in-None.ensures.held

pub returns-in_ok-list-in-None-clause-list : goal.returns-in_ok-list-in-None-clause-list
returns-in_ok-list-in-None-clause-list g t c = IsList_end Term (tree_at (g.G.Grow.trees c.add-in-None.new.self) c.in_ok-list-in-None.list) c.in_ok-list-in-None.ensures.tree

pub returns-in_ok-list-in-None-clause-tree : goal.returns-in_ok-list-in-None-clause-tree
returns-in_ok-list-in-None-clause-tree g t c =
    let s = g.G.Grow.trees c.args.g.now in
    c.in_ok-list-in-None.ensures.tree ∙ ap (λ is. cells (trees_at s is)) (sym (nil_from_length c.args.terms.now c.in-None.ensures.cases))

pub returns-in_ok-list-in-None-clause-grows : goal.returns-in_ok-list-in-None-clause-grows
returns-in_ok-list-in-None-clause-grows g t c = c.in_ok-list-in-None.ensures.grows
