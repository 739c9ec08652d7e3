use Rattle.std.proofs.Common.{◌∷◌, length, subst, sym, ap, ◌∙◌, arith}
use Rattle.std.proofs.lemmas.List.{nil_from_length}
use Rattle.trees.specs.declared.Sort.TheVariants.{Formula}
use Rattle.trees.specs.Node.{tree_at, trees_at, Grows}
use Rattle.trees.specs.Sorts.{sort_of}
use Rattle.trees.specs.binders.Visits.{AreHeldOfSort}
use Rattle.tasks.specs.Conjunctions.{conjunction}
use Rattle.tasks.proofs.outside.Passed.{no_value}
use Rattle.images.proofs.match_terms.Growing.{empty_is, not_empty, conjunction_step}
use Rattle.images.proofs.match_terms.asking.+conjunction.Goals as goal

pub conjunction-requires : goal.conjunction-requires
conjunction-requires g t c κs within =
    let s = g.G.Grow.trees c.args.g.now in
    let held = subst (AreHeldOfSort Formula s) c.in-Some.ensures.cases.0 c.requires in
    (omega (arith, c.in-Some.ensures.cases.1), (within, held.1))

pub add-requires-clause-held : goal.add-requires-clause-held
add-requires-clause-held g t c =
    let s = g.G.Grow.trees c.args.g.now in
    let s1 = g.G.Grow.trees c.conjunction.new.g in
    let k : Grows s s1 = g.met.G.Grow.keeps_trees _ _ c.in_ok-more-in-Some.ensures.grows in
    let first = c.in-Some.first.now in
    let held = subst (AreHeldOfSort Formula s) c.in-Some.ensures.cases.0 c.requires in
    (omega (arith, held.0.0, k.longer), c.in_ok-more-in-Some.ensures.held)

pub add-requires-clause-fits : goal.add-requires-clause-fits
add-requires-clause-fits g t c =
    let s = g.G.Grow.trees c.args.g.now in
    let s1 = g.G.Grow.trees c.conjunction.new.g in
    let k : Grows s s1 = g.met.G.Grow.keeps_trees _ _ c.in_ok-more-in-Some.ensures.grows in
    let first = c.in-Some.first.now in
    let held = subst (AreHeldOfSort Formula s) c.in-Some.ensures.cases.0 c.requires in
    ((ap sort_of (k.same first.0 held.0.0) ∙ held.0.1, c.in_ok-more-in-Some.ensures.formula), tt)

pub add-requires-in-None-clause-held : goal.add-requires-in-None-clause-held
add-requires-in-None-clause-held g t c = tt

pub add-requires-in-None-clause-fits : goal.add-requires-in-None-clause-fits
add-requires-in-None-clause-fits g t c = tt

pub returns-in_ok-both-in-Some-clause-held : goal.returns-in_ok-both-in-Some-clause-held
returns-in_ok-both-in-Some-clause-held g t c = c.in_ok-both-in-Some.ensures.held

pub returns-in_ok-both-in-Some-clause-formula : goal.returns-in_ok-both-in-Some-clause-formula
returns-in_ok-both-in-Some-clause-formula g t c = ap sort_of c.in_ok-both-in-Some.ensures.tree

pub returns-in_ok-both-in-Some-clause-tree : goal.returns-in_ok-both-in-Some-clause-tree
returns-in_ok-both-in-Some-clause-tree g t c =
    let s = g.G.Grow.trees c.args.g.now in
    let s1 = g.G.Grow.trees c.conjunction.new.g in
    let k : Grows s s1 = g.met.G.Grow.keeps_trees _ _ c.in_ok-more-in-Some.ensures.grows in
    conjunction_step s s1 k c.args.formulas.now c.in-Some.rest.now c.in-Some.first.now c.in_ok-more-in-Some.more (tree_at (g.G.Grow.trees c.add.new.self) c.in_ok-both-in-Some.both) c.requires c.in-Some.ensures.cases.0 (not_empty (length c.in-Some.rest.now) c.is_empty.result c.is_empty.ensures c.if-is_empty.false) c.in_ok-both-in-Some.ensures.tree c.in_ok-more-in-Some.ensures.tree

pub returns-in_ok-both-in-Some-clause-grows : goal.returns-in_ok-both-in-Some-clause-grows
returns-in_ok-both-in-Some-clause-grows g t c = g.met.G.Grow.grows_trans _ _ _ c.in_ok-more-in-Some.ensures.grows c.in_ok-both-in-Some.ensures.grows

pub returns-in_ok-empty-in-None-clause-held : goal.returns-in_ok-empty-in-None-clause-held
returns-in_ok-empty-in-None-clause-held g t c = c.in_ok-empty-in-None.ensures.held

pub returns-in_ok-empty-in-None-clause-formula : goal.returns-in_ok-empty-in-None-clause-formula
returns-in_ok-empty-in-None-clause-formula g t c = ap sort_of c.in_ok-empty-in-None.ensures.tree

pub returns-in_ok-empty-in-None-clause-tree : goal.returns-in_ok-empty-in-None-clause-tree
returns-in_ok-empty-in-None-clause-tree g t c =
    let s = g.G.Grow.trees c.args.g.now in
    c.in_ok-empty-in-None.ensures.tree ∙ ap (λ is. conjunction (trees_at s is)) (sym (nil_from_length c.args.formulas.now c.in-None.ensures.cases))

pub returns-in_ok-empty-in-None-clause-grows : goal.returns-in_ok-empty-in-None-clause-grows
returns-in_ok-empty-in-None-clause-grows g t c = c.in_ok-empty-in-None.ensures.grows

pub returns-in_err-more-in-Some-clause-held : goal.returns-in_err-more-in-Some-clause-held
returns-in_err-more-in-Some-clause-held g t c = no_value _ _ c.from_residual.result c.from_residual.ensures.1

pub returns-in_err-more-in-Some-clause-formula : goal.returns-in_err-more-in-Some-clause-formula
returns-in_err-more-in-Some-clause-formula g t c = no_value _ _ c.from_residual.result c.from_residual.ensures.1

pub returns-in_err-more-in-Some-clause-tree : goal.returns-in_err-more-in-Some-clause-tree
returns-in_err-more-in-Some-clause-tree g t c = no_value _ _ c.from_residual.result c.from_residual.ensures.1

pub returns-in_err-more-in-Some-clause-grows : goal.returns-in_err-more-in-Some-clause-grows
returns-in_err-more-in-Some-clause-grows g t c = c.in_err-more-in-Some.ensures.grows

pub returns-in_err-both-in-Some-clause-held : goal.returns-in_err-both-in-Some-clause-held
returns-in_err-both-in-Some-clause-held g t c = no_value _ _ c.from_residual-in_err-both-in-Some.result c.from_residual-in_err-both-in-Some.ensures.1

pub returns-in_err-both-in-Some-clause-formula : goal.returns-in_err-both-in-Some-clause-formula
returns-in_err-both-in-Some-clause-formula g t c = no_value _ _ c.from_residual-in_err-both-in-Some.result c.from_residual-in_err-both-in-Some.ensures.1

pub returns-in_err-both-in-Some-clause-tree : goal.returns-in_err-both-in-Some-clause-tree
returns-in_err-both-in-Some-clause-tree g t c = no_value _ _ c.from_residual-in_err-both-in-Some.result c.from_residual-in_err-both-in-Some.ensures.1

pub returns-in_err-both-in-Some-clause-grows : goal.returns-in_err-both-in-Some-clause-grows
returns-in_err-both-in-Some-clause-grows g t c = g.met.G.Grow.grows_trans _ _ _ c.in_ok-more-in-Some.ensures.grows c.in_err-both-in-Some.ensures.grows

pub returns-in_err-empty-in-None-clause-held : goal.returns-in_err-empty-in-None-clause-held
returns-in_err-empty-in-None-clause-held g t c = no_value _ _ c.from_residual-in_err-empty-in-None.result c.from_residual-in_err-empty-in-None.ensures.1

pub returns-in_err-empty-in-None-clause-formula : goal.returns-in_err-empty-in-None-clause-formula
returns-in_err-empty-in-None-clause-formula g t c = no_value _ _ c.from_residual-in_err-empty-in-None.result c.from_residual-in_err-empty-in-None.ensures.1

pub returns-in_err-empty-in-None-clause-tree : goal.returns-in_err-empty-in-None-clause-tree
returns-in_err-empty-in-None-clause-tree g t c = no_value _ _ c.from_residual-in_err-empty-in-None.result c.from_residual-in_err-empty-in-None.ensures.1

pub returns-in_err-empty-in-None-clause-grows : goal.returns-in_err-empty-in-None-clause-grows
returns-in_err-empty-in-None-clause-grows g t c = c.in_err-empty-in-None.ensures.grows

pub returns-then-is_empty-clause-held : goal.returns-then-is_empty-clause-held
returns-then-is_empty-clause-held g t c =
    let s = g.G.Grow.trees c.args.g.now in
    let held = subst (AreHeldOfSort Formula s) c.in-Some.ensures.cases.0 c.requires in
    held.0.0

pub returns-then-is_empty-clause-formula : goal.returns-then-is_empty-clause-formula
returns-then-is_empty-clause-formula g t c =
    let s = g.G.Grow.trees c.args.g.now in
    let held = subst (AreHeldOfSort Formula s) c.in-Some.ensures.cases.0 c.requires in
    held.0.1

pub returns-then-is_empty-clause-tree : goal.returns-then-is_empty-clause-tree
returns-then-is_empty-clause-tree g t c =
    let s = g.G.Grow.trees c.args.g.now in
    ap (λ is. conjunction (tree_at s c.in-Some.first.now ∷ trees_at s is)) (sym (empty_is c.in-Some.rest.now c.is_empty.result c.is_empty.ensures c.if-is_empty.true)) ∙ ap (λ is. conjunction (trees_at s is)) (sym c.in-Some.ensures.cases.0)

pub returns-then-is_empty-clause-grows : goal.returns-then-is_empty-clause-grows
returns-then-is_empty-clause-grows g t c = g.met.G.Grow.grows_refl _
