use Rattle.trees.specs.declared.Sort.TheVariants.{Term}
use Rattle.trees.specs.Node.{tree_at}
use Rattle.trees.specs.laws.Sorts.{IsList_cell}
use Rattle.evidence.specs.Laws.{AddsTrees_extends}
use Rattle.congruence.proofs.Lists.{cell_of_terms}
use Rattle.congruence.proofs.ApplicationHoles.{first_later}
use Rattle.congruence.proofs.applications.+list_after.Goals as goal

pub add-requires-clause-fits : goal.add-requires-clause-fits
add-requires-clause-fits t c =
    let d = c.args.draft.now in
    let d1 = c.list_after.new.draft in
    let first = c.in-Some.first.now in
    let s = first_later d d1 (AddsTrees_extends d d1 c.in_ok-after-in-Some.ensures.grows) c.args.before.now c.in-Some.others.now first c.in-Some.ensures.cases.0 c.requires.before_held c.requires.before_terms in
    (cell_of_terms (tree_at d1.trees first) (tree_at d1.trees c.in_ok-after-in-Some.after) s c.in_ok-after-in-Some.ensures.terms).0

pub returns-in_ok-made-in-Some-clause-terms : goal.returns-in_ok-made-in-Some-clause-terms
returns-in_ok-made-in-Some-clause-terms t c =
    let d = c.args.draft.now in
    let d1 = c.list_after.new.draft in
    let first = c.in-Some.first.now in
    let s = first_later d d1 (AddsTrees_extends d d1 c.in_ok-after-in-Some.ensures.grows) c.args.before.now c.in-Some.others.now first c.in-Some.ensures.cases.0 c.requires.before_held c.requires.before_terms in
    IsList_cell Term (tree_at d1.trees first) (tree_at d1.trees c.in_ok-after-in-Some.after) _ c.in_ok-made-in-Some.ensures.tree s
