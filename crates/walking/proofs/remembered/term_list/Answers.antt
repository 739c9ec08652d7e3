use Rattle.std.proofs.Common.{refl, inl, sym, subst, ◌∙◌}
use Rattle.trees.specs.declared.Sort.TheVariants.{Term}
use Rattle.trees.specs.Tree.{Tree}
use Rattle.trees.specs.Sorts.{IsList}
use Rattle.tasks.proofs.Growth.{all_held_later}
use Rattle.evidence.specs.Laws.{AddsTrees_extends}
use Rattle.congruence.proofs.ApplicationHoles.{terms_later}
use Rattle.walking.proofs.PlacesLater.{trees_later}
use Rattle.walking.proofs.remembered.term_list.Goals as goal

pub list_after-requires-clause-before_held : goal.list_after-requires-clause-before_held
list_after-requires-clause-before_held c = let d = c.args.draft.now in let d1 = c.add.new.self in all_held_later d.trees d1.trees (AddsTrees_extends d d1 c.in_ok-end.ensures.grows).trees c.args.terms.now c.requires.held

pub list_after-requires-clause-before_terms : goal.list_after-requires-clause-before_terms
list_after-requires-clause-before_terms c = let d = c.args.draft.now in let d1 = c.add.new.self in terms_later d d1 (AddsTrees_extends d d1 c.in_ok-end.ensures.grows) c.args.terms.now c.requires.held c.requires.terms

pub list_after-requires-clause-terms : goal.list_after-requires-clause-terms
list_after-requires-clause-terms c = subst (λ (z : Tree). IsList Term z) (sym c.in_ok-end.ensures.tree) (refl, inl refl)

pub returns-clause-tree : goal.returns-clause-tree
returns-clause-tree c =
    let d = c.args.draft.now in
    let d1 = c.add.new.self in
    c.in_ok-list.ensures.tree ∙ cc (trees_later d d1 (AddsTrees_extends d d1 c.in_ok-end.ensures.grows) c.args.terms.now c.requires.held, c.in_ok-end.ensures.tree)
