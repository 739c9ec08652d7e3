use Rattle.std.proofs.Common.{◌≡◌, ◌+◌, [], ◌∷◌, ◌++◌, ◌∙◌}
use Rattle.trees.specs.declared.Sort.TheVariants.{Formula}
use Rattle.trees.specs.Node.{tree_at}
use Rattle.trees.specs.Sorts.{sort_of}
use Rattle.evidence.specs.Laws.{AddsTrees_extends, AddsTrees_trans}
use Rattle.walking.proofs.PlacesLater.{place_later, all_later}
use Rattle.walking.proofs.Places.{link_formula}
use Rattle.walking.proofs.Binders.{quantified_place, quantified_over, quantified_under}
use Rattle.tasks.proofs.outside.Passed.{no_value}
use Rattle.congruence.proofs.Later.{tree_later}
use Rattle.walking.proofs.quantified.quantified_trees.Goals as goal

pub quantified-requires-clause-formula : goal.quantified-requires-clause-formula
quantified-requires-clause-formula c =
    let d = c.args.draft.now in
    link_formula d (c.args.env.now ++ c.args.term ∷ []) c.args.inner (c.args.number + 1) (tree_at d.trees c.args.part.image) c.args.part c.requires.part c.requires.inner.ground.sort

pub instance_at-requires-clause-terms : goal.instance_at-requires-clause-terms
instance_at-requires-clause-terms c =
    let d = c.args.draft.now in
    let d1 = c.quantified.new.draft in
    let p = place_later d d1 (AddsTrees_extends d d1 c.in_ok-image.ensures.grows) c.args.env.now c.args.e c.args.left c.args.number c.requires.place in
    (_, p.at.around.terms)

pub returns-clause-place : goal.returns-clause-place
returns-clause-place c =
    let d = c.args.draft.now in
    let d1 = c.quantified.new.draft in
    let d2 = c.instance_at.new.draft in
    let fi : sort_of (tree_at d.trees c.args.part.image) ≡ Formula = link_formula d (c.args.env.now ++ c.args.term ∷ []) c.args.inner (c.args.number + 1) (tree_at d.trees c.args.part.image) c.args.part c.requires.part c.requires.inner.ground.sort in
    quantified_place c.args.universal d c.args.env.now c.args.e c.args.left c.args.term c.args.inner c.args.number (tree_at d.trees c.args.ty) (tree_at d.trees c.args.body) c.args.part c.requires.place c.requires.e_is c.requires.part c.requires.term_is fi
    d1 d2 (AddsTrees_extends d d1 c.in_ok-image.ensures.grows) (AddsTrees_extends d1 d2 c.in_ok-right.ensures.grows) c.in_ok-image.image c.in_ok-right.right c.in_ok-image.ensures.held c.in_ok-image.ensures.tree c.in_ok-right.ensures.held c.in_ok-right.ensures.tree

pub returns-clause-right : goal.returns-clause-right
returns-clause-right c =
    let d = c.args.draft.now in
    let d1 = c.quantified.new.draft in
    let d2 = c.instance_at.new.draft in
    let fi : sort_of (tree_at d.trees c.args.part.image) ≡ Formula = link_formula d (c.args.env.now ++ c.args.term ∷ []) c.args.inner (c.args.number + 1) (tree_at d.trees c.args.part.image) c.args.part c.requires.part c.requires.inner.ground.sort in
    c.under_quantified-under.ensures.tree (tree_at d.trees c.args.ty) _
    (quantified_over c.args.universal d c.args.env.now c.args.e c.args.left c.args.term c.args.inner c.args.number (tree_at d.trees c.args.ty) (tree_at d.trees c.args.body) c.args.part c.requires.place c.requires.e_is c.requires.part c.requires.term_is fi
    d1 d2 (AddsTrees_extends d d1 c.in_ok-image.ensures.grows) c.in_ok-image.image c.in_ok-right.right c.in_ok-image.ensures.tree c.in_ok-right.ensures.tree)

pub returns-clause-at : goal.returns-clause-at
returns-clause-at c =
    let d = c.args.draft.now in
    let d1 = c.quantified.new.draft in
    let d2 = c.instance_at.new.draft in
    let fi : sort_of (tree_at d.trees c.args.part.image) ≡ Formula = link_formula d (c.args.env.now ++ c.args.term ∷ []) c.args.inner (c.args.number + 1) (tree_at d.trees c.args.part.image) c.args.part c.requires.part c.requires.inner.ground.sort in
    quantified_under c.args.universal d c.args.env.now c.args.e c.args.left c.args.term c.args.inner c.args.number (tree_at d.trees c.args.ty) (tree_at d.trees c.args.body) c.args.part c.requires.place c.requires.e_is c.requires.part c.requires.term_is fi
    d1 d2 (AddsTrees_extends d d1 c.in_ok-image.ensures.grows) c.in_ok-image.image c.in_ok-right.right c.in_ok-image.ensures.tree c.in_ok-right.ensures.tree (tree_at d2.trees c.under_quantified-under.result) (returns-clause-right c)

pub quantified-requires-clause-ty_held : goal.quantified-requires-clause-ty_held
quantified-requires-clause-ty_held c = c.requires.ty_held

pub quantified-requires-clause-body_held : goal.quantified-requires-clause-body_held
quantified-requires-clause-body_held c = c.requires.part.place.open_held

pub instance_at-requires-clause-held : goal.instance_at-requires-clause-held
instance_at-requires-clause-held c = c.in_ok-image.ensures.held

pub instance_at-requires-clause-sorted : goal.instance_at-requires-clause-sorted
instance_at-requires-clause-sorted c = c.in_ok-image.ensures.sorted

pub instance_at-requires-clause-env_held : goal.instance_at-requires-clause-env_held
instance_at-requires-clause-env_held c =
    let d = c.args.draft.now in
    let d1 = c.quantified.new.draft in
    let x = AddsTrees_extends d d1 c.in_ok-image.ensures.grows in
    all_later d d1 x c.args.env.now c.requires.place.env_held

pub under_quantified-under-requires-clause-held : goal.under_quantified-under-requires-clause-held
under_quantified-under-requires-clause-held c = c.in_ok-right.ensures.held

pub returns-clause-under_held : goal.returns-clause-under_held
returns-clause-under_held c = c.under_quantified-under.ensures.held

pub returns-clause-image : goal.returns-clause-image
returns-clause-image c =
    let d1 = c.quantified.new.draft in
    let d2 = c.instance_at.new.draft in
    tree_later d1 d2 (AddsTrees_extends d1 d2 c.in_ok-right.ensures.grows) c.in_ok-image.image c.in_ok-image.ensures.held ∙ c.in_ok-image.ensures.tree

pub returns-in_err-image-clause-place : goal.returns-in_err-image-clause-place
returns-in_err-image-clause-place c = no_value _ _ c.from_residual.result c.from_residual.ensures.1

pub returns-in_err-right-clause-place : goal.returns-in_err-right-clause-place
returns-in_err-right-clause-place c = no_value _ _ c.from_residual-in_err-right.result c.from_residual-in_err-right.ensures.1

pub returns-in_err-image-clause-image : goal.returns-in_err-image-clause-image
returns-in_err-image-clause-image c = no_value _ _ c.from_residual.result c.from_residual.ensures.1

pub returns-in_err-right-clause-image : goal.returns-in_err-right-clause-image
returns-in_err-right-clause-image c = no_value _ _ c.from_residual-in_err-right.result c.from_residual-in_err-right.ensures.1

pub returns-in_err-image-clause-right : goal.returns-in_err-image-clause-right
returns-in_err-image-clause-right c = no_value _ _ c.from_residual.result c.from_residual.ensures.1

pub returns-in_err-right-clause-right : goal.returns-in_err-right-clause-right
returns-in_err-right-clause-right c = no_value _ _ c.from_residual-in_err-right.result c.from_residual-in_err-right.ensures.1

pub returns-in_err-image-clause-under_held : goal.returns-in_err-image-clause-under_held
returns-in_err-image-clause-under_held c = no_value _ _ c.from_residual.result c.from_residual.ensures.1

pub returns-in_err-right-clause-under_held : goal.returns-in_err-right-clause-under_held
returns-in_err-right-clause-under_held c = no_value _ _ c.from_residual-in_err-right.result c.from_residual-in_err-right.ensures.1

pub returns-in_err-image-clause-at : goal.returns-in_err-image-clause-at
returns-in_err-image-clause-at c = no_value _ _ c.from_residual.result c.from_residual.ensures.1

pub returns-in_err-right-clause-at : goal.returns-in_err-right-clause-at
returns-in_err-right-clause-at c = no_value _ _ c.from_residual-in_err-right.result c.from_residual-in_err-right.ensures.1

pub returns-in_err-image-clause-grows : goal.returns-in_err-image-clause-grows
returns-in_err-image-clause-grows c = c.in_err-image.ensures.grows

pub returns-in_err-right-clause-grows : goal.returns-in_err-right-clause-grows
returns-in_err-right-clause-grows c = AddsTrees_trans _ _ _ c.in_ok-image.ensures.grows c.in_err-right.ensures.grows

pub returns-clause-grows : goal.returns-clause-grows
returns-clause-grows c = AddsTrees_trans _ _ _ c.in_ok-image.ensures.grows c.in_ok-right.ensures.grows
