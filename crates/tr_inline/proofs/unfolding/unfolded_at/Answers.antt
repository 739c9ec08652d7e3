use Rattle.std.proofs.Common.{◌≡◌, List, subst, sym}
use Rattle.trees.specs.declared.TermId.{TermId}
use Rattle.trees.specs.Tree.{Tree}
use Rattle.trees.specs.Node.{tree_at, trees_at, Holds}
use Rattle.trees.specs.Sorts.{WellSorted}
use Rattle.tasks.specs.Vocabulary.{of_task}
use Rattle.tasks.proofs.Closing.{typed_sorted}
use Rattle.evidence.specs.Laws.{AddsTrees_trans, AddsTrees_extends}
use Rattle.walking.specs.Places.{types_for}
use Rattle.walking.proofs.Instances.{hold_terms, instance_fits}
use Rattle.walking.proofs.Placed.{environment_later}
use Rattle.walking.proofs.PlacesLater.{all_later}
use Rattle.tr_inline.proofs.Unfolded.{unfolded}
use Rattle.tr_inline.proofs.unfolding.unfolded_at.Goals as goal

pub unfolded_use-requires-clause-sorted : goal.unfolded_use-requires-clause-sorted
unfolded_use-requires-clause-sorted c =
    let d = c.args.draft.now in
    typed_sorted (of_task d.task) (types_for (trees_at d.trees c.args.env.now)) (tree_at d.trees c.args.e) c.requires.place.at.shape.typed

pub inst_many-requires-clause-terms : goal.inst_many-requires-clause-terms
inst_many-requires-clause-terms c =
    let d = c.args.draft.now in
    let d1 = c.unfolded_use.new.draft in
    let env = c.args.env.now in
    let x = AddsTrees_extends d d1 c.in_ok-image.ensures.grows in
    let around = environment_later d d1 x env c.args.fresh c.requires.place.env_held c.requires.place.at.around in
    hold_terms (of_task d1.task) (types_for (trees_at d1.trees env)) d1.trees env around.terms (all_later d d1 x env c.requires.place.env_held)

pub inst_many-requires-clause-fits : goal.inst_many-requires-clause-fits
inst_many-requires-clause-fits c =
    let d = c.args.draft.now in
    let d1 = c.unfolded_use.new.draft in
    let env = c.args.env.now in
    let x = AddsTrees_extends d d1 c.in_ok-image.ensures.grows in
    let around = environment_later d d1 x env c.args.fresh c.requires.place.env_held c.requires.place.at.around in
    let sorted : WellSorted (tree_at d1.trees c.in_ok-image.image) = subst (λ (z : List Tree). (id : TermId) → Holds z id → WellSorted (tree_at z id)) c.store.ensures c.laws.ensures.sorted c.in_ok-image.image c.in_ok-image.ensures.held in
    instance_fits (of_task d1.task) (types_for (trees_at d1.trees env)) (trees_at d1.trees env) (tree_at d1.trees c.in_ok-image.image) around.terms sorted

pub returns-clause-unfolded : goal.returns-clause-unfolded
returns-clause-unfolded c =
    let d = c.args.draft.now in
    let d1 = c.unfolded_use.new.draft in
    let d2 = c.inst_many.new.g in
    let sorted : WellSorted (tree_at d1.trees c.in_ok-image.image) = subst (λ (z : List Tree). (id : TermId) → Holds z id → WellSorted (tree_at z id)) c.store.ensures c.laws.ensures.sorted c.in_ok-image.image c.in_ok-image.ensures.held in
    unfolded d d1 d2 (AddsTrees_extends _ _ c.in_ok-image.ensures.grows) (AddsTrees_extends _ _ c.in_ok-right.ensures.grows) c.args.def c.requires.defined c.args.env.now c.args.e c.args.left c.args.fresh c.requires.place
    (tree_at d.trees c.args.at.types) (tree_at d.trees c.args.at.args) c.requires.used.is c.in_ok-image.image c.in_ok-right.right c.in_ok-image.ensures.held c.in_ok-image.ensures.tree c.in_ok-right.ensures.held c.in_ok-right.ensures.tree sorted

pub returns-in_err-right-clause-grows : goal.returns-in_err-right-clause-grows
returns-in_err-right-clause-grows c = AddsTrees_trans _ _ _ c.in_ok-image.ensures.grows c.inst_many.ensures.grows

pub returns-clause-grows : goal.returns-clause-grows
returns-clause-grows c = AddsTrees_trans _ _ _ c.in_ok-image.ensures.grows c.in_ok-right.ensures.grows
