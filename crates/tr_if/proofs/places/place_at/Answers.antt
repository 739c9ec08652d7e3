use Rattle.std.proofs.Common.{sym, ap, ◌∙◌}
use Rattle.tasks.specs.trees.Node.{tree_at, trees_at}
use Rattle.tasks.specs.trees.Binding.{inst_many}
use Rattle.tasks.specs.Vocabulary.{of_task}
use Rattle.tasks.proofs.Closing.{typed_sorted}
use Rattle.evidence.specs.Laws.{AddsTrees_extends}
use Rattle.congruence.proofs.Later.{tree_later}
use Rattle.walking.specs.Places.{types_for}
use Rattle.walking.proofs.Instances.{hold_terms, instance_fits}
use Rattle.walking.proofs.PlacesLater.{trees_later}
use Rattle.tr_if.proofs.Placing.{open_later, open_place}
use Rattle.tr_if.proofs.places.place_at.Goals as goal

pub inst_many-requires-clause-terms : goal.inst_many-requires-clause-terms
inst_many-requires-clause-terms c =
    let d = c.args.draft.now in
    hold_terms (of_task d.task) (types_for (trees_at d.trees c.args.env.now)) d.trees c.args.env.now c.requires.around.terms c.requires.env_held

pub inst_many-requires-clause-fits : goal.inst_many-requires-clause-fits
inst_many-requires-clause-fits c =
    let d = c.args.draft.now in
    let types = types_for (trees_at d.trees c.args.env.now) in
    instance_fits (of_task d.task) types (trees_at d.trees c.args.env.now) (tree_at d.trees c.args.e) c.requires.around.terms (typed_sorted (of_task d.task) types (tree_at d.trees c.args.e) c.requires.shape.typed)

pub returns-clause-place : goal.returns-clause-place
returns-clause-place c =
    let d = c.args.draft.now in
    let d1 = c.inst_many.new.g in
    let x = AddsTrees_extends d d1 c.in_ok-made.ensures.grows in
    let env = c.args.env.now in
    let e = c.args.e in
    open_place d1 env e c.in_ok-made.made c.args.fresh (open_later d d1 x env e c.args.fresh c.requires) c.in_ok-made.ensures.held
    (c.in_ok-made.ensures.tree ∙ ap (λ z. inst_many z (trees_at d.trees env)) (sym (tree_later d d1 x e c.requires.held)) ∙ ap (inst_many (tree_at d1.trees e)) (sym (trees_later d d1 x env c.requires.env_held)))
