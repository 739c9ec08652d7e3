use Rattle.std.proofs.Common.{◌∙◌, []}
use Rattle.tasks.specs.trees.Node.{trees_at}
use Rattle.evidence.specs.Laws.{Extends_trans, AddsTrees_extends}
use Rattle.congruence.proofs.Later.{tree_later}
use Rattle.walking.specs.Places.{types_for}
use Rattle.walking.proofs.Binders.{made_link}
use Rattle.tr_match.proofs.FormPlaces.{place_typed, instance_typed, form_place, form_pair, form_is}
use Rattle.tr_match.proofs.linking.link_match.Goals as goal

pub form_of-requires-clause-typed : goal.form_of-requires-clause-typed
form_of-requires-clause-typed c =
    let d = c.args.draft.now in
    let env = c.args.env.now in
    (types_for (trees_at d.trees env), place_typed d env c.args.e c.args.left c.args.fresh c.requires.place)

pub form_of-requires-2-clause-typed : goal.form_of-requires-2-clause-typed
form_of-requires-2-clause-typed c =
    let d = c.args.draft.now in
    let d1 = c.form_of.new.draft in
    ([], instance_typed d d1 (AddsTrees_extends d d1 c.in_ok-image.ensures.grows) c.args.env.now c.args.e c.args.left c.args.fresh c.requires.place)

pub match_evidence-requires-clause-pair : goal.match_evidence-requires-clause-pair
match_evidence-requires-clause-pair c =
    let d = c.args.draft.now in
    let d1 = c.form_of.new.draft in
    let d2 = c.form_of-2.new.draft in
    let i = c.in_ok-image.ensures in
    let r = c.in_ok-right.ensures in
    let q = c.requires.node in
    form_pair d d1 d2 (AddsTrees_extends d d1 i.grows) (AddsTrees_extends d1 d2 r.grows) c.args.env.now c.args.e c.args.left c.args.fresh c.requires.place c.task-task.ensures.valid q.0 q.1.0 q.1.1 c.in_ok-image.image c.in_ok-right.right i.held i.tree i.sorted r.held r.tree

pub match_evidence-requires-clause-is : goal.match_evidence-requires-clause-is
match_evidence-requires-clause-is c =
    let d = c.args.draft.now in
    let d1 = c.form_of.new.draft in
    let d2 = c.form_of-2.new.draft in
    let i = c.in_ok-image.ensures in
    let r = c.in_ok-right.ensures in
    let q = c.requires.node in
    form_is d d1 d2 (AddsTrees_extends d d1 i.grows) (AddsTrees_extends d1 d2 r.grows) c.args.env.now c.args.e c.args.left c.args.fresh c.requires.place c.task-task.ensures.valid q.0 q.1.0 q.1.1 c.in_ok-image.image c.in_ok-right.right i.held i.tree i.sorted r.held r.tree

pub returns-clause-link : goal.returns-clause-link
returns-clause-link c =
    let d = c.args.draft.now in
    let d1 = c.form_of.new.draft in
    let d2 = c.form_of-2.new.draft in
    let d3 = c.match_evidence.new.draft in
    let i = c.in_ok-image.ensures in
    let r = c.in_ok-right.ensures in
    let q = c.requires.node in
    let x = AddsTrees_extends d d1 i.grows in
    let y = AddsTrees_extends d1 d2 r.grows in
    made_link d2 d3 c.in_ok-alike.ensures.grows c.args.env.now c.args.left c.args.fresh _ (record { image = c.in_ok-image.image; right = c.in_ok-right.right; alike = c.in_ok-alike.alike })
    (form_place d d1 d2 x y c.args.env.now c.args.e c.args.left c.args.fresh c.requires.place c.task-task.ensures.valid q.0 q.1.0 q.1.1 c.in_ok-image.image c.in_ok-right.right i.held i.tree i.sorted r.held r.tree)
    (tree_later d1 d2 y c.in_ok-image.image i.held ∙ i.tree)
    (form_pair d d1 d2 x y c.args.env.now c.args.e c.args.left c.args.fresh c.requires.place c.task-task.ensures.valid q.0 q.1.0 q.1.1 c.in_ok-image.image c.in_ok-right.right i.held i.tree i.sorted r.held r.tree)
    c.in_ok-alike.ensures.shows

pub returns-clause-grows : goal.returns-clause-grows
returns-clause-grows c =
    let d = c.args.draft.now in
    let d1 = c.form_of.new.draft in
    let d2 = c.form_of-2.new.draft in
    Extends_trans d d2 _ (Extends_trans d d1 d2 (AddsTrees_extends d d1 c.in_ok-image.ensures.grows) (AddsTrees_extends d1 d2 c.in_ok-right.ensures.grows)) c.in_ok-alike.ensures.grows
