use Rattle.evidence.specs.Laws.{AddsTrees_extends}
use Rattle.tr_if.proofs.Holes.{first_has_type, beyond_fits, can_open, open_terms, open_fits, hole_made}
use Rattle.tr_if.proofs.places.open_place.Goals as goal

pub type_of_first-ty-requires : goal.type_of_first-ty-requires
type_of_first-ty-requires c =
    let d = c.args.draft.now in
    let r = c.requires in
    record { typed = first_has_type d c.args.env.now c.args.atom c.args.whole c.args.fresh r.atom r.first c.task-task.ensures.valid; held = r.first.held }

pub add-requires-clause-fits : goal.add-requires-clause-fits
add-requires-clause-fits c =
    let d = c.args.draft.now in
    let r = c.requires in
    let k = c.in_ok-count in
    beyond_fits d c.args.env.now c.args.atom c.args.whole c.args.fresh r.atom r.first c.task-task.ensures.valid c.type_of_first-ty.result c.type_of_first-ty.ensures.held c.type_of_first-ty.ensures.is k.count k.ensures.within

pub replace_first-requires : goal.replace_first-requires
replace_first-requires c =
    let d = c.args.draft.now in
    let d1 = c.add.new.self in
    let r = c.requires in
    let k = c.in_ok-count in
    let b = c.in_ok-beyond in
    can_open d c.args.env.now c.args.atom c.args.whole c.args.fresh r.atom r.first c.task-task.ensures.valid c.type_of_first-ty.result c.type_of_first-ty.ensures.held c.type_of_first-ty.ensures.is k.count k.ensures.count k.ensures.within d1 (AddsTrees_extends d d1 b.ensures.grows) b.beyond b.ensures.held b.ensures.tree

pub inst_many-requires-clause-terms : goal.inst_many-requires-clause-terms
inst_many-requires-clause-terms c =
    let d = c.args.draft.now in
    let d1 = c.add.new.self in
    let d2 = c.replace_first.new.g in
    let r = c.requires in
    let k = c.in_ok-count in
    let b = c.in_ok-beyond in
    let o = c.in_ok-formula in
    open_terms d c.args.env.now c.args.atom c.args.whole c.args.fresh r.atom r.first c.task-task.ensures.valid c.type_of_first-ty.result c.type_of_first-ty.ensures.held c.type_of_first-ty.ensures.is k.count k.ensures.count k.ensures.within d1 (AddsTrees_extends d d1 b.ensures.grows) b.beyond b.ensures.held b.ensures.tree
    d2 (AddsTrees_extends d1 d2 o.ensures.grows) o.formula o.ensures.placed.is

pub inst_many-requires-clause-fits : goal.inst_many-requires-clause-fits
inst_many-requires-clause-fits c =
    let d = c.args.draft.now in
    let d1 = c.add.new.self in
    let d2 = c.replace_first.new.g in
    let r = c.requires in
    let k = c.in_ok-count in
    let b = c.in_ok-beyond in
    let o = c.in_ok-formula in
    open_fits d c.args.env.now c.args.atom c.args.whole c.args.fresh r.atom r.first c.task-task.ensures.valid c.type_of_first-ty.result c.type_of_first-ty.ensures.held c.type_of_first-ty.ensures.is k.count k.ensures.count k.ensures.within d1 (AddsTrees_extends d d1 b.ensures.grows) b.beyond b.ensures.held b.ensures.tree
    d2 (AddsTrees_extends d1 d2 o.ensures.grows) o.formula o.ensures.placed.is

pub returns-clause-place : goal.returns-clause-place
returns-clause-place c =
    let d = c.args.draft.now in
    let d1 = c.add.new.self in
    let d2 = c.replace_first.new.g in
    let d3 = c.inst_many.new.g in
    let r = c.requires in
    let k = c.in_ok-count in
    let b = c.in_ok-beyond in
    let o = c.in_ok-formula in
    let m = c.in_ok-made in
    hole_made d c.args.env.now c.args.atom c.args.whole c.args.fresh r.atom r.first c.task-task.ensures.valid c.type_of_first-ty.result c.type_of_first-ty.ensures.held c.type_of_first-ty.ensures.is k.count k.ensures.count k.ensures.within d1 (AddsTrees_extends d d1 b.ensures.grows) b.beyond b.ensures.held b.ensures.tree
    d2 (AddsTrees_extends d1 d2 o.ensures.grows) o.formula o.ensures.placed.is d3 (AddsTrees_extends d2 d3 m.ensures.grows) m.made m.ensures.held m.ensures.tree
