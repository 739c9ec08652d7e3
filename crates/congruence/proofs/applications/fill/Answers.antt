use Rattle.std.proofs.Common.{◌∙◌}
use Rattle.evidence.specs.Laws.{AddsTrees_extends}
use Rattle.congruence.proofs.HoleTemplates.{closed_loose}
use Rattle.congruence.proofs.ApplicationHoles.{filled_pair, filled_hole}
use Rattle.congruence.proofs.applications.fill.Goals as goal

pub instance-requires-clause-closed : goal.instance-requires-clause-closed
instance-requires-clause-closed c = record { sort = c.requires.pair.sort ∙ c.requires.term; closed = closed_loose c.args.draft.now c.args.b c.requires.pair.right }

pub returns-clause-hole : goal.returns-clause-hole
returns-clause-hole c =
    let d = c.args.draft.now in
    let r = c.requires in
    filled_hole d c.instance.new.g (AddsTrees_extends d c.instance.new.g c.in_ok-made.ensures.grows) c.args.hole c.args.left c.args.a c.args.b c.in_ok-made.made r.hole r.left r.pair r.term c.in_ok-made.ensures.held c.in_ok-made.ensures.tree

pub returns-clause-pair : goal.returns-clause-pair
returns-clause-pair c =
    let d = c.args.draft.now in
    let r = c.requires in
    filled_pair d c.instance.new.g (AddsTrees_extends d c.instance.new.g c.in_ok-made.ensures.grows) c.args.hole c.args.left c.args.a c.args.b c.in_ok-made.made r.hole r.left r.pair r.term c.in_ok-made.ensures.held c.in_ok-made.ensures.tree
