use Rattle.tr_inline.proofs.ByBodies.{at_hand}
use Rattle.tr_inline.proofs.formulas.InlinedFormulasRewriteFormulas.image_of.Goals as goal

pub image_by_bodies-requires-clause-ready : goal.image_by_bodies-requires-clause-ready
image_by_bodies-requires-clause-ready c = (at_hand c.args.self.now.mode c.args.store.now c.args.task.now c.args.self.now.bodies c.in-Some.bodies c.in-Some.is c.requires.can).0

pub image_by_bodies-requires-clause-bodies : goal.image_by_bodies-requires-clause-bodies
image_by_bodies-requires-clause-bodies c = (at_hand c.args.self.now.mode c.args.store.now c.args.task.now c.args.self.now.bodies c.in-Some.bodies c.in-Some.is c.requires.can).1

pub image_afresh-requires-clause-can : goal.image_afresh-requires-clause-can
image_afresh-requires-clause-can c = record { held = c.requires.can.held; valid = c.requires.can.valid; is_ready = tt }
