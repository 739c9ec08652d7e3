use Rattle.evidence.proofs.Kept.{draft_later, draft_adds}
use Rattle.evidence.proofs.draft.DraftGrow.add.Goals as goal

pub invariant_of-self : goal.invariant_of-self
invariant_of-self c = draft_later c.self.inside.store c.add.new.self c.self.inside.task.value c.self.inside.steps.items c.self.inside.lemmas.entries c.add.ensures.grows c.self.invariant

pub returns-clause-grows : goal.returns-clause-grows
returns-clause-grows c = draft_adds c.self.inside.store c.add.new.self c.self.inside.task.value c.self.inside.steps.items c.self.inside.lemmas.entries c.args.self.now c.self.view_is c.add.ensures.grows c.self.invariant
