use Rattle.evidence.proofs.Kept.{draft_remembers}
use Rattle.evidence.proofs.draft.Draft.remember_lemma.Goals as goal

pub invariant_of-self-2 : goal.invariant_of-self-2
invariant_of-self-2 c =
    draft_remembers c.self.inside.store c.self.inside.task.value c.self.inside.steps.items c.self.inside.lemmas.entries _ c.args.self.now c.args.formula c.args.step c.self.view_is c.self.invariant
    c.requires.held c.requires.refutes c.in_ok-insert.ensures.updates.0
