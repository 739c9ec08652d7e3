use Rattle.evidence.proofs.Kept.{draft_pushed}
use Rattle.evidence.proofs.draft.Draft.push.Goals as goal

pub invariant_of-self-2 : goal.invariant_of-self-2
invariant_of-self-2 c = rw c.in_ok-push.ensures.items
    (draft_pushed c.self.inside.store c.self.inside.task.value c.self.inside.steps.items c.self.inside.lemmas.entries c.args.step c.args.self.now c.self.view_is c.self.invariant c.requires.held c.requires.right)
