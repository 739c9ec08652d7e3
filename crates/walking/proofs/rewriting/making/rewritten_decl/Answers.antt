use Rattle.std.proofs.lemmas.Result.{IfOk-weaker, IfErr-weaker}
use Rattle.tasks.specs.Meaning.{task_at}
use Rattle.walking.proofs.rewriting.Mapped.{said_formula, said_made, said_held, said_fault, other_made}
use Rattle.walking.proofs.rewriting.making.rewritten_decl.Goals as goal

pub image_of-requires-clause-formula : goal.image_of-requires-clause-formula
image_of-requires-clause-formula g c =
    said_formula c.args.store.now c.args.decl.now c.in-Prop.formula c.in-Prop.is (task_at c.args.store.now c.args.task.now) c.requires.decl_held c.requires.decl_valid
