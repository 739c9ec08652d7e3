use Rattle.std.proofs.Common.{Some}
use Rattle.std.proofs.lemmas.List.Elements.{All-pop}
use Rattle.tasks.specs.Meaning.{DeclHeld}
use Rattle.step_rows.proofs.given.last_as_goal.Goals as goal

pub make_task-requires-clause-decls : goal.make_task-requires-clause-decls
make_task-requires-clause-decls c = (All-pop (DeclHeld c.args.store.now) c.args.decls c.pop.new.self (Some c.in-Some.goal) c.in-Some.ensures c.requires.decls).0

pub make_task-requires-clause-goal : goal.make_task-requires-clause-goal
make_task-requires-clause-goal c = (All-pop (DeclHeld c.args.store.now) c.args.decls c.pop.new.self (Some c.in-Some.goal) c.in-Some.ensures c.requires.decls).1
