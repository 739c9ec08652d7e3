use Rattle.tasks.specs.Meaning.{task_at}
use Rattle.tasks.proofs.trees.Nodes.{Grows_trans}
use Rattle.tasks.proofs.Growth.{task_held_later}
use Rattle.walking.proofs.rewriting.Faults.{err_passed}
use Rattle.walking.proofs.rewriting.Loops.{can_now}
use Rattle.walking.proofs.rewriting.Tasks.{locals_fault, decls_fault, parts_held, changed_made}
use Rattle.walking.proofs.rewriting.making.with_goal_changed.Goals as goal

pub rewritten_decls-requires : goal.rewritten_decls-requires
rewritten_decls-requires g c = record { can = can_now (g.F.RewriteFormulas.Ready c.args.rewrite.now) (g.met.F.RewriteFormulas.stays_ready c.args.rewrite.now) (g.F.RewriteFormulas.function c.args.rewrite.now) c.args.store.now c.rewritten_locals.new.store c.in_ok-locals.ensures.grows c.args.task.now c.requires.can }

pub returns-in_err-locals-clause-fault : goal.returns-in_err-locals-clause-fault
returns-in_err-locals-clause-fault g c = err_passed c.from_residual.result c.in_err-locals.field-0.0 _ c.from_residual.ensures.1 (locals_fault (g.F.RewriteFormulas.function c.args.rewrite.now) c.args.store.now c.args.task.now c.requires.can.held c.in_err-locals.field-0.0 c.in_err-locals.ensures.fault)

pub returns-in_err-decls-clause-fault : goal.returns-in_err-decls-clause-fault
returns-in_err-decls-clause-fault g c =
    err_passed c.from_residual-in_err-decls.result c.in_err-decls.field-0.0 _ c.from_residual-in_err-decls.ensures.1 (decls_fault (g.F.RewriteFormulas.function c.args.rewrite.now) c.args.store.now c.args.task.now c.requires.can.held c.rewritten_locals.new.store c.in_ok-locals.ensures.grows c.in_err-decls.field-0.0 c.in_err-decls.ensures.fault)

pub returns-in_err-decls-clause-grows : goal.returns-in_err-decls-clause-grows
returns-in_err-decls-clause-grows g c = Grows_trans _ _ _ c.in_ok-locals.ensures.grows c.rewritten_decls.ensures.grows

pub returns-in_err-made-clause-grows : goal.returns-in_err-made-clause-grows
returns-in_err-made-clause-grows g c = Grows_trans _ _ _ c.in_ok-locals.ensures.grows c.in_ok-decls.ensures.grows

pub returns-clause-task : goal.returns-clause-task
returns-clause-task g c =
    changed_made (g.F.RewriteFormulas.function c.args.rewrite.now) c.args.store.now c.args.task.now c.requires.can.held c.rewritten_locals.new.store c.rewritten_decls.new.store c.in_ok-locals.ensures.grows c.in_ok-decls.ensures.grows c.args.goal c.requires.goal_held c.requires.goal c.in_ok-locals.locals c.in_ok-locals.ensures.held c.in_ok-locals.ensures.trees
    c.in_ok-params.params c.in_ok-params.ensures.cases c.in_ok-decls.decls c.in_ok-decls.ensures.held c.in_ok-decls.ensures.decls (task_at c.rewritten_decls.new.store c.in_ok-made.made) (c.in_ok-made.ensures.tree c.rewritten_decls.new.store)

pub returns-clause-held : goal.returns-clause-held
returns-clause-held g c =
    let s2 = c.rewritten_decls.new.store in
    let w = Grows_trans c.args.store.now c.rewritten_locals.new.store s2 c.in_ok-locals.ensures.grows c.in_ok-decls.ensures.grows in
    c.in_ok-made.ensures.held s2 (task_held_later c.args.store.now s2 w c.args.task.now c.requires.can.held) (parts_held (g.F.RewriteFormulas.function c.args.rewrite.now) c.args.store.now c.args.task.now c.requires.can.held c.rewritten_locals.new.store c.rewritten_decls.new.store c.in_ok-locals.ensures.grows c.in_ok-decls.ensures.grows c.args.goal c.requires.goal_held c.requires.goal c.in_ok-locals.locals c.in_ok-locals.ensures.held c.in_ok-locals.ensures.trees
    c.in_ok-params.params c.in_ok-params.ensures.cases c.in_ok-decls.decls c.in_ok-decls.ensures.held c.in_ok-decls.ensures.decls)

pub returns-clause-grows : goal.returns-clause-grows
returns-clause-grows g c = Grows_trans _ _ _ c.in_ok-locals.ensures.grows c.in_ok-decls.ensures.grows
