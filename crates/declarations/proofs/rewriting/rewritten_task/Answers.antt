use Rattle.std.proofs.Common.{◌∙◌, All, ap, subst, sym}
use Rattle.std.proofs.lemmas.Result.{IfOk-weaker}
use Rattle.trees.specs.Node.{Holds}
use Rattle.tasks.specs.Meaning.{task_at, declarations_at, DeclHeld}
use Rattle.tasks.proofs.Growth.{task_held_later}
use Rattle.declarations.proofs.Stored.{own_parts, task_is}
use Rattle.declarations.proofs.rewriting.rewritten_task.Goals as goal

pub returns-clause-task : goal.returns-clause-task
returns-clause-task g c =
    let s = c.args.store.now in
    let s1 = c.rewritten_decls.new.store in
    let t = c.args.task.now in
    let ds = c.from_vec-decls.result in
    IfOk-weaker c.with_parts.result _ _ (λ u w.
    task_is s s1 c.rewritten_decls.ensures.grows (g.R.RewriteDeclarations.rule c.args.rule.now) t (declarations_at s1 ds) (task_at s1 u) c.requires.held
    (own_parts s1 t (declarations_at s1 ds) c.in_ok-params.params c.in_ok-locals.locals (task_at s1 u) c.in_ok-params.ensures.cases c.in_ok-locals.ensures.cases (w.tree s1))
    (ap (declarations_at s1) c.from_vec-decls.ensures ∙ c.in_ok-rewritten_decls.ensures.decls)) c.with_parts.ensures

pub returns-clause-held : goal.returns-clause-held
returns-clause-held g c =
    let s = c.args.store.now in
    let s1 = c.rewritten_decls.new.store in
    let held = task_held_later s s1 c.rewritten_decls.ensures.grows c.args.task.now c.requires.held in
    IfOk-weaker c.with_parts.result _ _ (λ u w. w.held s1 held (record {
      decls = subst (All (DeclHeld s1)) (sym c.from_vec-decls.ensures) c.in_ok-rewritten_decls.ensures.held;
      params = subst (All (Holds s1)) (sym c.in_ok-params.ensures.cases) held.params;
      locals = subst (All (Holds s1)) (sym c.in_ok-locals.ensures.cases) held.locals;
      goal = held.goal;
    })) c.with_parts.ensures
