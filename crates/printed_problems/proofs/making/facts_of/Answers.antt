use Rattle.std.proofs.Common.{◌++◌, take, sym, ap, ◌∙◌}
use Rattle.tasks.specs.declared.declaration.Decl.{Decl}
use Rattle.tasks.specs.Meaning.{body_at, declarations_at}
use Rattle.printed_problems.specs.Made.{said_formulas}
use Rattle.printed_problems.proofs.FactList.{formulas, formulas_more}
use Rattle.printed_problems.proofs.making.facts_of.Goals as goal
use Rattle.tasks.proofs.outside.Passed.{no_value}

pub loop-decl-preserved : goal.loop-decl-preserved
loop-decl-preserved c =
    let s = c.args.store.now in
    let d = c.decl-item.result in
    record {
      held = c.in_ok-push_fact.ensures.held;
      are =
          c.in_ok-push_fact.ensures.trees ∙ ap (λ z. z ++ said_formulas (body_at s d.body)) c.loop-decl.invariant.are
          ∙ ap (λ (z : Decl). formulas (declarations_at s (take c.loop-decl.decl-index c.args.decls.now)) ++ said_formulas (body_at s z.body)) c.decl-item.is ∙ sym (formulas_more s c.args.decls.now c.loop-decl.decl-index d c.loop-decl-test.true);
    }

pub returns-in_err-push_fact : goal.returns-in_err-push_fact
returns-in_err-push_fact c = no_value _ _ c.from_residual.result c.from_residual.ensures.1
