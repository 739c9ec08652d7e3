use Rattle.std.proofs.Common.{◌++◌, Option, option_to_list, sym, ap, ◌∙◌}
use Rattle.std.proofs.lemmas.List.{append-nil}
use Rattle.tasks.specs.declared.declaration.Decl.{Decl}
use Rattle.theory_states.proofs.goal_tasks.making.push_placed.Goals as goal
use Rattle.tasks.proofs.outside.Passed.{no_ok}

pub returns-in-None : goal.returns-in-None
returns-in-None c = sym (append-nil c.args.out.now.items) ∙ ap (λ (z : Option Decl). c.args.out.now.items ++ option_to_list z) c.in-None.ensures.value

pub returns-in_err-copy-in-Some : goal.returns-in_err-copy-in-Some
returns-in_err-copy-in-Some c = no_ok _ _ c.from_residual.result c.from_residual.ensures.1

pub returns-in_err-push-in-Some : goal.returns-in_err-push-in-Some
returns-in_err-push-in-Some c = no_ok _ _ c.from_residual-in_err-push-in-Some.result c.from_residual-in_err-push-in-Some.ensures.1
