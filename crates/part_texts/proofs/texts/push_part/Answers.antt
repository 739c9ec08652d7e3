use Rattle.std.proofs.Common.{ap, ◌++◌, ◌∙◌}
use Rattle.std.proofs.lemmas.Result.{on_ok_weaker}
use Rattle.part_texts.proofs.Printed.{smt_part, tff_part}
use Rattle.part_texts.proofs.texts.push_part.Goals as goal

pub returns-in-Smt : goal.returns-in-Smt
returns-in-Smt c =
    on_ok_weaker c.push_smt_problem.result (λ e. e ∙ ap (λ z. c.args.out.now.items ++ z) (smt_part c.args.c.now c.args.task.now c.args.problem.now c.args.part c.args.parts c.requires.printer c.in-Smt.is)) c.push_smt_problem.ensures

pub returns-in-Tff : goal.returns-in-Tff
returns-in-Tff c =
    on_ok_weaker c.push_tff_problem.result (λ e. e ∙ ap (λ z. c.args.out.now.items ++ z) (tff_part c.args.c.now c.args.task.now c.args.problem.now c.args.part c.args.parts c.requires.printer c.in-Tff.is)) c.push_tff_problem.ensures
