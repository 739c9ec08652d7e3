use Rattle.std.proofs.lemmas.Result.{IfOk-weaker}
use Rattle.program.proofs.Sources.{valid_task, word_task}
use Rattle.program.proofs.setting.valid_setting.Goals as goal

pub returns-clause-valid : goal.returns-clause-valid
returns-clause-valid g c = IfOk-weaker c.find_setting.result _ _ (λ x h. valid_task _ h) c.find_setting.ensures.source

pub returns-clause-names : goal.returns-clause-names
returns-clause-names g c = IfOk-weaker c.find_setting.result _ _ (λ x h. word_task _ h) c.find_setting.ensures.source
