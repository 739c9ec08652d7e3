use Rattle.elaboration_laws.proofs.Typed.{matches_fitting, setting_kept}
use Rattle.elaboration_laws.proofs.valid_goals.keeps_typed.Goals as goal

pub returns : goal.returns
returns k = record {
  matches = λ c x g s h names made t e. matches_fitting c x g s h names made t e;
  setting = λ c d x g s h names made t q e sorted held passes. setting_kept c x g s h names made t e d q sorted held passes;
}
