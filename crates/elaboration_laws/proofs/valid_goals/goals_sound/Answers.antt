use Rattle.elaboration_laws.proofs.Grown.{after_more}
use Rattle.elaboration_laws.proofs.NextGoal.{proved_kept}
use Rattle.elaboration_laws.proofs.valid_goals.goals_sound.Goals as goal

pub returns : goal.returns
returns u = record {
  goals = λ c ds d k x e g s h names made goal t b p q i sorted held passes quoted sound said. proved_kept c ds d x e g s h names made t b sorted held passes quoted sound goal said k p q i;
  entries = λ xs ys ds goal h b. after_more xs ys ds goal h b;
}
