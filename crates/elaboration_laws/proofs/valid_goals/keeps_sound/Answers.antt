use Rattle.elaboration_laws.proofs.Grown.{none_sound, sound_more, front_sound}
use Rattle.elaboration_laws.proofs.Next.{next_sound}
use Rattle.elaboration_laws.proofs.valid_goals.keeps_sound.Goals as goal

pub returns : goal.returns
returns k = record {
  none = λ symbols b. none_sound symbols b;
  declarations = λ c ds d x g s h names made t b q w p e sorted held passes sound. next_sound c ds d x g s h names made t b q w p e sorted held passes sound;
  entries = λ xs ys ds h b. sound_more xs ys ds h b;
  fewer = λ symbols xs ys h. front_sound symbols xs ys h;
}
