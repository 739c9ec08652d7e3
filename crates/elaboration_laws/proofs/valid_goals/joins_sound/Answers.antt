use Rattle.elaboration_laws.proofs.Joined.{later_sound, first_part, second_part, later_typed}
use Rattle.elaboration_laws.proofs.valid_goals.joins_sound.Goals as goal

pub returns : goal.returns
returns k = λ xs ys ds es first second agree. record {
  sound = later_sound xs ys ds es first second agree;
  first = first_part xs ys ds es first second agree;
  second = second_part xs ys ds es first second agree;
  typed = λ t u. later_typed xs ys ds es first second agree t u;
}
