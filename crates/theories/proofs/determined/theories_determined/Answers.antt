use Rattle.theories.proofs.determined.One.{one_theories, theories_apart, one_fault}
use Rattle.theories.proofs.determined.theories_determined.Goals as goal

pub returns : goal.returns
returns u = record {
  one = λ file a b x y. one_theories file a b x y;
  apart = λ file a f x y n. theories_apart file a f x y n;
  fault = λ file f g x y n m. one_fault file f g x y n m;
}
