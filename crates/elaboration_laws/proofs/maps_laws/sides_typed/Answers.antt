use Rattle.std.proofs.Common.{None}
use Rattle.clones.specs.clone_elements.Left.{last_place}
use Rattle.elaboration_laws.proofs.Rights.{all_typed, rights_typed, rights_built}
use Rattle.elaboration_laws.proofs.maps_laws.sides_typed.Goals as goal

pub returns : goal.returns
returns k = record {
  typed = λ c t es h q. rights_typed (λ x. last_place c.symbols t x None t.own) es c h q;
  setting = λ c es h q. all_typed es c h q;
  built = λ symbols es h. rights_built es symbols h;
}
