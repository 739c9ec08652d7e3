use Rattle.elaboration_laws.proofs.Mapped.{maps_types}
use Rattle.elaboration_laws.proofs.maps_laws.types_mapped.Goals as goal

pub returns : goal.returns
returns k = λ c t es theory within h q n. maps_types c t es theory within h q n
