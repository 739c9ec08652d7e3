use Rattle.std.proofs.Common.{refl}
use Rattle.clones.specs.Copies.{entry_copied}
use Rattle.elaboration_laws.proofs.CopiedTypes.{type_in_mapped, types_copied}
use Rattle.elaboration_laws.proofs.declaration_copies.types_copied.Goals as goal

pub returns : goal.returns
returns k = record {
  types = λ v w m vars t becomes h. type_in_mapped v w m becomes vars t h;
  entries = λ v w m theory within e becomes h. types_copied v w m becomes e (entry_copied m theory within e) (record { vars = refl; args = refl; result = refl }) h;
}
