use Rattle.elaboration_laws.proofs.Definitions.{definition_valid}
use Rattle.elaboration_laws.proofs.valid.defines_valid.Goals as goal

pub returns : goal.returns
returns k = λ v n b inner h. definition_valid v n h.signature h.usable b inner h.equation h.typed h.fits
