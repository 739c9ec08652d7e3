use Rattle.elaboration_laws.proofs.Groups.{group_valid}
use Rattle.elaboration_laws.proofs.Propositions.{proposition_valid}
use Rattle.elaboration_laws.proofs.Inductives.{inductives_valid}
use Rattle.elaboration_laws.proofs.Members.{members_valid}
use Rattle.elaboration_laws.proofs.Types.{type_valid, alias_valid}
use Rattle.elaboration_laws.proofs.valid.makes_valid.Goals as goal

pub returns : goal.returns
returns c = record {
  types = λ v k x n h news. type_valid v k h x n news;
  aliases = λ v k x vs f h q news. alias_valid v k h x vs f q news;
  members = λ v k ms o h q w it fits news. members_valid v k h ms q o it news w fits;
  propositions = λ v k p x e o h q a fits news may. proposition_valid v k h p x e o q a news fits may;
  algebraics = λ v k ts h q news. group_valid v k h ts q news;
  inductives = λ v k ds o h q it fits passes news. inductives_valid v k h ds q o it news fits passes;
}
