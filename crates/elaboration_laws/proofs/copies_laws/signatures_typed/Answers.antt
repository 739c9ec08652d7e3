use Rattle.elaboration_laws.proofs.CopiedSignatures.{made_right, signature_of, copied_right}
use Rattle.elaboration_laws.proofs.ClonedGoals.{right_more}
use Rattle.elaboration_laws.proofs.copies_laws.signatures_typed.Goals as goal

pub returns : goal.returns
returns u = record {
  right = λ symbols ds sound t. made_right symbols ds sound t;
  typed = λ symbols ds sound scoped right. signature_of symbols ds sound scoped right;
  copied = λ xs symbols m theory within d below news right. copied_right xs symbols m theory within d below news right;
  entries = λ symbols more ds sound right. right_more symbols more ds sound right;
}
