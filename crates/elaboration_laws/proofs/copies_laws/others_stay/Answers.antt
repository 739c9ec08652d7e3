use Rattle.elaboration_laws.proofs.Others.{cloning_begun}
use Rattle.elaboration_laws.proofs.Joining.{cloning_present, cloning_joined}
use Rattle.elaboration_laws.proofs.copies_laws.others_stay.Goals as goal

pub returns : goal.returns
returns u = record {
  begun = λ xs more now m built sound keeps. cloning_begun xs more now m built sound keeps;
  there = λ xs more pre others m now d keeps h whole alone fixed there c. cloning_present xs more pre others m keeps now h d whole alone fixed there c;
  joined = λ xs more pre others m now d keeps h whole alone fixed there apart. cloning_joined xs more pre others m keeps now h d whole alone fixed there apart;
}
