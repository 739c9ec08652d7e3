use Rattle.elaboration_laws.proofs.CopiedTypes.{type_in_mapped}
use Rattle.elaboration_laws.proofs.ClonedNames.{type_kept, type_replaced, symbol_there}
use Rattle.elaboration_laws.proofs.entries_laws.names_typed.Goals as goal

pub returns : goal.returns
returns u = record {
  types = λ v w m k becomes q h. type_kept v w m becomes k h q;
  replaced = λ v w m k e becomes q h. type_replaced v w m becomes k h e q;
  aliases = λ v w m vars t becomes h. type_in_mapped v w m becomes vars t h;
  symbols = λ xs k l stands kind. symbol_there xs k l stands kind;
}
