use Rattle.elaboration_laws.proofs.Quoted.{quoted_in, whole_in}
use Rattle.elaboration_laws.proofs.QuotedTokens.{tokens_quoted}
use Rattle.elaboration_laws.proofs.valid_goals.tokens_fit.Goals as goal

pub returns : goal.returns
returns u = record {
  wholes = λ d h. whole_in d h;
  names = λ d k x e q h. quoted_in d k x e q h;
  quotes = λ text ts i h. tokens_quoted text ts i h;
}
