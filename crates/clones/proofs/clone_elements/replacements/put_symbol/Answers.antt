use Rattle.clones.proofs.clone_elements.Compared.{on_both}
use Rattle.clones.proofs.clone_elements.replacements.put_symbol.Goals as goal

pub returns-clause-is : goal.returns-clause-is
returns-clause-is c = on_both c.add_symbol.result (λ p q s i. record { symbols = λ k. p s k i; types = λ k. q s k i }) c.add_symbol.ensures.symbols c.add_symbol.ensures.types
