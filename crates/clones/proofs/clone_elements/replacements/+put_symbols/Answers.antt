use Rattle.std.proofs.Common.{ap, ◌∙◌}
use Rattle.std.proofs.lemmas.Result.{on_ok_weaker}
use Rattle.clones.specs.clone_elements.Replacements.{with_symbols}
use Rattle.clones.specs.clone_elements.Meaning.{symbol_pairs}
use Rattle.clones.proofs.clone_elements.replacements.+put_symbols.Goals as goal
use Rattle.tasks.proofs.outside.Passed.{no_ok}

pub returns-clause-is : goal.returns-clause-is
returns-clause-is t c = rw c.in-Some.ensures.cases.0 (on_ok_weaker c.put_symbols.result (λ h s. h s ∙ ap (with_symbols (symbol_pairs c.in-Some.rest.now)) (c.in_ok-put_symbol.ensures.is s)) c.put_symbols.ensures.is)

pub returns-in_err-put_symbol-clause-is : goal.returns-in_err-put_symbol-clause-is
returns-in_err-put_symbol-clause-is t c = no_ok _ _ c.from_residual.result c.from_residual.ensures.1

pub returns-in_err-put_symbol-clause-held : goal.returns-in_err-put_symbol-clause-held
returns-in_err-put_symbol-clause-held t c = no_ok _ _ c.from_residual.result c.from_residual.ensures.1
