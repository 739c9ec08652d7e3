-- Both are lemmas.
use Rattle.std.proofs.Common.{[], append-nil, ◌∙◌, sym}
use Rattle.part_texts.specs.smt_law.s_expressions.Sexps.{write_sexp}
use Rattle.part_texts.proofs.smt_law.s_expressions.Reading.{same_text}
use Rattle.part_texts.proofs.smt_law.s_expressions.Lines.{same_lines}
use Rattle.part_texts.proofs.smt_law.s_expressions.laws.Goals as goal

pub returns-clause-expressions : goal.returns-clause-expressions
returns-clause-expressions c s u a b h = (same_text s u a b [] [] tt tt (append-nil (write_sexp s) ∙ h ∙ sym (append-nil (write_sexp u)))).0

pub returns-clause-lines : goal.returns-clause-lines
returns-clause-lines c ss us a b h = same_lines ss us a b h
