-- What a text tells of the expressions that it is the text of.
use Rattle.std.specs.Prelude.{◌≡◌, List}
use Rattle.part_texts.specs.smt_law.s_expressions.Sexps.{Sexp, write_sexp, lines, IsOne, AllOne}

-- a text is that of one expression at most
abbrev pub LawOfExpressions : Type 0
LawOfExpressions = (s u : Sexp) → IsOne s → IsOne u → write_sexp s ≡ write_sexp u → s ≡ u

-- and lines are those of one list of expressions at most
abbrev pub LawOfLines : Type 0
LawOfLines = (ss us : List Sexp) → AllOne ss → AllOne us → lines ss ≡ lines us → ss ≡ us
