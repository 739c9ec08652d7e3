-- The commands of a problem that are after what its table makes, as S-expressions, each on a line.
use Rattle.std.proofs.Common.{◌≡◌, ℕ, ◌+◌, List, [], ◌∷◌, ◌++◌, codes, refl, sym, ap, ◌∙◌, append_assoc, append-nil}
use Rattle.std.specs.Fmt.{decimal}
use Rattle.tasks.specs.trees.Tree.{Tree}
use Rattle.name_tables.specs.Tables.{thing_of}
use Rattle.printed_problems.specs.printed_terms.Texts.{parameter}
use Rattle.part_texts.specs.smt_texts.Text.{smt_parameter_line}
use Rattle.part_texts.specs.smt_law.s_expressions.Sexps.{Sexp, SexpWord, Group, Nothing, Then, write_sexp, lines}
use Rattle.part_texts.proofs.smt_law.Forms.{Known, word_of, read}

abbrev pub command : List ℕ → Sexp → Sexp
command word parts = Group (Then (SexpWord word) parts)

abbrev pub parameter_command : ℕ → List ℕ → Sexp
parameter_command n sort = command (codes "declare-fun") (Then (SexpWord (parameter n)) (Then (Group Nothing) (Then (SexpWord sort) Nothing)))

abbrev pub assertion : Sexp → Sexp
assertion s = command (codes "assert") (Then s Nothing)

abbrev pub negated : Sexp → Sexp
negated s = Group (Then (SexpWord (codes "not")) (Then s Nothing))

abbrev pub check : Sexp
check = command (codes "check-sat") Nothing

abbrev pub formula_read : Known → Tree → Sexp
formula_read c e = (read c 0 e).one

abbrev pub type_word : Known → Tree → List ℕ
type_word c e = word_of c (thing_of e)

abbrev pub parameter_commands : Known → ℕ → List Tree → List Sexp
parameter_commands c n [] = []
parameter_commands c n (e ∷ es) = parameter_command n (type_word c e) ∷ parameter_commands c (n + 1) es

abbrev pub assertions : Known → List Tree → List Sexp
assertions c [] = []
assertions c (e ∷ es) = assertion (formula_read c e) ∷ assertions c es

-- the premises, the negated goal and the end
abbrev pub ending : Known → Tree → List Sexp
ending c goal = assertion (negated (formula_read c goal)) ∷ check ∷ []

abbrev pub commands : Known → List Tree → List Tree → Tree → List Sexp
commands c params premises goal = parameter_commands c 0 params ++ (assertions c premises ++ ending c goal)

-- ---- lines
pub lines_join : (ss us : List Sexp) → lines (ss ++ us) ≡ lines ss ++ lines us
lines_join [] us = refl
lines_join (s ∷ ss) us = ap (λ z. (write_sexp s ++ 10 ∷ []) ++ z) (lines_join ss us) ∙ sym (append_assoc (write_sexp s ++ 10 ∷ []) (lines ss) (lines us))

parameter_parts : (v s : List ℕ) → ((v ++ (32 ∷ 40 ∷ 41 ∷ 32 ∷ [])) ++ s) ++ (41 ∷ 10 ∷ []) ≡ ((v ++ 32 ∷ 40 ∷ 41 ∷ 32 ∷ (s ++ [])) ++ (41 ∷ [])) ++ (10 ∷ [])
parameter_parts v s =
    append_assoc (v ++ (32 ∷ 40 ∷ 41 ∷ 32 ∷ [])) s (41 ∷ 10 ∷ []) ∙ append_assoc v (32 ∷ 40 ∷ 41 ∷ 32 ∷ []) (s ++ 41 ∷ 10 ∷ [])
    ∙ sym (append_assoc v (32 ∷ 40 ∷ 41 ∷ 32 ∷ s) (41 ∷ 10 ∷ [])) ∙ sym (append_assoc (v ++ 32 ∷ 40 ∷ 41 ∷ 32 ∷ s) (41 ∷ []) (10 ∷ []))
    ∙ ap (λ z. ((v ++ 32 ∷ 40 ∷ 41 ∷ 32 ∷ z) ++ (41 ∷ [])) ++ (10 ∷ [])) (sym (append-nil s))

pub parameter_line_is : (n : ℕ) (w : List ℕ) → smt_parameter_line n w ≡ write_sexp (parameter_command n w) ++ 10 ∷ []
parameter_line_is n w = ap (λ z. codes "(declare-fun c" ++ z) (parameter_parts (decimal n) w)

formula_parts : (s : List ℕ) → s ++ (41 ∷ 10 ∷ []) ≡ ((s ++ []) ++ (41 ∷ [])) ++ (10 ∷ [])
formula_parts s = sym (append_assoc s (41 ∷ []) (10 ∷ [])) ∙ ap (λ z. (z ++ (41 ∷ [])) ++ (10 ∷ [])) (sym (append-nil s))

pub assertion_is : (s : Sexp) → codes "(assert " ++ write_sexp s ++ codes ")\n" ≡ write_sexp (assertion s) ++ 10 ∷ []
assertion_is s = ap (λ z. codes "(assert " ++ z) (formula_parts (write_sexp s))

goal_parts : (s : List ℕ) → s ++ (41 ∷ 41 ∷ 10 ∷ []) ≡ ((((s ++ []) ++ (41 ∷ [])) ++ []) ++ (41 ∷ [])) ++ (10 ∷ [])
goal_parts s =
    sym (append_assoc s (41 ∷ []) (41 ∷ 10 ∷ [])) ∙ sym (append_assoc (s ++ 41 ∷ []) (41 ∷ []) (10 ∷ []))
    ∙ (λ i. ((sym (append-nil (sym (append-nil s) i ++ (41 ∷ []))) i) ++ (41 ∷ [])) ++ (10 ∷ []))

pub goal_is : (s : Sexp) → codes "(assert (not " ++ write_sexp s ++ codes "))\n" ≡ write_sexp (assertion (negated s)) ++ 10 ∷ []
goal_is s = ap (λ z. codes "(assert (not " ++ z) (goal_parts (write_sexp s))
