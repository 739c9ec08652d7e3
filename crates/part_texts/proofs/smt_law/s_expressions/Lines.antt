-- Lines of expressions can be told apart.
use Rattle.std.proofs.Common.{◌≡◌, ℕ, ◌+◌, List, [], ◌∷◌, ◌++◌, length, drop, refl, sym, ap, ◌∙◌, append_assoc, length-append, arith}
use Rattle.part_texts.specs.smt_law.s_expressions.Sexps.{Sexp, write_sexp, lines, AllOne}
use Rattle.part_texts.proofs.smt_law.s_expressions.Reading.{same_text}

some_line : (s : Sexp) (rest : List ℕ) → [] ≡ write_sexp s ++ 10 ∷ [] ++ rest → ⊥
some_line s rest h =
    let n : 0 ≡ length (write_sexp s ++ 10 ∷ [] ++ rest) = ap length h in
    let m : length (write_sexp s ++ 10 ∷ [] ++ rest) ≡ length (write_sexp s) + 1 + length rest = length-append (write_sexp s ++ 10 ∷ []) rest ∙ ap (λ (k : ℕ). k + length rest) (length-append (write_sexp s) (10 ∷ [])) in
    absurd (omega (arith, n, m))

pub same_lines : (ss us : List Sexp) → AllOne ss → AllOne us → lines ss ≡ lines us → ss ≡ us
same_lines [] [] a b h = refl
same_lines [] (u ∷ us) a b h = absurd (some_line u (lines us) h)
same_lines (s ∷ ss) [] a b h = absurd (some_line s (lines ss) (sym h))
same_lines (s ∷ ss) (u ∷ us) a b h =
    let apart : write_sexp s ++ 10 ∷ lines ss ≡ write_sexp u ++ 10 ∷ lines us = sym (append_assoc (write_sexp s) (10 ∷ []) (lines ss)) ∙ h ∙ append_assoc (write_sexp u) (10 ∷ []) (lines us) in
    let one = same_text s u a.0 b.0 (10 ∷ lines ss) (10 ∷ lines us) refl refl apart in
    let more = same_lines ss us a.1 b.1 (ap (drop 1) one.1) in
    (λ i. one.0 i ∷ more i)
