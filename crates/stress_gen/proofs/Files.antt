-- The refutations, one after another.
use Rattle.std.proofs.Common.{◌≡◌, ℕ, suc, ◌+◌, List, [], ◌∷◌, ◌++◌, sym, ap, subst, ◌∙◌, add-one}
use Rattle.std.proofs.lemmas.List.{append_assoc}
use Rattle.std.specs.Prelude.{decimal}
use Rattle.stress_gen.specs.Texts.{refutation_text}
use Rattle.stress_gen.specs.Files.{feeds, refutation_files, refutation_lines}

abbrev refutation_file : ℕ → List ℕ × List ℕ
refutation_file part = (decimal part, refutation_text part)

next_file : (before now after : List (List ℕ × List ℕ)) (k : ℕ) → now ≡ before ++ refutation_files k → after ≡ now ++ refutation_file (suc k) ∷ [] → after ≡ before ++ refutation_files (suc k)
next_file before now after k h is = is ∙ ap (λ l. l ++ refutation_file (suc k) ∷ []) h ∙ append_assoc before (refutation_files k) (refutation_file (suc k) ∷ [])

-- one refutation more
pub file_more : (before now after : List (List ℕ × List ℕ)) (k : ℕ) → now ≡ before ++ refutation_files k → after ≡ now ++ (decimal (k + 1), refutation_text (k + 1)) ∷ [] → after ≡ before ++ refutation_files (k + 1)
file_more before now after k h is =
    subst (λ n. after ≡ before ++ refutation_files n) (sym (add-one k)) (next_file before now after k h (subst (λ n. after ≡ now ++ refutation_file n ∷ []) (add-one k) is))

next_lines : (lines more all k : ℕ) → lines ≡ refutation_lines k → more ≡ feeds (refutation_text (suc k)) → all ≡ lines + more → all ≡ refutation_lines (suc k)
next_lines lines more all k h m is = is ∙ ap (λ n. n + more) h ∙ ap (λ n. refutation_lines k + n) m

-- its lines more
pub lines_more : (lines more all k : ℕ) → lines ≡ refutation_lines k → more ≡ feeds (refutation_text (k + 1)) → all ≡ lines + more → all ≡ refutation_lines (k + 1)
lines_more lines more all k h m is =
    subst (λ n. all ≡ refutation_lines n) (sym (add-one k)) (next_lines lines more all k h (subst (λ n. more ≡ feeds (refutation_text n)) (add-one k) m) is)
