-- Templates as they are filled, and texts one after another.
use Rattle.std.proofs.Common.{◌≡◌, ℕ, ◌+◌, ◌==◌, ◌<◌, ◌≤◌, true, false, cond, List, [], ◌∷◌, ◌++◌, length, get_or, drop, refl, sym, ap, ◌∙◌, add-one}
use Rattle.std.proofs.lemmas.List.{append_assoc, at_drop_more, at_drop_all}
use Rattle.std.specs.Prelude.{decimal}
use Rattle.stress_gen.specs.Texts.{filled, for_each}

-- the next number for a mark
pub mark_filled : (c n : ℕ) (cs ns : List ℕ) (used : ℕ) → (c == 37) ≡ true → used < length ns → n ≡ get_or ns used 0 → filled (c ∷ cs) (drop used ns) ≡ decimal n ++ filled cs (drop (used + 1) ns)
mark_filled c n cs ns used mark within is =
    at_drop_more (filled (c ∷ cs)) ns used 0 within
    ∙ ap (λ b. cond b (decimal (get_or ns used 0) ++ filled cs (drop (used + 1) ns)) (c ∷ filled cs (get_or ns used 0 ∷ drop (used + 1) ns))) mark
    ∙ ap (λ m. decimal m ++ filled cs (drop (used + 1) ns)) (sym is)

other_byte : (c : ℕ) (cs ns : List ℕ) → (c == 37) ≡ false → filled (c ∷ cs) ns ≡ c ∷ filled cs ns
other_byte c cs [] other = refl
other_byte c cs (n ∷ ns) other = ap (λ b. cond b (decimal n ++ filled cs ns) (c ∷ filled cs (n ∷ ns))) other

-- any other byte
pub byte_filled : (c : ℕ) (cs ns : List ℕ) (used : ℕ) → (c == 37) ≡ false → filled (c ∷ cs) (drop used ns) ≡ c ∷ filled cs (drop used ns)
byte_filled c cs ns used other = other_byte c cs (drop used ns) other

-- a mark without a number
pub mark_left : (c : ℕ) (cs ns : List ℕ) (used : ℕ) → length ns ≤ used → filled (c ∷ cs) (drop used ns) ≡ c ∷ filled cs (drop used ns)
mark_left c cs ns used none = at_drop_all (filled (c ∷ cs)) ns used none ∙ ap (λ l. c ∷ l) (sym (at_drop_all (filled cs) ns used none))

-- one text more
pub one_more : (text : ℕ → List ℕ) (before now after : List ℕ) (i : ℕ) → now ≡ before ++ for_each text i → after ≡ now ++ text i → after ≡ before ++ for_each text (i + 1)
one_more text before now after i h is =
    is ∙ ap (λ l. l ++ text i) h ∙ append_assoc before (for_each text i) (text i) ∙ ap (λ k. before ++ for_each text k) (sym (add-one i))

-- four texts more
pub four_more : (before a b c d one two three four : List ℕ) → one ≡ before ++ a → two ≡ one ++ b → three ≡ two ++ c → four ≡ three ++ d → four ≡ before ++ (a ++ b ++ c ++ d)
four_more before a b c d one two three four e1 e2 e3 e4 =
    let first : two ≡ before ++ (a ++ b) = e2 ∙ ap (λ l. l ++ b) e1 ∙ append_assoc before a b in
    let third : three ≡ before ++ (a ++ b ++ c) = e3 ∙ ap (λ l. l ++ c) first ∙ append_assoc before (a ++ b) c in
    e4 ∙ ap (λ l. l ++ d) third ∙ append_assoc before (a ++ b ++ c) d
