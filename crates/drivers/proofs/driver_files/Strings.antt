-- The string of an import is UTF-8, by the tokens and the grammar.
use Rattle.std.proofs.Common.{◌≡◌, ◌≤◌, ◌+◌, ◌-◌, ◌∙◌, ◌⊎◌, inl, inr, ℕ, zero, suc, Bool, true, false, cond, nat_eq, List, [], ◌∷◌, length, take, slice_range, Option, Some, None, refl, sym, ap, arith}
use Rattle.std.specs.List.{prefix_len}
use Rattle.std.specs.Str.{IsUtf8, is_utf8}
use Rattle.std.proofs.lemmas.Str.{IsUtf8-from_is_utf8}
use Rattle.tokens_why.specs.Bytes.{is_letter, is_digit, is_word_byte, is_operator_byte}
use Rattle.tokens_why.specs.Gap.{one_more}
use Rattle.tokens_why.specs.Strings.{kind_of}
use Rattle.tokens_why.specs.declared.token.TokenKind.{TokenKind}
use Rattle.tokens_why.specs.declared.token.TokenKind.TheVariants as source
use Rattle.drivers.specs.declared.driver_tokens.terminal.DriverTerminal.{DriverTerminal}
use Rattle.drivers.specs.declared.driver_tokens.terminal.DriverTerminal.TheVariants as t
use Rattle.drivers.specs.driver_tokens.Strings.{quoted}
use Rattle.drivers.specs.driver_tokens.Tokens.{DriverLexeme, gap_length, number_length, string_length, mark_length, token_length, open_or_star, operator_of, driver_terminal_of, driver_lexeme, after_gap, lexed, driver_lexemes}
use Rattle.drivers.specs.driver_items.Items.{string_value_of}
use Rattle.drivers.proofs.driver_files.Texts.{said-text}
use Rattle.word_tables.proofs.SearchLemmas.{bool-cases as either}

-- the bytes between the quotes
abbrev inside : List ℕ → List ℕ
inside token = slice_range token 1 (length token - 1)

more-inv : (o : Option ℕ) (m : ℕ) → one_more o ≡ Some m → (k : ℕ) × (o ≡ Some k) × (m ≡ k + 1)
more-inv (Some k) m e = (k, refl, cc)
more-inv None m e = absurd (cc)

quoted-within : (e : Bool) (bs : List ℕ) (m : ℕ) → quoted e bs ≡ Some m → m ≤ length bs
quoted-within e [] m q = absurd (cc)
quoted-within true (a ∷ bs) m q = let k = more-inv (quoted false bs) m q in let r = quoted-within false bs k.0 k.1 in omega (arith, r, k.2)
quoted-within false (a ∷ bs) m q = elim (either (nat_eq a 34)) [
  | inl y ↦ let one : Some 1 ≡ Some m = sym (ap (λ v. cond v (Some 1) (one_more (quoted (nat_eq a 92) bs))) y) ∙ q in let is : 1 ≡ m = cc in omega (arith, is)
  | inr n ↦ let k = more-inv (quoted (nat_eq a 92) bs) m (sym (ap (λ v. cond v (Some 1) (one_more (quoted (nat_eq a 92) bs))) n) ∙ q) in
      let r = quoted-within (nat_eq a 92) bs k.0 k.1 in omega (arith, r, k.2)
]

take-less : (k : ℕ) (bs : List ℕ) → take k (take (suc k) bs) ≡ take k bs
take-less zero bs = refl
take-less (suc k) [] = refl
take-less (suc k) (b ∷ bs) = ap (λ v. b ∷ v) (take-less k bs)

take-length : (n : ℕ) (bs : List ℕ) → n ≤ length bs → length (take n bs) ≡ n
take-length zero bs le = refl
take-length (suc n) [] le = absurd (omega arith)
take-length (suc n) (b ∷ bs) le = ap suc (take-length n bs (omega arith))

inside-is : (a n : ℕ) (bs : List ℕ) → n ≤ length bs → inside (a ∷ take n bs) ≡ take (n - 1) bs
inside-is a zero bs le = refl
inside-is a (suc k) bs le =
    let e : suc (length (take (suc k) bs)) - 1 - 1 ≡ k = omega (arith, take-length (suc k) bs le) in
    let d : suc k - 1 ≡ k = omega arith in
    ap (λ v. take v (take (suc k) bs)) e ∙ take-less k bs ∙ ap (λ v. take v bs) (sym d)

by-quoted : (a n : ℕ) (bs : List ℕ) (q : Option ℕ) → quoted false bs ≡ q → suc n ≡ string_length bs q → is_utf8 (inside (a ∷ take n bs)) ≡ true
by-quoted a n bs None q e = absurd (omega arith)
by-quoted a n bs (Some m) q e = elim (either (is_utf8 (take (m - 1) bs))) [
  | inl u ↦ let l : suc n ≡ 1 + m = e ∙ ap (λ v. cond v (1 + m) 0) u in
      let same : n ≡ m = omega (arith, l) in
      let le : n ≤ length bs = omega (arith, same, quoted-within false bs m q) in
      ap is_utf8 (inside-is a n bs le ∙ ap (λ v. take (v - 1) bs) same) ∙ u
  | inr u ↦ let l : suc n ≡ 0 = e ∙ ap (λ v. cond v (1 + m) 0) u in absurd (omega (arith, l))
]

-- a token that is a string begins with a quote
peel : (b : Bool) (x y z : DriverTerminal) → cond b x y ≡ z → (x ≡ z → ⊥) → (b ≡ false) × (y ≡ z)
peel true x y z e n = absurd (n e)
peel false x y z e n = (refl, e)

no-open : (bs : List ℕ) → open_or_star bs ≡ t.Text → ⊥
no-open [] e = cc
no-open (b ∷ bs) e = cc

no-operator : (k : Option TokenKind) → operator_of k ≡ t.Text → ⊥
no-operator (Some source.Equal) e = cc
no-operator (Some source.Minus) e = cc
no-operator (Some (source.Operator level prefix)) e = cc
no-operator _ e = cc

no-mark : (p q r s : Bool) (o : DriverTerminal) → (o ≡ t.Text → ⊥) → cond p o (cond q t.Close (cond r t.Dot (cond s t.Comma t.Nothing))) ≡ t.Text → ⊥
no-mark true q r s o n e = n e
no-mark false true r s o n e = cc
no-mark false false true s o n e = cc
no-mark false false false true o n e = cc
no-mark false false false false o n e = cc

quote-first : (p q r s u : Bool) (o : DriverTerminal) → (o ≡ t.Text → ⊥) → cond u t.Text (cond p o (cond q t.Close (cond r t.Dot (cond s t.Comma t.Nothing)))) ≡ t.Text → u ≡ true
quote-first p q r s true o n e = refl
quote-first p q r s false o n e = absurd (no-mark p q r s o n e)

string-token : (a n : ℕ) (bs : List ℕ) → suc n ≡ token_length (a ∷ bs) → driver_terminal_of (a ∷ take n bs) ≡ t.Text → is_utf8 (inside (a ∷ take n bs)) ≡ true
string-token a n bs e k =
    let l = peel (is_letter a) _ _ t.Text k (λ x. cc) in
    let d = peel (is_digit a) _ _ t.Text l.1 (λ x. cc) in
    let o = peel (is_operator_byte a) _ _ t.Text d.1 (no-operator (kind_of (a ∷ take n bs))) in
    let u = quote-first (nat_eq a 40) (nat_eq a 41) (nat_eq a 46) (nat_eq a 44) (nat_eq a 34) (open_or_star (take n bs)) (no-open (take n bs)) o.1 in
    by-quoted a n bs (quoted false bs) refl
    (e
    ∙ ap (λ v. cond v (1 + prefix_len is_word_byte bs) (cond (is_digit a) (number_length a bs) (cond (is_operator_byte a) (1 + prefix_len is_operator_byte bs) (cond (nat_eq a 34) (string_length bs (quoted false bs)) (mark_length a (a ∷ bs)))))) l.0
    ∙ ap (λ v. cond v (number_length a bs) (cond (is_operator_byte a) (1 + prefix_len is_operator_byte bs) (cond (nat_eq a 34) (string_length bs (quoted false bs)) (mark_length a (a ∷ bs))))) d.0
    ∙ ap (λ v. cond v (1 + prefix_len is_operator_byte bs) (cond (nat_eq a 34) (string_length bs (quoted false bs)) (mark_length a (a ∷ bs)))) o.0
    ∙ ap (λ v. cond v (string_length bs (quoted false bs)) (mark_length a (a ∷ bs))) u)

-- each string of a text says UTF-8
abbrev pub IsText : DriverLexeme → Type 0
IsText x = x.terminal ≡ t.Text → IsUtf8 (string_value_of x)

abbrev pub AreTexts : List DriverLexeme → Type 0
AreTexts [] = Unit {0}
AreTexts (x ∷ xs) = IsText x × AreTexts xs

token-text : (at n : ℕ) (text : List ℕ) → suc n ≡ token_length text → IsText (driver_lexeme at (take (suc n) text))
token-text at n [] e = absurd (omega arith)
token-text at n (a ∷ bs) e = λ k. said-text (inside (a ∷ take n bs)) (IsUtf8-from_is_utf8 (inside (a ∷ take n bs)) (string-token a n bs e k))

gap-texts : (gap k at : ℕ) (text : List ℕ) (next : ℕ → List DriverLexeme) → k ≡ token_length text → ((n : ℕ) → AreTexts (next n)) → AreTexts (after_gap gap k at text next)
gap-texts (suc n) k at text next e h = h n
gap-texts zero zero at text next e h = ((λ (k : t.Nothing ≡ t.Text). absurd (cc)), tt)
gap-texts zero (suc n) at text next e h = (token-text at n text e, h n)

lexed-texts : (bs : List ℕ) (at passed : ℕ) → AreTexts (lexed bs at passed)
lexed-texts [] at passed = tt
lexed-texts (a ∷ bs) at (suc n) = lexed-texts bs (at + 1) n
lexed-texts (a ∷ bs) at zero = gap-texts (gap_length (a ∷ bs)) (token_length (a ∷ bs)) at (a ∷ bs) (λ n. lexed bs (at + 1) n) refl (λ n. lexed-texts bs (at + 1) n)

pub texts : (text : List ℕ) → AreTexts (driver_lexemes text)
texts text = lexed-texts text 0 0
