-- What follows from tokens that are read, for any rule: the row of the first token, a rule that reads what another reads,
-- and a rule that may be empty.
use Rattle.grammar.proofs.reading.Common.{◌≡◌, ℕ, ◌+◌, ◌<◌, ◌≤◌, ◌⊎◌, inl, inr, Bool, true, false, List, [], ◌∷◌, ◌++◌, length, Option, Some, None, option_map, refl, sym, ap, ◌∙◌, subst, arith, add-one, drop-cons, Terminal, Symbol, is_seal, is_tail, Lexeme, ReadingRow, Val, Vals, back, extend, front, then_row, rows, at_end, blank, by_row, find, values_over, read, with_blank}
use Rattle.std.proofs.Math.ListN.{drop_of_length-le}
use Rattle.std.proofs.lemmas.List.{get_or_past}
use Rattle.tokens_why.specs.declared.terminal.Terminal.TheVariants as t
use Rattle.grammar.specs.reading.Reads.{from, nowhere, terminal_at, token_at}
use Rattle.grammar.proofs.reading.Reading.{find_apart, find_extend, unmapped}

pub from_cons : (xs : List Lexeme) (i : ℕ) → i < length xs → from xs i ≡ token_at xs i ∷ from xs (i + 1)
from_cons xs i h = rw (add-one, drop-cons xs i nowhere) refl

pub from_end : (xs : List Lexeme) (i : ℕ) → length xs ≤ i → from xs i ≡ []
from_end xs i h = rw (drop_of_length-le xs h) refl

pub below_or : (i n : ℕ) → (i < n) ⊎ (n ≤ i)
below_or i n = grind (arith)

-- a symbol that is not empty is at a token
pub stands_within : (xs : List Lexeme) (s : Symbol) (i : ℕ) (k : List Symbol) (vs : Val s × Vals k) → blank s ≡ None → read (from xs i) i false (s ∷ k) ≡ Some vs → i < length xs
stands_within xs s i k vs b g = by_cases (below_or i (length xs))
  where
    by_cases : (i < length xs) ⊎ (length xs ≤ i) → i < length xs
    by_cases (inl h) = h
    by_cases (inr h) = let e : with_blank s k None (at_end k) ≡ Some vs = sym (ap (λ o. with_blank s k o (at_end k)) b) ∙ sym (ap (λ v. read v i false (s ∷ k)) (from_end xs i h)) ∙ g in cc

-- What the row of the first token reads.
pub inverted : (s : Symbol) (x : Lexeme) (r : ReadingRow s) (xs : List Lexeme) (i : ℕ) (k : List Symbol) (vs : Val s × Vals k) → find (rows s) x.terminal ≡ Some r → read (x ∷ xs) i false (s ∷ k) ≡ Some vs → (us : Vals (r.following k)) × (read xs (i + 1) false (r.following k) ≡ Some us) × (r.act k i x.text us ≡ vs)
inverted s x r xs i k vs e h = unmapped (λ us. r.act k i x.text us) (read xs (i + 1) false (r.following k)) vs (subst (λ o. by_row s k (λ k'. read xs (i + 1) false k') i x.text o (with_blank s k (blank s) (values_over (λ k'. read xs (i + 1) false k') i x (is_seal s) k)) ≡ Some vs) e h)

-- the token that is first, and what the row that it begins reads
pub first_row : (xs : List Lexeme) (i : ℕ) (s : Symbol) (r : ReadingRow s) (k : List Symbol) (vs : Val s × Vals k) → i < length xs → find (rows s) (terminal_at xs i) ≡ Some r → read (from xs i) i false (s ∷ k) ≡ Some vs → (us : Vals (r.following k)) × (read (from xs (i + 1)) (i + 1) false (r.following k) ≡ Some us) × (r.act k i (token_at xs i).text us ≡ vs)
first_row xs i s r k vs h e g = inverted s (token_at xs i) r (from xs (i + 1)) i k vs e (sym (ap (λ v. read v i false (s ∷ k)) (from_cons xs i h)) ∙ g)

-- and the other way round
pub by_first : (xs : List Lexeme) (i : ℕ) (s : Symbol) (r : ReadingRow s) (k : List Symbol) (us : Vals (r.following k)) → i < length xs → find (rows s) (terminal_at xs i) ≡ Some r → read (from xs (i + 1)) (i + 1) false (r.following k) ≡ Some us → read (from xs i) i false (s ∷ k) ≡ Some (r.act k i (token_at xs i).text us)
by_first xs i s r k us h e g = rw (from_cons xs i h, e, g) refl

-- What is read by the row of another rule is read by that rule.
pub other_rule : (xs : List Lexeme) (i : ℕ) (s a : Symbol) (ss : List Symbol) (f : Val a → Vals ss → Val s) (r : ReadingRow a) (k : List Symbol) (vs : Val s × Vals k) → i < length xs → find (rows a) (terminal_at xs i) ≡ Some r → find (rows s) (terminal_at xs i) ≡ Some (then_row s a ss f r) → read (from xs i) i false (s ∷ k) ≡ Some vs → (us : Val a × Vals (ss ++ k)) × (read (from xs i) i false (a ∷ (ss ++ k)) ≡ Some us) × ((f us.0 (front ss k us.1), back ss k us.1) ≡ vs)
other_rule xs i s a ss f r k vs h e g q = let p = first_row xs i s (then_row s a ss f r) k vs h g q in (r.act (ss ++ k) i (token_at xs i).text p.0, by_first xs i a r (ss ++ k) p.0 h e p.1, p.2)

-- a symbol that is not empty takes its first token
pub unread : (xs : List Lexeme) (i : ℕ) (s : Symbol) (k : List Symbol) (vs : Val s × Vals k) → i < length xs → blank s ≡ None → find (rows s) (terminal_at xs i) ≡ None → read (from xs i) i false (s ∷ k) ≡ Some vs → ⊥
unread xs i s k vs h b n g = let e : with_blank s k None (values_over (λ k'. read (from xs (i + 1)) (i + 1) false k') i (token_at xs i) (is_seal s) k) ≡ Some vs = sym (skipped b n) ∙ sym (ap (λ v. read v i false (s ∷ k)) (from_cons xs i h)) ∙ g in cc
  where
    skipped : blank s ≡ None → find (rows s) (terminal_at xs i) ≡ None → read (token_at xs i ∷ from xs (i + 1)) i false (s ∷ k) ≡ with_blank s k None (values_over (λ k'. read (from xs (i + 1)) (i + 1) false k') i (token_at xs i) (is_seal s) k)
    skipped b n = rw (n, b) refl

pub blanked : (s : Symbol) (k : List Symbol) (v : Val s) (o : Option (Vals k)) (vs : Val s × Vals k) → with_blank s k (Some v) o ≡ Some vs → (vs.0 ≡ v) × (o ≡ Some vs.1)
blanked s k v None vs h = cc
blanked s k v (Some us) vs h = (cc, cc)

abbrev pub is_other : Terminal → Bool
is_other t.OtherWord = true
is_other _ = false

-- a terminal of the grammar is at a token
pub stands : (xs : List Lexeme) (j : ℕ) (x : Terminal) → terminal_at xs j ≡ x → is_other x ≡ false → j < length xs
stands xs j x e n = by_cases (below_or j (length xs))
  where
    by_cases : (j < length xs) ⊎ (length xs ≤ j) → j < length xs
    by_cases (inl h) = h
    by_cases (inr h) = let o : t.OtherWord ≡ x = sym (ap (λ v. v.terminal) (get_or_past xs j nowhere h)) ∙ e in let f : true ≡ false = ap is_other o ∙ n in cc

-- A rule that may be empty is passed over where none of its rows begins.
pub passes : (xs : List Lexeme) (j : ℕ) (s : Symbol) (v : Val s) (k : List Symbol) (vs : Val s × Vals k) → blank s ≡ Some v → is_seal s ≡ false → find (rows s) (terminal_at xs j) ≡ None → read (from xs j) j false (s ∷ k) ≡ Some vs → (vs.0 ≡ v) × (read (from xs j) j false k ≡ Some vs.1)
passes xs j s v k vs b l n g = by_length (below_or j (length xs))
  where
    at_none : with_blank s k (blank s) (at_end k) ≡ Some vs → with_blank s k (Some v) (at_end k) ≡ Some vs
    at_none q = subst (λ o. with_blank s k o (at_end k) ≡ Some vs) b q

    passing : read (token_at xs j ∷ from xs (j + 1)) j false (s ∷ k) ≡ Some vs → with_blank s k (Some v) (values_over (λ k'. read (from xs (j + 1)) (j + 1) false k') j (token_at xs j) false k) ≡ Some vs
    passing q = rw (n, b, l) at q

    by_length : (j < length xs) ⊎ (length xs ≤ j) → (vs.0 ≡ v) × (read (from xs j) j false k ≡ Some vs.1)
    by_length (inl h) = rw (from_cons xs j h) (blanked s k v (values_over (λ k'. read (from xs (j + 1)) (j + 1) false k') j (token_at xs j) false k) vs (passing (sym (ap (λ q. read q j false (s ∷ k)) (from_cons xs j h)) ∙ g)))
    by_length (inr h) = rw (from_end xs j h) (blanked s k v (at_end k) vs (at_none (sym (ap (λ q. read q j false (s ∷ k)) (from_end xs j h)) ∙ g)))

-- Where a rule reads what another reads and symbols after it.
pub split : (xs : List Lexeme) (i : ℕ) (s a : Symbol) (ss : List Symbol) (f : Val a → Vals ss → Val s) (own : List (ReadingRow s)) (k : List Symbol) (vs : Val s × Vals k) → i < length xs → rows s ≡ own ++ extend s a ss f (rows a) → find own (terminal_at xs i) ≡ None → (find (rows s) (terminal_at xs i) ≡ None → ⊥) → read (from xs i) i false (s ∷ k) ≡ Some vs → (us : Val a × Vals (ss ++ k)) × (read (from xs i) i false (a ∷ (ss ++ k)) ≡ Some us) × ((f us.0 (front ss k us.1), back ss k us.1) ≡ vs)
split xs i s a ss f own k vs h is n some g = by_found (find (rows a) (terminal_at xs i)) refl
  where
    found : (o : Option (ReadingRow a)) → find (rows a) (terminal_at xs i) ≡ o → find (rows s) (terminal_at xs i) ≡ option_map (then_row s a ss f) o
    found o e = ap (λ rs. find rs (terminal_at xs i)) is ∙ find_apart own (extend s a ss f (rows a)) (terminal_at xs i) n ∙ find_extend s a ss f (rows a) (terminal_at xs i) ∙ ap (option_map (then_row s a ss f)) e

    by_found : (o : Option (ReadingRow a)) → find (rows a) (terminal_at xs i) ≡ o → (us : Val a × Vals (ss ++ k)) × (read (from xs i) i false (a ∷ (ss ++ k)) ≡ Some us) × ((f us.0 (front ss k us.1), back ss k us.1) ≡ vs)
    by_found None e = absurd (some (found None e))
    by_found (Some r) e = other_rule xs i s a ss f r k vs h e (found (Some r) e) g

pub split_due : (xs : List Lexeme) (i : ℕ) (s a : Symbol) (ss : List Symbol) (f : Val a → Vals ss → Val s) (own : List (ReadingRow s)) (k : List Symbol) (vs : Val s × Vals k) → blank s ≡ None → rows s ≡ own ++ extend s a ss f (rows a) → find own (terminal_at xs i) ≡ None → read (from xs i) i false (s ∷ k) ≡ Some vs → (us : Val a × Vals (ss ++ k)) × (read (from xs i) i false (a ∷ (ss ++ k)) ≡ Some us) × ((f us.0 (front ss k us.1), back ss k us.1) ≡ vs)
split_due xs i s a ss f own k vs b is n g = let h = stands_within xs s i k vs b g in split xs i s a ss f own k vs h is n (λ e. unread xs i s k vs h b e g) g

-- the row of the token that is first
pub row_at : (xs : List Lexeme) (i : ℕ) (s : Symbol) (r : ReadingRow s) (k : List Symbol) (vs : Val s × Vals k) → blank s ≡ None → find (rows s) (terminal_at xs i) ≡ Some r → read (from xs i) i false (s ∷ k) ≡ Some vs → (us : Vals (r.following k)) × (read (from xs (i + 1)) (i + 1) false (r.following k) ≡ Some us) × (r.act k i (token_at xs i).text us ≡ vs)
row_at xs i s r k vs b e g = first_row xs i s r k vs (stands_within xs s i k vs b g) e g

-- After what ends open only tails are silent.
pub plain : (zs : List Lexeme) (j : ℕ) (b : Bool) (s : Symbol) (k : List Symbol) (vs : Val s × Vals k) → is_tail s ≡ false → read zs j b (s ∷ k) ≡ Some vs → read zs j false (s ∷ k) ≡ Some vs
plain zs j false s k vs n g = g
plain [] j true s k vs n g = g
plain (x ∷ xs) j true s k vs n g = rw n at g
