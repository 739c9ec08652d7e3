-- What the machine reads, and rules that read what another reads.
use Rattle.grammar.proofs.reading.Common.{◌≡◌, ℕ, ◌+◌, Bool, true, false, cond, List, [], ◌∷◌, ◌++◌, Option, Some, None, option_map, refl, sym, ap, ◌∙◌, subst, ⊤, Terminal, Symbol, Lexeme, past, ReadingRow, Val, Vals, back, extend, front, then_row, rows, at_end, blank, by_row, find, values_over, read, with_blank, same, is_seal, same_true}
use Rattle.tokens_why.specs.declared.terminal.Terminal.TheVariants as t

pub past-append : (xs ys : List Lexeme) (i : ℕ) → past i (xs ++ ys) ≡ past (past i xs) ys
past-append [] ys i = refl
past-append (x ∷ xs) ys i = past-append xs ys (i + 1)

-- Tokens are read as values of a stack, and what is left of it after them.
abbrev pub Reads : (k : List Symbol) → List Lexeme → ℕ → Vals k → Type 0
Reads k xs i vs = read xs i false k ≡ Some vs

-- no row of the symbol begins with the first token
abbrev pub Stops : Symbol → List Lexeme → Type 0
Stops s [] = ⊤
Stops s (y ∷ ys) = find (rows s) y.terminal ≡ None

-- A symbol that may be empty is passed over where none of its rows begins.
pub passed : (s : Symbol) (v : Val s) (k : List Symbol) (ys : List Lexeme) (i : ℕ) (vs : Vals k) → blank s ≡ Some v → is_seal s ≡ false → Stops s ys → Reads k ys i vs → Reads (s ∷ k) ys i (v, vs)
passed s v k [] i vs b l n h = rw (b, h) refl
passed s v k (y ∷ ys) i vs b l n h = rw (n, b, l, h) refl

pub unmapped : {A B : Type 0} → (f : A → B) (o : Option A) (v : B) → option_map f o ≡ Some v → (u : A) × (o ≡ Some u) × (f u ≡ v)
unmapped f None v h = cc
unmapped f (Some u) v h = (u, refl, cc)

pub fused : {A B C : Type 0} → (g : B → C) (f : A → B) (o : Option A) → option_map (λ v. g (f v)) o ≡ option_map g (option_map f o)
fused g f None = refl
fused g f (Some v) = refl

pub find_apart : {s : Symbol} → (own rs : List (ReadingRow s)) (x : Terminal) → find own x ≡ None → find (own ++ rs) x ≡ find rs x
find_apart [] rs x h = refl
find_apart (r ∷ own) rs x h = by_test (same r.first x) h (find_apart own rs x)
  where
    by_test : (b : Bool) → cond b (Some r) (find own x) ≡ None → (find own x ≡ None → find (own ++ rs) x ≡ find rs x) → cond b (Some r) (find (own ++ rs) x) ≡ find rs x
    by_test true e f = cc
    by_test false e f = f e

pub find_extend : (s a : Symbol) (ss : List Symbol) (f : Val a → Vals ss → Val s) (rs : List (ReadingRow a)) (x : Terminal) → find (extend s a ss f rs) x ≡ option_map (then_row s a ss f) (find rs x)
find_extend s a ss f [] x = refl
find_extend s a ss f (r ∷ rs) x = by_test (same r.first x) (find_extend s a ss f rs x)
  where
    by_test : (b : Bool) → find (extend s a ss f rs) x ≡ option_map (then_row s a ss f) (find rs x) → cond b (Some (then_row s a ss f r)) (find (extend s a ss f rs) x) ≡ option_map (then_row s a ss f) (cond b (Some r) (find rs x))
    by_test true e = refl
    by_test false e = e

-- Where a rule reads what another reads and symbols after it.
pub record Extends (s a : Symbol) (ss : List Symbol) (f : Val a → Vals ss → Val s) (own : List (ReadingRow s)) : Type 0 where
  pub is : rows s ≡ own ++ extend s a ss f (rows a)
  pub due : blank a ≡ None
  pub apart : (x : Terminal) (r : ReadingRow a) → find (rows a) x ≡ Some r → find own x ≡ None

-- no own row begins with the first token where the other rule does
abbrev pub ApartAt : {s : Symbol} → List (ReadingRow s) → Symbol → List Lexeme → Type 0
ApartAt own a [] = ⊤
ApartAt own a (x ∷ xs) = (r : ReadingRow a) → find (rows a) x.terminal ≡ Some r → find own x.terminal ≡ None

pub extended_at : (s a : Symbol) (ss : List Symbol) (f : Val a → Vals ss → Val s) (own : List (ReadingRow s)) → rows s ≡ own ++ extend s a ss f (rows a) → blank a ≡ None → (xs : List Lexeme) → ApartAt own a xs → (i : ℕ) (k : List Symbol) (v : Val a) (vs : Vals (ss ++ k)) → Reads (a ∷ (ss ++ k)) xs i (v, vs) → Reads (s ∷ k) xs i (f v (front ss k vs), back ss k vs)
extended_at s a ss f own is due [] apart i k v vs h = let e : with_blank a (ss ++ k) None (at_end (ss ++ k)) ≡ Some (v, vs) = subst (λ o. with_blank a (ss ++ k) o (at_end (ss ++ k)) ≡ Some (v, vs)) due h in cc
extended_at s a ss f own is due (x ∷ xs) apart i k v vs h = by_found (find (rows a) x.terminal) refl h
  where
    by_found : (o : Option (ReadingRow a)) → find (rows a) x.terminal ≡ o → by_row a (ss ++ k) (λ k'. read xs (i + 1) false k') i x.text o (with_blank a (ss ++ k) (blank a) (values_over (λ k'. read xs (i + 1) false k') i x (is_seal a) (ss ++ k))) ≡ Some (v, vs) → Reads (s ∷ k) (x ∷ xs) i (f v (front ss k vs), back ss k vs)
    by_found (Some r) e g = ap (λ o. by_row s k (λ k'. read xs (i + 1) false k') i x.text o (with_blank s k (blank s) (values_over (λ k'. read xs (i + 1) false k') i x (is_seal s) k))) (ap (λ rs. find rs x.terminal) is ∙ find_apart own (extend s a ss f (rows a)) x.terminal (apart r e) ∙ find_extend s a ss f (rows a) x.terminal ∙ ap (option_map (then_row s a ss f)) e)
        ∙ fused (λ u. (f u.0 (front ss k u.1), back ss k u.1)) (λ u. r.act (ss ++ k) i x.text u) (read xs (i + 1) false (r.following (ss ++ k)))
        ∙ ap (option_map (λ u. (f u.0 (front ss k u.1), back ss k u.1))) g
    by_found None e g = let q : with_blank a (ss ++ k) None (values_over (λ k'. read xs (i + 1) false k') i x (is_seal a) (ss ++ k)) ≡ Some (v, vs) = subst (λ o. with_blank a (ss ++ k) o (values_over (λ k'. read xs (i + 1) false k') i x (is_seal a) (ss ++ k)) ≡ Some (v, vs)) due g in cc

pub extended : (s a : Symbol) (ss : List Symbol) (f : Val a → Vals ss → Val s) (own : List (ReadingRow s)) → Extends s a ss f own → (xs : List Lexeme) (i : ℕ) (k : List Symbol) (v : Val a) (vs : Vals (ss ++ k)) → Reads (a ∷ (ss ++ k)) xs i (v, vs) → Reads (s ∷ k) xs i (f v (front ss k vs), back ss k vs)
extended s a ss f own d xs = extended_at s a ss f own d.is d.due xs (apart_at xs)
  where
    apart_at : (xs : List Lexeme) → ApartAt own a xs
    apart_at [] = tt
    apart_at (x ∷ xs) = λ r e. d.apart x.terminal r e

-- no row begins with the first token
abbrev pub NoneAt : {s : Symbol} → List (ReadingRow s) → List Lexeme → Type 0
NoneAt own [] = ⊤
NoneAt own (x ∷ xs) = find own x.terminal ≡ None

-- Where a rule that may be empty reads what another reads, which may be empty too.
pub extended_over : (s a : Symbol) (f : Val a → Val s) (own : List (ReadingRow s)) (v0 : Val a) → rows s ≡ own ++ extend s a [] (λ v vs. f v) (rows a) → blank a ≡ Some v0 → blank s ≡ Some (f v0) → is_seal a ≡ false → is_seal s ≡ false → (xs : List Lexeme) → NoneAt own xs → (i : ℕ) (k : List Symbol) (v : Val a) (vs : Vals k) → Reads (a ∷ k) xs i (v, vs) → Reads (s ∷ k) xs i (f v, vs)
extended_over s a f own v0 is ba bs la ls xs n i k v vs h = by_tokens xs n h
  where
    by_blank : (o : Option (Vals k)) → with_blank a k (Some v0) o ≡ Some (v, vs) → with_blank s k (Some (f v0)) o ≡ Some (f v, vs)
    by_blank None g = cc
    by_blank (Some us) g = ap (option_map {U = Val s × Vals k} (λ q. (f q.0, q.1))) g

    blanks : (o : Option (Vals k)) → with_blank a k (blank a) o ≡ Some (v, vs) → with_blank s k (blank s) o ≡ Some (f v, vs)
    blanks o g = ap (λ b. with_blank s k b o) bs ∙ by_blank o (sym (ap (λ b. with_blank a k b o) ba) ∙ g)

    by_found : (x : Lexeme) (xs : List Lexeme) → find own x.terminal ≡ None → (o : Option (ReadingRow a)) → find (rows a) x.terminal ≡ o → by_row a k (λ k'. read xs (i + 1) false k') i x.text o (with_blank a k (blank a) (values_over (λ k'. read xs (i + 1) false k') i x (is_seal a) k)) ≡ Some (v, vs) → Reads (s ∷ k) (x ∷ xs) i (f v, vs)
    by_found x xs n o e g = ap (λ o. by_row s k (λ k'. read xs (i + 1) false k') i x.text o (with_blank s k (blank s) (values_over (λ k'. read xs (i + 1) false k') i x (is_seal s) k))) (ap (λ rs. find rs x.terminal) is ∙ find_apart own (extend s a [] (λ v vs. f v) (rows a)) x.terminal n ∙ find_extend s a [] (λ v vs. f v) (rows a) x.terminal ∙ ap (option_map (then_row s a [] (λ v vs. f v))) e) ∙ over o g
      where
        over : (o : Option (ReadingRow a)) → by_row a k (λ k'. read xs (i + 1) false k') i x.text o (with_blank a k (blank a) (values_over (λ k'. read xs (i + 1) false k') i x (is_seal a) k)) ≡ Some (v, vs) → by_row s k (λ k'. read xs (i + 1) false k') i x.text (option_map (then_row s a [] (λ v vs. f v)) o) (with_blank s k (blank s) (values_over (λ k'. read xs (i + 1) false k') i x (is_seal s) k)) ≡ Some (f v, vs)
        over (Some r) g = fused {C = Val s × Vals k} (λ u. (f u.0, u.1)) (λ u. r.act k i x.text u) (read xs (i + 1) false (r.following k)) ∙ ap (option_map {U = Val s × Vals k} (λ u. (f u.0, u.1))) g
        over None g = ap (λ b. with_blank s k (blank s) (values_over (λ k'. read xs (i + 1) false k') i x b k)) ls ∙ blanks (values_over (λ k'. read xs (i + 1) false k') i x false k) (sym (ap (λ b. with_blank a k (blank a) (values_over (λ k'. read xs (i + 1) false k') i x b k)) la) ∙ g)

    by_tokens : (xs : List Lexeme) → NoneAt own xs → Reads (a ∷ k) xs i (v, vs) → Reads (s ∷ k) xs i (f v, vs)
    by_tokens [] n g = blanks (at_end k) g
    by_tokens (x ∷ xs) n g = by_found x xs n (find (rows a) x.terminal) refl g

-- no row begins with a closing parenthesis
pub apart_close : {s a : Symbol} (r : ReadingRow s) → r.first ≡ t.RParen → find (rows a) t.RParen ≡ None → (x : Terminal) (q : ReadingRow a) → find (rows a) x ≡ Some q → find (r ∷ []) x ≡ None
apart_close {s} {a} r c n x q e = by_test (same r.first x) refl
  where
    by_test : (b : Bool) → same r.first x ≡ b → cond b (Some r) None ≡ None
    by_test true g = let y : x ≡ t.RParen = sym (same_true r.first x g) ∙ c in let z : None ≡ Some q = sym n ∙ ap (find (rows a)) (sym y) ∙ e in cc
    by_test false g = refl
