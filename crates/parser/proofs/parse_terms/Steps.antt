-- How reading goes on from token to token, for any rule.
use Rattle.parser.proofs.parse_terms.Common.{◌≡◌, ℕ, ◌+◌, ◌<◌, ◌≤◌, ◌⊎◌, inl, inr, Bool, true, false, ◌&&◌, ◌||◌, cond, nat_le, List, [], ◌∷◌, ◌++◌, length, Option, Some, None, option_map, refl, sym, ap, ◌∙◌, subst, arith, get_or_past, Terminal, Symbol, same, same_true, Name, Lexeme, name, SyntaxTree, ends_open, ReadingRow, Val, Vals, back, extend, front, row, then_row, rows, blank, by_row, find, read, below_or, by_first, first_row, from_cons, passes, plain, split, stands_within, unread, Begun, CanRead, CanRun, IsExpr, IsRead, least, nowhere, lexemes_from, terminal_at, token_at}
use Rattle.tokens_why.specs.declared.terminal.Terminal.TheVariants as t
use Rattle.grammar.specs.declared.symbols.Symbol.TheVariants as s
use Rattle.grammar.specs.Machine.{is_seal, is_tail}
use Rattle.grammar.proofs.reading.Reading.{find_extend, unmapped}
use Rattle.grammar.proofs.reading.OperatorsBuilt.{le_of}

-- where a test holds that no text outside the grammar passes there is a token
pub stands_by : (f : Terminal → Bool) (xs : List Lexeme) (j : ℕ) → f t.OtherWord ≡ false → f (terminal_at xs j) ≡ true → j < length xs
stands_by f xs j n e = by_cases (below_or j (length xs))
  where
    by_cases : (j < length xs) ⊎ (length xs ≤ j) → j < length xs
    by_cases (inl h) = h
    by_cases (inr h) = let o : f t.OtherWord ≡ true = sym (ap (λ v. f v.terminal) (get_or_past xs j nowhere h)) ∙ e in cc

-- where a terminal of the grammar is there is a token
pub stands : (xs : List Lexeme) (j : ℕ) (y : Terminal) → same y (terminal_at xs j) ≡ true → same y t.OtherWord ≡ false → j < length xs
stands xs j y e n = stands_by (same y) xs j n e

-- a symbol that is not empty is at a token
pub stands_due : {xs : List Lexeme} {a : Symbol} {K : List Symbol → List Symbol} {i : ℕ} → CanRun xs (λ k. a ∷ K k) i → blank a ≡ None → i < length xs
stands_due {xs} {a} {K} {i} c b = stands_within xs a i (K c.following) c.values b c.reads

-- one terminal
take_on : (xs : List Lexeme) (i : ℕ) (y : Terminal) (k : List Symbol) (vs : Name × Vals k) → i < length xs → read (lexemes_from xs i) i false (s.Take y ∷ k) ≡ Some vs → (us : Vals k) × (read (lexemes_from xs (i + 1)) (i + 1) false k ≡ Some us) × ((name i (token_at xs i).text, us) ≡ vs)
take_on xs i y k vs h r = by_test (same y (terminal_at xs i)) (sym (ap (λ v. read v i false (s.Take y ∷ k)) (from_cons xs i h)) ∙ r)
  where
    by_test : (b : Bool) → by_row (s.Take y) k (λ k'. read (lexemes_from xs (i + 1)) (i + 1) false k') i (token_at xs i).text (cond b (Some (row (s.Take y) y [] (λ i w vs. name i w))) None) None ≡ Some vs → (us : Vals k) × (read (lexemes_from xs (i + 1)) (i + 1) false k ≡ Some us) × ((name i (token_at xs i).text, us) ≡ vs)
    by_test true r = unmapped (λ us. (row (s.Take y) y [] (λ i w vs. name i w)).act k i (token_at xs i).text us) (read (lexemes_from xs (i + 1)) (i + 1) false k) vs r
    by_test false r = cc

-- the terminals with which rows begin
abbrev pub among : List Terminal → Terminal → Bool
among [] y = false
among (x ∷ xs) y = same x y || among xs y

abbrev pub covered : {s : Symbol} → List (ReadingRow s) → List Terminal → Bool
covered [] ys = true
covered (r ∷ rs) ys = among ys r.first && covered rs ys

-- none of the terminals is there
abbrev pub Differ : List Terminal → Terminal → Type 0
Differ [] x = Unit {0}
Differ (y ∷ ys) x = (same y x ≡ false) × Differ ys x

or_cases : (a b : Bool) → (a || b) ≡ true → (a ≡ true) ⊎ (b ≡ true)
or_cases true b h = inl refl
or_cases false b h = inr h

pub and_cases : (a b : Bool) → (a && b) ≡ true → (a ≡ true) × (b ≡ true)
and_cases true b h = (refl, h)
and_cases false b h = cc

differs : (ys : List Terminal) (x y : Terminal) → Differ ys x → among ys y ≡ true → same y x ≡ false
differs [] x y d h = cc
differs (z ∷ ys) x y d h = by_case (or_cases (same z y) (among ys y) h) (differs ys x y d.1)
  where
    by_case : (same z y ≡ true) ⊎ (among ys y ≡ true) → (among ys y ≡ true → same y x ≡ false) → same y x ≡ false
    by_case (inl e) g = subst (λ q. same q x ≡ false) (same_true z y e) d.0
    by_case (inr e) g = g e

pub none_by : {s : Symbol} → (rs : List (ReadingRow s)) (ys : List Terminal) (x : Terminal) → covered rs ys ≡ true → Differ ys x → find rs x ≡ None
none_by [] ys x c d = refl
none_by (r ∷ rs) ys x c d = let q = and_cases (among ys r.first) (covered rs ys) c in by_test (same r.first x) (differs ys x r.first d q.0) (none_by rs ys x q.1 d)
  where
    by_test : (b : Bool) → b ≡ false → find rs x ≡ None → cond b (Some r) (find rs x) ≡ None
    by_test false e h = h
    by_test true e h = cc

-- No row of a rule begins with what is there.
pub none_of : (s : Symbol) (ys : List Terminal) (x : Terminal) → covered (rows s) ys ≡ true → Differ ys x → find (rows s) x ≡ None
none_of s ys x c d = none_by (rows s) ys x c d

-- A terminal of which a test holds isn't where the test fails.
pub apart : (f : Terminal → Bool) (y x : Terminal) → f y ≡ true → f x ≡ false → same y x ≡ false
apart f y x h n = by_test (same y x) refl
  where
    by_test : (b : Bool) → same y x ≡ b → b ≡ false
    by_test false e = refl
    by_test true e = sym h ∙ ap f (same_true y x e) ∙ n

abbrev pub passes_all : (Terminal → Bool) → List Terminal → Bool
passes_all f [] = true
passes_all f (y ∷ ys) = f y && passes_all f ys

pub all_apart : (f : Terminal → Bool) (ys : List Terminal) (x : Terminal) → passes_all f ys ≡ true → f x ≡ false → Differ ys x
all_apart f [] x h n = tt
all_apart f (y ∷ ys) x h n = let q = and_cases (f y) (passes_all f ys) h in (apart f y x q.0 n, all_apart f ys x q.1 n)

-- No row begins with what is there, where a test of all first terminals fails.
pub none_where : {s : Symbol} → (rs : List (ReadingRow s)) (f : Terminal → Bool) (ys : List Terminal) (x : Terminal) → covered rs ys ≡ true → passes_all f ys ≡ true → f x ≡ false → find rs x ≡ None
none_where rs f ys x c h n = none_by rs ys x c (all_apart f ys x h n)

-- Of the terminals with which rows begin only one may be there.
pub left : {s : Symbol} → (rs : List (ReadingRow s)) (y : Terminal) (ys : List Terminal) (x : Terminal) (r : ReadingRow s) → covered rs (y ∷ ys) ≡ true → Differ ys x → find rs x ≡ Some r → same y x ≡ true
left rs y ys x r c d e = by_test (same y x) refl
  where
    by_test : (b : Bool) → same y x ≡ b → same y x ≡ true
    by_test true h = h
    by_test false h = let n = none_by rs (y ∷ ys) x c (h, d) in cc

-- What can be read before further symbols can be read.
pub run_over : {xs : List Lexeme} {from : List Symbol → List Symbol} (K : List Symbol → List Symbol) {i : ℕ} → CanRun xs (λ k. from (K k)) i → CanRun xs from i
run_over {xs} {from} K {i} c = record { within = c.within; following = K c.following; values = c.values; reads = c.reads }

-- Nothing is read yet.
pub start : {xs : List Lexeme} {from : List Symbol → List Symbol} {i : ℕ} → CanRun xs from i → Begun xs 0 from i from (λ k us. us) i
start {xs} {from} {i} c = record { ahead = omega arith; within = c.within; can = c; reads = λ k vs e. (vs, e, refl) }

module _ {xs : List Lexeme} {n : ℕ} {from : List Symbol → List Symbol} {i : ℕ} {to : List Symbol → List Symbol} {act : (k : List Symbol) → Vals (to k) → Vals (from k)} {j : ℕ} (g : Begun xs n from i to act j) where
  -- what can be read of it all
  pub can_run : CanRun xs to j
  can_run = let q = g.reads g.can.following g.can.values g.can.reads in record { within = g.within; following = g.can.following; values = q.0; reads = q.1 }

  -- said by another action
  pub again : {by : (k : List Symbol) → Vals (to k) → Vals (from k)} → (p : ℕ) → nat_le p n ≡ true → ((k : List Symbol) (us : Vals (to k)) → act k us ≡ by k us) → Begun xs p from i to by j
  again {by} p l f = let h = g.ahead in let m = le_of p n l in record {
    ahead = omega arith;
    within = g.within;
    can = g.can;
    reads = λ k vs e. (let q = g.reads k vs e in (q.0, q.1, sym (f k q.0) ∙ q.2));
  }

  -- read otherwise
  pub reread : (L : List Symbol → List Symbol) (by : (k : List Symbol) → Vals (L k) → Vals (from k)) → ((k : List Symbol) (us : Vals (to k)) → read (lexemes_from xs j) j false (to k) ≡ Some us → (ws : Vals (L k)) × (read (lexemes_from xs j) j false (L k) ≡ Some ws) × (by k ws ≡ act k us)) → Begun xs n from i L by j
  reread L by f = record {
    ahead = g.ahead;
    within = g.within;
    can = g.can;
    reads = λ k vs e. (let q = g.reads k vs e in let z = f k q.0 q.1 in (z.0, z.1, z.2 ∙ q.2));
  }

module _ {xs : List Lexeme} {n : ℕ} {from : List Symbol → List Symbol} {i : ℕ} {a : Symbol} {K : List Symbol → List Symbol} {act : (k : List Symbol) → Vals (a ∷ K k) → Vals (from k)} {j : ℕ} (g : Begun xs n from i (λ k. a ∷ K k) act j) where
  -- what can be read next
  pub can_next : CanRead xs a j
  can_next = let q = g.reads g.can.following g.can.values g.can.reads in record { within = g.within; following = K g.can.following; values = q.0; reads = q.1 }

  -- where the next symbol is not empty
  pub next_within : blank a ≡ None → j < length xs
  next_within b = stands_due (can_run g) b

  -- The next symbol is read as a value.
  pub next : {v : Val a} {m : ℕ} → IsRead xs a j v m → Begun xs (n + least a) from i K (λ k us. act k (v, us)) m
  next {v} {m} r = let h = g.ahead in let l = r.ahead in record {
    ahead = omega arith;
    within = r.within;
    can = g.can;
    reads = λ k vs e. (let q = g.reads k vs e in let z = r.reads (K k) q.0 q.1 in (q.0.1, z.1, ap (λ u. act k (u, q.0.1)) (sym z.0) ∙ q.2));
  }

  -- The next symbol is read by the row of the terminal that is there.
  pub expand_by : {r : ReadingRow a} → j < length xs → find (rows a) (terminal_at xs j) ≡ Some r → Begun xs 1 from i (λ k. r.following (K k)) (λ k us. act k (r.act (K k) j (token_at xs j).text us)) (j + 1)
  expand_by {r} h f = let l = g.ahead in record {
    ahead = omega arith;
    within = omega arith;
    can = g.can;
    reads = λ k vs e. (let q = g.reads k vs e in let w = first_row xs j a r (K k) q.0 h f q.1 in (w.0, w.1, ap (act k) w.2 ∙ q.2));
  }

  pub expand : {r : ReadingRow a} → (y : Terminal) → same y (terminal_at xs j) ≡ true → same y t.OtherWord ≡ false → find (rows a) y ≡ Some r → Begun xs 1 from i (λ k. r.following (K k)) (λ k us. act k (r.act (K k) j (token_at xs j).text us)) (j + 1)
  expand {r} y e o f = expand_by {r = r} (stands xs j y e o) (ap (find (rows a)) (sym (same_true y (terminal_at xs j) e)) ∙ f)

  -- The next symbol may be empty, and is.
  pub pass : {v : Val a} → blank a ≡ Some v → is_seal a ≡ false → find (rows a) (terminal_at xs j) ≡ None → Begun xs n from i K (λ k us. act k (v, us)) j
  pass {v} b l f = reread g K (λ k us. act k (v, us)) (λ k us e. (let z = passes xs j a v (K k) us b l f e in (us.1, z.1, ap (λ u. act k (u, us.1)) (sym z.0))))

  -- The next symbol reads what another one reads and symbols after it.
  pub extended : (b : Symbol) (ss : List Symbol) (f : Val b → Vals ss → Val a) (own : List (ReadingRow a)) → rows a ≡ own ++ extend a b ss f (rows b) → j < length xs → find own (terminal_at xs j) ≡ None → (find (rows a) (terminal_at xs j) ≡ None → ⊥) → Begun xs n from i (λ k. b ∷ (ss ++ K k)) (λ k us. act k (f us.0 (front ss (K k) us.1), back ss (K k) us.1)) j
  extended b ss f own is h o some = reread g (λ k. b ∷ (ss ++ K k)) (λ k us. act k (f us.0 (front ss (K k) us.1), back ss (K k) us.1)) (λ k us e. (let w = split xs j a b ss f own (K k) us h is o some e in (w.0, w.1, ap (act k) w.2)))

  -- The next symbol, which is not empty, reads what another one reads and symbols after it.
  pub extended_due : (b : Symbol) (ss : List Symbol) (f : Val b → Vals ss → Val a) (own : List (ReadingRow a)) → rows a ≡ own ++ extend a b ss f (rows b) → blank a ≡ None → find own (terminal_at xs j) ≡ None → Begun xs n from i (λ k. b ∷ (ss ++ K k)) (λ k us. act k (f us.0 (front ss (K k) us.1), back ss (K k) us.1)) j
  extended_due b ss f own is d o = let h = stands_due can_next d in extended b ss f own is h o (λ e. (let q = can_next in unread xs j a q.following q.values h d e q.reads))

  -- What is there begins one of the rows of a symbol that is not empty.
  pub begins : blank a ≡ None → find (rows a) (terminal_at xs j) ≡ None → ⊥
  begins b e = let q = can_next in unread xs j a q.following q.values (stands_due q b) b e q.reads

  -- Only one of the terminals is left.
  pub only : (y : Terminal) (ys : List Terminal) → blank a ≡ None → covered (rows a) (y ∷ ys) ≡ true → Differ ys (terminal_at xs j) → same y (terminal_at xs j) ≡ true
  only y ys b c d = by_row_of (find (rows a) (terminal_at xs j)) refl
    where
      by_row_of : (o : Option (ReadingRow a)) → find (rows a) (terminal_at xs j) ≡ o → same y (terminal_at xs j) ≡ true
      by_row_of (Some r) e = left (rows a) y ys (terminal_at xs j) r c d e
      by_row_of None e = absurd (begins b e)

-- The next terminal is taken.
pub take : {xs : List Lexeme} {n : ℕ} {from : List Symbol → List Symbol} {i : ℕ} {y : Terminal} {K : List Symbol → List Symbol} {act : (k : List Symbol) → Vals (s.Take y ∷ K k) → Vals (from k)} {j : ℕ} → Begun xs n from i (λ k. s.Take y ∷ K k) act j → Begun xs 1 from i K (λ k us. act k (name j (token_at xs j).text, us)) (j + 1)
take {xs} {n} {from} {i} {y} {K} {act} {j} g = let h = next_within g refl in let l = g.ahead in record {
  ahead = omega arith;
  within = omega arith;
  can = g.can;
  reads = λ k vs e. (let q = g.reads k vs e in let w = take_on xs j y (K k) q.0 h q.1 in (w.0, w.1, ap (act k) w.2 ∙ q.2));
}

-- The next symbol is an expression, and what is after it is no tail.
pub next_expr : {xs : List Lexeme} {n : ℕ} {from : List Symbol → List Symbol} {i m : ℕ} {a : Symbol} {K : List Symbol → List Symbol} {act : (k : List Symbol) → Vals (s.Expr m ∷ a ∷ K k) → Vals (from k)} {j : ℕ} {e : SyntaxTree} {p : ℕ} → Begun xs n from i (λ k. s.Expr m ∷ a ∷ K k) act j → is_tail a ≡ false → IsExpr xs m j e p → Begun xs 1 from i (λ k. a ∷ K k) (λ k us. act k (e, us)) p
next_expr {xs} {n} {from} {i} {m} {a} {K} {act} {j} {e} {p} g t r = let h = g.ahead in let l = r.ahead in record {
  ahead = omega arith;
  within = r.within;
  can = g.can;
  reads = λ k vs q. (let w = g.reads k vs q in let z = r.reads (a ∷ K k) w.0 w.1 in
      (w.0.1, plain (lexemes_from xs p) p (ends_open e) a (K k) w.0.1 t z.1, ap (λ u. act k (u, w.0.1)) (sym z.0) ∙ w.2));
}

-- What follows is read as further symbols.
pub follow : {xs : List Lexeme} {n m : ℕ} {from to L : List Symbol → List Symbol} {i j p : ℕ} {more : (k : List Symbol) → Vals (L k) → Vals (to k)} {K : List Symbol → List Symbol} {act : (k : List Symbol) → Vals (to (K k)) → Vals (from k)} → Begun xs m to j L more p → Begun xs n from i (λ k. to (K k)) act j → Begun xs (n + m) from i (λ k. L (K k)) (λ k us. act k (more (K k) us)) p
follow {xs} {n} {m} {from} {to} {L} {i} {j} {p} {more} {K} {act} r g = let h = g.ahead in let l = r.ahead in record {
  ahead = omega arith;
  within = r.within;
  can = g.can;
  reads = λ k vs e. (let q = g.reads k vs e in let z = r.reads (K k) q.0 q.1 in (z.0, z.1, ap (act k) z.2 ∙ q.2));
}

-- All is read.
pub done : {xs : List Lexeme} {n : ℕ} {a : Symbol} {i : ℕ} {act : (k : List Symbol) → Vals k → Vals (a ∷ k)} {j : ℕ} → Begun xs n (λ k. a ∷ k) i (λ k. k) act j → (v : Val a) → nat_le (least a) n ≡ true → ((k : List Symbol) (us : Vals k) → act k us ≡ (v, us)) → IsRead xs a i v j
done {xs} {n} {a} {i} {act} {j} g v l f = let h = g.ahead in let m = le_of (least a) n l in record {
  ahead = omega arith;
  within = g.within;
  reads = λ k vs e. (let q = g.reads k vs e in (ap (λ u. u.0) (sym q.2) ∙ ap (λ u. u.0) (f k q.0), q.1 ∙ ap Some (ap (λ u. u.1) (sym (f k q.0)) ∙ ap (λ u. u.1) q.2)));
}

-- What was read by the row of one rule is read by that of another, which goes on as the first does.
pub unexpand : {xs : List Lexeme} {n : ℕ} {from : List Symbol → List Symbol} {i : ℕ} (b : Symbol) (L : List Symbol → List Symbol) (by : (k : List Symbol) → Vals (b ∷ L k) → Vals (from k)) {r : ReadingRow b} (j : ℕ) (y : Terminal) → same y (terminal_at xs j) ≡ true → same y t.OtherWord ≡ false → find (rows b) y ≡ Some r → i ≤ j → Begun xs n from i (λ k. r.following (L k)) (λ k us. by k (r.act (L k) j (token_at xs j).text us)) (j + 1) → Begun xs 0 from i (λ k. b ∷ L k) by j
unexpand {xs} {n} {from} {i} b L by {r} j y e o f h g = let l = stands xs j y e o in record {
  ahead = omega arith;
  within = omega arith;
  can = g.can;
  reads = λ k vs q. (let w = g.reads k vs q in (r.act (L k) j (token_at xs j).text w.0, by_first xs j b r (L k) w.0 l (ap (find (rows b)) (sym (same_true y (terminal_at xs j) e)) ∙ f) w.1, w.2));
}

pub missed : {a : Symbol} (r : ReadingRow a) (rs : List (ReadingRow a)) (x : Terminal) → same r.first x ≡ false → find rs x ≡ None → find (r ∷ rs) x ≡ None
missed r rs x e n = rw (e, n) refl

-- a list's items before another one
abbrev pub many : {A B : Type 0} → (A → B → B) → List A → B → B
many f [] v = v
many f (x ∷ xs) v = f x (many f xs v)

pub many_more : {A B : Type 0} → (f : A → B → B) (xs : List A) (x : A) (v : B) → many f xs (f x v) ≡ many f (xs ++ x ∷ []) v
many_more f [] x v = refl
many_more f (y ∷ xs) x v = ap (f y) (many_more f xs x v)

least_le : (n : ℕ) → nat_le 0 n ≡ true
least_le n = search (arith)

-- Rules that are read as items of another rule side by side.
module _ (a b : Symbol) (f : Val b → Val a → Val a) (v : Val a) (is : rows a ≡ extend a b (a ∷ []) (λ v vs. f v vs.0) (rows b)) where
  abbrev pub SideBySide : List Lexeme → ℕ → List (Val b) → ℕ → Type 0
  SideBySide xs i vs j = Begun xs 0 (λ k. a ∷ k) i (λ k. a ∷ k) (λ k us. (many f vs us.0, us.1)) j

  pub side_start : {xs : List Lexeme} {i : ℕ} → CanRead xs a i → SideBySide xs i [] i
  side_start c = again (start c) 0 refl (λ k us. refl)

  module _ {xs : List Lexeme} {i : ℕ} (vs : List (Val b)) {j : ℕ} (g : SideBySide xs i vs j) where
    pub side_item : j < length xs → (find (rows b) (terminal_at xs j) ≡ None → ⊥) → Begun xs 0 (λ k. a ∷ k) i (λ k. b ∷ a ∷ k) (λ k us. (many f vs (f us.0 us.1.0), us.1.1)) j
    side_item h some = extended g b (a ∷ []) (λ v vs. f v vs.0) [] is h refl (λ e. some (unmade (find (rows b) (terminal_at xs j)) (sym (find_extend a b (a ∷ []) (λ v vs. f v vs.0) (rows b) (terminal_at xs j)) ∙ sym (ap (λ rs. find rs (terminal_at xs j)) is) ∙ e)))
      where
        unmade : (o : Option (ReadingRow b)) → option_map (then_row a b (a ∷ []) (λ v vs. f v vs.0)) o ≡ None → o ≡ None
        unmade None e = refl
        unmade (Some r) e = cc

    pub side_more : {u : Val b} {m : ℕ} → j < length xs → (find (rows b) (terminal_at xs j) ≡ None → ⊥) → IsRead xs b j u m → SideBySide xs i (vs ++ u ∷ []) m
    side_more {u} {m} h some r = again (next (side_item h some) r) 0 (least_le (0 + least b)) (λ k us. ap (λ w. (w, us.1)) (many_more f vs u us.0))

    pub side_done : blank a ≡ Some v → is_seal a ≡ false → find (rows b) (terminal_at xs j) ≡ None → nat_le (least a) 0 ≡ true → IsRead xs a i (many f vs v) j
    side_done e l n o = done (pass g e l (ap (λ rs. find rs (terminal_at xs j)) is ∙ find_extend a b (a ∷ []) (λ v vs. f v vs.0) (rows b) (terminal_at xs j) ∙ ap (option_map (then_row a b (a ∷ []) (λ v vs. f v vs.0))) n)) (many f vs v) o (λ k us. refl)
