-- How operators bind, and what may come after a tree.
use Rattle.grammar.proofs.reading.Common.{◌≡◌, ℕ, ◌+◌, ◌≤◌, ◌<◌, ◌⊎◌, inl, inr, Bool, true, false, ◌&&◌, nat_le, cond, List, [], ◌∷◌, Some, None, refl, sym, ap, ◌∙◌, subst, arith, nat_tests, ⊤, Terminal, Symbol, terminal_number, same, operators, prec, need, right, is_infix, same_true, same_refl, no_false, Lexeme, SyntaxTree, ends_open, tight, Chain, stop, ReadingRow, Vals, link_row, tail_rows, takes_op, rows, find, read, all_infix, among}
use Rattle.tokens_why.specs.declared.terminal.Terminal.TheVariants as t
use Rattle.grammar.specs.declared.symbols.Symbol.TheVariants as s
use Rattle.grammar.proofs.reading.Reading.{Reads, Stops, passed}

pub le_true : (a b : ℕ) → a ≤ b → nat_le a b ≡ true
le_true a b h = grind (arith, nat_tests)

pub le_false : (a b : ℕ) → b < a → nat_le a b ≡ false
le_false a b h = grind (arith, nat_tests)

-- A symbol's row takes a token.
pub reads_by : (s : Symbol) (x : Lexeme) (r : ReadingRow s) (xs : List Lexeme) (i : ℕ) (k : List Symbol) (us : Vals (r.following k)) → find (rows s) x.terminal ≡ Some r → Reads (r.following k) xs (i + 1) us → Reads (s ∷ k) (x ∷ xs) i (r.act k i x.text us)
reads_by s x r xs i k us e h = rw (e, h) refl

-- how operators bind
pub right_of : (o : Terminal) → is_infix o ≡ true → ((right o ≡ prec o) × (prec o ≤ 2)) ⊎ (right o ≡ prec o + 1)
right_of t.Arrow h = inl (refl, omega arith)
right_of t.Equiv h = inl (refl, omega arith)
right_of t.Disj h = inl (refl, omega arith)
right_of t.OrOr h = inl (refl, omega arith)
right_of t.Conj h = inl (refl, omega arith)
right_of t.AndAnd h = inl (refl, omega arith)
right_of t.Equal h = inr refl
right_of t.Operator1 h = inr refl
right_of t.Minus h = inr refl
right_of t.Operator2 h = inr refl
right_of t.Operator3 h = inr refl
right_of t.Operator4 h = inr refl
right_of _ h = absurd (no_false h)

pub need_of : (o : Terminal) → is_infix o ≡ true → (need o ≡ prec o + 1) ⊎ ((5 ≤ prec o) × (need o ≡ prec o))
need_of t.Arrow h = inl refl
need_of t.Equiv h = inl refl
need_of t.Disj h = inl refl
need_of t.OrOr h = inl refl
need_of t.Conj h = inl refl
need_of t.AndAnd h = inl refl
need_of t.Equal h = inl refl
need_of t.Operator1 h = inl refl
need_of t.Minus h = inr (omega arith, refl)
need_of t.Operator2 h = inr (omega arith, refl)
need_of t.Operator3 h = inr (omega arith, refl)
need_of t.Operator4 h = inr (omega arith, refl)
need_of _ h = absurd (no_false h)

pub right_silent : (o y : Terminal) → is_infix o ≡ true → is_infix y ≡ true → need y ≤ prec o → prec y < right o
right_silent o y a b h = by_cases (right_of o a) (need_of y b)
  where
    by_cases : ((right o ≡ prec o) × (prec o ≤ 2)) ⊎ (right o ≡ prec o + 1) → (need y ≡ prec y + 1) ⊎ ((5 ≤ prec y) × (need y ≡ prec y)) → prec y < right o
    by_cases (inl p) (inl q) = omega (arith, p.0, p.1)
    by_cases (inl p) (inr q) = absurd (omega (arith, p.0, p.1, q.0, q.1))
    by_cases (inr p) (inl q) = omega arith
    by_cases (inr p) (inr q) = omega (arith, q.1)

pub right_more : (o : Terminal) → is_infix o ≡ true → prec o ≤ right o
right_more o h = by_cases (right_of o h)
  where
    by_cases : ((right o ≡ prec o) × (prec o ≤ 2)) ⊎ (right o ≡ prec o + 1) → prec o ≤ right o
    by_cases (inl p) = omega (arith, p.0)
    by_cases (inr p) = omega arith

pub need_more : (o : Terminal) → is_infix o ≡ true → prec o ≤ need o
need_more o h = by_cases (need_of o h)
  where
    by_cases : (need o ≡ prec o + 1) ⊎ ((5 ≤ prec o) × (need o ≡ prec o)) → prec o ≤ need o
    by_cases (inl p) = omega arith
    by_cases (inr p) = omega (arith, p.1)

pub need_some : (o : Terminal) → is_infix o ≡ true → need o ≤ 0 → ⊥
need_some o h n = by_cases (need_of o h)
  where
    by_cases : (need o ≡ prec o + 1) ⊎ ((5 ≤ prec o) × (need o ≡ prec o)) → ⊥
    by_cases (inl p) = omega arith
    by_cases (inr p) = omega (arith, p.0, p.1)

pub need_low : (o : Terminal) → is_infix o ≡ true → need o ≤ 3 → prec o < 3
need_low o h n = by_cases (need_of o h)
  where
    by_cases : (need o ≡ prec o + 1) ⊎ ((5 ≤ prec o) × (need o ≡ prec o)) → prec o < 3
    by_cases (inl p) = omega arith
    by_cases (inr p) = absurd (omega (arith, p.0, p.1))

pub prec_low : (o : Terminal) → is_infix o ≡ true → prec o < 8
prec_low t.Arrow h = omega arith
prec_low _ h = first_of (omega arith, cc)

-- which operators a tail takes
pub tail_none : (m u : ℕ) (os : List Terminal) (y : Terminal) → all_infix os ≡ true → (is_infix y ≡ true → takes_op m u y ≡ false) → find (tail_rows m u os) y ≡ None
tail_none m u [] y a h = refl
tail_none m u (o ∷ os) y a h = by_infix (is_infix o) refl a (λ e. tail_none m u os y e h)
  where
    by_same : (b : Bool) → same o y ≡ b → takes_op m u o ≡ true → is_infix o ≡ true → find (tail_rows m u os) y ≡ None → cond b (Some (link_row m u o)) (find (tail_rows m u os) y) ≡ None
    by_same true e t i n = let z : takes_op m u o ≡ false = subst (λ v. takes_op m u v ≡ false) (sym (same_true o y e)) (h (subst (λ v. is_infix v ≡ true) (same_true o y e) i)) in cc
    by_same false e t i n = n

    by_takes : (b : Bool) → takes_op m u o ≡ b → is_infix o ≡ true → find (tail_rows m u os) y ≡ None → find (cond b (link_row m u o ∷ tail_rows m u os) (tail_rows m u os)) y ≡ None
    by_takes true e i n = by_same (same o y) refl e i n
    by_takes false e i n = n

    by_infix : (b : Bool) → is_infix o ≡ b → (b && all_infix os) ≡ true → (all_infix os ≡ true → find (tail_rows m u os) y ≡ None) → find (tail_rows m u (o ∷ os)) y ≡ None
    by_infix true e a f = by_takes (takes_op m u o) refl e (f a)
    by_infix false e a f = absurd (no_false a)

pub tail_found : (m u : ℕ) (os : List Terminal) (y : Terminal) → among y os ≡ true → takes_op m u y ≡ true → find (tail_rows m u os) y ≡ Some (link_row m u y)
tail_found m u [] y a h = absurd (no_false a)
tail_found m u (o ∷ os) y a h = by_same (same o y) refl a (λ e. tail_found m u os y e h)
  where
    by_takes : (b : Bool) → same o y ≡ false → find (tail_rows m u os) y ≡ Some (link_row m u y) → find (cond b (link_row m u o ∷ tail_rows m u os) (tail_rows m u os)) y ≡ Some (link_row m u y)
    by_takes true e f = ap (λ v. cond v (Some (link_row m u o)) (find (tail_rows m u os) y)) e ∙ f
    by_takes false e f = f

    by_same : (b : Bool) → same o y ≡ b → cond b true (among y os) ≡ true → (among y os ≡ true → find (tail_rows m u os) y ≡ Some (link_row m u y)) → find (tail_rows m u (o ∷ os)) y ≡ Some (link_row m u y)
    by_same true e a f = subst (λ v. find (tail_rows m u (v ∷ os)) y ≡ Some (link_row m u y)) (sym (same_true o y e)) (rw h (ap (λ v. cond v (Some (link_row m u y)) (find (tail_rows m u os) y)) (same_refl (terminal_number y))))
    by_same false e a f = by_takes (takes_op m u o) e (f a)

abbrev pub OpsBelow : ℕ → List Lexeme → Type 0
OpsBelow n [] = ⊤
OpsBelow n (y ∷ ys) = is_infix y.terminal ≡ true → need y.terminal ≤ n

-- no field begins
abbrev pub NoDot : List Lexeme → Type 0
NoDot [] = ⊤
NoDot (x ∷ xs) = same t.Dot x.terminal ≡ false

-- what may come after a tree: no argument, no field, and an operator only where the tree may be its left operand
pub record Follow (n : ℕ) (ys : List Lexeme) : Type 0 where
  pub args : Stops s.Args ys
  pub dots : NoDot ys
  pub ops : OpsBelow n ys

abbrev pub reach : SyntaxTree → ℕ
reach e = cond (ends_open e) 0 (tight e)

abbrev pub LowAt : ℕ → List Lexeme → Type 0
LowAt m [] = ⊤
LowAt m (y ∷ ys) = is_infix y.terminal ≡ true → prec y.terminal < m

pub tail_stops : (m u : ℕ) (ys : List Lexeme) → LowAt m ys → Stops (s.Tail m u) ys
tail_stops m u [] h = tt
tail_stops m u (y ∷ ys) h = tail_none m u operators y.terminal refl (λ i. ap (λ b. b && nat_le (need y.terminal) u) (le_false m (prec y.terminal) (h i)))

-- after an operator's right operand the tail of that operand takes nothing
pub low_right : (o : Terminal) (ys : List Lexeme) → is_infix o ≡ true → OpsBelow (prec o) ys → LowAt (right o) ys
low_right o [] i h = tt
low_right o (y ∷ ys) i h = λ j. right_silent o y.terminal i j (h j)

pub low_not : (ys : List Lexeme) → OpsBelow 3 ys → LowAt 3 ys
low_not [] h = tt
low_not (y ∷ ys) h = λ j. need_low y.terminal j (h j)

pub low_prefix : (ys : List Lexeme) → LowAt 8 ys
low_prefix [] = tt
low_prefix (y ∷ ys) = λ j. prec_low y.terminal j

pub low_zero : (m : ℕ) (ys : List Lexeme) → OpsBelow 0 ys → LowAt m ys
low_zero m [] h = tt
low_zero m (y ∷ ys) h = λ j. absurd (need_some y.terminal j (h j))

pub ops_weaker : (n p : ℕ) (ys : List Lexeme) → n ≤ p → OpsBelow n ys → OpsBelow p ys
ops_weaker n p [] h o = tt
ops_weaker n p (y ∷ ys) h o = λ i. let q : need y.terminal ≤ n = o i in omega arith

-- what comes after a tree, its operators first; after an open form the tails are silent
abbrev pub RestBy : Bool → ℕ → ℕ → List Lexeme → ℕ → (k : List Symbol) → Chain → Vals k → Type 0
RestBy true m u ys j k c vs = (c ≡ stop) × (read ys j true k ≡ Some vs)
RestBy false m u ys j k c vs = Reads (s.Tail m u ∷ k) ys j (c, vs)

abbrev pub Rest : SyntaxTree → ℕ → List Lexeme → ℕ → (k : List Symbol) → Chain → Vals k → Type 0
Rest e m ys j k c vs = RestBy (ends_open e) m (tight e) ys j k c vs

-- an operand at the right end of another tree
pub rest_within : (b : Bool) (m n u v : ℕ) (ys : List Lexeme) (j : ℕ) (k : List Symbol) (c : Chain) (vs : Vals k) → (b ≡ false → LowAt n ys) → RestBy b m u ys j k c vs → RestBy b n v ys j (s.Tail m u ∷ k) stop (c, vs)
rest_within true m n u v [] j k c vs l h = (refl, rw (h.1, h.0) refl)
rest_within true m n u v (y ∷ ys) j k c vs l h = (refl, rw (h.1, h.0) refl)
rest_within false m n u v ys j k c vs l h = passed (s.Tail n v) stop (s.Tail m u ∷ k) ys j (c, vs) refl refl (tail_stops n v ys (l refl)) h
