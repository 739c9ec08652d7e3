-- The laws of the machine: a stack is completed by its shortest strings.
use Rattle.grammar.proofs.Common.{◌≡◌, ℕ, zero, suc, Bool, true, false, not, ◌&&◌, ◌||◌, nat_le, nat_eq, cond, List, [], ◌∷◌, ◌++◌, Option, Some, None, refl, sym, ap, ◌∙◌, subst, arith, append_assoc, Terminal, Symbol, terminal_number, same, operators, all_terminals, prec, need, right, Production, production, tail_of, open_productions, prim_productions, with_symbols_after, productions, optional, shortest, leftovers, find_production, takes, is_seal, sealed, on_top, step, may_end, next_stack, run, ends, accepts, complete, untaken, none_takes, may_follow, first_or, lead, is_safe}
use Rattle.std.proofs.lemmas.Bool.Decides.{nat_tests}
use Rattle.tokens_why.specs.declared.terminal.Terminal.TheVariants as t
use Rattle.grammar.specs.declared.symbols.Symbol.TheVariants as s

pub no_false : false ≡ true → ⊥
no_false e = cc

pub and_left : (a b : Bool) → (a && b) ≡ true → a ≡ true
and_left true b h = refl
and_left false b h = absurd (no_false h)

pub and_right : (a b : Bool) → (a && b) ≡ true → b ≡ true
and_right true b h = h
and_right false b h = absurd (no_false h)

pub and_both : (a b : Bool) → a ≡ true → b ≡ true → (a && b) ≡ true
and_both true b h i = i
and_both false b h i = absurd (no_false h)

-- The table is safe: what may come after a rule may come after each of its rows.
abbrev all : (Terminal → Bool) → List Terminal → Bool
all f [] = true
all f (y ∷ ys) = f y && all f ys

abbrev fits : Symbol → List Symbol → Option Terminal → Bool
fits s ss y = not (may_follow s y) || is_safe ss y

abbrev line_fits : Symbol → List Symbol → Bool
line_fits s ss = fits s ss None && all (λ y. fits s ss (Some y)) all_terminals

abbrev lines_fit : Symbol → List Production → Bool
lines_fit s [] = true
lines_fit s (r ∷ rs) = line_fits s r.following && lines_fit s rs

tail_checked : (m u v w : ℕ) (os : List Terminal) → lines_fit (s.Tail m u) (tail_of v w os) ≡ true
tail_checked m u v w [] = refl
tail_checked m u v w (o ∷ os) = by_test (nat_le v (prec o) && nat_le (need o) w) (tail_checked m u v w os)
  where
    by_test : (b : Bool) → lines_fit (s.Tail m u) (tail_of v w os) ≡ true → lines_fit (s.Tail m u) (cond b (production o (s.Expr (right o) ∷ s.Tail v (prec o) ∷ []) ∷ tail_of v w os) (tail_of v w os)) ≡ true
    by_test true h = h
    by_test false h = h

expr_checked : (m : ℕ) (b : Bool) → lines_fit (s.Expr m) (cond b (production t.NotWord (s.Expr 3 ∷ s.Tail m 3 ∷ []) ∷ []) [] ++ ((production t.Minus (s.Expr 8 ∷ s.Tail m 8 ∷ []) ∷ production t.PrefixOperator (s.Expr 8 ∷ s.Tail m 8 ∷ []) ∷ []) ++ (open_productions ++ with_symbols_after prim_productions (s.Tail m 9 ∷ [])))) ≡ true
expr_checked m true = refl
expr_checked m false = refl

checked : (s : Symbol) → lines_fit s (productions s) ≡ true
checked (s.Take x) = refl
checked (s.Expr m) = expr_checked m (nat_le m 3)
checked (s.Tail m u) = tail_checked m u m u operators
checked (s.HeadRest true) = refl
checked (s.HeadRest false) = refl
checked (s.Head true) = refl
checked (s.Head false) = refl
checked _ = refl

abbrev member : Terminal → List Terminal → Bool
member y [] = false
member y (x ∷ xs) = same x y || member y xs

listed : (y : Terminal) → member y all_terminals ≡ true
listed t.Lident = refl
listed _ = refl

-- equal numbers are those of equal terminals
abbrev nth : List Terminal → ℕ → Terminal
nth [] n = t.OtherWord
nth (x ∷ xs) zero = x
nth (x ∷ xs) (suc n) = nth xs n

numbered : (y : Terminal) → nth all_terminals (terminal_number y) ≡ y
numbered t.Lident = refl
numbered _ = refl

-- where a rule may be empty and nothing left of it takes a terminal, it doesn't take it
first : (s : Symbol) (ss : List Symbol) (y : Terminal) → none_takes (s ∷ ss) y ≡ true → takes s y ≡ None
first s ss y h = by_option (takes s y) (and_left (untaken (takes s y)) (none_takes ss y) h)
  where
    by_option : (o : Option (List Symbol)) → untaken o ≡ true → o ≡ None
    by_option None i = refl
    by_option (Some k) i = absurd (no_false i)

later : (s : Symbol) (ss : List Symbol) (y : Terminal) → none_takes (s ∷ ss) y ≡ true → none_takes ss y ≡ true
later s ss y h = and_right (untaken (takes s y)) (none_takes ss y) h

abbrev differ : List Terminal → Terminal → Bool
differ [] y = true
differ (o ∷ os) y = not (same o y) && differ os y

operators_only : (y : Terminal) → takes (s.Tail 0 9) y ≡ None → differ operators y ≡ true
operators_only t.Arrow h = cc
operators_only t.Equiv h = cc
operators_only t.Disj h = cc
operators_only t.OrOr h = cc
operators_only t.Conj h = cc
operators_only t.AndAnd h = cc
operators_only t.Equal h = cc
operators_only t.Operator1 h = cc
operators_only t.Minus h = cc
operators_only t.Operator2 h = cc
operators_only t.Operator3 h = cc
operators_only t.Operator4 h = cc
operators_only _ h = refl

tail_silent : (m u : ℕ) (os : List Terminal) (y : Terminal) → differ os y ≡ true → find_production (tail_of m u os) y ≡ None
tail_silent m u [] y h = refl
tail_silent m u (o ∷ os) y h = by_test (nat_le m (prec o) && nat_le (need o) u) (tail_silent m u os y (and_right (not (same o y)) (differ os y) h))
  where
    by_same : (b : Bool) → not b ≡ true → find_production (tail_of m u os) y ≡ None → cond b (Some (s.Expr (right o) ∷ s.Tail m (prec o) ∷ [])) (find_production (tail_of m u os) y) ≡ None
    by_same true i j = absurd (no_false i)
    by_same false i j = j

    by_test : (b : Bool) → find_production (tail_of m u os) y ≡ None → find_production (cond b (production o (s.Expr (right o) ∷ s.Tail m (prec o) ∷ []) ∷ tail_of m u os) (tail_of m u os)) y ≡ None
    by_test true j = by_same (same o y) (and_left (not (same o y)) (differ os y) h) j
    by_test false j = j

silent : (s : Symbol) (y : Terminal) → optional s ≡ true → none_takes (leftovers s) y ≡ true → takes s y ≡ None
silent (s.Tail m u) y o h = tail_silent m u operators y (operators_only y (first (s.Tail 0 9) [] y (later s.Applied (s.Tail 0 9 ∷ []) y h)))
silent s.Seal y o h = refl
silent s.File y o h = first s.File [] y h
silent s.Tvars y o h = first s.Tvars (s.Upper ∷ []) y (later s.Targs (s.Tvars ∷ s.Upper ∷ []) y (later s.Fields (s.Targs ∷ s.Tvars ∷ s.Upper ∷ []) y (later s.Algs (s.Fields ∷ s.Targs ∷ s.Tvars ∷ s.Upper ∷ []) y h)))
silent s.Upper y o h = first s.Upper [] y (later s.Targs (s.Upper ∷ []) y (later s.Fields (s.Targs ∷ s.Upper ∷ []) y (later s.Algs (s.Fields ∷ s.Targs ∷ s.Upper ∷ []) y h)))
silent s.Algs y o h = first s.Algs (s.Fields ∷ []) y h
silent s.Params y o h = first s.Params [] y h
silent s.Body y o h = first s.Body (s.Members ∷ s.Tail 0 9 ∷ []) y (later s.Applied (s.Body ∷ s.Members ∷ s.Tail 0 9 ∷ []) y h)
silent s.Members y o h = first s.Members (s.Tail 0 9 ∷ []) y (later s.Applied (s.Members ∷ s.Tail 0 9 ∷ []) y h)
silent s.Value y o h = first s.Value [] y (later (s.Tail 0 9) (s.Value ∷ []) y (later s.Applied (s.Tail 0 9 ∷ s.Value ∷ []) y h))
silent s.Clauses y o h = first s.Clauses (s.Tail 0 9 ∷ []) y (later s.Applied (s.Clauses ∷ s.Tail 0 9 ∷ []) y h)
silent s.Renamed y o h = first s.Renamed [] y h
silent s.Subst y o h = first s.Subst (s.Targs ∷ []) y (later s.Qids (s.Subst ∷ s.Targs ∷ []) y (later s.Elems (s.Qids ∷ s.Subst ∷ s.Targs ∷ []) y h))
silent s.Elems y o h = first s.Elems (s.Qids ∷ s.Targs ∷ []) y h
silent s.Qids y o h = first s.Qids [] y h
silent s.Targs y o h = first s.Targs [] y h
silent s.AsPart y o h = first s.AsPart [] y h
silent s.Quids y o h = first s.Quids [] y h
silent s.Patoms y o h = first s.Patoms (s.Quids ∷ []) y h
silent s.Fields y o h = first s.Fields [] y (later s.Algs (s.Fields ∷ []) y h)
silent (s.HeadRest b) y o h = first (s.HeadRest b) [] y h
silent s.Scoped y o h = first s.Scoped [] y h
silent s.Applied y o h = first s.Applied [] y h
silent s.Dots y o h = first s.Dots [] y h
silent s.Args y o h = first s.Args (s.Dots ∷ []) y h
silent _ y o h = absurd (no_false o)

-- A shortest string begins with a terminal that its rule takes, and goes on with those of the symbols after.
data Starts (s : Symbol) : Type 0 where
  empty : optional s ≡ true → shortest s ≡ [] → Starts s
  due : (x : Terminal) (ss : List Symbol) → takes s x ≡ Some ss → shortest s ≡ x ∷ complete ss → optional s ≡ false → Starts s

pub same_refl : (n : ℕ) → nat_eq n n ≡ true
same_refl n = search (arith)

take_starts : (x : Terminal) → takes (s.Take x) x ≡ Some []
take_starts x = ap (λ b. cond b (Some []) None) (same_refl (terminal_number x))

expr_starts : (m : ℕ) (b : Bool) → find_production (cond b (production t.NotWord (s.Expr 3 ∷ s.Tail m 3 ∷ []) ∷ []) [] ++ ((production t.Minus (s.Expr 8 ∷ s.Tail m 8 ∷ []) ∷ production t.PrefixOperator (s.Expr 8 ∷ s.Tail m 8 ∷ []) ∷ []) ++ (open_productions ++ with_symbols_after prim_productions (s.Tail m 9 ∷ [])))) t.StarName ≡ Some (s.Args ∷ s.Tail m 9 ∷ [])
expr_starts m true = refl
expr_starts m false = refl

abbrev head_of : List Terminal → Terminal
head_of [] = t.OtherWord
head_of (x ∷ xs) = x

abbrev after_of : Option (List Symbol) → List Symbol
after_of (Some ss) = ss
after_of None = []

starts : (s : Symbol) → Starts s
starts (s.Take x) = due x [] (take_starts x) refl refl
starts (s.Expr m) = due t.StarName (s.Args ∷ s.Tail m 9 ∷ []) (expr_starts m (nat_le m 3)) refl refl
starts (s.Tail m u) = empty refl refl
starts s.Seal = empty refl refl
starts s.File = empty refl refl
starts s.Tvars = empty refl refl
starts s.Upper = empty refl refl
starts s.Algs = empty refl refl
starts s.Params = empty refl refl
starts s.Body = empty refl refl
starts s.Members = empty refl refl
starts s.Value = empty refl refl
starts s.Clauses = empty refl refl
starts s.Renamed = empty refl refl
starts s.Subst = empty refl refl
starts s.Elems = empty refl refl
starts s.Qids = empty refl refl
starts s.Targs = empty refl refl
starts s.AsPart = empty refl refl
starts s.Quids = empty refl refl
starts s.Patoms = empty refl refl
starts s.Fields = empty refl refl
starts (s.HeadRest b) = empty refl refl
starts s.Scoped = empty refl refl
starts s.Applied = empty refl refl
starts s.Dots = empty refl refl
starts (s.Head true) = due t.StarName (s.Args ∷ []) refl refl refl
starts (s.Head false) = due t.StarName [] refl refl refl
starts s.Args = empty refl refl
starts s = due (head_of (shortest s)) (after_of (takes s (head_of (shortest s)))) refl refl refl

-- The stack after a terminal that its shortest string begins with.
pub record Onward (b : Bool) (k : List Symbol) (x : Terminal) (xs : List Terminal) : Type 0 where
  pub stack : List Symbol
  pub steps : step b k x ≡ Some stack
  pub safe : is_safe stack None ≡ true
  pub rest : complete stack ≡ xs

lead_append : (ss k : List Symbol) (y : Option Terminal) → lead (ss ++ k) y ≡ lead ss (lead k y)
lead_append [] k y = refl
lead_append (s ∷ ss) k y = ap (first_or (shortest s)) (lead_append ss k y)

safe_append : (ss k : List Symbol) (y : Option Terminal) → is_safe ss (lead k y) ≡ true → is_safe k y ≡ true → is_safe (ss ++ k) y ≡ true
safe_append [] k y h i = i
safe_append (s ∷ ss) k y h i = and_both (may_follow s (lead (ss ++ k) y)) (is_safe (ss ++ k) y)
    (ap (may_follow s) (lead_append ss k y) ∙ and_left (may_follow s (lead ss (lead k y))) (is_safe ss (lead k y)) h)
    (safe_append ss k y (and_right (may_follow s (lead ss (lead k y))) (is_safe ss (lead k y)) h) i)

complete_append : (ss k : List Symbol) → complete (ss ++ k) ≡ complete ss ++ complete k
complete_append [] k = refl
complete_append (s ∷ ss) k = ap (λ v. shortest s ++ v) (complete_append ss k) ∙ sym (append_assoc (shortest s) (complete ss) (complete k))

implied : (a b : Bool) → (not a || b) ≡ true → a ≡ true → b ≡ true
implied true b h i = h
implied false b h i = absurd (no_false i)

nat_eq_true : (m n : ℕ) → nat_eq m n ≡ true → m ≡ n
nat_eq_true m n h = grind (arith, nat_tests)

pub same_true : (x y : Terminal) → same x y ≡ true → x ≡ y
same_true x y h = sym (numbered x) ∙ ap (nth all_terminals) (nat_eq_true (terminal_number x) (terminal_number y) h) ∙ numbered y

all_at : (f : Terminal → Bool) (ys : List Terminal) (y : Terminal) → all f ys ≡ true → member y ys ≡ true → f y ≡ true
all_at f [] y h i = absurd (no_false i)
all_at f (x ∷ xs) y h i = by_test (same x y) refl (all_at f xs y (and_right (f x) (all f xs) h))
  where
    by_test : (b : Bool) → same x y ≡ b → (member y xs ≡ true → f y ≡ true) → f y ≡ true
    by_test true e j = ap f (sym (same_true x y e)) ∙ and_left (f x) (all f xs) h
    by_test false e j = j (subst (λ v. (v || member y xs) ≡ true) e i)

-- the first terminal of a shortest string leads
lead_complete : (k : List Symbol) → lead k None ≡ first_or (complete k) None
lead_complete [] = refl
lead_complete (s ∷ k) = ap (first_or (shortest s)) (lead_complete k) ∙ joined (shortest s) (complete k)
  where
    joined : (xs ys : List Terminal) → first_or xs (first_or ys None) ≡ first_or (xs ++ ys) None
    joined [] ys = refl
    joined (x ∷ xs) ys = refl

follows : (s : Symbol) (ss : List Symbol) (y : Option Terminal) → line_fits s ss ≡ true → fits s ss y ≡ true
follows s ss None h = and_left (fits s ss None) (all (λ y. fits s ss (Some y)) all_terminals) h
follows s ss (Some y) h = all_at (λ z. fits s ss (Some z)) all_terminals y (and_right (fits s ss None) (all (λ z. fits s ss (Some z)) all_terminals) h) (listed y)

lines_found : (s : Symbol) (rs : List Production) (x : Terminal) (ss : List Symbol) (y : Option Terminal) → lines_fit s rs ≡ true → find_production rs x ≡ Some ss → may_follow s y ≡ true → is_safe ss y ≡ true
lines_found s [] x ss y h i j = cc
lines_found s (r ∷ rs) x ss y h i j = by_test (same r.first x) i (λ e. lines_found s rs x ss y (and_right (line_fits s r.following) (lines_fit s rs) h) e j)
  where
    by_test : (b : Bool) → cond b (Some r.following) (find_production rs x) ≡ Some ss → (find_production rs x ≡ Some ss → is_safe ss y ≡ true) → is_safe ss y ≡ true
    by_test true e f = let same_list : r.following ≡ ss = cc in
        subst (λ v. is_safe v y ≡ true) same_list (implied (may_follow s y) (is_safe r.following y) (follows s r.following y (and_left (line_fits s r.following) (lines_fit s rs) h)) j)
    by_test false e f = f e

-- a symbol's row on top of a safe stack is safe
row_safe : (s : Symbol) (k ss : List Symbol) (x : Terminal) → is_safe (s ∷ k) None ≡ true → takes s x ≡ Some ss → is_safe (ss ++ k) None ≡ true
row_safe s k ss x h i = safe_append ss k None
    (lines_found s (productions s) x ss (lead k None) (checked s) i (and_left (may_follow s (lead k None)) (is_safe k None) h))
    (and_right (may_follow s (lead k None)) (is_safe k None) h)

tail_empty : (b : Bool) (s : Symbol) → sealed b s ≡ true → shortest s ≡ []
tail_empty true (s.Tail m u) h = refl
tail_empty false s h = absurd (no_false h)
tail_empty true _ h = absurd (no_false h)

pub onward : (b : Bool) (k : List Symbol) (x : Terminal) (xs : List Terminal) → is_safe k None ≡ true → complete k ≡ x ∷ xs → Onward b k x xs
onward b [] x xs h i = cc
onward b (s ∷ k) x xs h i = by_seal (sealed b s) refl (λ c e. onward c k x xs (and_right (may_follow s (lead k None)) (is_safe k None) h) e)
  where
    kept : shortest s ≡ [] → complete k ≡ x ∷ xs
    kept e = sym (ap (λ v. v ++ complete k) e) ∙ i

    skipped : (c : Bool) (o : Onward c k x xs) → step b (s ∷ k) x ≡ step c k x → Onward b (s ∷ k) x xs
    skipped c o e = record { stack = o.stack; steps = e ∙ o.steps; safe = o.safe; rest = o.rest }

    by_starts : Starts s → sealed b s ≡ false → ((c : Bool) → complete k ≡ x ∷ xs → Onward c k x xs) → Onward b (s ∷ k) x xs
    by_starts (empty o e) n f = skipped (is_seal s) (f (is_seal s) (kept e)) (ap (λ v. cond v (step true k x) (on_top (takes s x) (optional s) k (step (is_seal s) k x))) n ∙ passes (takes s x) (optional s) (untaken_here o e) o)
      where
        untaken_here : optional s ≡ true → shortest s ≡ [] → takes s x ≡ None
        untaken_here p q = silent s x p (subst (λ v. may_follow s v ≡ true) (lead_complete k ∙ ap (λ v. first_or v None) (kept q)) (and_left (may_follow s (lead k None)) (is_safe k None) h))

        passes : (t : Option (List Symbol)) (v : Bool) → t ≡ None → v ≡ true → on_top t v k (step (is_seal s) k x) ≡ step (is_seal s) k x
        passes None true p q = refl
        passes None false p q = absurd (no_false q)
        passes (Some j) v p q = cc
    by_starts (due y ss t e o) n f = record {
      stack = ss ++ k;
      steps = ap (λ v. cond v (step true k x) (on_top (takes s x) (optional s) k (step (is_seal s) k x))) n ∙ ap (λ v. on_top v (optional s) k (step (is_seal s) k x)) (taken t e);
      safe = row_safe s k ss x h (taken t e);
      rest = complete_append ss k ∙ following e;
    }
      where
        whole : shortest s ≡ y ∷ complete ss → (y ∷ (complete ss ++ complete k)) ≡ (x ∷ xs)
        whole q = sym (ap (λ v. v ++ complete k) q) ∙ i

        taken : takes s y ≡ Some ss → shortest s ≡ y ∷ complete ss → takes s x ≡ Some ss
        taken p q = let w = whole q in let same_first : y ≡ x = cc in subst (λ v. takes s v ≡ Some ss) same_first p

        following : shortest s ≡ y ∷ complete ss → complete ss ++ complete k ≡ xs
        following q = let w = whole q in cc

    by_seal : (v : Bool) → sealed b s ≡ v → ((c : Bool) → complete k ≡ x ∷ xs → Onward c k x xs) → Onward b (s ∷ k) x xs
    by_seal true e f = skipped true (f true (kept (tail_empty b s e))) (ap (λ v. cond v (step true k x) (on_top (takes s x) (optional s) k (step (is_seal s) k x))) e)
    by_seal false e f = by_starts (starts s) e f

-- what is due may be empty where nothing is left to say
ends_empty : (k : List Symbol) → complete k ≡ [] → may_end k ≡ true
ends_empty [] h = refl
ends_empty (s ∷ k) h = by_starts (starts s) (λ e. ends_empty k e)
  where
    by_starts : Starts s → (complete k ≡ [] → may_end k ≡ true) → (optional s && may_end k) ≡ true
    by_starts (empty o e) f = and_both (optional s) (may_end k) o (f (sym (ap (λ v. v ++ complete k) e) ∙ h))
    by_starts (due y ss t e o) f = let w : (y ∷ (complete ss ++ complete k)) ≡ [] = sym (ap (λ v. v ++ complete k) e) ∙ h in cc

-- A safe stack is completed by its shortest strings.
pub completes : (xs : List Terminal) (k : List Symbol) → is_safe k None ≡ true → complete k ≡ xs → accepts k xs ≡ true
completes [] k h i = ends_empty k i
completes (x ∷ xs) k h i = let o = onward false k x xs h i in
    ap (λ v. ends (next_stack (λ j. run j xs) v)) o.steps ∙ completes xs o.stack o.safe o.rest

-- A step leaves a safe stack safe.
pub step_safe : (b : Bool) (k j : List Symbol) (x : Terminal) → is_safe k None ≡ true → step b k x ≡ Some j → is_safe j None ≡ true
step_safe b [] j x h i = cc
step_safe b (s ∷ k) j x h i = by_seal (sealed b s) i (λ c e. step_safe c k j x (and_right (may_follow s (lead k None)) (is_safe k None) h) e)
  where
    by_option : (t : Option (List Symbol)) (v : Bool) → takes s x ≡ t → on_top t v k (step (is_seal s) k x) ≡ Some j → ((c : Bool) → step c k x ≡ Some j → is_safe j None ≡ true) → is_safe j None ≡ true
    by_option (Some ss) v p e f = let same_stack : ss ++ k ≡ j = cc in subst (λ l. is_safe l None ≡ true) same_stack (row_safe s k ss x h p)
    by_option None true p e f = f (is_seal s) e
    by_option None false p e f = cc

    by_seal : (v : Bool) → cond v (step true k x) (on_top (takes s x) (optional s) k (step (is_seal s) k x)) ≡ Some j → ((c : Bool) → step c k x ≡ Some j → is_safe j None ≡ true) → is_safe j None ≡ true
    by_seal true e f = f true e
    by_seal false e f = by_option (takes s x) (optional s) refl e f

pub run_safe : (xs : List Terminal) (k j : List Symbol) → is_safe k None ≡ true → run k xs ≡ Some j → is_safe j None ≡ true
run_safe [] k j h i = let e : k ≡ j = cc in subst (λ l. is_safe l None ≡ true) e h
run_safe (x ∷ xs) k j h i = by_option (step false k x) refl i (λ l p e. run_safe xs l j (step_safe false k l x h p) e)
  where
    by_option : (t : Option (List Symbol)) → step false k x ≡ t → next_stack (λ l. run l xs) t ≡ Some j → ((l : List Symbol) → step false k x ≡ Some l → run l xs ≡ Some j → is_safe j None ≡ true) → is_safe j None ≡ true
    by_option (Some l) p e f = f l p e
    by_option None p e f = cc

pub run_append : (xs ys : List Terminal) (k : List Symbol) → run k (xs ++ ys) ≡ next_stack (λ j. run j ys) (run k xs)
run_append [] ys k = refl
run_append (x ∷ xs) ys k = by_option (step false k x) (λ l. run_append xs ys l)
  where
    by_option : (t : Option (List Symbol)) → ((l : List Symbol) → run l (xs ++ ys) ≡ next_stack (λ j. run j ys) (run l xs)) → next_stack (λ l. run l (xs ++ ys)) t ≡ next_stack (λ j. run j ys) (next_stack (λ l. run l xs) t)
    by_option (Some l) f = f l
    by_option None f = refl

-- What isn't stuck is completed, and what begins an accepted string isn't stuck.
pub begun_completes : (k j : List Symbol) (xs : List Terminal) → is_safe k None ≡ true → run k xs ≡ Some j → accepts k (xs ++ complete j) ≡ true
begun_completes k j xs h i = ap ends (run_append xs (complete j) k) ∙ ap (λ v. ends (next_stack (λ l. run l (complete j)) v)) i ∙ completes (complete j) j (run_safe xs k j h i) refl

pub accepted_begins : (k : List Symbol) (xs ys : List Terminal) → accepts k (xs ++ ys) ≡ true → (j : List Symbol) × run k xs ≡ Some j
accepted_begins k xs ys h = by_option (run k xs) refl (sym (ap ends (run_append xs ys k)) ∙ h)
  where
    by_option : (t : Option (List Symbol)) → run k xs ≡ t → ends (next_stack (λ j. run j ys) t) ≡ true → (j : List Symbol) × run k xs ≡ Some j
    by_option (Some j) e i = (j, e)
    by_option None e i = absurd (no_false i)
