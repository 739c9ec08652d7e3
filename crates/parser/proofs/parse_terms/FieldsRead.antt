-- What follows where a name and what comes after it are read, and the fields of a term.
use Rattle.parser.proofs.parse_terms.Common.{◌≡◌, ℕ, ◌+◌, ◌≤◌, ◌<◌, ◌⊎◌, inl, inr, suc, zero, Bool, true, false, ◌&&◌, cond, List, [], ◌∷◌, ◌++◌, length, Option, Some, None, option_map, refl, sym, ap, ◌∙◌, subst, append_assoc, append-nil, arith, Terminal, Symbol, same, same_true, Lexeme, Called, Dotted, at, lower, upper, star, called, OperatorToken, SyntaxTree, SyntaxTrees, apply, none, access, ends_open, first_token, Headed, UpperRest, Scoped, accessed, with_rest, applied_own, args_rest, dots_rest, upper_head, head_rest_own, scopes_name, lower_called, scope_own, unscoped, own_op, ReadingRow, Val, Vals, back, extend, front, row, then_row, rows, blank, find, read, below_or, by_first, first_row, from_cons, passes, row_at, stands, stands_within, unread, nowhere, get_or_past, is_name_at, IsReadFields, IsReadPlain, is_lower_name, name_rest, name_rest_of, Begun, CanRead, IsRead, IsReadClosed, lexemes_from, terminal_at, token_at}
use Rattle.tokens_why.specs.declared.terminal.Terminal.TheVariants as t
use Rattle.grammar.specs.declared.symbols.Symbol.TheVariants as s
use Rattle.grammar.specs.Machine.{is_seal}
use Rattle.grammar.proofs.reading.Inverse.{from_end, other_rule}
use Rattle.grammar.proofs.reading.Reading.{Stops, find_apart, find_extend, passed}
use Rattle.parser.proofs.parse_terms.Steps.{again, and_cases, can_next, done, expand, next, none_of, pass, reread, start, unexpand}
use Rattle.parser.proofs.parse_terms.TermSteps.{sure}
use Rattle.parser.proofs.parse_terms.HeadsRead.{head_atom_start, head_start}

-- A rule that may be empty is put before what is there, where none of its rows begins.
put_blank : (xs : List Lexeme) (j : ℕ) (a : Symbol) (v : Val a) (k : List Symbol) (vs : Vals k) → blank a ≡ Some v → is_seal a ≡ false → find (rows a) (terminal_at xs j) ≡ None → read (lexemes_from xs j) j false k ≡ Some vs → read (lexemes_from xs j) j false (a ∷ k) ≡ Some (v, vs)
put_blank xs j a v k vs b l n g = passed a v k (lexemes_from xs j) j vs b l (stops (below_or j (length xs))) g
  where
    stops : (j < length xs) ⊎ (length xs ≤ j) → Stops a (lexemes_from xs j)
    stops (inl h) = subst (Stops a) (sym (from_cons xs j h)) n
    stops (inr h) = subst (Stops a) (sym (from_end xs j h)) tt

-- Where a rule reads what another reads, and both may be empty, it is read by the other one.
by_other : (xs : List Lexeme) (j : ℕ) (a b : Symbol) (f : Val b → Val a) (own : List (ReadingRow a)) (v0 : Val b) (k : List Symbol) (vs : Val a × Vals k) → rows a ≡ own ++ extend a b [] (λ v vs. f v) (rows b) → blank b ≡ Some v0 → blank a ≡ Some (f v0) → is_seal a ≡ false → is_seal b ≡ false → find (rows b) t.OtherWord ≡ None → find own (terminal_at xs j) ≡ None → read (lexemes_from xs j) j false (a ∷ k) ≡ Some vs → (us : Val b × Vals k) × (read (lexemes_from xs j) j false (b ∷ k) ≡ Some us) × ((f us.0, us.1) ≡ vs)
by_other xs j a b f own v0 k vs is bb ab la lb o n g = by_found (find (rows b) (terminal_at xs j)) refl
  where
    found : (q : Option (ReadingRow b)) → find (rows b) (terminal_at xs j) ≡ q → find (rows a) (terminal_at xs j) ≡ option_map (then_row a b [] (λ v vs. f v)) q
    found q e = ap (λ rs. find rs (terminal_at xs j)) is ∙ find_apart own (extend a b [] (λ v vs. f v) (rows b)) (terminal_at xs j) n ∙ find_extend a b [] (λ v vs. f v) (rows b) (terminal_at xs j) ∙ ap (option_map (then_row a b [] (λ v vs. f v))) e

    by_found : (q : Option (ReadingRow b)) → find (rows b) (terminal_at xs j) ≡ q → (us : Val b × Vals k) × (read (lexemes_from xs j) j false (b ∷ k) ≡ Some us) × ((f us.0, us.1) ≡ vs)
    by_found (Some r) e = other_rule xs j a b [] (λ v vs. f v) r k vs (within (below_or j (length xs))) e (found (Some r) e) g
      where
        past_end : length xs ≤ j → terminal_at xs j ≡ t.OtherWord
        past_end h = ap (λ v. v.terminal) (get_or_past xs j nowhere h)

        within : (j < length xs) ⊎ (length xs ≤ j) → j < length xs
        within (inl h) = h
        within (inr h) = let d : find (rows b) t.OtherWord ≡ Some r = subst (λ x. find (rows b) x ≡ Some r) (past_end h) e in cc
    by_found None e = let p = passes xs j a (f v0) k vs ab la (found None e) g in ((v0, vs.1), put_blank xs j b v0 k vs.1 bb lb e p.1, ap (λ v. (v, vs.1)) (sym p.0))

-- A name, and what comes after it.
record Apart (xs : List Lexeme) (b : Bool) (j : ℕ) (k : List Symbol) (vs : Headed × Vals k) : Type 0 where
  name : Scoped
  rest : Vals (name_rest b (is_lower_name name.own) ++ k)
  reads : read (lexemes_from xs j) j false (s.Qhead ∷ (name_rest b (is_lower_name name.own) ++ k)) ≡ Some (name, rest)
  whole : (record { scopes = name.scopes; own = name.own; rest = name_rest_of b (is_lower_name name.own) (front (name_rest b (is_lower_name name.own)) k rest) }, back (name_rest b (is_lower_name name.own)) k rest) ≡ vs

no_scope : (xs : List Lexeme) (j : ℕ) → same t.Dot (terminal_at xs j) ≡ false → find (rows s.Scoped) (terminal_at xs j) ≡ None
no_scope xs j n = none_of s.Scoped (t.Dot ∷ []) (terminal_at xs j) refl (n, tt)

-- a word in upper case that is no scope
upper_alone : (b : Bool) (xs : List Lexeme) (j : ℕ) (k : List Symbol) (u : UpperRest × Vals k) → terminal_at xs j ≡ t.Uident → same t.Dot (terminal_at xs (j + 1)) ≡ false → read (lexemes_from xs (j + 1)) (j + 1) false (s.HeadRest b ∷ k) ≡ Some u → Apart xs b j k (upper_head (token_at xs j).text u.0, u.1)
upper_alone true xs j k u e n g = let p = by_other xs (j + 1) (s.HeadRest true) s.Args (λ v. unscoped v) (head_rest_own true) none k u refl refl refl refl refl refl (none_at n) g in record {
  name = record { scopes = []; own = upper (token_at xs j).text };
  rest = p.0;
  reads = by_first xs j s.Qhead (row s.Qhead t.Uident (s.Scoped ∷ []) (λ i w vs. scope_own w vs.0)) (s.Args ∷ k) (None, p.0) (stands xs j t.Uident e refl) (ap (find (rows s.Qhead)) e) (put_blank xs (j + 1) s.Scoped None (s.Args ∷ k) p.0 refl refl (no_scope xs (j + 1) n) p.1);
  whole = ap (λ v. (upper_head (token_at xs j).text v.0, v.1)) p.2;
}
  where
    none_at : same t.Dot (terminal_at xs (j + 1)) ≡ false → find (head_rest_own true) (terminal_at xs (j + 1)) ≡ None
    none_at n = ap (λ c. cond c (Some (row (s.HeadRest true) t.Dot (s.Head true ∷ []) (λ i w vs. scopes_name vs.0))) None) n
upper_alone false xs j k u e n g = let p = passes xs (j + 1) (s.HeadRest false) (unscoped none) k u refl refl (none_at n) g in record {
  name = record { scopes = []; own = upper (token_at xs j).text };
  rest = u.1;
  reads = by_first xs j s.Qhead (row s.Qhead t.Uident (s.Scoped ∷ []) (λ i w vs. scope_own w vs.0)) k (None, u.1) (stands xs j t.Uident e refl) (ap (find (rows s.Qhead)) e) (put_blank xs (j + 1) s.Scoped None k u.1 refl refl (no_scope xs (j + 1) n) p.1);
  whole = ap (λ v. (upper_head (token_at xs j).text v, u.1)) (sym p.0);
}
  where
    none_at : same t.Dot (terminal_at xs (j + 1)) ≡ false → find (head_rest_own false) (terminal_at xs (j + 1)) ≡ None
    none_at n = ap (λ c. cond c (Some (row (s.HeadRest false) t.Dot (s.Head false ∷ []) (λ i w vs. scopes_name vs.0))) None) n

-- a scope, and a name in it
in_upper : (b : Bool) (xs : List Lexeme) (j : ℕ) (k : List Symbol) (u : UpperRest × Vals k) → terminal_at xs j ≡ t.Uident → same t.Dot (terminal_at xs (j + 1)) ≡ true → read (lexemes_from xs (j + 1)) (j + 1) false (s.HeadRest b ∷ k) ≡ Some u → ((vs : Headed × Vals k) → read (lexemes_from xs (j + 1 + 1)) (j + 1 + 1) false (s.Head b ∷ k) ≡ Some vs → Apart xs b (j + 1 + 1) k vs) → Apart xs b j k (upper_head (token_at xs j).text u.0, u.1)
in_upper b xs j k u e d g f = let p = scope_row b u g in let r = f p.0 p.1 in record {
  name = record { scopes = (token_at xs j).text ∷ r.name.scopes; own = r.name.own };
  rest = r.rest;
  reads = by_first xs j s.Qhead (row s.Qhead t.Uident (s.Scoped ∷ []) (λ i w vs. scope_own w vs.0)) (name_rest b (is_lower_name r.name.own) ++ k) (Some r.name, r.rest) (stands xs j t.Uident e refl) (ap (find (rows s.Qhead)) e)
      (by_first xs (j + 1) s.Scoped (row s.Scoped t.Dot (s.Qhead ∷ []) (λ i w vs. Some vs.0)) (name_rest b (is_lower_name r.name.own) ++ k) (r.name, r.rest) (stands xs (j + 1) t.Dot dot refl) (ap (find (rows s.Scoped)) dot) r.reads);
  whole = ap (λ v. (upper_head (token_at xs j).text (scopes_name v.0), v.1)) r.whole ∙ ap (λ v. (upper_head (token_at xs j).text v.0, v.1)) p.2;
}
  where
    dot : terminal_at xs (j + 1) ≡ t.Dot
    dot = sym (same_true t.Dot (terminal_at xs (j + 1)) d)

    scope_row : (b : Bool) (u : UpperRest × Vals k) → read (lexemes_from xs (j + 1)) (j + 1) false (s.HeadRest b ∷ k) ≡ Some u → (vs : Headed × Vals k) × (read (lexemes_from xs (j + 1 + 1)) (j + 1 + 1) false (s.Head b ∷ k) ≡ Some vs) × ((scopes_name vs.0, vs.1) ≡ u)
    scope_row true u g = first_row xs (j + 1) (s.HeadRest true) (row (s.HeadRest true) t.Dot (s.Head true ∷ []) (λ i w vs. scopes_name vs.0)) k u (stands xs (j + 1) t.Dot dot refl) (ap (find (rows (s.HeadRest true))) dot) g
    scope_row false u g = first_row xs (j + 1) (s.HeadRest false) (row (s.HeadRest false) t.Dot (s.Head false ∷ []) (λ i w vs. scopes_name vs.0)) k u (stands xs (j + 1) t.Dot dot refl) (ap (find (rows (s.HeadRest false))) dot) g

-- an operator's name
operator_args : (p : Bool) (o : OperatorToken) {xs : List Lexeme} {j : ℕ} {k : List Symbol} {vs : Headed × Vals k} (us : SyntaxTrees × Vals k) → read (lexemes_from xs j) j false (s.Qhead ∷ s.Args ∷ k) ≡ Some (record { scopes = []; own = own_op p o }, us) → (record { scopes = []; own = own_op p o; rest = args_rest us.0 }, us.1) ≡ vs → Apart xs true j k vs
operator_args true o us g e = record { name = record { scopes = []; own = own_op true o }; rest = us; reads = g; whole = e }
operator_args false o us g e = record { name = record { scopes = []; own = own_op false o }; rest = us; reads = g; whole = e }

operator_alone : (p : Bool) (o : OperatorToken) {xs : List Lexeme} {j : ℕ} {k : List Symbol} {vs : Headed × Vals k} (us : Vals k) → read (lexemes_from xs j) j false (s.Qhead ∷ k) ≡ Some (record { scopes = []; own = own_op p o }, us) → (record { scopes = []; own = own_op p o; rest = args_rest none }, us) ≡ vs → Apart xs false j k vs
operator_alone true o us g e = record { name = record { scopes = []; own = own_op true o }; rest = us; reads = g; whole = e }
operator_alone false o us g e = record { name = record { scopes = []; own = own_op false o }; rest = us; reads = g; whole = e }

apart_by : (b : Bool) (xs : List Lexeme) (j : ℕ) (k : List Symbol) (vs : Headed × Vals k) → read (lexemes_from xs j) j false (s.Head b ∷ k) ≡ Some vs → ((us : Headed × Vals k) → read (lexemes_from xs (j + 1 + 1)) (j + 1 + 1) false (s.Head b ∷ k) ≡ Some us → Apart xs b (j + 1 + 1) k us) → Apart xs b j k vs
apart_by b xs j k vs g f = by_terminal (terminal_at xs j) refl b vs g f
  where
    by_dot : (b : Bool) (u : UpperRest × Vals k) → terminal_at xs j ≡ t.Uident → read (lexemes_from xs (j + 1)) (j + 1) false (s.HeadRest b ∷ k) ≡ Some u → ((us : Headed × Vals k) → read (lexemes_from xs (j + 1 + 1)) (j + 1 + 1) false (s.Head b ∷ k) ≡ Some us → Apart xs b (j + 1 + 1) k us) → (d : Bool) → same t.Dot (terminal_at xs (j + 1)) ≡ d → Apart xs b j k (upper_head (token_at xs j).text u.0, u.1)
    by_dot b u e g f true d = in_upper b xs j k u e d g f
    by_dot b u e g f false d = upper_alone b xs j k u e d g

    by_terminal : (x : Terminal) → terminal_at xs j ≡ x → (b : Bool) (vs : Headed × Vals k) → read (lexemes_from xs j) j false (s.Head b ∷ k) ≡ Some vs → ((us : Headed × Vals k) → read (lexemes_from xs (j + 1 + 1)) (j + 1 + 1) false (s.Head b ∷ k) ≡ Some us → Apart xs b (j + 1 + 1) k us) → Apart xs b j k vs
    by_terminal t.Lident e true vs g f = let p = row_at xs j (s.Head true) (row (s.Head true) t.Lident (s.Applied ∷ []) (λ i w vs. record { scopes = []; own = lower w; rest = vs.0 })) k vs refl (ap (find (rows (s.Head true))) e) g in record {
      name = record { scopes = []; own = lower (token_at xs j).text };
      rest = p.0;
      reads = by_first xs j s.Qhead (row s.Qhead t.Lident [] (λ i w vs. record { scopes = []; own = lower w })) (s.Applied ∷ k) p.0 (stands xs j t.Lident e refl) (ap (find (rows s.Qhead)) e) p.1;
      whole = p.2;
    }
    by_terminal t.Lident e false vs g f = let p = row_at xs j (s.Head false) (row (s.Head false) t.Lident (s.Dots ∷ []) (λ i w vs. record { scopes = []; own = lower w; rest = dots_rest vs.0 })) k vs refl (ap (find (rows (s.Head false))) e) g in record {
      name = record { scopes = []; own = lower (token_at xs j).text };
      rest = p.0;
      reads = by_first xs j s.Qhead (row s.Qhead t.Lident [] (λ i w vs. record { scopes = []; own = lower w })) (s.Dots ∷ k) p.0 (stands xs j t.Lident e refl) (ap (find (rows s.Qhead)) e) p.1;
      whole = p.2;
    }
    by_terminal t.Uident e true vs g f = let p = row_at xs j (s.Head true) (row (s.Head true) t.Uident (s.HeadRest true ∷ []) (λ i w vs. upper_head w vs.0)) k vs refl (ap (find (rows (s.Head true))) e) g in subst (Apart xs true j k) p.2 (by_dot true p.0 e p.1 f (same t.Dot (terminal_at xs (j + 1))) refl)
    by_terminal t.Uident e false vs g f = let p = row_at xs j (s.Head false) (row (s.Head false) t.Uident (s.HeadRest false ∷ []) (λ i w vs. upper_head w vs.0)) k vs refl (ap (find (rows (s.Head false))) e) g in subst (Apart xs false j k) p.2 (by_dot false p.0 e p.1 f (same t.Dot (terminal_at xs (j + 1))) refl)
    by_terminal t.StarName e true vs g f = let p = row_at xs j (s.Head true) (row (s.Head true) t.StarName (s.Args ∷ []) (λ i w vs. record { scopes = []; own = star; rest = args_rest vs.0 })) k vs refl (ap (find (rows (s.Head true))) e) g in record {
      name = record { scopes = []; own = star };
      rest = p.0;
      reads = by_first xs j s.Qhead (row s.Qhead t.StarName [] (λ i w vs. record { scopes = []; own = star })) (s.Args ∷ k) p.0 (stands xs j t.StarName e refl) (ap (find (rows s.Qhead)) e) p.1;
      whole = p.2;
    }
    by_terminal t.StarName e false vs g f = let p = row_at xs j (s.Head false) (row (s.Head false) t.StarName [] (λ i w vs. record { scopes = []; own = star; rest = args_rest none })) k vs refl (ap (find (rows (s.Head false))) e) g in record {
      name = record { scopes = []; own = star };
      rest = p.0;
      reads = by_first xs j s.Qhead (row s.Qhead t.StarName [] (λ i w vs. record { scopes = []; own = star })) k p.0 (stands xs j t.StarName e refl) (ap (find (rows s.Qhead)) e) p.1;
      whole = p.2;
    }
    by_terminal t.LParen e true vs g f = let p = row_at xs j (s.Head true) (row (s.Head true) t.LParen (s.Opname ∷ s.Args ∷ []) (λ i w vs. record { scopes = []; own = own_op vs.0.prefix vs.0.op; rest = args_rest vs.1.0 })) k vs refl (ap (find (rows (s.Head true))) e) g in
        operator_args p.0.0.prefix p.0.0.op p.0.1 (by_first xs j s.Qhead (row s.Qhead t.LParen (s.Opname ∷ []) (λ i w vs. record { scopes = []; own = own_op vs.0.prefix vs.0.op })) (s.Args ∷ k) p.0 (stands xs j t.LParen e refl) (ap (find (rows s.Qhead)) e) p.1) p.2
    by_terminal t.LParen e false vs g f = let p = row_at xs j (s.Head false) (row (s.Head false) t.LParen (s.Opname ∷ []) (λ i w vs. record { scopes = []; own = own_op vs.0.prefix vs.0.op; rest = args_rest none })) k vs refl (ap (find (rows (s.Head false))) e) g in
        operator_alone p.0.0.prefix p.0.0.op p.0.1 (by_first xs j s.Qhead (row s.Qhead t.LParen (s.Opname ∷ []) (λ i w vs. record { scopes = []; own = own_op vs.0.prefix vs.0.op })) k p.0 (stands xs j t.LParen e refl) (ap (find (rows s.Qhead)) e) p.1) p.2
    by_terminal _ e true vs g f = absurd (unread xs j (s.Head true) k vs (stands_within xs (s.Head true) j k vs refl g) refl (ap (find (rows (s.Head true))) e) g)
    by_terminal _ e false vs g f = absurd (unread xs j (s.Head false) k vs (stands_within xs (s.Head false) j k vs refl g) refl (ap (find (rows (s.Head false))) e) g)

-- What is read as a name with what comes after it is read as the name, and then what comes after it.
apart_name : (n : ℕ) (b : Bool) (xs : List Lexeme) (j : ℕ) (k : List Symbol) (vs : Headed × Vals k) → length xs ≤ j + n → read (lexemes_from xs j) j false (s.Head b ∷ k) ≡ Some vs → Apart xs b j k vs
apart_name zero b xs j k vs h g = let l : j < length xs = stands_within xs (s.Head b) j k vs refl g in absurd (omega (arith, h, l))
apart_name (suc n) b xs j k vs h g = apart_by b xs j k vs g (λ us e. apart_name n b xs (j + 1 + 1) k us (omega (arith, h)) e)

apart_at : (b : Bool) (xs : List Lexeme) (j : ℕ) (k : List Symbol) (vs : Headed × Vals k) → read (lexemes_from xs j) j false (s.Head b ∷ k) ≡ Some vs → Apart xs b j k vs
apart_at b xs j k vs g = apart_name (length xs) b xs j k vs (omega arith) g

module _ {xs : List Lexeme} {n : ℕ} {from : List Symbol → List Symbol} {i : ℕ} {b : Bool} {act : (k : List Symbol) → Vals (s.Head b ∷ k) → Vals (from k)} {j : ℕ} (g : Begun xs n from i (λ k. s.Head b ∷ k) act j) where
  -- the name can be read
  pub name_there : CanRead xs s.Qhead j
  name_there = let q = g.reads g.can.following g.can.values g.can.reads in let a = apart_at b xs j g.can.following q.0 q.1 in record { within = g.within; following = name_rest b (is_lower_name a.name.own) ++ g.can.following; values = (a.name, a.rest); reads = a.reads }

  abbrev After : Scoped → ℕ → Bool → Type 0
  After d m l = Begun xs (n + 1) from i (λ k. name_rest b l ++ k) (λ k us. act k (record { scopes = d.scopes; own = d.own; rest = name_rest_of b l (front (name_rest b l) k us) }, back (name_rest b l) k us)) m

  -- it was read
  name_passed : (d : Scoped) (m : ℕ) → IsRead xs s.Qhead j d m → After d m (is_lower_name d.own)
  name_passed d m r = let h = g.ahead in let l = r.ahead in record {
    ahead = omega arith;
    within = r.within;
    can = g.can;
    reads = λ k vs e. (let q = g.reads k vs e in let a = apart_at b xs j k q.0 q.1 in let z = r.reads (name_rest b (is_lower_name a.name.own) ++ k) (a.name, a.rest) a.reads in
        subst (λ c. (us : Vals (name_rest b (is_lower_name c.own) ++ k)) × (read (lexemes_from xs m) m false (name_rest b (is_lower_name c.own) ++ k) ≡ Some us) × (act k (record { scopes = c.scopes; own = c.own; rest = name_rest_of b (is_lower_name c.own) (front (name_rest b (is_lower_name c.own)) k us) }, back (name_rest b (is_lower_name c.own)) k us) ≡ vs)) z.0 (a.rest, z.1, ap (act k) a.whole ∙ q.2));
  }

  pub name_lower : (d : Scoped) (m : ℕ) (l : Bool) → is_lower_name d.own ≡ l → IsRead xs s.Qhead j d m → After d m l
  name_lower d m l e r = subst (After d m) e (name_passed d m r)

-- A name before its fields, before its arguments, and alone.
module _ {xs : List Lexeme} {i : ℕ} (d : Scoped) (j : ℕ) (r : IsRead xs s.Qhead i d j) where
  ahead : i + 1 ≤ j
  ahead = r.ahead

  pub prim_dots : CanRead xs s.Prim i → is_name_at xs i ≡ true → (same t.Dot (terminal_at xs j) && is_lower_name d.own) ≡ true → Begun xs 1 (λ k. s.Prim ∷ k) i (λ k. s.Dots ∷ k) (λ k us. (accessed i (apply (at i) (called i d.scopes d.own) none) us.0, us.1)) j
  prim_dots c n e = let q = and_cases (same t.Dot (terminal_at xs j)) (is_lower_name d.own) e in
      let p = expand (name_lower (head_start c n) d j true q.1 r) t.Dot q.0 refl refl in
      sure 1 (unexpand s.Dots (λ k. k) (λ k us. (accessed i (apply (at i) (called i d.scopes d.own) none) us.0, us.1)) j t.Dot q.0 refl refl (omega (arith, ahead)) p) ahead

  pub atom_dots : CanRead xs s.Atom i → is_name_at xs i ≡ true → (same t.Dot (terminal_at xs j) && is_lower_name d.own) ≡ true → Begun xs 1 (λ k. s.Atom ∷ k) i (λ k. s.Dots ∷ k) (λ k us. (accessed i (apply (at i) (called i d.scopes d.own) none) us.0, us.1)) j
  atom_dots c n e = let q = and_cases (same t.Dot (terminal_at xs j)) (is_lower_name d.own) e in again (name_lower (head_atom_start c n) d j true q.1 r) 1 refl (λ k us. refl)

  no_dot : (same t.Dot (terminal_at xs j) && is_lower_name d.own) ≡ false → is_lower_name d.own ≡ true → same t.Dot (terminal_at xs j) ≡ false
  no_dot e l = by_test (same t.Dot (terminal_at xs j)) (ap (λ v. same t.Dot (terminal_at xs j) && v) (sym l) ∙ e)
    where
      by_test : (c : Bool) → (c && true) ≡ false → c ≡ false
      by_test false h = refl
      by_test true h = cc

  pub prim_args : CanRead xs s.Prim i → is_name_at xs i ≡ true → (same t.Dot (terminal_at xs j) && is_lower_name d.own) ≡ false → Begun xs 1 (λ k. s.Prim ∷ k) i (λ k. s.Args ∷ k) (λ k us. (apply (at i) (called i d.scopes d.own) us.0, us.1)) j
  prim_args c n e = by_lower (is_lower_name d.own) refl
    where
      none_at : same t.Dot (terminal_at xs j) ≡ false → find applied_own (terminal_at xs j) ≡ None
      none_at h = ap (λ b. cond b (Some (row s.Applied t.Dot (s.Qlid ∷ s.Dots ∷ []) (λ i w vs. dots_rest (lower_called (i + 1) vs.0 ∷ vs.1.0)))) None) h

      by_lower : (l : Bool) → is_lower_name d.own ≡ l → Begun xs 1 (λ k. s.Prim ∷ k) i (λ k. s.Args ∷ k) (λ k us. (apply (at i) (called i d.scopes d.own) us.0, us.1)) j
      by_lower true l = reread (name_lower (head_start c n) d j true l r) (λ k. s.Args ∷ k) (λ k us. (apply (at i) (called i d.scopes d.own) us.0, us.1))
          (λ k us g. (let p = by_other xs j s.Applied s.Args (λ v. args_rest v) applied_own none k us refl refl refl refl refl refl (none_at (no_dot e l)) g in (p.0, p.1, ap (λ v. (with_rest i (called i d.scopes d.own) v.0, v.1)) p.2)))
      by_lower false l = again (name_lower (head_start c n) d j false l r) 1 refl (λ k us. refl)

  pub atom_alone : CanRead xs s.Atom i → is_name_at xs i ≡ true → (same t.Dot (terminal_at xs j) && is_lower_name d.own) ≡ false → IsReadClosed xs s.Atom i (apply (at i) (called i d.scopes d.own) none) (apply (at i) (called i d.scopes d.own) none) j
  atom_alone c n e = record { first = refl; closed = refl; is = by_lower (is_lower_name d.own) refl }
    where
      by_lower : (l : Bool) → is_lower_name d.own ≡ l → IsRead xs s.Atom i (apply (at i) (called i d.scopes d.own) none) j
      by_lower true l = done (pass (name_lower (head_atom_start c n) d j true l r) refl refl (none_of s.Dots (t.Dot ∷ []) (terminal_at xs j) refl (no_dot e l, tt))) (apply (at i) (called i d.scopes d.own) none) refl (λ k us. refl)
      by_lower false l = done (name_lower (head_atom_start c n) d j false l r) (apply (at i) (called i d.scopes d.own) none) refl (λ k us. refl)

-- Fields were read, and others may follow.
pub record FieldsFrom (xs : List Lexeme) (i : ℕ) (e : SyntaxTree) (j : ℕ) (f : SyntaxTree) (m : ℕ) : Type 0 where
  pub names : List Called
  pub made : accessed i e names ≡ f
  pub is : Begun xs 0 (λ k. s.Dots ∷ k) j (λ k. s.Dots ∷ k) (λ k us. (names ++ us.0, us.1)) m

accessed_more : (i : ℕ) (e : SyntaxTree) (cs : List Called) (c : Called) → accessed i e (cs ++ c ∷ []) ≡ access (at i) (accessed i e cs) c
accessed_more i e [] c = refl
accessed_more i e (d ∷ cs) c = accessed_more i (access (at i) e d) cs c

pub fields_start : {xs : List Lexeme} {i : ℕ} {e : SyntaxTree} {j : ℕ} → CanRead xs s.Dots j → FieldsFrom xs i e j e j
fields_start c = record { names = []; made = refl; is = again (start c) 0 refl (λ k us. refl) }

module _ (xs : List Lexeme) (i : ℕ) (e : SyntaxTree) (j : ℕ) (f : SyntaxTree) (m : ℕ) (g : FieldsFrom xs i e j f m) where
  module _ (l : same t.Dot (terminal_at xs m) ≡ true) where
    field_start : Begun xs 1 (λ k. s.Dots ∷ k) j (λ k. s.Qlid ∷ s.Dots ∷ k) (λ k us. (g.names ++ (lower_called (m + 1) us.0 ∷ us.1.0), us.1.1)) (m + 1)
    field_start = let p = expand g.is t.Dot l refl refl in again p 1 refl (λ k us. refl)

    pub field_there : CanRead xs s.Qlid (m + 1)
    field_there = can_next field_start

    pub dot_within : m < length xs
    dot_within = stands xs m t.Dot (sym (same_true t.Dot (terminal_at xs m) l)) refl

    pub fields_more : (d : Dotted) (p : ℕ) → IsRead xs s.Qlid (m + 1) d p → FieldsFrom xs i e j (access (at i) f (lower_called (m + 1) d)) p
    fields_more d p r = record {
      names = g.names ++ lower_called (m + 1) d ∷ [];
      made = accessed_more i e g.names (lower_called (m + 1) d) ∙ ap (λ v. access (at i) v (lower_called (m + 1) d)) g.made;
      is = again (next field_start r) 0 refl (λ k us. ap (λ v. (v, us.1)) (sym (append_assoc g.names (lower_called (m + 1) d ∷ []) us.0)));
    }

  pub fields_done : same t.Dot (terminal_at xs m) ≡ false → IsReadFields xs i e j f m
  fields_done n = record { names = g.names; made = g.made; is = done (pass g.is refl refl (none_of s.Dots (t.Dot ∷ []) (terminal_at xs m) refl (n, tt))) g.names refl (λ k us. ap (λ v. (v, us)) (append-nil g.names)) }

-- A term with its fields begins where it does, and doesn't end open.
accessed_first : (i : ℕ) (cs : List Called) (e : SyntaxTree) → first_token e ≡ i → first_token (accessed i e cs) ≡ i
accessed_first i [] e h = h
accessed_first i (c ∷ cs) e h = accessed_first i cs (access (at i) e c) refl

accessed_closed : (i : ℕ) (cs : List Called) (e : SyntaxTree) → ends_open e ≡ false → ends_open (accessed i e cs) ≡ false
accessed_closed i [] e h = h
accessed_closed i (c ∷ cs) e h = accessed_closed i cs (access (at i) e c) refl

pub atom_with : {xs : List Lexeme} {i : ℕ} {e : SyntaxTree} {j : ℕ} {f : SyntaxTree} {m : ℕ} → IsReadPlain xs i e j → IsReadFields xs i e j f m → IsReadClosed xs s.Atom i f f m
atom_with {xs} {i} {e} {j} {f} {m} g r = record {
  first = ap first_token (sym r.made) ∙ accessed_first i r.names e g.first;
  closed = ap ends_open (sym r.made) ∙ accessed_closed i r.names e g.closed;
  is = done (next g.is r.is) f refl (λ k us. ap (λ v. (v, us)) r.made);
}

pub prim_with : {xs : List Lexeme} {i : ℕ} {e : SyntaxTree} {j : ℕ} {f : SyntaxTree} {m : ℕ} → first_token e ≡ i → ends_open e ≡ false → Begun xs 1 (λ k. s.Prim ∷ k) i (λ k. s.Dots ∷ k) (λ k us. (accessed i e us.0, us.1)) j → IsReadFields xs i e j f m → IsReadClosed xs s.Prim i f f m
prim_with {xs} {i} {e} {j} {f} {m} h o g r = record {
  first = ap first_token (sym r.made) ∙ accessed_first i r.names e h;
  closed = ap ends_open (sym r.made) ∙ accessed_closed i r.names e o;
  is = done (next g r.is) f refl (λ k us. ap (λ v. (v, us)) r.made);
}
