-- What follows where applications and atoms are read.
use Rattle.parser.proofs.parse_terms.Common.{◌≡◌, ℕ, ◌+◌, ◌<◌, Bool, true, false, ◌&&◌, List, [], ◌∷◌, length, Some, None, refl, sym, ap, ◌∙◌, subst, Terminal, is_operator, Symbol, same, same_true, no_false, Lexeme, at, lower, star, called, op, SyntaxTree, SyntaxTrees, Headed, accessed, with_rest, apply, args_rest, cases, dots_rest, upper_head, headed_tree, literal, truth, falsity, none, more, Closing, Paren, nothing, named_operator, holds, Minus, named_by, operand, own_op, paren, after_minus, Vals, row, prim_rows, atom_rows, opname_row, prefix_row, hparen_own, hminus_own, aparen_own, aminus_own, hop_row, hminus_row, aop_row, aminus_row, rows, find, read, opname_found, reads_aparen, by_first, begins_atom, is_other, row_at, split_due, stands, stands_within, unread, Begun, CanRead, ends_name, is_name, is_name_at, lexemes_from, terminal_at, token_at}
use Rattle.tokens_why.specs.declared.terminal.Terminal.TheVariants as t
use Rattle.grammar.specs.declared.symbols.Symbol.TheVariants as s
use Rattle.grammar.specs.reading.Parts.{lower_called, record_tree}
use Rattle.parser.proofs.parse_terms.Steps.{all_apart, none_by, none_where, reread, start}

rparen_true : (x : Terminal) → same t.RParen x ≡ true → x ≡ t.RParen
rparen_true x h = sym (same_true t.RParen x h)

abbrev name_ends : List Terminal
name_ends = t.RParen ∷ t.Wild ∷ []

abbrev operator_terminals : List Terminal
operator_terminals = t.Equal ∷ t.Minus ∷ t.Operator1 ∷ t.Operator2 ∷ t.Operator3 ∷ t.Operator4 ∷ t.PrefixOperator ∷ []

opend_ends : (xs : List Lexeme) (j : ℕ) (k : List Symbol) (us : Bool × Vals k) → ends_name (terminal_at xs j) ≡ false → read (lexemes_from xs j) j false (s.Opend ∷ k) ≡ Some us → ⊥
opend_ends xs j k us n g = unread xs j s.Opend k us (stands_within xs s.Opend j k us refl g) refl (none_where (rows s.Opend) ends_name name_ends (terminal_at xs j) refl refl n) g

prim_minus_none : (y : Terminal) → ends_name y ≡ false → find hminus_own y ≡ None
prim_minus_none y n = none_where hminus_own ends_name name_ends y refl refl n

-- no operator's name in the parentheses
pub prim_inner : (xs : List Lexeme) (j : ℕ) (k : List Symbol) (us : Paren × Vals k) → same t.RParen (terminal_at xs j) ≡ false → (is_operator (terminal_at xs j) && ends_name (terminal_at xs (j + 1))) ≡ false → read (lexemes_from xs j) j false (s.Hparen ∷ k) ≡ Some us → (v : SyntaxTree × (Closing × Vals k)) × (read (lexemes_from xs j) j false (s.Expr 0 ∷ s.GroupRest ∷ k) ≡ Some v) × ((holds v.0 v.1.0, v.1.1) ≡ us)
prim_inner xs j k us n o g = by_operator (is_operator (terminal_at xs j)) refl
  where
    by_terminal : (x : Terminal) → terminal_at xs j ≡ x → is_operator x ≡ true → (is_operator x && ends_name (terminal_at xs (j + 1))) ≡ false → (v : SyntaxTree × (Closing × Vals k)) × (read (lexemes_from xs j) j false (s.Expr 0 ∷ s.GroupRest ∷ k) ≡ Some v) × ((holds v.0 v.1.0, v.1.1) ≡ us)
    by_terminal t.Equal e n o = let p = row_at xs j s.Hparen (hop_row t.Equal) k us refl (ap (find (rows s.Hparen)) e) g in absurd (opend_ends xs (j + 1) (s.Args ∷ k) p.0 o p.1)
    by_terminal t.Operator1 e n o = let p = row_at xs j s.Hparen (hop_row t.Operator1) k us refl (ap (find (rows s.Hparen)) e) g in absurd (opend_ends xs (j + 1) (s.Args ∷ k) p.0 o p.1)
    by_terminal t.Operator2 e n o = let p = row_at xs j s.Hparen (hop_row t.Operator2) k us refl (ap (find (rows s.Hparen)) e) g in absurd (opend_ends xs (j + 1) (s.Args ∷ k) p.0 o p.1)
    by_terminal t.Operator3 e n o = let p = row_at xs j s.Hparen (hop_row t.Operator3) k us refl (ap (find (rows s.Hparen)) e) g in absurd (opend_ends xs (j + 1) (s.Args ∷ k) p.0 o p.1)
    by_terminal t.Operator4 e n o = let p = row_at xs j s.Hparen (hop_row t.Operator4) k us refl (ap (find (rows s.Hparen)) e) g in absurd (opend_ends xs (j + 1) (s.Args ∷ k) p.0 o p.1)
    by_terminal t.Minus e n o = let p = row_at xs j s.Hparen (hminus_row t.Minus) k us refl (ap (find (rows s.Hparen)) e) g in
        let q = split_due xs (j + 1) s.Hminus (s.Expr 8) (s.Tail 0 8 ∷ s.GroupRest ∷ []) (λ v vs. operand v vs.0 vs.1.0) hminus_own k p.0 refl refl (prim_minus_none (terminal_at xs (j + 1)) o) p.1 in
        ((prefix_row 0 t.Minus).act (s.GroupRest ∷ k) j (token_at xs j).text q.0, by_first xs j (s.Expr 0) (prefix_row 0 t.Minus) (s.GroupRest ∷ k) q.0 (stands xs j t.Minus e refl) (ap (find (rows (s.Expr 0))) e) q.1, ap (λ m. (after_minus (op j t.Minus (token_at xs j).text) m.0, m.1)) q.2 ∙ p.2)
    by_terminal t.PrefixOperator e n o = let p = row_at xs j s.Hparen (hminus_row t.PrefixOperator) k us refl (ap (find (rows s.Hparen)) e) g in
        let q = split_due xs (j + 1) s.Hminus (s.Expr 8) (s.Tail 0 8 ∷ s.GroupRest ∷ []) (λ v vs. operand v vs.0 vs.1.0) hminus_own k p.0 refl refl (prim_minus_none (terminal_at xs (j + 1)) o) p.1 in
        ((prefix_row 0 t.PrefixOperator).act (s.GroupRest ∷ k) j (token_at xs j).text q.0, by_first xs j (s.Expr 0) (prefix_row 0 t.PrefixOperator) (s.GroupRest ∷ k) q.0 (stands xs j t.PrefixOperator e refl) (ap (find (rows (s.Expr 0))) e) q.1, ap (λ m. (after_minus (op j t.PrefixOperator (token_at xs j).text) m.0, m.1)) q.2 ∙ p.2)
    by_terminal _ e n o = absurd (no_false n)

    by_operator : (b : Bool) → is_operator (terminal_at xs j) ≡ b → (v : SyntaxTree × (Closing × Vals k)) × (read (lexemes_from xs j) j false (s.Expr 0 ∷ s.GroupRest ∷ k) ≡ Some v) × ((holds v.0 v.1.0, v.1.1) ≡ us)
    by_operator true w = by_terminal (terminal_at xs j) refl w o
    by_operator false w = split_due xs j s.Hparen (s.Expr 0) (s.GroupRest ∷ []) (λ v vs. holds v vs.0) hparen_own k us refl refl (none_by hparen_own (t.RParen ∷ operator_terminals) (terminal_at xs j) refl (n, all_apart is_operator operator_terminals (terminal_at xs j) refl w)) g

-- an operator's name in the parentheses
prim_name : (xs : List Lexeme) (j : ℕ) (k : List Symbol) (us : Paren × Vals k) → (is_operator (terminal_at xs j) && ends_name (terminal_at xs (j + 1))) ≡ true → read (lexemes_from xs j) j false (s.Hparen ∷ k) ≡ Some us → (b : Bool × (SyntaxTrees × Vals k)) × (read (lexemes_from xs (j + 1)) (j + 1) false (s.Opend ∷ s.Args ∷ k) ≡ Some b) × ((named_operator (op j (terminal_at xs j) (token_at xs j).text) b.0 b.1.0, b.1.1) ≡ us)
prim_name xs j k us o g = by_terminal (terminal_at xs j) refl o
  where
    of_minus : (x : Terminal) (m : Minus × Vals k) → read (lexemes_from xs (j + 1)) (j + 1) false (s.Hminus ∷ k) ≡ Some m → ends_name (terminal_at xs (j + 1)) ≡ true → (b : Bool × (SyntaxTrees × Vals k)) × (read (lexemes_from xs (j + 1)) (j + 1) false (s.Opend ∷ s.Args ∷ k) ≡ Some b) × ((named_by b.0 b.1.0, b.1.1) ≡ m)
    of_minus x m g n = by_end (terminal_at xs (j + 1)) refl n
      where
        by_end : (y : Terminal) → terminal_at xs (j + 1) ≡ y → ends_name y ≡ true → (b : Bool × (SyntaxTrees × Vals k)) × (read (lexemes_from xs (j + 1)) (j + 1) false (s.Opend ∷ s.Args ∷ k) ≡ Some b) × ((named_by b.0 b.1.0, b.1.1) ≡ m)
        by_end t.RParen e n = let p = row_at xs (j + 1) s.Hminus (row s.Hminus t.RParen (s.Args ∷ []) (λ i w vs. named_by false vs.0)) k m refl (ap (find (rows s.Hminus)) e) g in
            ((false, p.0), by_first xs (j + 1) s.Opend (row s.Opend t.RParen [] (λ i w vs. false)) (s.Args ∷ k) p.0 (stands xs (j + 1) t.RParen e refl) (ap (find (rows s.Opend)) e) p.1, p.2)
        by_end t.Wild e n = let p = row_at xs (j + 1) s.Hminus (row s.Hminus t.Wild (s.Take t.RParen ∷ s.Args ∷ []) (λ i w vs. named_by true vs.1.0)) k m refl (ap (find (rows s.Hminus)) e) g in
            ((true, p.0.1), by_first xs (j + 1) s.Opend (row s.Opend t.Wild (s.Take t.RParen ∷ []) (λ i w vs. true)) (s.Args ∷ k) p.0 (stands xs (j + 1) t.Wild e refl) (ap (find (rows s.Opend)) e) p.1, p.2)
        by_end _ e n = absurd (no_false n)

    by_terminal : (x : Terminal) → terminal_at xs j ≡ x → (is_operator x && ends_name (terminal_at xs (j + 1))) ≡ true → (b : Bool × (SyntaxTrees × Vals k)) × (read (lexemes_from xs (j + 1)) (j + 1) false (s.Opend ∷ s.Args ∷ k) ≡ Some b) × ((named_operator (op j x (token_at xs j).text) b.0 b.1.0, b.1.1) ≡ us)
    by_terminal t.Equal e o = row_at xs j s.Hparen (hop_row t.Equal) k us refl (ap (find (rows s.Hparen)) e) g
    by_terminal t.Operator1 e o = row_at xs j s.Hparen (hop_row t.Operator1) k us refl (ap (find (rows s.Hparen)) e) g
    by_terminal t.Operator2 e o = row_at xs j s.Hparen (hop_row t.Operator2) k us refl (ap (find (rows s.Hparen)) e) g
    by_terminal t.Operator3 e o = row_at xs j s.Hparen (hop_row t.Operator3) k us refl (ap (find (rows s.Hparen)) e) g
    by_terminal t.Operator4 e o = row_at xs j s.Hparen (hop_row t.Operator4) k us refl (ap (find (rows s.Hparen)) e) g
    by_terminal t.Minus e o = let p = row_at xs j s.Hparen (hminus_row t.Minus) k us refl (ap (find (rows s.Hparen)) e) g in let q = of_minus t.Minus p.0 p.1 o in
        (q.0, q.1, ap (λ m. (after_minus (op j t.Minus (token_at xs j).text) m.0, m.1)) q.2 ∙ p.2)
    by_terminal t.PrefixOperator e o = let p = row_at xs j s.Hparen (hminus_row t.PrefixOperator) k us refl (ap (find (rows s.Hparen)) e) g in let q = of_minus t.PrefixOperator p.0 p.1 o in
        (q.0, q.1, ap (λ m. (after_minus (op j t.PrefixOperator (token_at xs j).text) m.0, m.1)) q.2 ∙ p.2)
    by_terminal _ e o = absurd (no_false o)

-- the operator that is named after a parenthesis
opname_paren : (xs : List Lexeme) (j : ℕ) (k : List Symbol) (b : Bool × Vals k) → (is_operator (terminal_at xs j) && ends_name (terminal_at xs (j + 1))) ≡ true → read (lexemes_from xs (j + 1)) (j + 1) false (s.Opend ∷ k) ≡ Some b → read (lexemes_from xs j) j false (s.Opname ∷ k) ≡ Some (record { op = op j (terminal_at xs j) (token_at xs j).text; prefix = b.0 }, b.1)
opname_paren xs j k b o g = let y = by_and (is_operator (terminal_at xs j)) o in by_first xs j s.Opname (opname_row (terminal_at xs j)) k b (within (terminal_at xs j) refl y) (opname_found (terminal_at xs j) y) g
  where
    by_and : (a : Bool) → (a && ends_name (terminal_at xs (j + 1))) ≡ true → a ≡ true
    by_and true h = refl
    by_and false h = cc

    within : (x : Terminal) → terminal_at xs j ≡ x → is_operator x ≡ true → j < length xs
    within x e h = stands xs j x e (other x h)
      where
        other : (x : Terminal) → is_operator x ≡ true → is_other x ≡ false
        other t.OtherWord h = cc
        other _ h = refl

-- a name and what comes after it
pub prim_headed : (xs : List Lexeme) (i : ℕ) (k : List Symbol) (vs : SyntaxTree × Vals k) → is_name_at xs i ≡ true → read (lexemes_from xs i) i false (s.Prim ∷ k) ≡ Some vs → (b : Headed × Vals k) × (read (lexemes_from xs i) i false (s.Head true ∷ k) ≡ Some b) × ((headed_tree i b.0, b.1) ≡ vs)
prim_headed xs i k vs n g = by_terminal (terminal_at xs i) refl n
  where
    by_terminal : (x : Terminal) → terminal_at xs i ≡ x → is_name x (terminal_at xs (i + 1)) (terminal_at xs (i + 1 + 1)) ≡ true → (b : Headed × Vals k) × (read (lexemes_from xs i) i false (s.Head true ∷ k) ≡ Some b) × ((headed_tree i b.0, b.1) ≡ vs)
    by_terminal t.Lident e n = let p = row_at xs i s.Prim (row s.Prim t.Lident (s.Applied ∷ []) (λ i w vs. with_rest i (called i [] (lower w)) vs.0)) k vs refl (ap (find prim_rows) e) g in
        ((record { scopes = []; own = lower (token_at xs i).text; rest = p.0.0 }, p.0.1), by_first xs i (s.Head true) (row (s.Head true) t.Lident (s.Applied ∷ []) (λ i w vs. record { scopes = []; own = lower w; rest = vs.0 })) k p.0 (stands xs i t.Lident e refl) (ap (find (rows (s.Head true))) e) p.1, p.2)
    by_terminal t.Uident e n = let p = row_at xs i s.Prim (row s.Prim t.Uident (s.HeadRest true ∷ []) (λ i w vs. headed_tree i (upper_head w vs.0))) k vs refl (ap (find prim_rows) e) g in
        ((upper_head (token_at xs i).text p.0.0, p.0.1), by_first xs i (s.Head true) (row (s.Head true) t.Uident (s.HeadRest true ∷ []) (λ i w vs. upper_head w vs.0)) k p.0 (stands xs i t.Uident e refl) (ap (find (rows (s.Head true))) e) p.1, p.2)
    by_terminal t.StarName e n = let p = row_at xs i s.Prim (row s.Prim t.StarName (s.Args ∷ []) (λ i w vs. apply (at i) (called i [] star) vs.0)) k vs refl (ap (find prim_rows) e) g in
        ((record { scopes = []; own = star; rest = args_rest p.0.0 }, p.0.1), by_first xs i (s.Head true) (row (s.Head true) t.StarName (s.Args ∷ []) (λ i w vs. record { scopes = []; own = star; rest = args_rest vs.0 })) k p.0 (stands xs i t.StarName e refl) (ap (find (rows (s.Head true))) e) p.1, p.2)
    by_terminal t.LParen e n = let p = row_at xs i s.Prim (row s.Prim t.LParen (s.Hparen ∷ []) (λ i w vs. paren i vs.0)) k vs refl (ap (find prim_rows) e) g in let q = prim_name xs (i + 1) k p.0 n p.1 in
        ((record { scopes = []; own = own_op q.0.0 (op (i + 1) (terminal_at xs (i + 1)) (token_at xs (i + 1)).text); rest = args_rest q.0.1.0 }, q.0.1.1), by_first xs i (s.Head true) (row (s.Head true) t.LParen (s.Opname ∷ s.Args ∷ []) (λ i w vs. record { scopes = []; own = own_op vs.0.prefix vs.0.op; rest = args_rest vs.1.0 })) k (record { op = op (i + 1) (terminal_at xs (i + 1)) (token_at xs (i + 1)).text; prefix = q.0.0 }, q.0.1) (stands xs i t.LParen e refl) (ap (find (rows (s.Head true))) e) (opname_paren xs (i + 1) (s.Args ∷ k) q.0 n q.1), ap (λ m. (paren i m.0, m.1)) q.2 ∙ p.2)
    by_terminal _ e n = absurd (no_false n)

atom_minus_none : (y : Terminal) → ends_name y ≡ false → find aminus_own y ≡ None
atom_minus_none y n = none_where aminus_own ends_name name_ends y refl refl n

-- no operator's name in the parentheses
pub atom_inner : (xs : List Lexeme) (j : ℕ) (k : List Symbol) (us : Paren × Vals k) → same t.RParen (terminal_at xs j) ≡ false → (is_operator (terminal_at xs j) && ends_name (terminal_at xs (j + 1))) ≡ false → read (lexemes_from xs j) j false (s.Aparen ∷ k) ≡ Some us → (v : SyntaxTree × (Closing × Vals k)) × (read (lexemes_from xs j) j false (s.Expr 0 ∷ s.GroupRest ∷ k) ≡ Some v) × ((holds v.0 v.1.0, v.1.1) ≡ us)
atom_inner xs j k us n o g = by_operator (is_operator (terminal_at xs j)) refl
  where
    by_terminal : (x : Terminal) → terminal_at xs j ≡ x → is_operator x ≡ true → (is_operator x && ends_name (terminal_at xs (j + 1))) ≡ false → (v : SyntaxTree × (Closing × Vals k)) × (read (lexemes_from xs j) j false (s.Expr 0 ∷ s.GroupRest ∷ k) ≡ Some v) × ((holds v.0 v.1.0, v.1.1) ≡ us)
    by_terminal t.Equal e n o = let p = row_at xs j s.Aparen (aop_row t.Equal) k us refl (ap (find (rows s.Aparen)) e) g in absurd (opend_ends xs (j + 1) (k) p.0 o p.1)
    by_terminal t.Operator1 e n o = let p = row_at xs j s.Aparen (aop_row t.Operator1) k us refl (ap (find (rows s.Aparen)) e) g in absurd (opend_ends xs (j + 1) (k) p.0 o p.1)
    by_terminal t.Operator2 e n o = let p = row_at xs j s.Aparen (aop_row t.Operator2) k us refl (ap (find (rows s.Aparen)) e) g in absurd (opend_ends xs (j + 1) (k) p.0 o p.1)
    by_terminal t.Operator3 e n o = let p = row_at xs j s.Aparen (aop_row t.Operator3) k us refl (ap (find (rows s.Aparen)) e) g in absurd (opend_ends xs (j + 1) (k) p.0 o p.1)
    by_terminal t.Operator4 e n o = let p = row_at xs j s.Aparen (aop_row t.Operator4) k us refl (ap (find (rows s.Aparen)) e) g in absurd (opend_ends xs (j + 1) (k) p.0 o p.1)
    by_terminal t.Minus e n o = let p = row_at xs j s.Aparen (aminus_row t.Minus) k us refl (ap (find (rows s.Aparen)) e) g in
        let q = split_due xs (j + 1) s.Aminus (s.Expr 8) (s.Tail 0 8 ∷ s.GroupRest ∷ []) (λ v vs. operand v vs.0 vs.1.0) aminus_own k p.0 refl refl (atom_minus_none (terminal_at xs (j + 1)) o) p.1 in
        ((prefix_row 0 t.Minus).act (s.GroupRest ∷ k) j (token_at xs j).text q.0, by_first xs j (s.Expr 0) (prefix_row 0 t.Minus) (s.GroupRest ∷ k) q.0 (stands xs j t.Minus e refl) (ap (find (rows (s.Expr 0))) e) q.1, ap (λ m. (after_minus (op j t.Minus (token_at xs j).text) m.0, m.1)) q.2 ∙ p.2)
    by_terminal t.PrefixOperator e n o = let p = row_at xs j s.Aparen (aminus_row t.PrefixOperator) k us refl (ap (find (rows s.Aparen)) e) g in
        let q = split_due xs (j + 1) s.Aminus (s.Expr 8) (s.Tail 0 8 ∷ s.GroupRest ∷ []) (λ v vs. operand v vs.0 vs.1.0) aminus_own k p.0 refl refl (atom_minus_none (terminal_at xs (j + 1)) o) p.1 in
        ((prefix_row 0 t.PrefixOperator).act (s.GroupRest ∷ k) j (token_at xs j).text q.0, by_first xs j (s.Expr 0) (prefix_row 0 t.PrefixOperator) (s.GroupRest ∷ k) q.0 (stands xs j t.PrefixOperator e refl) (ap (find (rows (s.Expr 0))) e) q.1, ap (λ m. (after_minus (op j t.PrefixOperator (token_at xs j).text) m.0, m.1)) q.2 ∙ p.2)
    by_terminal _ e n o = absurd (no_false n)

    by_operator : (b : Bool) → is_operator (terminal_at xs j) ≡ b → (v : SyntaxTree × (Closing × Vals k)) × (read (lexemes_from xs j) j false (s.Expr 0 ∷ s.GroupRest ∷ k) ≡ Some v) × ((holds v.0 v.1.0, v.1.1) ≡ us)
    by_operator true w = by_terminal (terminal_at xs j) refl w o
    by_operator false w = split_due xs j s.Aparen (s.Expr 0) (s.GroupRest ∷ []) (λ v vs. holds v vs.0) aparen_own k us refl refl (none_by aparen_own (t.RParen ∷ operator_terminals) (terminal_at xs j) refl (n, all_apart is_operator operator_terminals (terminal_at xs j) refl w)) g

-- an operator's name in the parentheses
atom_name : (xs : List Lexeme) (j : ℕ) (k : List Symbol) (us : Paren × Vals k) → (is_operator (terminal_at xs j) && ends_name (terminal_at xs (j + 1))) ≡ true → read (lexemes_from xs j) j false (s.Aparen ∷ k) ≡ Some us → (b : Bool × (Vals k)) × (read (lexemes_from xs (j + 1)) (j + 1) false (s.Opend ∷ k) ≡ Some b) × ((named_operator (op j (terminal_at xs j) (token_at xs j).text) b.0 none, b.1) ≡ us)
atom_name xs j k us o g = by_terminal (terminal_at xs j) refl o
  where
    of_minus : (x : Terminal) (m : Minus × Vals k) → read (lexemes_from xs (j + 1)) (j + 1) false (s.Aminus ∷ k) ≡ Some m → ends_name (terminal_at xs (j + 1)) ≡ true → (b : Bool × (Vals k)) × (read (lexemes_from xs (j + 1)) (j + 1) false (s.Opend ∷ k) ≡ Some b) × ((named_by b.0 none, b.1) ≡ m)
    of_minus x m g n = by_end (terminal_at xs (j + 1)) refl n
      where
        by_end : (y : Terminal) → terminal_at xs (j + 1) ≡ y → ends_name y ≡ true → (b : Bool × (Vals k)) × (read (lexemes_from xs (j + 1)) (j + 1) false (s.Opend ∷ k) ≡ Some b) × ((named_by b.0 none, b.1) ≡ m)
        by_end t.RParen e n = let p = row_at xs (j + 1) s.Aminus (row s.Aminus t.RParen [] (λ i w vs. named_by false none)) k m refl (ap (find (rows s.Aminus)) e) g in
            ((false, p.0), by_first xs (j + 1) s.Opend (row s.Opend t.RParen [] (λ i w vs. false)) k p.0 (stands xs (j + 1) t.RParen e refl) (ap (find (rows s.Opend)) e) p.1, p.2)
        by_end t.Wild e n = let p = row_at xs (j + 1) s.Aminus (row s.Aminus t.Wild (s.Take t.RParen ∷ []) (λ i w vs. named_by true none)) k m refl (ap (find (rows s.Aminus)) e) g in
            ((true, p.0.1), by_first xs (j + 1) s.Opend (row s.Opend t.Wild (s.Take t.RParen ∷ []) (λ i w vs. true)) k p.0 (stands xs (j + 1) t.Wild e refl) (ap (find (rows s.Opend)) e) p.1, p.2)
        by_end _ e n = absurd (no_false n)

    by_terminal : (x : Terminal) → terminal_at xs j ≡ x → (is_operator x && ends_name (terminal_at xs (j + 1))) ≡ true → (b : Bool × (Vals k)) × (read (lexemes_from xs (j + 1)) (j + 1) false (s.Opend ∷ k) ≡ Some b) × ((named_operator (op j x (token_at xs j).text) b.0 none, b.1) ≡ us)
    by_terminal t.Equal e o = row_at xs j s.Aparen (aop_row t.Equal) k us refl (ap (find (rows s.Aparen)) e) g
    by_terminal t.Operator1 e o = row_at xs j s.Aparen (aop_row t.Operator1) k us refl (ap (find (rows s.Aparen)) e) g
    by_terminal t.Operator2 e o = row_at xs j s.Aparen (aop_row t.Operator2) k us refl (ap (find (rows s.Aparen)) e) g
    by_terminal t.Operator3 e o = row_at xs j s.Aparen (aop_row t.Operator3) k us refl (ap (find (rows s.Aparen)) e) g
    by_terminal t.Operator4 e o = row_at xs j s.Aparen (aop_row t.Operator4) k us refl (ap (find (rows s.Aparen)) e) g
    by_terminal t.Minus e o = let p = row_at xs j s.Aparen (aminus_row t.Minus) k us refl (ap (find (rows s.Aparen)) e) g in let q = of_minus t.Minus p.0 p.1 o in
        (q.0, q.1, ap (λ m. (after_minus (op j t.Minus (token_at xs j).text) m.0, m.1)) q.2 ∙ p.2)
    by_terminal t.PrefixOperator e o = let p = row_at xs j s.Aparen (aminus_row t.PrefixOperator) k us refl (ap (find (rows s.Aparen)) e) g in let q = of_minus t.PrefixOperator p.0 p.1 o in
        (q.0, q.1, ap (λ m. (after_minus (op j t.PrefixOperator (token_at xs j).text) m.0, m.1)) q.2 ∙ p.2)
    by_terminal _ e o = absurd (no_false o)

-- a name and what comes after it
pub atom_headed : (xs : List Lexeme) (i : ℕ) (k : List Symbol) (vs : SyntaxTree × Vals k) → is_name_at xs i ≡ true → read (lexemes_from xs i) i false (s.Atom ∷ k) ≡ Some vs → (b : Headed × Vals k) × (read (lexemes_from xs i) i false (s.Head false ∷ k) ≡ Some b) × ((headed_tree i b.0, b.1) ≡ vs)
atom_headed xs i k vs n g = by_terminal (terminal_at xs i) refl n
  where
    by_terminal : (x : Terminal) → terminal_at xs i ≡ x → is_name x (terminal_at xs (i + 1)) (terminal_at xs (i + 1 + 1)) ≡ true → (b : Headed × Vals k) × (read (lexemes_from xs i) i false (s.Head false ∷ k) ≡ Some b) × ((headed_tree i b.0, b.1) ≡ vs)
    by_terminal t.Lident e n = let p = row_at xs i s.Atom (row s.Atom t.Lident (s.Dots ∷ []) (λ i w vs. accessed i (apply (at i) (called i [] (lower w)) none) vs.0)) k vs refl (ap (find atom_rows) e) g in
        ((record { scopes = []; own = lower (token_at xs i).text; rest = dots_rest p.0.0 }, p.0.1), by_first xs i (s.Head false) (row (s.Head false) t.Lident (s.Dots ∷ []) (λ i w vs. record { scopes = []; own = lower w; rest = dots_rest vs.0 })) k p.0 (stands xs i t.Lident e refl) (ap (find (rows (s.Head false))) e) p.1, p.2)
    by_terminal t.Uident e n = let p = row_at xs i s.Atom (row s.Atom t.Uident (s.HeadRest false ∷ []) (λ i w vs. headed_tree i (upper_head w vs.0))) k vs refl (ap (find atom_rows) e) g in
        ((upper_head (token_at xs i).text p.0.0, p.0.1), by_first xs i (s.Head false) (row (s.Head false) t.Uident (s.HeadRest false ∷ []) (λ i w vs. upper_head w vs.0)) k p.0 (stands xs i t.Uident e refl) (ap (find (rows (s.Head false))) e) p.1, p.2)
    by_terminal t.StarName e n = let p = row_at xs i s.Atom (row s.Atom t.StarName [] (λ i w vs. apply (at i) (called i [] star) none)) k vs refl (ap (find atom_rows) e) g in
        ((record { scopes = []; own = star; rest = args_rest none }, p.0), by_first xs i (s.Head false) (row (s.Head false) t.StarName [] (λ i w vs. record { scopes = []; own = star; rest = args_rest none })) k p.0 (stands xs i t.StarName e refl) (ap (find (rows (s.Head false))) e) p.1, p.2)
    by_terminal t.LParen e n = let p = row_at xs i s.Atom (row s.Atom t.LParen (s.Aparen ∷ []) (λ i w vs. paren i vs.0)) k vs refl (ap (find atom_rows) e) g in let q = atom_name xs (i + 1) k p.0 n p.1 in
        ((record { scopes = []; own = own_op q.0.0 (op (i + 1) (terminal_at xs (i + 1)) (token_at xs (i + 1)).text); rest = args_rest none }, q.0.1), by_first xs i (s.Head false) (row (s.Head false) t.LParen (s.Opname ∷ []) (λ i w vs. record { scopes = []; own = own_op vs.0.prefix vs.0.op; rest = args_rest none })) k (record { op = op (i + 1) (terminal_at xs (i + 1)) (token_at xs (i + 1)).text; prefix = q.0.0 }, q.0.1) (stands xs i t.LParen e refl) (ap (find (rows (s.Head false))) e) (opname_paren xs (i + 1) k q.0 n q.1), ap (λ m. (paren i m.0, m.1)) q.2 ∙ p.2)
    by_terminal _ e n = absurd (no_false n)

pub no_name : (x o c : Terminal) → x ≡ t.LParen → is_name x o c ≡ false → (is_operator o && ends_name c) ≡ false
no_name x o c e n = subst (λ y. is_name y o c ≡ false) e n

-- Where no operator's name stands an application's reading is an atom's.
pub prim_atom : (xs : List Lexeme) (i : ℕ) (k : List Symbol) (vs : SyntaxTree × Vals k) → is_name_at xs i ≡ false → read (lexemes_from xs i) i false (s.Prim ∷ k) ≡ Some vs → read (lexemes_from xs i) i false (s.Atom ∷ k) ≡ Some vs
prim_atom xs i k vs n g = by_start (begins_atom (terminal_at xs i)) refl
  where
    by_paren : (b : Bool) → same t.RParen (terminal_at xs (i + 1)) ≡ b → (e : terminal_at xs i ≡ t.LParen) → (is_operator (terminal_at xs (i + 1)) && ends_name (terminal_at xs (i + 1 + 1))) ≡ false → read (lexemes_from xs i) i false (s.Atom ∷ k) ≡ Some vs
    by_paren true c e n = let p = row_at xs i s.Prim (row s.Prim t.LParen (s.Hparen ∷ []) (λ i w vs. paren i vs.0)) k vs refl (ap (find prim_rows) e) g in
        let q = row_at xs (i + 1) s.Hparen (row s.Hparen t.RParen (s.Dots ∷ []) (λ i w vs. nothing vs.0)) k p.0 refl (ap (find (rows s.Hparen)) (rparen_true (terminal_at xs (i + 1)) c)) p.1 in
        by_first xs i s.Atom (row s.Atom t.LParen (s.Aparen ∷ []) (λ i w vs. paren i vs.0)) k (nothing q.0.0, q.0.1) (stands xs i t.LParen e refl) (ap (find atom_rows) e)
        (by_first xs (i + 1) s.Aparen (row s.Aparen t.RParen (s.Dots ∷ []) (λ i w vs. nothing vs.0)) k q.0 (stands xs (i + 1) t.RParen (rparen_true (terminal_at xs (i + 1)) c) refl) (ap (find (rows s.Aparen)) (rparen_true (terminal_at xs (i + 1)) c)) q.1)
        ∙ ap (λ m. Some (paren i m.0, m.1)) q.2 ∙ ap (λ m. Some m) p.2
    by_paren false c e n = let p = row_at xs i s.Prim (row s.Prim t.LParen (s.Hparen ∷ []) (λ i w vs. paren i vs.0)) k vs refl (ap (find prim_rows) e) g in
        let q = prim_inner xs (i + 1) k p.0 c n p.1 in
        by_first xs i s.Atom (row s.Atom t.LParen (s.Aparen ∷ []) (λ i w vs. paren i vs.0)) k (holds q.0.0 q.0.1.0, q.0.1.1) (stands xs i t.LParen e refl) (ap (find atom_rows) e) (reads_aparen (lexemes_from xs (i + 1)) (i + 1) k q.0.0 q.0.1.0 q.0.1.1 q.1)
        ∙ ap (λ m. Some (paren i m.0, m.1)) q.2 ∙ ap (λ m. Some m) p.2

    by_terminal : (x : Terminal) → terminal_at xs i ≡ x → begins_atom x ≡ true → is_name x (terminal_at xs (i + 1)) (terminal_at xs (i + 1 + 1)) ≡ false → read (lexemes_from xs i) i false (s.Atom ∷ k) ≡ Some vs
    by_terminal t.Lident e b n = cc
    by_terminal t.Uident e b n = cc
    by_terminal t.StarName e b n = cc
    by_terminal t.Int e b n = let p = row_at xs i s.Prim (row s.Prim t.Int [] (λ i w vs. literal (at i) w)) k vs refl (ap (find prim_rows) e) g in by_first xs i s.Atom (row s.Atom t.Int [] (λ i w vs. literal (at i) w)) k p.0 (stands xs i t.Int e refl) (ap (find atom_rows) e) p.1 ∙ ap (λ m. Some m) p.2
    by_terminal t.TrueWord e b n = let p = row_at xs i s.Prim (row s.Prim t.TrueWord [] (λ i w vs. truth (at i))) k vs refl (ap (find prim_rows) e) g in by_first xs i s.Atom (row s.Atom t.TrueWord [] (λ i w vs. truth (at i))) k p.0 (stands xs i t.TrueWord e refl) (ap (find atom_rows) e) p.1 ∙ ap (λ m. Some m) p.2
    by_terminal t.FalseWord e b n = let p = row_at xs i s.Prim (row s.Prim t.FalseWord [] (λ i w vs. falsity (at i))) k vs refl (ap (find prim_rows) e) g in by_first xs i s.Atom (row s.Atom t.FalseWord [] (λ i w vs. falsity (at i))) k p.0 (stands xs i t.FalseWord e refl) (ap (find atom_rows) e) p.1 ∙ ap (λ m. Some m) p.2
    by_terminal t.MatchWord e b n = let p = row_at xs i s.Prim (row s.Prim t.MatchWord (s.Expr 0 ∷ s.Scrutinees ∷ s.Dots ∷ []) (λ i w vs. accessed i (cases (at i) (more vs.0 vs.1.0.others) vs.1.0.bar vs.1.0.branches) vs.1.1.0)) k vs refl (ap (find prim_rows) e) g in by_first xs i s.Atom (row s.Atom t.MatchWord (s.Expr 0 ∷ s.Scrutinees ∷ s.Dots ∷ []) (λ i w vs. accessed i (cases (at i) (more vs.0 vs.1.0.others) vs.1.0.bar vs.1.0.branches) vs.1.1.0)) k p.0 (stands xs i t.MatchWord e refl) (ap (find atom_rows) e) p.1 ∙ ap (λ m. Some m) p.2
    by_terminal t.LBrace e b n = let p = row_at xs i s.Prim (row s.Prim t.LBrace (s.Qlid ∷ s.Take t.Equal ∷ s.Expr 0 ∷ s.ExprFields ∷ s.Dots ∷ []) (λ i w vs. accessed i (record_tree i (lower_called (i + 1) vs.0) vs.1.1.0 vs.1.1.1.0) vs.1.1.1.1.0)) k vs refl (ap (find prim_rows) e) g in by_first xs i s.Atom (row s.Atom t.LBrace (s.Qlid ∷ s.Take t.Equal ∷ s.Expr 0 ∷ s.ExprFields ∷ s.Dots ∷ []) (λ i w vs. accessed i (record_tree i (lower_called (i + 1) vs.0) vs.1.1.0 vs.1.1.1.0) vs.1.1.1.1.0)) k p.0 (stands xs i t.LBrace e refl) (ap (find atom_rows) e) p.1 ∙ ap (λ m. Some m) p.2
    by_terminal t.LParen e b n = by_paren (same t.RParen (terminal_at xs (i + 1))) refl e n
    by_terminal _ e b n = absurd (no_false b)

    by_start : (b : Bool) → begins_atom (terminal_at xs i) ≡ b → read (lexemes_from xs i) i false (s.Atom ∷ k) ≡ Some vs
    by_start true h = by_terminal (terminal_at xs i) refl h n
    by_start false h = absurd (unread xs i s.Prim k vs (stands_within xs s.Prim i k vs refl g) refl (none_where prim_rows begins_atom (t.Lident ∷ t.Uident ∷ t.StarName ∷ t.LParen ∷ t.Int ∷ t.TrueWord ∷ t.FalseWord ∷ t.MatchWord ∷ t.LBrace ∷ []) (terminal_at xs i) refl refl h) g)

-- A term where a name stands is the name with what comes after it.
pub head_start : {xs : List Lexeme} {i : ℕ} → CanRead xs s.Prim i → is_name_at xs i ≡ true → Begun xs 0 (λ k. s.Prim ∷ k) i (λ k. s.Head true ∷ k) (λ k us. (headed_tree i us.0, us.1)) i
head_start {xs} {i} c n = reread (start c) (λ k. s.Head true ∷ k) (λ k us. (headed_tree i us.0, us.1)) (λ k vs e. prim_headed xs i k vs n e)

pub head_atom_start : {xs : List Lexeme} {i : ℕ} → CanRead xs s.Atom i → is_name_at xs i ≡ true → Begun xs 0 (λ k. s.Atom ∷ k) i (λ k. s.Head false ∷ k) (λ k us. (headed_tree i us.0, us.1)) i
head_atom_start {xs} {i} c n = reread (start c) (λ k. s.Head false ∷ k) (λ k us. (headed_tree i us.0, us.1)) (λ k vs e. atom_headed xs i k vs n e)

-- Where none does it is an atom.
pub plain_start : {xs : List Lexeme} {i : ℕ} → CanRead xs s.Prim i → is_name_at xs i ≡ false → Begun xs 0 (λ k. s.Prim ∷ k) i (λ k. s.Atom ∷ k) (λ k us. us) i
plain_start {xs} {i} c n = reread (start c) (λ k. s.Atom ∷ k) (λ k us. us) (λ k vs e. (vs, prim_atom xs i k vs n e, refl))
