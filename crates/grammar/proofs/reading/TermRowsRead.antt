-- Rows of terms: names, what is in parentheses, and prefix operators.
use Rattle.grammar.proofs.reading.Common.{◌≡◌, ℕ, ◌+◌, ◌∙◌, Bool, true, false, nat_le, cond, option_map, append_assoc, sym, subst, ⊤, List, [], ◌∷◌, ◌++◌, Some, None, refl, ap, Terminal, Symbol, Name, Dotted, TreeFields, next_field_tree, record_tree, no_false, Lexeme, Word, at, lx, mark, Own, called, infix_op, lower, more_forms, past, prefix_op, scoped, star, upper, write_own, is_operator, is_prefix, IsOwn, Called, write_called, IsLowerName, SyntaxTree, SyntaxTrees, apply, binding, cases, choice, group, more, negation, none, op, quantified, quantifier, CasesPart, NameRest, accessed, with_rest, args_rest, closed_group, dots_rest, scopes_name, lower_called, unscoped, Closing, attach, binder_with, holds, named_operator, operand, ReadingRow, Vals, applied_own, head_rest_own, extend, row, aminus_own, aop_row, aparen_own, expr_own, expr_rows, hminus_own, hop_row, hparen_own, opname_row, opname_rows, prefix_row, prim_rows, rows, find, read}
use Rattle.tokens_why.specs.declared.terminal.Terminal.TheVariants as t
use Rattle.grammar.specs.declared.symbols.Symbol.TheVariants as s
use Rattle.grammar.proofs.reading.Reading.{Extends, NoneAt, Reads, Stops, extended, extended_at, extended_over, fused, passed, past-append, unmapped}
use Rattle.grammar.proofs.reading.FormsRead.{lower_is, lower_tokens, reads_qlid}
use Rattle.grammar.proofs.reading.TermsRight.{AreDots, write_dots}
use Rattle.grammar.proofs.reading.Operators.{NoDot, reads_by}

-- rows of an expression
pub expr_not : (m : ℕ) (b : Bool) → b ≡ true → find (expr_own m b ++ extend (s.Expr m) s.Prim (s.Tail m 9 ∷ []) (λ v vs. attach v vs.0) prim_rows) t.NotWord ≡ Some (row (s.Expr m) t.NotWord (s.Expr 3 ∷ s.Tail m 3 ∷ []) (λ i w vs. attach (negation (at i) vs.0) vs.1.0))
expr_not m true h = refl
expr_not m false h = absurd (no_false h)

pub expr_prefix : (m : ℕ) (b : Bool) (o : Terminal) → is_prefix o ≡ true → find (expr_own m b ++ extend (s.Expr m) s.Prim (s.Tail m 9 ∷ []) (λ v vs. attach v vs.0) prim_rows) o ≡ Some (prefix_row m o)
expr_prefix m true t.Minus h = refl
expr_prefix m false t.Minus h = refl
expr_prefix m true t.PrefixOperator h = refl
expr_prefix m false t.PrefixOperator h = refl
expr_prefix m b _ h = absurd (no_false h)

pub expr_if : (m : ℕ) (b : Bool) → find (expr_own m b ++ extend (s.Expr m) s.Prim (s.Tail m 9 ∷ []) (λ v vs. attach v vs.0) prim_rows) t.IfWord ≡ Some (row (s.Expr m) t.IfWord (s.Expr 0 ∷ s.Take t.ThenWord ∷ s.Expr 0 ∷ s.Take t.ElseWord ∷ s.Expr 0 ∷ s.Seal ∷ []) (λ i w vs. choice (at i) vs.0 vs.1.1.0 vs.1.1.1.1.0))
expr_if m true = refl
expr_if m false = refl

pub expr_let : (m : ℕ) (b : Bool) → find (expr_own m b ++ extend (s.Expr m) s.Prim (s.Tail m 9 ∷ []) (λ v vs. attach v vs.0) prim_rows) t.LetWord ≡ Some (row (s.Expr m) t.LetWord (s.Pat ∷ s.Letpats ∷ []) (λ i w vs. binding (at i) (more_forms vs.0 vs.1.0.patterns) vs.1.0.value vs.1.0.body))
expr_let m true = refl
expr_let m false = refl

pub expr_quantifier : (m : ℕ) (b all : Bool) → find (expr_own m b ++ extend (s.Expr m) s.Prim (s.Tail m 9 ∷ []) (λ v vs. attach v vs.0) prim_rows) (quantifier all) ≡ Some (row (s.Expr m) (quantifier all) (s.Take t.Lident ∷ s.Binder ∷ []) (λ i w vs. quantified (at i) all (binder_with vs.0 vs.1.0 ∷ vs.1.0.bound.others) vs.1.0.bound.trigger vs.1.0.bound.body))
expr_quantifier m true true = refl
expr_quantifier m false true = refl
expr_quantifier m true false = refl
expr_quantifier m false false = refl

pub expr_apart : (m : ℕ) (b : Bool) (x : Terminal) (r : ReadingRow s.Prim) → find prim_rows x ≡ Some r → find (expr_own m b) x ≡ None
expr_apart m true t.NotWord r h = cc
expr_apart m false t.NotWord r h = refl
expr_apart m true t.Minus r h = cc
expr_apart m false t.Minus r h = cc
expr_apart m true t.PrefixOperator r h = cc
expr_apart m false t.PrefixOperator r h = cc
expr_apart m true t.IfWord r h = cc
expr_apart m false t.IfWord r h = cc
expr_apart m true t.LetWord r h = cc
expr_apart m false t.LetWord r h = cc
expr_apart m true t.ForallWord r h = cc
expr_apart m false t.ForallWord r h = cc
expr_apart m true t.ExistsWord r h = cc
expr_apart m false t.ExistsWord r h = cc
expr_apart m true _ r h = refl
expr_apart m false _ r h = refl

pub expr_extend : (m : ℕ) → Extends (s.Expr m) s.Prim (s.Tail m 9 ∷ []) (λ v vs. attach v vs.0) (expr_own m (nat_le m 3))
expr_extend m = record { is = refl; due = refl; apart = expr_apart m (nat_le m 3) }

-- names
pub opname_found : (o : Terminal) → is_operator o ≡ true → find opname_rows o ≡ Some (opname_row o)
opname_found t.Equal h = refl
opname_found t.Minus h = refl
opname_found t.Operator1 h = refl
opname_found t.Operator2 h = refl
opname_found t.Operator3 h = refl
opname_found t.Operator4 h = refl
opname_found t.PrefixOperator h = refl
opname_found _ h = absurd (no_false h)

pub dots_stop : (ys : List Lexeme) → NoDot ys → Stops s.Dots ys
dots_stop [] n = tt
dots_stop (y ∷ ys) n = ap (λ b. cond b (Some (row s.Dots t.Dot (s.Qlid ∷ s.Dots ∷ []) (λ i w vs. lower_called (i + 1) vs.0 ∷ vs.1.0))) None) n

pub reads_dots : (cs : List Called) (ys : List Lexeme) (i : ℕ) (k : List Symbol) (vs : Vals k) → AreDots i cs → NoDot ys → Reads k ys (past i (write_dots cs)) vs → Reads (s.Dots ∷ k) (write_dots cs ++ ys) i (cs, vs)
reads_dots [] ys i k vs l n h = passed s.Dots [] k ys i vs refl refl (dots_stop ys n) h
reads_dots (c ∷ cs) ys i k vs l n h = by_own c.own refl l.1 (reads_dots cs ys (past (i + 1) (write_called c)) k vs l.2 n (rw past-append at h))
  where
    made : (o : Own) → c.own ≡ o → called (i + 1) c.scopes o ≡ c
    made o e = ap (λ v. called v c.scopes o) (sym l.0) ∙ ap (λ v. called c.at c.scopes v) (sym e)

    by_own : (o : Own) → c.own ≡ o → IsLowerName o → Reads (s.Dots ∷ k) (write_dots cs ++ ys) (past (i + 1) (write_called c)) (cs, vs) → Reads (s.Dots ∷ k) (write_dots (c ∷ cs) ++ ys) i (c ∷ cs, vs)
    by_own (lower w) e p g = rw (subst (λ xs. Reads (s.Qlid ∷ s.Dots ∷ k) xs (i + 1) (record { scopes = c.scopes; last = w }, (cs, vs))) (sym (append_assoc (write_called c) (write_dots cs) ys ∙ ap (λ v. (scoped c.scopes ++ write_own v) ++ (write_dots cs ++ ys)) e))
        (reads_qlid c.scopes w (write_dots cs ++ ys) (i + 1) (s.Dots ∷ k) (cs, vs) (subst (λ v. Reads (s.Dots ∷ k) (write_dots cs ++ ys) (past (i + 1) (scoped c.scopes ++ write_own v)) (cs, vs)) e g)))
        (ap (λ v. Some (v ∷ cs, vs)) (made (lower w) e))
    by_own _ e p g = elim p [ ]

-- arguments after a name in lower case, and after a word in upper case
pub args_applied : (ts : SyntaxTrees) (ys : List Lexeme) (i : ℕ) (k : List Symbol) (vs : Vals k) → NoDot ys → Reads (s.Args ∷ k) ys i (ts, vs) → Reads (s.Applied ∷ k) ys i (args_rest ts, vs)
args_applied ts ys i k vs n h = extended_over s.Applied s.Args (λ v. args_rest v) applied_own none refl refl refl refl refl ys (none_at ys n) i k ts vs h
  where
    none_at : (ys : List Lexeme) → NoDot ys → NoneAt applied_own ys
    none_at [] n = tt
    none_at (y ∷ ys) n = ap (λ b. cond b (Some (row s.Applied t.Dot (s.Qlid ∷ s.Dots ∷ []) (λ i w vs. dots_rest (lower_called (i + 1) vs.0 ∷ vs.1.0)))) None) n

pub args_unscoped : (ts : SyntaxTrees) (ys : List Lexeme) (i : ℕ) (k : List Symbol) (vs : Vals k) → NoDot ys → Reads (s.Args ∷ k) ys i (ts, vs) → Reads (s.HeadRest true ∷ k) ys i (unscoped ts, vs)
args_unscoped ts ys i k vs n h = extended_over (s.HeadRest true) s.Args (λ v. unscoped v) (head_rest_own true) none refl refl refl refl refl ys (none_at ys n) i k ts vs h
  where
    none_at : (ys : List Lexeme) → NoDot ys → NoneAt (head_rest_own true) ys
    none_at [] n = tt
    none_at (y ∷ ys) n = ap (λ b. cond b (Some (row (s.HeadRest true) t.Dot (s.Head true ∷ []) (λ i w vs. scopes_name vs.0))) None) n

pub scope_stop : (ys : List Lexeme) → NoDot ys → Stops (s.HeadRest false) ys
scope_stop [] n = tt
scope_stop (y ∷ ys) n = ap (λ b. cond b (Some (row (s.HeadRest false) t.Dot (s.Head false ∷ []) (λ i w vs. scopes_name vs.0))) None) n

-- what is read after a name where its fields are
abbrev pub dotted_rest : List Called → NameRest
dotted_rest [] = args_rest none
dotted_rest (c ∷ cs) = dots_rest (c ∷ cs)

pub applied_dots : (i : ℕ) (c : Called) (cs : List Called) → with_rest i c (dotted_rest cs) ≡ accessed i (apply (at i) c none) cs
applied_dots i c [] = refl
applied_dots i c (d ∷ cs) = refl

pub reads_applied : (cs : List Called) (ys : List Lexeme) (i : ℕ) (k : List Symbol) (vs : Vals k) → AreDots i cs → Stops s.Args ys → NoDot ys → Reads k ys (past i (write_dots cs)) vs → Reads (s.Applied ∷ k) (write_dots cs ++ ys) i (dotted_rest cs, vs)
reads_applied [] ys i k vs l m n h = args_applied none ys i k vs n (passed s.Args none k ys i vs refl refl m h)
reads_applied (c ∷ cs) ys i k vs l m n h = fused {C = NameRest × Vals k} (λ q. (dots_rest q.0, q.1)) (λ us. (lower_called (i + 1) us.0 ∷ us.1.0, us.1.1)) (read ((write_called c ++ write_dots cs) ++ ys) (i + 1) false (s.Qlid ∷ s.Dots ∷ k)) ∙ ap (option_map {U = NameRest × Vals k} (λ q. (dots_rest q.0, q.1))) (reads_dots (c ∷ cs) ys i k vs l n h)

-- a name after scopes with arguments, alone as an argument, and with fields
pub reads_head : (qs : List Word) (o : Own) (ts : SyntaxTrees) (ys : List Lexeme) (i : ℕ) (k : List Symbol) (vs : Vals k) → IsOwn o → NoDot ys → Reads (s.Args ∷ k) ys (past i (scoped qs ++ write_own o)) (ts, vs) → Reads (s.Head true ∷ k) ((scoped qs ++ write_own o) ++ ys) i (record { scopes = qs; own = o; rest = args_rest ts }, vs)
reads_head [] (lower w) ts ys i k vs l n h = rw (args_applied ts ys (i + 1) k vs n h) refl
reads_head [] (upper w) ts ys i k vs l n h = rw (args_unscoped ts ys (i + 1) k vs n h) refl
reads_head [] star ts ys i k vs l n h = rw h refl
reads_head [] (infix_op o w) ts ys i k vs l n h = rw (reads_by s.Opname (lx o w) (opname_row o) (mark t.RParen ∷ ys) (i + 1) (s.Args ∷ k) (false, (ts, vs)) (opname_found o l.0) (rw h refl)) refl
reads_head [] (prefix_op o w) ts ys i k vs l n h = rw (reads_by s.Opname (lx o w) (opname_row o) (mark t.Wild ∷ mark t.RParen ∷ ys) (i + 1) (s.Args ∷ k) (true, (ts, vs)) (opname_found o l.0) (rw h refl)) refl
reads_head (q ∷ qs) o ts ys i k vs l n h = rw (reads_head qs o ts ys (i + 1 + 1) k vs l n h) refl

-- what comes after a name that stands alone
abbrev pub no_rest : Own → NameRest
no_rest (lower w) = dots_rest []
no_rest _ = args_rest none

pub reads_alone_head : (qs : List Word) (o : Own) (ys : List Lexeme) (i : ℕ) (k : List Symbol) (vs : Vals k) → IsOwn o → NoDot ys → Reads k ys (past i (scoped qs ++ write_own o)) vs → Reads (s.Head false ∷ k) ((scoped qs ++ write_own o) ++ ys) i (record { scopes = qs; own = o; rest = no_rest o }, vs)
reads_alone_head [] (lower w) ys i k vs l n h = rw (passed s.Dots [] k ys (i + 1) vs refl refl (dots_stop ys n) h) refl
reads_alone_head [] (upper w) ys i k vs l n h = rw (passed (s.HeadRest false) (unscoped none) k ys (i + 1) vs refl refl (scope_stop ys n) h) refl
reads_alone_head [] star ys i k vs l n h = rw h refl
reads_alone_head [] (infix_op o w) ys i k vs l n h = rw (reads_by s.Opname (lx o w) (opname_row o) (mark t.RParen ∷ ys) (i + 1) k (false, vs) (opname_found o l.0) (rw h refl)) refl
reads_alone_head [] (prefix_op o w) ys i k vs l n h = rw (reads_by s.Opname (lx o w) (opname_row o) (mark t.Wild ∷ mark t.RParen ∷ ys) (i + 1) k (true, vs) (opname_found o l.0) (rw h refl)) refl
reads_alone_head (q ∷ qs) o ys i k vs l n h = rw (reads_alone_head qs o ys (i + 1 + 1) k vs l n h) refl

pub alone : (i : ℕ) (c : Called) → with_rest i c (no_rest c.own) ≡ apply (at i) c none
alone i c = by_own c.own
  where
    by_own : (o : Own) → with_rest i c (no_rest o) ≡ apply (at i) c none
    by_own (lower w) = refl
    by_own (upper w) = refl
    by_own (infix_op o w) = refl
    by_own (prefix_op o w) = refl
    by_own star = refl

-- read as an application, or as an argument
abbrev pub TopReads : Bool → (k : List Symbol) → List Lexeme → ℕ → SyntaxTree → Vals k → Type 0
TopReads true k xs i e vs = Reads (s.Prim ∷ k) xs i (e, vs)
TopReads false k xs i e vs = Reads (s.Atom ∷ k) xs i (e, vs)

-- after an application no argument begins
abbrev pub Closed : Bool → List Lexeme → Type 0
Closed true ys = Stops s.Args ys
Closed false ys = ⊤

-- what is read as the fields of a name
abbrev pub named_rest : Bool → List Called → NameRest
named_rest true cs = dotted_rest cs
named_rest false cs = dots_rest cs

pub named_dots : (b : Bool) (i : ℕ) (c : Called) (cs : List Called) → with_rest i c (named_rest b cs) ≡ accessed i (apply (at i) c none) cs
named_dots true i c cs = applied_dots i c cs
named_dots false i c cs = refl

pub head_dots : (b : Bool) (qs : List Word) (w : Word) (cs : List Called) (ys : List Lexeme) (i : ℕ) (k : List Symbol) (vs : Vals k) → AreDots (past i (scoped qs ++ (lx t.Lident w ∷ []))) cs → Closed b ys → NoDot ys → Reads k ys (past (past i (scoped qs ++ (lx t.Lident w ∷ []))) (write_dots cs)) vs → Reads (s.Head b ∷ k) ((scoped qs ++ (lx t.Lident w ∷ [])) ++ (write_dots cs ++ ys)) i (record { scopes = qs; own = lower w; rest = named_rest b cs }, vs)
head_dots true [] w cs ys i k vs l m n h = rw (reads_applied cs ys (i + 1) k vs l m n h) refl
head_dots false [] w cs ys i k vs l m n h = rw (reads_dots cs ys (i + 1) k vs l n h) refl
head_dots true (q ∷ qs) w cs ys i k vs l m n h = rw (head_dots true qs w cs ys (i + 1 + 1) k vs l m n h) refl
head_dots false (q ∷ qs) w cs ys i k vs l m n h = rw (head_dots false qs w cs ys (i + 1 + 1) k vs l m n h) refl

pub name_dots : (b : Bool) (qs : List Word) (w : Word) (cs : List Called) (ys : List Lexeme) (i : ℕ) (k : List Symbol) (vs : Vals k) → AreDots (past i (scoped qs ++ (lx t.Lident w ∷ []))) cs → Closed b ys → NoDot ys → Reads k ys (past (past i (scoped qs ++ (lx t.Lident w ∷ []))) (write_dots cs)) vs → TopReads b k ((scoped qs ++ (lx t.Lident w ∷ [])) ++ (write_dots cs ++ ys)) i (accessed i (apply (at i) (called i qs (lower w)) none) cs) vs
name_dots true [] w cs ys i k vs l m n h = rw (reads_applied cs ys (i + 1) k vs l m n h) (ap (λ e. Some (e, vs)) (named_dots true i (called i [] (lower w)) cs))
name_dots false [] w cs ys i k vs l m n h = rw (reads_dots cs ys (i + 1) k vs l n h) refl
name_dots true (q ∷ qs) w cs ys i k vs l m n h = rw (head_dots true qs w cs ys (i + 1 + 1) k vs l m n h) (ap (λ e. Some (e, vs)) (named_dots true i (called i (q ∷ qs) (lower w)) cs))
name_dots false (q ∷ qs) w cs ys i k vs l m n h = rw (head_dots false qs w cs ys (i + 1 + 1) k vs l m n h) refl

hop_found : (o : Terminal) → is_operator o ≡ true → is_prefix o ≡ false → find (rows s.Hparen) o ≡ Some (hop_row o)
hop_found t.Equal h p = refl
hop_found t.Operator1 h p = refl
hop_found t.Operator2 h p = refl
hop_found t.Operator3 h p = refl
hop_found t.Operator4 h p = refl
hop_found t.Minus h p = cc
hop_found t.PrefixOperator h p = cc
hop_found _ h p = absurd (no_false h)

aop_found : (o : Terminal) → is_operator o ≡ true → is_prefix o ≡ false → find (rows s.Aparen) o ≡ Some (aop_row o)
aop_found t.Equal h p = refl
aop_found t.Operator1 h p = refl
aop_found t.Operator2 h p = refl
aop_found t.Operator3 h p = refl
aop_found t.Operator4 h p = refl
aop_found t.Minus h p = cc
aop_found t.PrefixOperator h p = cc
aop_found _ h p = absurd (no_false h)

pub hparen_infix : (o : Terminal) (w : Word) (ts : SyntaxTrees) (ys : List Lexeme) (i : ℕ) (k : List Symbol) (vs : Vals k) → is_operator o ≡ true → Reads (s.Args ∷ k) ys (i + 1 + 1) (ts, vs) → Reads (s.Hparen ∷ k) (lx o w ∷ mark t.RParen ∷ ys) i (named_operator (op i o w) false ts, vs)
hparen_infix t.Minus w ts ys i k vs l h = rw h refl
hparen_infix t.PrefixOperator w ts ys i k vs l h = rw h refl
hparen_infix o w ts ys i k vs l h = reads_by s.Hparen (lx o w) (hop_row o) (mark t.RParen ∷ ys) i k (false, (ts, vs)) (hop_found o l refl) (rw h refl)

pub hparen_prefix : (o : Terminal) (w : Word) (ts : SyntaxTrees) (ys : List Lexeme) (i : ℕ) (k : List Symbol) (vs : Vals k) → is_operator o ≡ true → Reads (s.Args ∷ k) ys (i + 1 + 1 + 1) (ts, vs) → Reads (s.Hparen ∷ k) (lx o w ∷ mark t.Wild ∷ mark t.RParen ∷ ys) i (named_operator (op i o w) true ts, vs)
hparen_prefix t.Minus w ts ys i k vs l h = rw h refl
hparen_prefix t.PrefixOperator w ts ys i k vs l h = rw h refl
hparen_prefix o w ts ys i k vs l h = reads_by s.Hparen (lx o w) (hop_row o) (mark t.Wild ∷ mark t.RParen ∷ ys) i k (true, (ts, vs)) (hop_found o l refl) (rw h refl)

pub aparen_infix : (o : Terminal) (w : Word) (ys : List Lexeme) (i : ℕ) (k : List Symbol) (vs : Vals k) → is_operator o ≡ true → Reads k ys (i + 1 + 1) vs → Reads (s.Aparen ∷ k) (lx o w ∷ mark t.RParen ∷ ys) i (named_operator (op i o w) false none, vs)
aparen_infix t.Minus w ys i k vs l h = rw h refl
aparen_infix t.PrefixOperator w ys i k vs l h = rw h refl
aparen_infix o w ys i k vs l h = reads_by s.Aparen (lx o w) (aop_row o) (mark t.RParen ∷ ys) i k (false, vs) (aop_found o l refl) (rw h refl)

pub aparen_prefix : (o : Terminal) (w : Word) (ys : List Lexeme) (i : ℕ) (k : List Symbol) (vs : Vals k) → is_operator o ≡ true → Reads k ys (i + 1 + 1 + 1) vs → Reads (s.Aparen ∷ k) (lx o w ∷ mark t.Wild ∷ mark t.RParen ∷ ys) i (named_operator (op i o w) true none, vs)
aparen_prefix t.Minus w ys i k vs l h = rw h refl
aparen_prefix t.PrefixOperator w ys i k vs l h = rw h refl
aparen_prefix o w ys i k vs l h = reads_by s.Aparen (lx o w) (aop_row o) (mark t.Wild ∷ mark t.RParen ∷ ys) i k (true, vs) (aop_found o l refl) (rw h refl)

pub prim_headed : (qs : List Word) (o : Own) (ts : SyntaxTrees) (ys : List Lexeme) (i : ℕ) (k : List Symbol) (vs : Vals k) → IsOwn o → NoDot ys → Reads (s.Args ∷ k) ys (past i (scoped qs ++ write_own o)) (ts, vs) → Reads (s.Prim ∷ k) ((scoped qs ++ write_own o) ++ ys) i (apply (at i) (called i qs o) ts, vs)
prim_headed [] (lower w) ts ys i k vs l n h = rw (args_applied ts ys (i + 1) k vs n h) refl
prim_headed [] (upper w) ts ys i k vs l n h = rw (args_unscoped ts ys (i + 1) k vs n h) refl
prim_headed [] star ts ys i k vs l n h = rw h refl
prim_headed [] (infix_op o w) ts ys i k vs l n h = rw (hparen_infix o w ts ys (i + 1) k vs l.0 h) refl
prim_headed [] (prefix_op o w) ts ys i k vs l n h = rw (hparen_prefix o w ts ys (i + 1) k vs l.0 h) refl
prim_headed (q ∷ qs) o ts ys i k vs l n h = rw (reads_head qs o ts ys (i + 1 + 1) k vs l n h) refl

pub atom_headed : (qs : List Word) (o : Own) (ys : List Lexeme) (i : ℕ) (k : List Symbol) (vs : Vals k) → IsOwn o → NoDot ys → Reads k ys (past i (scoped qs ++ write_own o)) vs → Reads (s.Atom ∷ k) ((scoped qs ++ write_own o) ++ ys) i (apply (at i) (called i qs o) none, vs)
atom_headed [] (lower w) ys i k vs l n h = rw (passed s.Dots [] k ys (i + 1) vs refl refl (dots_stop ys n) h) refl
atom_headed [] (upper w) ys i k vs l n h = rw (passed (s.HeadRest false) (unscoped none) k ys (i + 1) vs refl refl (scope_stop ys n) h) refl
atom_headed [] star ys i k vs l n h = rw h refl
atom_headed [] (infix_op o w) ys i k vs l n h = rw (aparen_infix o w ys (i + 1) k vs l.0 h) refl
atom_headed [] (prefix_op o w) ys i k vs l n h = rw (aparen_prefix o w ys (i + 1) k vs l.0 h) refl
atom_headed (q ∷ qs) o ys i k vs l n h = rw (reads_alone_head qs o ys (i + 1 + 1) k vs l n h) (ap (λ e. Some (e, vs)) (alone i (called i (q ∷ qs) o)))

pub args_extend : Extends s.Args s.Atom (s.Args ∷ []) (λ v vs. more v vs.0) []
args_extend = record { is = refl; due = refl; apart = λ x r e. refl }

-- A tree after a parenthesis, read as an expression and what closes it.
pub hparen_apart : (x : Terminal) (r : ReadingRow (s.Expr 0)) → is_prefix x ≡ false → find (expr_rows 0) x ≡ Some r → find hparen_own x ≡ None
hparen_apart t.RParen r p h = cc
hparen_apart t.Equal r p h = cc
hparen_apart t.Operator1 r p h = cc
hparen_apart t.Operator2 r p h = cc
hparen_apart t.Operator3 r p h = cc
hparen_apart t.Operator4 r p h = cc
hparen_apart t.Minus r p h = cc
hparen_apart t.PrefixOperator r p h = cc
hparen_apart _ r p h = refl

pub aparen_apart : (x : Terminal) (r : ReadingRow (s.Expr 0)) → is_prefix x ≡ false → find (expr_rows 0) x ≡ Some r → find aparen_own x ≡ None
aparen_apart t.RParen r p h = cc
aparen_apart t.Equal r p h = cc
aparen_apart t.Operator1 r p h = cc
aparen_apart t.Operator2 r p h = cc
aparen_apart t.Operator3 r p h = cc
aparen_apart t.Operator4 r p h = cc
aparen_apart t.Minus r p h = cc
aparen_apart t.PrefixOperator r p h = cc
aparen_apart _ r p h = refl

pub hminus_apart : (x : Terminal) (r : ReadingRow (s.Expr 8)) → find (expr_rows 8) x ≡ Some r → find hminus_own x ≡ None
hminus_apart t.RParen r h = cc
hminus_apart t.Wild r h = cc
hminus_apart _ r h = refl

pub hminus_extend : Extends s.Hminus (s.Expr 8) (s.Tail 0 8 ∷ s.GroupRest ∷ []) (λ v vs. operand v vs.0 vs.1.0) hminus_own
hminus_extend = record { is = refl; due = refl; apart = hminus_apart }

pub aminus_apart : (x : Terminal) (r : ReadingRow (s.Expr 8)) → find (expr_rows 8) x ≡ Some r → find aminus_own x ≡ None
aminus_apart t.RParen r h = cc
aminus_apart t.Wild r h = cc
aminus_apart _ r h = refl

pub aminus_extend : Extends s.Aminus (s.Expr 8) (s.Tail 0 8 ∷ s.GroupRest ∷ []) (λ v vs. operand v vs.0 vs.1.0) aminus_own
aminus_extend = record { is = refl; due = refl; apart = aminus_apart }

pub hparen_minus : (o : Terminal) (w : Word) (xs : List Lexeme) (i : ℕ) (k : List Symbol) (e : SyntaxTree) (z : Closing) (vs : Vals k) → is_prefix o ≡ true → Reads (s.Expr 0 ∷ s.GroupRest ∷ k) (lx o w ∷ xs) i (e, (z, vs)) → Reads (s.Hparen ∷ k) (lx o w ∷ xs) i (holds e z, vs)
hparen_minus t.Minus w xs i k e z vs p h = let u = unmapped (λ us. (prefix_row 0 t.Minus).act (s.GroupRest ∷ k) i w us) (read xs (i + 1) false (s.Expr 8 ∷ s.Tail 0 8 ∷ s.GroupRest ∷ k)) (e, (z, vs)) h in
    let v : Reads (s.Hminus ∷ k) xs (i + 1) (operand u.0.0 u.0.1.0 u.0.1.1.0, u.0.1.1.1) = extended s.Hminus (s.Expr 8) (s.Tail 0 8 ∷ s.GroupRest ∷ []) (λ v vs. operand v vs.0 vs.1.0) hminus_own hminus_extend xs (i + 1) k u.0.0 u.0.1 u.1 in
    rw v (ap (λ q. Some (holds q.0 q.1.0, q.1.1)) u.2)
hparen_minus t.PrefixOperator w xs i k e z vs p h = let u = unmapped (λ us. (prefix_row 0 t.PrefixOperator).act (s.GroupRest ∷ k) i w us) (read xs (i + 1) false (s.Expr 8 ∷ s.Tail 0 8 ∷ s.GroupRest ∷ k)) (e, (z, vs)) h in
    let v : Reads (s.Hminus ∷ k) xs (i + 1) (operand u.0.0 u.0.1.0 u.0.1.1.0, u.0.1.1.1) = extended s.Hminus (s.Expr 8) (s.Tail 0 8 ∷ s.GroupRest ∷ []) (λ v vs. operand v vs.0 vs.1.0) hminus_own hminus_extend xs (i + 1) k u.0.0 u.0.1 u.1 in
    rw v (ap (λ q. Some (holds q.0 q.1.0, q.1.1)) u.2)
hparen_minus _ w xs i k e z vs p h = absurd (no_false p)

pub reads_hparen : (xs : List Lexeme) (i : ℕ) (k : List Symbol) (e : SyntaxTree) (z : Closing) (vs : Vals k) → Reads (s.Expr 0 ∷ s.GroupRest ∷ k) xs i (e, (z, vs)) → Reads (s.Hparen ∷ k) xs i (holds e z, vs)
reads_hparen [] i k e z vs h = cc
reads_hparen (x ∷ xs) i k e z vs h = by_prefix (is_prefix x.terminal) refl
  where
    by_prefix : (b : Bool) → is_prefix x.terminal ≡ b → Reads (s.Hparen ∷ k) (x ∷ xs) i (holds e z, vs)
    by_prefix true p = hparen_minus x.terminal x.text xs i k e z vs p h
    by_prefix false p = extended_at s.Hparen (s.Expr 0) (s.GroupRest ∷ []) (λ v vs. holds v vs.0) hparen_own refl refl (x ∷ xs) (λ r g. hparen_apart x.terminal r p g) i k e (z, vs) h

pub aparen_minus : (o : Terminal) (w : Word) (xs : List Lexeme) (i : ℕ) (k : List Symbol) (e : SyntaxTree) (z : Closing) (vs : Vals k) → is_prefix o ≡ true → Reads (s.Expr 0 ∷ s.GroupRest ∷ k) (lx o w ∷ xs) i (e, (z, vs)) → Reads (s.Aparen ∷ k) (lx o w ∷ xs) i (holds e z, vs)
aparen_minus t.Minus w xs i k e z vs p h = let u = unmapped (λ us. (prefix_row 0 t.Minus).act (s.GroupRest ∷ k) i w us) (read xs (i + 1) false (s.Expr 8 ∷ s.Tail 0 8 ∷ s.GroupRest ∷ k)) (e, (z, vs)) h in
    let v : Reads (s.Aminus ∷ k) xs (i + 1) (operand u.0.0 u.0.1.0 u.0.1.1.0, u.0.1.1.1) = extended s.Aminus (s.Expr 8) (s.Tail 0 8 ∷ s.GroupRest ∷ []) (λ v vs. operand v vs.0 vs.1.0) aminus_own aminus_extend xs (i + 1) k u.0.0 u.0.1 u.1 in
    rw v (ap (λ q. Some (holds q.0 q.1.0, q.1.1)) u.2)
aparen_minus t.PrefixOperator w xs i k e z vs p h = let u = unmapped (λ us. (prefix_row 0 t.PrefixOperator).act (s.GroupRest ∷ k) i w us) (read xs (i + 1) false (s.Expr 8 ∷ s.Tail 0 8 ∷ s.GroupRest ∷ k)) (e, (z, vs)) h in
    let v : Reads (s.Aminus ∷ k) xs (i + 1) (operand u.0.0 u.0.1.0 u.0.1.1.0, u.0.1.1.1) = extended s.Aminus (s.Expr 8) (s.Tail 0 8 ∷ s.GroupRest ∷ []) (λ v vs. operand v vs.0 vs.1.0) aminus_own aminus_extend xs (i + 1) k u.0.0 u.0.1 u.1 in
    rw v (ap (λ q. Some (holds q.0 q.1.0, q.1.1)) u.2)
aparen_minus _ w xs i k e z vs p h = absurd (no_false p)

pub reads_aparen : (xs : List Lexeme) (i : ℕ) (k : List Symbol) (e : SyntaxTree) (z : Closing) (vs : Vals k) → Reads (s.Expr 0 ∷ s.GroupRest ∷ k) xs i (e, (z, vs)) → Reads (s.Aparen ∷ k) xs i (holds e z, vs)
reads_aparen [] i k e z vs h = cc
reads_aparen (x ∷ xs) i k e z vs h = by_prefix (is_prefix x.terminal) refl
  where
    by_prefix : (b : Bool) → is_prefix x.terminal ≡ b → Reads (s.Aparen ∷ k) (x ∷ xs) i (holds e z, vs)
    by_prefix true p = aparen_minus x.terminal x.text xs i k e z vs p h
    by_prefix false p = extended_at s.Aparen (s.Expr 0) (s.GroupRest ∷ []) (λ v vs. holds v vs.0) aparen_own refl refl (x ∷ xs) (λ r g. aparen_apart x.terminal r p g) i k e (z, vs) h

-- trees in parentheses, as an application and as an argument
pub reads_inner : (b : Bool) (xs : List Lexeme) (i : ℕ) (k : List Symbol) (e : SyntaxTree) (z : Closing) (vs : Vals k) → Reads (s.Expr 0 ∷ s.GroupRest ∷ k) xs (i + 1) (e, (z, vs)) → TopReads b k (mark t.LParen ∷ xs) i (closed_group i e z) vs
reads_inner true xs i k e z vs h = rw (reads_hparen xs (i + 1) k e z vs h) refl
reads_inner false xs i k e z vs h = rw (reads_aparen xs (i + 1) k e z vs h) refl

pub reads_nothing : (b : Bool) (cs : List Called) (xs : List Lexeme) (i : ℕ) (k : List Symbol) (vs : Vals k) → Reads (s.Dots ∷ k) xs (i + 1 + 1) (cs, vs) → TopReads b k (mark t.LParen ∷ mark t.RParen ∷ xs) i (accessed i (group (at i) none) cs) vs
reads_nothing true cs xs i k vs h = rw h refl
reads_nothing false cs xs i k vs h = rw h refl

pub reads_match : (b : Bool) (e : SyntaxTree) (c : CasesPart) (cs : List Called) (xs : List Lexeme) (i : ℕ) (k : List Symbol) (vs : Vals k) → Reads (s.Expr 0 ∷ s.Scrutinees ∷ s.Dots ∷ k) xs (i + 1) (e, (c, (cs, vs))) → TopReads b k (mark t.MatchWord ∷ xs) i (accessed i (cases (at i) (more e c.others) c.bar c.branches) cs) vs
reads_match true e c cs xs i k vs h = rw h refl
reads_match false e c cs xs i k vs h = rw h refl

pub reads_record : (b : Bool) (d : Dotted) (m : Name) (e : SyntaxTree) (r : TreeFields) (cs : List Called) (xs : List Lexeme) (i : ℕ) (k : List Symbol) (vs : Vals k) → Reads (s.Qlid ∷ s.Take t.Equal ∷ s.Expr 0 ∷ s.ExprFields ∷ s.Dots ∷ k) xs (i + 1) (d, (m, (e, (r, (cs, vs))))) → TopReads b k (mark t.LBrace ∷ xs) i (accessed i (record_tree i (lower_called (i + 1) d) e r) cs) vs
reads_record true d m e r cs xs i k vs h = rw h refl
reads_record false d m e r cs xs i k vs h = rw h refl

-- a field after others
next_tree_field : (qs : List Word) (w : Word) (e : SyntaxTree) (r : TreeFields) (zs : List Lexeme) (i : ℕ) (k : List Symbol) (m : Name) (vs : Vals k) → Reads (s.Take t.Equal ∷ s.Expr 0 ∷ s.ExprFields ∷ k) zs (past i (scoped qs ++ (lx t.Lident w ∷ []))) (m, (e, (r, vs))) → Reads (s.ExprField ∷ k) ((scoped qs ++ (lx t.Lident w ∷ [])) ++ zs) i (next_field_tree (called i qs (lower w)) e r, vs)
next_tree_field [] w e r zs i k m vs h = rw h refl
next_tree_field (q ∷ qs) w e r zs i k m vs h = rw (reads_qlid qs w zs (i + 1 + 1) (s.Take t.Equal ∷ s.Expr 0 ∷ s.ExprFields ∷ k) (m, (e, (r, vs))) h) refl

pub other_tree_field : (c : Called) (e : SyntaxTree) (r : TreeFields) (zs : List Lexeme) (i : ℕ) (k : List Symbol) (m : Name) (vs : Vals k) → IsLowerName c.own → c.at ≡ i → Reads (s.Take t.Equal ∷ s.Expr 0 ∷ s.ExprFields ∷ k) zs (past i (write_called c)) (m, (e, (r, vs))) → Reads (s.ExprField ∷ k) (write_called c ++ zs) i (next_field_tree c e r, vs)
other_tree_field c e r zs i k m vs l q h = by_own c.own refl l
  where
    by_own : (o : Own) → c.own ≡ o → IsLowerName o → Reads (s.ExprField ∷ k) (write_called c ++ zs) i (next_field_tree c e r, vs)
    by_own (lower w) n l = subst (λ d. Reads (s.ExprField ∷ k) (write_called c ++ zs) i (next_field_tree d e r, vs)) (lower_is i c w q n) (subst (λ v. Reads (s.ExprField ∷ k) (v ++ zs) i (next_field_tree (called i c.scopes (lower w)) e r, vs)) (sym (lower_tokens c w n)) (next_tree_field c.scopes w e r zs i k m vs (subst (λ v. Reads (s.Take t.Equal ∷ s.Expr 0 ∷ s.ExprFields ∷ k) zs (past i v) (m, (e, (r, vs)))) (lower_tokens c w n) h)))
    by_own _ n l = elim l [ ]
