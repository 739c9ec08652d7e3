-- What follows where definitions, members, values and clauses are read.
use Rattle.parser.proofs.parse_decls.Common.{◌≡◌, ℕ, ◌+◌, Bool, true, false, if◌then◌else◌, List, [], ◌∷◌, ◌++◌, Option, Some, refl, sym, ap, subst, arith, append_assoc, ◌∙◌, append-nil, Symbol, same, same_true, Lexeme, name, Called, SyntaxForm, SyntaxTree, Clause, Member, ParamGroup, ClausesPart, new_inductive, new_member, with_clause, Vals, row, rows, find, read, first_row, passes, Begun, CanRead, CanRun, IsExpr, IsRead, lexemes_from, terminal_at, token_at, again, expand, follow, next, next_expr, none_of, only, stands, start, take, unexpand, reread, IsReadMember, IsResult, body_part, IsClause, IsClauses, IsReadInductive, clause_part, clauses_part}
use Rattle.tokens_why.specs.declared.terminal.Terminal.TheVariants as t
use Rattle.grammar.specs.declared.symbols.Symbol.TheVariants as s

-- values
module _ {xs : List Lexeme} {i : ℕ} (c : CanRun xs (λ k. s.Value ∷ s.Decls ∷ k) i) where
  pub value_start : same t.Equal (terminal_at xs i) ≡ true → Begun xs 1 (λ k. s.Value ∷ s.Decls ∷ k) i (λ k. s.Expr 0 ∷ s.Decls ∷ k) (λ k us. (Some us.0, us.1)) (i + 1)
  value_start e = let p = expand (start c) t.Equal e refl refl in again p 1 refl (λ k us. refl)

-- members
module _ {xs : List Lexeme} {i : ℕ} (c : CanRead xs s.Member i) where
  pub result_start : same t.Colon (terminal_at xs i) ≡ true → Begun xs 1 (λ k. s.Member ∷ k) i (λ k. s.TypeOf ∷ s.Take t.Equal ∷ s.Expr 0 ∷ s.Members ∷ k) (λ k us. (record { result = Some us.0; body = us.1.1.0; others = us.1.1.1.0 }, us.1.1.1.1)) (i + 1)
  result_start e = let p = expand (start c) t.Colon e refl refl in again p 1 refl (λ k us. refl)

module _ {xs : List Lexeme} {i : ℕ} (c : CanRun xs (λ k. s.Op ∷ s.Params ∷ s.Member ∷ k) i) {n : Called} {j : ℕ} (rn : IsRead xs s.Op i n j) where
  pub member_params : Begun xs 1 (λ k. s.Op ∷ s.Params ∷ s.Member ∷ k) i (λ k. s.Params ∷ s.Member ∷ k) (λ k us. (n, us)) j
  member_params = let p = next (start c) rn in again p 1 refl (λ k us. refl)

  module _ {ps : List ParamGroup} {m : ℕ} (rp : IsRead xs s.Params j ps m) where
    pub member_result : Begun xs 1 (λ k. s.Op ∷ s.Params ∷ s.Member ∷ k) i (λ k. s.Member ∷ k) (λ k us. (n, (ps, us))) m
    member_result = let p = next member_params rp in again p 1 refl (λ k us. refl)

    module _ {f : Option SyntaxForm} (q : ℕ) (rf : IsResult xs m f q) where
      pub member_body : Begun xs 1 (λ k. s.Op ∷ s.Params ∷ s.Member ∷ k) i (λ k. s.Expr 0 ∷ s.Members ∷ k) (λ k us. (n, (ps, (record { result = f; body = us.0; others = us.1.0 }, us.1.1)))) (q + 1)
      member_body = let p = follow rf member_result in again p 1 refl (λ k us. refl)

      pub member_read : {e : SyntaxTree} {r : ℕ} → IsExpr xs 0 (q + 1) e r → IsReadMember xs i (record { name = n; params = ps; result = f; body = e }) r
      member_read {e} {r} re = let p = next_expr member_body refl re in again p 1 refl (λ k us. refl)

abbrev pub Members : List Lexeme → ℕ → List Member → ℕ → Type 0
Members xs i ds j = Begun xs 0 (λ k. s.Members ∷ k) i (λ k. s.Members ∷ k) (λ k us. (ds ++ us.0, us.1)) j

module _ (xs : List Lexeme) (i : ℕ) (ds : List Member) (j : ℕ) (g : Members xs i ds j) where
  pub with_start : same t.WithWord (terminal_at xs j) ≡ true → Begun xs 1 (λ k. s.Members ∷ k) i (λ k. s.Op ∷ s.Params ∷ s.Member ∷ k) (λ k us. (ds ++ new_member us.0 us.1.0 us.1.1.0 ∷ us.1.1.0.others, us.1.1.1)) (j + 1)
  with_start e = let p = expand g t.WithWord e refl refl in again p 1 refl (λ k us. refl)

-- definitions
module _ {xs : List Lexeme} {i : ℕ} (c : CanRead xs s.Body i) where
  pub body_start : same t.Equal (terminal_at xs i) ≡ true → Begun xs 1 (λ k. s.Body ∷ k) i (λ k. s.Expr 0 ∷ s.Members ∷ k) (λ k us. (body_part (Some us.0) us.1.0, us.1.1)) (i + 1)
  body_start e = let p = expand (start c) t.Equal e refl refl in again p 1 refl (λ k us. refl)

  pub body_members : (v : SyntaxTree) (j : ℕ) → same t.Equal (terminal_at xs i) ≡ true → IsExpr xs 0 (i + 1) v j → Begun xs 1 (λ k. s.Body ∷ k) i (λ k. s.Members ∷ k) (λ k us. (body_part (Some v) us.0, us.1)) j
  body_members v j e r = let p = next_expr (body_start e) refl r in again p 1 refl (λ k us. refl)

-- clauses
module _ {xs : List Lexeme} {i : ℕ} (c : CanRun xs (λ k. s.Ident ∷ s.Take t.Colon ∷ s.Expr 0 ∷ s.Clauses ∷ k) i) where
  module _ {n : Called} (rn : IsRead xs s.Ident i n (i + 1)) where
    pub prop_start : Begun xs 1 (λ k. s.Ident ∷ s.Take t.Colon ∷ s.Expr 0 ∷ s.Clauses ∷ k) i (λ k. s.Expr 0 ∷ s.Clauses ∷ k) (λ k us. (n, (name (i + 1) (token_at xs (i + 1)).text, us))) (i + 1 + 1)
    prop_start = let p = take (next (start c) rn) in again p 1 refl (λ k us. refl)

    pub clause_read : {e : SyntaxTree} {j : ℕ} → IsExpr xs 0 (i + 1 + 1) e j → IsClause xs i (record { name = n; prop = e }) j
    clause_read {e} {j} r = let p = next_expr prop_start refl r in record { colon = name (i + 1) (token_at xs (i + 1)).text; is = again p 1 refl (λ k us. refl) }

abbrev pub clauses_on : List Clause → ClausesPart → ClausesPart
clauses_on cs p = clauses_part (cs ++ p.clauses) p.others

-- a clause is to be read after others
abbrev pub Clausing : List Lexeme → ℕ → Bool → List Clause → ℕ → Type 0
Clausing xs i b cs j = Begun xs 0 (λ k. s.Clause ∷ k) i (λ k. s.Ident ∷ s.Take t.Colon ∷ s.Expr 0 ∷ s.Clauses ∷ k) (λ k us. (clause_part b (clauses_on cs (with_clause us.0 us.1.1.0 us.1.1.1.0)), us.1.1.1.1)) j

abbrev pub Claused : List Lexeme → ℕ → Bool → List Clause → ℕ → Type 0
Claused xs i b cs j = Begun xs 1 (λ k. s.Clause ∷ k) i (λ k. s.Clauses ∷ k) (λ k us. (clause_part b (clauses_on cs us.0), us.1)) j

pub clausing_start : {xs : List Lexeme} {i : ℕ} → CanRead xs s.Clause i → (b : Bool) (n : ℕ) → b ≡ same t.Bar (terminal_at xs i) → n ≡ (if b then i + 1 else i) → Clausing xs i b [] n
clausing_start {xs} {i} c true n e h = subst (λ p. Clausing xs i true [] p) (sym h) (let p = expand (start c) t.Bar (sym e) refl refl in again p 0 refl (λ k us. refl))
clausing_start {xs} {i} c false n e h = subst (λ p. Clausing xs i false [] p) (sym h) (by_name (same t.Lident (terminal_at xs i)) refl)
  where
    by_name : (b : Bool) → same t.Lident (terminal_at xs i) ≡ b → Clausing xs i false [] i
    by_name true l = let p = expand (start c) t.Lident l refl refl in unexpand s.Ident (λ k. s.Take t.Colon ∷ s.Expr 0 ∷ s.Clauses ∷ k) (λ k us. (clause_part false (clauses_on [] (with_clause us.0 us.1.1.0 us.1.1.1.0)), us.1.1.1.1)) i t.Lident l refl refl (omega arith) p
    by_name false l = let f = only (start c) t.Uident (t.Lident ∷ t.Bar ∷ []) refl refl (l, (sym e, tt)) in let p = expand (start c) t.Uident f refl refl in unexpand s.Ident (λ k. s.Take t.Colon ∷ s.Expr 0 ∷ s.Clauses ∷ k) (λ k us. (clause_part false (clauses_on [] (with_clause us.0 us.1.1.0 us.1.1.1.0)), us.1.1.1.1)) i t.Uident f refl refl (omega arith) p

pub no_clauses : (xs : List Lexeme) (j : ℕ) (k : List Symbol) (us : ClausesPart × Vals k) → same t.Bar (terminal_at xs j) ≡ false → read (lexemes_from xs j) j false (s.Clauses ∷ k) ≡ Some us → us.0.clauses ≡ []
no_clauses xs j k us n g = by_with (same t.WithWord (terminal_at xs j)) refl
  where
    by_with : (b : Bool) → same t.WithWord (terminal_at xs j) ≡ b → us.0.clauses ≡ []
    by_with true e = let p = first_row xs j s.Clauses (row s.Clauses t.WithWord (s.Op ∷ s.Params ∷ s.Take t.Equal ∷ s.Clause ∷ []) (λ i w vs. record { clauses = []; others = new_inductive vs.0 vs.1.0 vs.1.1.1.0 ∷ vs.1.1.1.0.rest.others })) k us (stands xs j t.WithWord e refl) (ap (find (rows s.Clauses)) (sym (same_true t.WithWord (terminal_at xs j) e))) g in ap (λ v. v.0.clauses) (sym p.2)
    by_with false e = ap (λ v. v.clauses) (passes xs j s.Clauses (record { clauses = []; others = [] }) k us refl refl (none_of s.Clauses (t.Bar ∷ t.WithWord ∷ []) (terminal_at xs j) refl (n, (e, tt))) g).0

module _ (xs : List Lexeme) (i : ℕ) (b : Bool) (cs : List Clause) (j : ℕ) where
  pub claused_more : (d : Clause) (m : ℕ) → Clausing xs i b cs j → IsClause xs j d m → Claused xs i b (cs ++ d ∷ []) m
  claused_more d m g r = let p = follow r.is g in again p 1 refl (λ k us. ap (λ v. (clause_part b (clauses_part v us.0.others), us.1)) (sym (append_assoc cs (d ∷ []) us.0.clauses)))

  module _ (g : Claused xs i b cs j) where
    pub bar_start : same t.Bar (terminal_at xs j) ≡ true → Clausing xs i b cs (j + 1)
    bar_start e = let p = expand g t.Bar e refl refl in again p 0 refl (λ k us. refl)

    pub clauses_done : same t.Bar (terminal_at xs j) ≡ false → IsClauses xs i b cs j
    clauses_done n = record {
      last = n;
      is = reread g (λ k. s.Clauses ∷ k) (λ k us. (clause_part b (clauses_part cs us.0.others), us.1)) (λ k us e. (us, e, ap (λ v. (clause_part b (clauses_part v us.0.others), us.1)) (sym (append-nil cs) ∙ ap (λ v. cs ++ v) (sym (no_clauses xs j k us n e)))));
    }

-- inductive predicates
module _ {xs : List Lexeme} {i : ℕ} (c : CanRun xs (λ k. s.Op ∷ s.Params ∷ s.Take t.Equal ∷ s.Clause ∷ k) i) {n : Called} {j : ℕ} (rn : IsRead xs s.Op i n j) where
  pub inductive_params : Begun xs 1 (λ k. s.Op ∷ s.Params ∷ s.Take t.Equal ∷ s.Clause ∷ k) i (λ k. s.Params ∷ s.Take t.Equal ∷ s.Clause ∷ k) (λ k us. (n, us)) j
  inductive_params = let p = next (start c) rn in again p 1 refl (λ k us. refl)

  module _ {ps : List ParamGroup} {m : ℕ} (rp : IsRead xs s.Params j ps m) where
    pub clause_start : Begun xs 1 (λ k. s.Op ∷ s.Params ∷ s.Take t.Equal ∷ s.Clause ∷ k) i (λ k. s.Clause ∷ k) (λ k us. (n, (ps, (name m (token_at xs m).text, us)))) (m + 1)
    clause_start = let p = take (next inductive_params rp) in again p 1 refl (λ k us. refl)

    pub inductive_read : (b : Bool) (cs : List Clause) (q : ℕ) → IsClauses xs (m + 1) b cs q → IsReadInductive xs i (record { name = n; params = ps; bar = b; clauses = cs }) q
    inductive_read b cs q r = let p = follow r.is clause_start in record { equal = name m (token_at xs m).text; last = r.last; is = again p 1 refl (λ k us. refl) }
