-- What follows where the theory of a use or a clone and the elements of a clone are read.
use Rattle.parser.proofs.parse_decls.Common.{◌≡◌, ℕ, ◌+◌, ◌<◌, ◌≤◌, Bool, true, false, zero, suc, List, [], ◌∷◌, ◌++◌, length, Some, None, refl, ap, ◌∙◌, subst, arith, append-nil, Terminal, Symbol, same, same_true, Name, Lexeme, Word, at, SyntaxForm, called, lower, Element, all_axioms, clone_decl, more_decls, prop_element, symbol_element, type_element, use_decl, Dotted, Scoped, scope_own, VarsPart, prop_called, scope_called, axioms_of, axioms_own, cloned, use_part, rows, Vals, row, find, Begun, CanRead, IsRead, terminal_at, token_at, again, begins, done, expand, extended_due, many, missed, next, next_within, none_of, only, pass, start, take, unexpand, begins_symbol, prop_kind, symbol_word_of, IsReadNames}
use Rattle.tokens_why.specs.declared.terminal.Terminal.TheVariants as t
use Rattle.grammar.specs.declared.symbols.Symbol.TheVariants as s
use Rattle.grammar.proofs.reading.Common.{no_false}
use Rattle.parser.proofs.parse_terms.Steps.{apart}
use Rattle.surface.specs.declared.names.Path.{Path}
use Rattle.surface.specs.declared.declarations.Link.TheVariants as lk
use Rattle.surface.specs.declared.declarations.PropKind.TheVariants as pk
use Rattle.parser.proofs.parse_decls.TypesRead.{elvars_many, elvars_on, unpass, variables_read}

-- paths
abbrev pub path_at : ℕ → List Word → Path
path_at i ws = record { at = i; parts = ws }

abbrev pub Paths : List Lexeme → ℕ → List Word → ℕ → Type 0
Paths xs i ws j = Begun xs 0 (λ k. s.Path ∷ k) i (λ k. s.Path ∷ k) (λ k us. (path_at i (ws ++ us.0.parts), us.1)) j

pub path_start : {xs : List Lexeme} {i : ℕ} → CanRead xs s.Path i → Paths xs i [] i
path_start {xs} {i} c = by_lower (same t.Lident (terminal_at xs i)) refl
  where
    by_lower : (b : Bool) → same t.Lident (terminal_at xs i) ≡ b → Paths xs i [] i
    by_lower true e = unexpand s.Path (λ k. k) (λ k us. (path_at i us.0.parts, us.1)) i t.Lident e refl refl (omega arith) (expand (start c) t.Lident e refl refl)
    by_lower false e = let u = only (start c) t.Uident (t.Lident ∷ []) refl refl (e, tt) in unexpand s.Path (λ k. k) (λ k us. (path_at i us.0.parts, us.1)) i t.Uident u refl refl (omega arith) (expand (start c) t.Uident u refl refl)

module _ (xs : List Lexeme) (i : ℕ) (ws : List Word) (j : ℕ) (g : Paths xs i ws j) where
  pub path_within : j < length xs
  path_within = next_within g refl

  pub path_dot : same t.Lident (terminal_at xs j) ≡ true → Begun xs 1 (λ k. s.Path ∷ k) i (λ k. s.Take t.Dot ∷ s.Path ∷ k) (λ k us. (path_at i (ws ++ ((token_at xs j).text ∷ us.1.0.parts)), us.1.1)) (j + 1)
  path_dot e = expand g t.Lident e refl refl

  pub path_last : same t.Lident (terminal_at xs j) ≡ false → same t.Uident (terminal_at xs j) ≡ true
  path_last n = only g t.Uident (t.Lident ∷ []) refl refl (n, tt)

-- the name after `as`
module _ {xs : List Lexeme} {i : ℕ} (c : CanRead xs s.Renamed i) where
  module _ (e : same t.AsWord (terminal_at xs i) ≡ true) where
    pub as_read : Begun xs 1 (λ k. s.Renamed ∷ k) i (λ k. s.Take t.Uident ∷ k) (λ k us. (Some us.0, us.1)) (i + 1)
    as_read = expand (start c) t.AsWord e refl refl

-- the theory of a use
module _ {xs : List Lexeme} {i : ℕ} (c : CanRead xs s.Used i) where
  module _ (e : same t.ExportWord (terminal_at xs i) ≡ true) where
    pub exported : Begun xs 1 (λ k. s.Used ∷ k) i (λ k. s.Path ∷ k) (λ k us. (use_part lk.Export us.0 None, us.1)) (i + 1)
    exported = expand (start c) t.ExportWord e refl refl

  module _ (e : same t.ImportWord (terminal_at xs i) ≡ true) where
    pub imported : Begun xs 1 (λ k. s.Used ∷ k) i (λ k. s.Path ∷ s.Renamed ∷ k) (λ k us. (use_part lk.Import us.0 us.1.0, us.1.1)) (i + 1)
    imported = expand (start c) t.ImportWord e refl refl

  module _ (x : same t.ExportWord (terminal_at xs i) ≡ false) (y : same t.ImportWord (terminal_at xs i) ≡ false) where
    pub bare : Begun xs 0 (λ k. s.Used ∷ k) i (λ k. s.Path ∷ s.Renamed ∷ k) (λ k us. (use_part lk.Bare us.0 us.1.0, us.1.1)) i
    bare = by_lower (same t.Lident (terminal_at xs i)) refl
      where
        by_lower : (b : Bool) → same t.Lident (terminal_at xs i) ≡ b → Begun xs 0 (λ k. s.Used ∷ k) i (λ k. s.Path ∷ s.Renamed ∷ k) (λ k us. (use_part lk.Bare us.0 us.1.0, us.1.1)) i
        by_lower true e = unexpand s.Path (λ k. s.Renamed ∷ k) (λ k us. (use_part lk.Bare us.0 us.1.0, us.1.1)) i t.Lident e refl refl (omega arith) (expand (start c) t.Lident e refl refl)
        by_lower false e = let u = only (start c) t.Uident (t.ExportWord ∷ t.ImportWord ∷ t.Lident ∷ []) refl refl (x, (y, (e, tt))) in unexpand s.Path (λ k. s.Renamed ∷ k) (λ k us. (use_part lk.Bare us.0 us.1.0, us.1.1)) i t.Uident u refl refl (omega arith) (expand (start c) t.Uident u refl refl)

-- what comes after `clone` is what comes after `use`, and then elements
cloned_used : {xs : List Lexeme} {n : ℕ} {from : List Symbol → List Symbol} {i : ℕ} {K : List Symbol → List Symbol} {act : (k : List Symbol) → Vals (s.Cloned ∷ K k) → Vals (from k)} {j : ℕ} → Begun xs n from i (λ k. s.Cloned ∷ K k) act j → Begun xs 0 from i (λ k. s.Used ∷ s.Subst ∷ K k) (λ k us. act k (cloned us.0 us.1.0, us.1.1)) j
cloned_used {xs} {n} {from} {i} {K} {act} {j} g = by_export (same t.ExportWord (terminal_at xs j)) refl
  where
    ahead_of : i ≤ j
    ahead_of = let l = g.ahead in omega arith

    by_lower : (b : Bool) → same t.ExportWord (terminal_at xs j) ≡ false → same t.ImportWord (terminal_at xs j) ≡ false → same t.Lident (terminal_at xs j) ≡ b → Begun xs 0 from i (λ k. s.Used ∷ s.Subst ∷ K k) (λ k us. act k (cloned us.0 us.1.0, us.1.1)) j
    by_lower true x y e = unexpand s.Used (λ k. s.Subst ∷ K k) (λ k us. act k (cloned us.0 us.1.0, us.1.1)) j t.Lident e refl refl ahead_of (expand g t.Lident e refl refl)
    by_lower false x y e = let u = only g t.Uident (t.ExportWord ∷ t.ImportWord ∷ t.Lident ∷ []) refl refl (x, (y, (e, tt))) in unexpand s.Used (λ k. s.Subst ∷ K k) (λ k us. act k (cloned us.0 us.1.0, us.1.1)) j t.Uident u refl refl ahead_of (expand g t.Uident u refl refl)

    by_import : (b : Bool) → same t.ExportWord (terminal_at xs j) ≡ false → same t.ImportWord (terminal_at xs j) ≡ b → Begun xs 0 from i (λ k. s.Used ∷ s.Subst ∷ K k) (λ k us. act k (cloned us.0 us.1.0, us.1.1)) j
    by_import true x e = unexpand s.Used (λ k. s.Subst ∷ K k) (λ k us. act k (cloned us.0 us.1.0, us.1.1)) j t.ImportWord e refl refl ahead_of (expand g t.ImportWord e refl refl)
    by_import false x e = by_lower (same t.Lident (terminal_at xs j)) x e refl

    by_export : (b : Bool) → same t.ExportWord (terminal_at xs j) ≡ b → Begun xs 0 from i (λ k. s.Used ∷ s.Subst ∷ K k) (λ k us. act k (cloned us.0 us.1.0, us.1.1)) j
    by_export true e = unexpand s.Used (λ k. s.Subst ∷ K k) (λ k us. act k (cloned us.0 us.1.0, us.1.1)) j t.ExportWord e refl refl ahead_of (expand g t.ExportWord e refl refl)
    by_export false e = by_import (same t.ImportWord (terminal_at xs j)) e refl

-- Names after scopes are read as names of terms.
pub qop_head : {xs : List Lexeme} {m : ℕ} {from : List Symbol → List Symbol} {i : ℕ} {K : List Symbol → List Symbol} (n : ℕ) {act : (k : List Symbol) → Vals (s.Qop ∷ K k) → Vals (from k)} {j : ℕ} → length xs ≤ j + n → Begun xs m from i (λ k. s.Qop ∷ K k) act j → Begun xs 0 from i (λ k. s.Qhead ∷ K k) (λ k us. act k (called j us.0.scopes us.0.own, us.1)) j
qop_head {xs} {m} {from} {i} {K} zero {act} {j} l g = let h = next_within g refl in absurd (omega arith)
qop_head {xs} {m} {from} {i} {K} (suc n) {act} {j} l g = by_upper (same t.Uident (terminal_at xs j)) refl (λ u. qop_head {xs = xs} {m = 1} {from = from} {i = i} {K = K} n {act = λ k us. act k (scope_called j (token_at xs j).text us.0, us.1)} {j = j + 1 + 1} (omega (arith, l)) (take (dotted u)))
  where
    ahead_of : i ≤ j
    ahead_of = let a = g.ahead in omega arith

    dotted : same t.Uident (terminal_at xs j) ≡ true → Begun xs 1 from i (λ k. s.Take t.Dot ∷ s.Qop ∷ K k) (λ k us. act k (scope_called j (token_at xs j).text us.1.0, us.1.1)) (j + 1)
    dotted u = expand g t.Uident u refl refl

    by_star : (b : Bool) → same t.Uident (terminal_at xs j) ≡ false → same t.Lident (terminal_at xs j) ≡ false → same t.StarName (terminal_at xs j) ≡ b → Begun xs 0 from i (λ k. s.Qhead ∷ K k) (λ k us. act k (called j us.0.scopes us.0.own, us.1)) j
    by_star true u o e = unexpand s.Qhead K (λ k us. act k (called j us.0.scopes us.0.own, us.1)) j t.StarName e refl refl ahead_of (expand g t.StarName e refl refl)
    by_star false u o e = let p = only g t.LParen (t.Uident ∷ t.Lident ∷ t.StarName ∷ []) refl refl (u, (o, (e, tt))) in unexpand s.Qhead K (λ k us. act k (called j us.0.scopes us.0.own, us.1)) j t.LParen p refl refl ahead_of (expand g t.LParen p refl refl)

    by_lower : (b : Bool) → same t.Uident (terminal_at xs j) ≡ false → same t.Lident (terminal_at xs j) ≡ b → Begun xs 0 from i (λ k. s.Qhead ∷ K k) (λ k us. act k (called j us.0.scopes us.0.own, us.1)) j
    by_lower true u e = unexpand s.Qhead K (λ k us. act k (called j us.0.scopes us.0.own, us.1)) j t.Lident e refl refl ahead_of (expand g t.Lident e refl refl)
    by_lower false u e = by_star (same t.StarName (terminal_at xs j)) u e refl

    by_upper : (b : Bool) → same t.Uident (terminal_at xs j) ≡ b → (same t.Uident (terminal_at xs j) ≡ true → Begun xs 0 from i (λ k. s.Qhead ∷ K k) (λ k us. act k (called j ((token_at xs j).text ∷ us.0.scopes) us.0.own, us.1)) (j + 1 + 1)) → Begun xs 0 from i (λ k. s.Qhead ∷ K k) (λ k us. act k (called j us.0.scopes us.0.own, us.1)) j
    by_upper true u f = let d = only (dotted u) t.Dot [] refl refl tt in let a = ahead_of in
        unexpand s.Qhead K (λ k us. act k (called j us.0.scopes us.0.own, us.1)) j t.Uident u refl refl a
        (unexpand s.Scoped K (λ k us. act k (called j (scope_own (token_at xs j).text us.0).scopes (scope_own (token_at xs j).text us.0).own, us.1)) (j + 1) t.Dot d refl refl (omega arith) (f u))
    by_upper false u f = by_lower (same t.Lident (terminal_at xs j)) u refl

pub qid_head : {xs : List Lexeme} {m : ℕ} {from : List Symbol → List Symbol} {i : ℕ} {K : List Symbol → List Symbol} (n : ℕ) {act : (k : List Symbol) → Vals (s.Qid ∷ K k) → Vals (from k)} {j : ℕ} → length xs ≤ j + n → Begun xs m from i (λ k. s.Qid ∷ K k) act j → Begun xs 0 from i (λ k. s.Qhead ∷ K k) (λ k us. act k (called j us.0.scopes us.0.own, us.1)) j
qid_head {xs} {m} {from} {i} {K} zero {act} {j} l g = let h = next_within g refl in absurd (omega arith)
qid_head {xs} {m} {from} {i} {K} (suc n) {act} {j} l g = by_lower (same t.Lident (terminal_at xs j)) refl (λ u d. qid_head {xs = xs} {m = 1} {from = from} {i = i} {K = K} n {act = λ k us. act k (scope_called j (token_at xs j).text us.0, us.1)} {j = j + 1 + 1} (omega (arith, l)) (expand (upper u) t.Dot d refl refl))
  where
    ahead_of : i ≤ j
    ahead_of = let a = g.ahead in omega arith

    upper : same t.Uident (terminal_at xs j) ≡ true → Begun xs 1 from i (λ k. s.Qids ∷ K k) (λ k us. act k (prop_called j (token_at xs j).text us.0, us.1)) (j + 1)
    upper u = expand g t.Uident u refl refl

    by_dot : (b : Bool) → same t.Dot (terminal_at xs (j + 1)) ≡ b → (u : same t.Uident (terminal_at xs j) ≡ true) → (same t.Uident (terminal_at xs j) ≡ true → same t.Dot (terminal_at xs (j + 1)) ≡ true → Begun xs 0 from i (λ k. s.Qhead ∷ K k) (λ k us. act k (called j ((token_at xs j).text ∷ us.0.scopes) us.0.own, us.1)) (j + 1 + 1)) → Begun xs 0 from i (λ k. s.Scoped ∷ K k) (λ k us. act k (called j (scope_own (token_at xs j).text us.0).scopes (scope_own (token_at xs j).text us.0).own, us.1)) (j + 1)
    by_dot true d u f = let a = ahead_of in unexpand s.Scoped K (λ k us. act k (called j (scope_own (token_at xs j).text us.0).scopes (scope_own (token_at xs j).text us.0).own, us.1)) (j + 1) t.Dot d refl refl (omega arith) (f u d)
    by_dot false d u f = unpass s.Scoped None K (λ k us. act k (called j (scope_own (token_at xs j).text us.0).scopes (scope_own (token_at xs j).text us.0).own, us.1)) refl refl (none_of s.Scoped (t.Dot ∷ []) (terminal_at xs (j + 1)) refl (d, tt))
        (again (pass (upper u) refl refl (none_of s.Qids (t.Dot ∷ []) (terminal_at xs (j + 1)) refl (d, tt))) 0 refl (λ k us. refl))

    by_lower : (b : Bool) → same t.Lident (terminal_at xs j) ≡ b → (same t.Uident (terminal_at xs j) ≡ true → same t.Dot (terminal_at xs (j + 1)) ≡ true → Begun xs 0 from i (λ k. s.Qhead ∷ K k) (λ k us. act k (called j ((token_at xs j).text ∷ us.0.scopes) us.0.own, us.1)) (j + 1 + 1)) → Begun xs 0 from i (λ k. s.Qhead ∷ K k) (λ k us. act k (called j us.0.scopes us.0.own, us.1)) j
    by_lower true e f = unexpand s.Qhead K (λ k us. act k (called j us.0.scopes us.0.own, us.1)) j t.Lident e refl refl ahead_of (expand g t.Lident e refl refl)
    by_lower false e f = let u = only g t.Uident (t.Lident ∷ []) refl refl (e, tt) in
        unexpand s.Qhead K (λ k us. act k (called j us.0.scopes us.0.own, us.1)) j t.Uident u refl refl ahead_of (by_dot (same t.Dot (terminal_at xs (j + 1))) refl u f)

enough : (n j : ℕ) → n ≤ j + n
enough n j = omega arith

-- an element that is a type
module _ {xs : List Lexeme} {i : ℕ} (c : CanRead xs s.Elem i) where
  module _ (e : same t.TypeWord (terminal_at xs i) ≡ true) where
    pub type_start : Begun xs 1 (λ k. s.Elem ∷ k) i (λ k. s.Qlid ∷ s.Elvars ∷ k) (λ k us. (type_element i (called (i + 1) us.0.scopes (lower us.0.last)) us.1.0.vars us.1.0.type, us.1.1)) (i + 1)
    type_start = expand (start c) t.TypeWord e refl refl

    module _ (d : Dotted) (j : ℕ) (r : IsRead xs s.Qlid (i + 1) d j) (ns : List Name) (m : ℕ) (h : IsReadNames xs j ns m) where
      type_vars : Begun xs 1 (λ k. s.Elem ∷ k) i (λ k. s.Elvars ∷ k) (λ k us. (type_element i (called (i + 1) d.scopes (lower d.last)) (many elvars_on ns us.0).vars (many elvars_on ns us.0).type, us.1)) m
      type_vars = variables_read s.Elvars elvars_on refl 1 refl ns h.names refl (next type_start r)

      pub type_sign : same t.Equal (terminal_at xs m) ≡ true
      type_sign = only type_vars t.Equal (t.TyVar ∷ []) refl refl (h.ends, tt)

      pub type_equal : Begun xs 1 (λ k. s.Elem ∷ k) i (λ k. s.TypeOf ∷ k) (λ k us. (type_element i (called (i + 1) d.scopes (lower d.last)) ns us.0, us.1)) (m + 1)
      type_equal = again (expand type_vars t.Equal type_sign refl refl) 1 refl (λ k us. ap (λ v. (type_element i (called (i + 1) d.scopes (lower d.last)) v.vars v.type, us.1)) (elvars_many ns (no_vars us.0)) ∙ ap (λ v. (type_element i (called (i + 1) d.scopes (lower d.last)) v us.0, us.1)) (append-nil ns))
        where
          no_vars : SyntaxForm → VarsPart
          no_vars f = record { vars = []; type = f }

  -- an element that is a symbol
  module _ (b : begins_symbol (terminal_at xs i) ≡ true) where
    symbol_start : Begun xs 1 (λ k. s.Elem ∷ k) i (λ k. s.Qop ∷ s.Take t.Equal ∷ s.Qop ∷ k) (λ k us. (symbol_element i (symbol_word_of (terminal_at xs i)) us.0 us.1.1.0, us.1.1.1)) (i + 1)
    symbol_start = by_function (same t.FunctionWord (terminal_at xs i)) refl
      where
        stands_so : (y : Terminal) → same y (terminal_at xs i) ≡ true → y ≡ terminal_at xs i
        stands_so y e = same_true y (terminal_at xs i) e

        left_one : (x : Terminal) → begins_symbol x ≡ true → same t.FunctionWord x ≡ false → same t.ConstantWord x ≡ false → same t.PredicateWord x ≡ true
        left_one t.FunctionWord h f n = cc
        left_one t.ConstantWord h f n = cc
        left_one t.PredicateWord h f n = refl
        left_one _ h f n = absurd (no_false h)

        by_constant : (a : Bool) → same t.FunctionWord (terminal_at xs i) ≡ false → same t.ConstantWord (terminal_at xs i) ≡ a → Begun xs 1 (λ k. s.Elem ∷ k) i (λ k. s.Qop ∷ s.Take t.Equal ∷ s.Qop ∷ k) (λ k us. (symbol_element i (symbol_word_of (terminal_at xs i)) us.0 us.1.1.0, us.1.1.1)) (i + 1)
        by_constant true f e = again (expand (start c) t.ConstantWord e refl refl) 1 refl (λ k us. ap (λ v. (symbol_element i (symbol_word_of v) us.0 us.1.1.0, us.1.1.1)) (stands_so t.ConstantWord e))
        by_constant false f e = let p = left_one (terminal_at xs i) b f e in again (expand (start c) t.PredicateWord p refl refl) 1 refl (λ k us. ap (λ v. (symbol_element i (symbol_word_of v) us.0 us.1.1.0, us.1.1.1)) (stands_so t.PredicateWord p))

        by_function : (a : Bool) → same t.FunctionWord (terminal_at xs i) ≡ a → Begun xs 1 (λ k. s.Elem ∷ k) i (λ k. s.Qop ∷ s.Take t.Equal ∷ s.Qop ∷ k) (λ k us. (symbol_element i (symbol_word_of (terminal_at xs i)) us.0 us.1.1.0, us.1.1.1)) (i + 1)
        by_function true e = again (expand (start c) t.FunctionWord e refl refl) 1 refl (λ k us. ap (λ v. (symbol_element i (symbol_word_of v) us.0 us.1.1.0, us.1.1.1)) (stands_so t.FunctionWord e))
        by_function false e = by_constant (same t.ConstantWord (terminal_at xs i)) e refl

    pub replaced_start : Begun xs 0 (λ k. s.Elem ∷ k) i (λ k. s.Qhead ∷ s.Take t.Equal ∷ s.Qop ∷ k) (λ k us. (symbol_element i (symbol_word_of (terminal_at xs i)) (called (i + 1) us.0.scopes us.0.own) us.1.1.0, us.1.1.1)) (i + 1)
    replaced_start = qop_head (length xs) (enough (length xs) (i + 1)) symbol_start

    module _ (d : Scoped) (j : ℕ) (r : IsRead xs s.Qhead (i + 1) d j) where
      pub by_start : Begun xs 0 (λ k. s.Elem ∷ k) i (λ k. s.Qhead ∷ k) (λ k us. (symbol_element i (symbol_word_of (terminal_at xs i)) (called (i + 1) d.scopes d.own) (called (j + 1) us.0.scopes us.0.own), us.1)) (j + 1)
      by_start = qop_head (length xs) (enough (length xs) (j + 1)) (take (next replaced_start r))

  -- an element that is a proposition, or all axioms
  module _ (ty : same t.TypeWord (terminal_at xs i) ≡ false) (sy : begins_symbol (terminal_at xs i) ≡ false) where
    axiom_left : same t.LemmaWord (terminal_at xs i) ≡ false → same t.GoalWord (terminal_at xs i) ≡ false → same t.AxiomWord (terminal_at xs i) ≡ true
    axiom_left l o = only (start c) t.AxiomWord (t.TypeWord ∷ t.FunctionWord ∷ t.ConstantWord ∷ t.PredicateWord ∷ t.LemmaWord ∷ t.GoalWord ∷ []) refl refl (ty, (differs_from t.FunctionWord refl, (differs_from t.ConstantWord refl, (differs_from t.PredicateWord refl, (l, (o, tt))))))
      where
        differs_from : (y : Terminal) → begins_symbol y ≡ true → same y (terminal_at xs i) ≡ false
        differs_from y h = apart begins_symbol y (terminal_at xs i) h sy

    axiom_start : same t.AxiomWord (terminal_at xs i) ≡ true → Begun xs 1 (λ k. s.Elem ∷ k) i (λ k. s.Axioms ∷ k) (λ k us. (axioms_of i us.0, us.1)) (i + 1)
    axiom_start e = expand (start c) t.AxiomWord e refl refl

    lemma_start : same t.LemmaWord (terminal_at xs i) ≡ true → Begun xs 1 (λ k. s.Elem ∷ k) i (λ k. s.Qid ∷ k) (λ k us. (prop_element i pk.Lemma us.0, us.1)) (i + 1)
    lemma_start e = expand (start c) t.LemmaWord e refl refl

    goal_start : same t.GoalWord (terminal_at xs i) ≡ true → Begun xs 1 (λ k. s.Elem ∷ k) i (λ k. s.Qid ∷ k) (λ k us. (prop_element i pk.Goal us.0, us.1)) (i + 1)
    goal_start e = expand (start c) t.GoalWord e refl refl

    no_dot : (x : Terminal) → same t.Dot x ≡ true → find (rows s.Qid) x ≡ None
    no_dot x d = subst (λ y. find (rows s.Qid) y ≡ None) (same_true t.Dot x d) refl

    pub all_read : same t.Dot (terminal_at xs (i + 1)) ≡ true → IsRead xs s.Elem i (all_axioms i) (i + 1 + 1)
    all_read d = by_lemma (same t.LemmaWord (terminal_at xs i)) refl
      where
        by_goal : (b : Bool) → same t.LemmaWord (terminal_at xs i) ≡ false → same t.GoalWord (terminal_at xs i) ≡ b → IsRead xs s.Elem i (all_axioms i) (i + 1 + 1)
        by_goal true l e = absurd (begins (goal_start e) refl (no_dot (terminal_at xs (i + 1)) d))
        by_goal false l e = done (expand (axiom_start (axiom_left l e)) t.Dot d refl refl) (all_axioms i) refl (λ k us. refl)

        by_lemma : (b : Bool) → same t.LemmaWord (terminal_at xs i) ≡ b → IsRead xs s.Elem i (all_axioms i) (i + 1 + 1)
        by_lemma true e = absurd (begins (lemma_start e) refl (no_dot (terminal_at xs (i + 1)) d))
        by_lemma false e = by_goal (same t.GoalWord (terminal_at xs i)) e refl

    module _ (d : same t.Dot (terminal_at xs (i + 1)) ≡ false) where
      prop_id : Begun xs 0 (λ k. s.Elem ∷ k) i (λ k. s.Qid ∷ k) (λ k us. (prop_element i (prop_kind (terminal_at xs i)) us.0, us.1)) (i + 1)
      prop_id = by_lemma (same t.LemmaWord (terminal_at xs i)) refl
        where
          by_goal : (b : Bool) → same t.LemmaWord (terminal_at xs i) ≡ false → same t.GoalWord (terminal_at xs i) ≡ b → Begun xs 0 (λ k. s.Elem ∷ k) i (λ k. s.Qid ∷ k) (λ k us. (prop_element i (prop_kind (terminal_at xs i)) us.0, us.1)) (i + 1)
          by_goal true l e = again (goal_start e) 0 refl (λ k us. ap (λ v. (prop_element i (prop_kind v) us.0, us.1)) (same_true t.GoalWord (terminal_at xs i) e))
          by_goal false l e = let x = axiom_left l e in again (extended_due (axiom_start x) s.Qid [] (λ v vs. Some v) axioms_own refl refl (missed (row s.Axioms t.Dot [] (λ i w vs. None)) [] (terminal_at xs (i + 1)) d refl)) 0 refl (λ k us. ap (λ v. (prop_element i (prop_kind v) us.0, us.1)) (same_true t.AxiomWord (terminal_at xs i) x))

          by_lemma : (b : Bool) → same t.LemmaWord (terminal_at xs i) ≡ b → Begun xs 0 (λ k. s.Elem ∷ k) i (λ k. s.Qid ∷ k) (λ k us. (prop_element i (prop_kind (terminal_at xs i)) us.0, us.1)) (i + 1)
          by_lemma true e = again (lemma_start e) 0 refl (λ k us. ap (λ v. (prop_element i (prop_kind v) us.0, us.1)) (same_true t.LemmaWord (terminal_at xs i) e))
          by_lemma false e = by_goal (same t.GoalWord (terminal_at xs i)) e refl

      pub prop_start : Begun xs 0 (λ k. s.Elem ∷ k) i (λ k. s.Qhead ∷ k) (λ k us. (prop_element i (prop_kind (terminal_at xs i)) (called (i + 1) us.0.scopes us.0.own), us.1)) (i + 1)
      prop_start = qid_head (length xs) (enough (length xs) (i + 1)) prop_id

-- elements with commas between them
abbrev pub Elements : List Lexeme → ℕ → List Element → ℕ → Type 0
Elements xs i es j = Begun xs 1 (λ k. s.Subst ∷ k) i (λ k. s.Elems ∷ k) (λ k us. (es ++ us.0, us.1)) j

module _ {xs : List Lexeme} {i : ℕ} (c : CanRead xs s.Subst i) where
  pub elements_with : same t.WithWord (terminal_at xs i) ≡ true → Begun xs 1 (λ k. s.Subst ∷ k) i (λ k. s.Elem ∷ s.Elems ∷ k) (λ k us. (us.0 ∷ us.1.0, us.1.1)) (i + 1)
  elements_with e = expand (start c) t.WithWord e refl refl

-- the declarations
module _ {xs : List Lexeme} {i : ℕ} (c : CanRead xs s.Decls i) where
  module _ (e : same t.UseWord (terminal_at xs i) ≡ true) where
    pub use_start : Begun xs 1 (λ k. s.Decls ∷ k) i (λ k. s.Used ∷ s.Decls ∷ k) (λ k us. (more_decls (use_decl (at i) us.0.link us.0.path us.0.name) us.1.0, us.1.1)) (i + 1)
    use_start = expand (start c) t.UseWord e refl refl

  module _ (e : same t.CloneWord (terminal_at xs i) ≡ true) where
    clone_start : Begun xs 1 (λ k. s.Decls ∷ k) i (λ k. s.Cloned ∷ s.Decls ∷ k) (λ k us. (more_decls (clone_decl (at i) us.0.used.link us.0.used.path us.0.used.name us.0.elements) us.1.0, us.1.1)) (i + 1)
    clone_start = expand (start c) t.CloneWord e refl refl

    pub clone_used : Begun xs 0 (λ k. s.Decls ∷ k) i (λ k. s.Used ∷ s.Subst ∷ s.Decls ∷ k) (λ k us. (more_decls (clone_decl (at i) us.0.link us.0.path us.0.name us.1.0) us.1.1.0, us.1.1.1)) (i + 1)
    clone_used = cloned_used clone_start
