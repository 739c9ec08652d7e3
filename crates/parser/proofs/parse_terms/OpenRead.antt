-- What follows where open forms are read: conditionals, bindings and quantifiers.
use Rattle.parser.proofs.parse_terms.Common.{◌≡◌, ℕ, ◌+◌, Bool, true, false, nat_le, List, [], ◌∷◌, ◌++◌, Some, None, refl, sym, ap, ◌∙◌, append_assoc, append-nil, same, Name, Lexeme, at, name, SyntaxForm, more_forms, TypedBinder, SyntaxTree, SyntaxTrees, SyntaxTrigger, binding, binds, choice, more, quantified, quantifier, triggered, forms, trees, BinderPart, BoundPart, row, binder_own, find, expr_if, expr_let, expr_quantifier, Begun, CanRead, Climb, IsExpr, IsRead, terminal_at, token_at, IsBinder, IsReadTrigger}
use Rattle.tokens_why.specs.declared.terminal.Terminal.TheVariants as t
use Rattle.grammar.specs.declared.symbols.Symbol.TheVariants as s
use Rattle.grammar.specs.reading.Parts.{binder_with}
use Rattle.parser.proofs.parse_terms.Steps.{again, expand, extended_due, follow, many, many_more, missed, next, next_expr, only, start, take}
use Rattle.parser.proofs.parse_terms.TermSteps.{sealed_expr, trees_many}
use Rattle.parser.proofs.parse_terms.FormsRead.{forms_many}

-- conditionals
module _ {xs : List Lexeme} {m i : ℕ} (c : CanRead xs (s.Expr m) i) (e : same t.IfWord (terminal_at xs i) ≡ true) where
  pub if_start : Begun xs 1 (λ k. s.Expr m ∷ k) i (λ k. s.Expr 0 ∷ s.Take t.ThenWord ∷ s.Expr 0 ∷ s.Take t.ElseWord ∷ s.Expr 0 ∷ s.Seal ∷ k) (λ k us. (choice (at i) us.0 us.1.1.0 us.1.1.1.1.0, us.1.1.1.1.1.1)) (i + 1)
  if_start = let p = expand (start c) t.IfWord e refl (expr_if m (nat_le m 3)) in again p 1 refl (λ k us. refl)

  module _ {a : SyntaxTree} {j : ℕ} (ra : IsExpr xs 0 (i + 1) a j) where
    pub then_start : Begun xs 1 (λ k. s.Expr m ∷ k) i (λ k. s.Expr 0 ∷ s.Take t.ElseWord ∷ s.Expr 0 ∷ s.Seal ∷ k) (λ k us. (choice (at i) a us.0 us.1.1.0, us.1.1.1.1)) (j + 1)
    then_start = take (next_expr if_start refl ra)

    module _ {b : SyntaxTree} {n : ℕ} (rb : IsExpr xs 0 (j + 1) b n) where
      pub else_start : Begun xs 1 (λ k. s.Expr m ∷ k) i (λ k. s.Expr 0 ∷ s.Seal ∷ k) (λ k us. (choice (at i) a b us.0, us.1.1)) (n + 1)
      else_start = take (next_expr then_start refl rb)

      pub if_read : {d : SyntaxTree} {q : ℕ} → IsExpr xs 0 (n + 1) d q → Climb xs m i (choice (at i) a b d) 0 q
      if_read {d} {q} rd = sealed_expr else_start rd (choice (at i) a b d) (λ k us. refl) refl refl

-- bindings
abbrev pub Bound : List Lexeme → ℕ → ℕ → List SyntaxForm → ℕ → Type 0
Bound xs m i fs j = Begun xs 1 (λ k. s.Expr m ∷ k) i (λ k. s.Letpats ∷ k) (λ k us. (binding (at i) (many more_forms fs us.0.patterns) us.0.value us.0.body, us.1)) j

module _ {xs : List Lexeme} {m i : ℕ} (c : CanRead xs (s.Expr m) i) (e : same t.LetWord (terminal_at xs i) ≡ true) where
  pub let_start : Begun xs 1 (λ k. s.Expr m ∷ k) i (λ k. s.Pat ∷ s.Letpats ∷ k) (λ k us. (binding (at i) (more_forms us.0 us.1.0.patterns) us.1.0.value us.1.0.body, us.1.1)) (i + 1)
  let_start = let p = expand (start c) t.LetWord e refl (expr_let m (nat_le m 3)) in again p 1 refl (λ k us. refl)

module _ (xs : List Lexeme) (m i : ℕ) (fs : List SyntaxForm) (j : ℕ) (g : Bound xs m i fs j) where
  module _ (n : same t.Comma (terminal_at xs j) ≡ false) where
    pub value_start : Begun xs 1 (λ k. s.Expr m ∷ k) i (λ k. s.Expr 0 ∷ s.Take t.InWord ∷ s.Expr 0 ∷ s.Seal ∷ k) (λ k us. (binding (at i) (forms fs) us.0 us.1.1.0, us.1.1.1.1)) (j + 1)
    value_start = let p = expand g t.Equal (only g t.Equal (t.Comma ∷ []) refl refl (n, tt)) refl refl in again p 1 refl (λ k us. ap (λ v. (binding (at i) v us.0 us.1.1.0, us.1.1.1.1)) (forms_many fs))

    module _ {a : SyntaxTree} {q : ℕ} (ra : IsExpr xs 0 (j + 1) a q) where
      pub body_start : Begun xs 1 (λ k. s.Expr m ∷ k) i (λ k. s.Expr 0 ∷ s.Seal ∷ k) (λ k us. (binding (at i) (forms fs) a us.0, us.1.1)) (q + 1)
      body_start = take (next_expr value_start refl ra)

      pub let_read : {b : SyntaxTree} {r : ℕ} → IsExpr xs 0 (q + 1) b r → Climb xs m i (binding (at i) (forms fs) a b) 0 r
      let_read {b} {r} rb = sealed_expr body_start rb (binding (at i) (forms fs) a b) (λ k us. refl) refl refl

-- binders
abbrev pub Naming : List Lexeme → ℕ → Name → List Name → ℕ → Type 0
Naming xs i n ns j = Begun xs 1 (λ k. s.Take t.Lident ∷ s.Binder ∷ k) i (λ k. s.Binder ∷ k) (λ k us. (n, (record { names = ns ++ us.0.names; of_type = us.0.of_type; bound = us.0.bound }, us.1))) j

module _ (xs : List Lexeme) (i : ℕ) (n : Name) (ns : List Name) (j : ℕ) (g : Naming xs i n ns j) where
  pub naming_more : same t.Lident (terminal_at xs j) ≡ true → Naming xs i n (ns ++ name j (token_at xs j).text ∷ []) (j + 1)
  naming_more l = let p = expand g t.Lident l refl refl in again p 1 refl (λ k us. ap (λ v. (n, (part us.0 v, us.1))) (sym (append_assoc ns (name j (token_at xs j).text ∷ []) us.0.names)))
    where
      part : BinderPart → List Name → BinderPart
      part b vs = record { names = vs; of_type = b.of_type; bound = b.bound }

  pub typed_binder : (f : SyntaxForm) (q : ℕ) → same t.Colon (terminal_at xs j) ≡ true → IsRead xs s.TypeOf (j + 1) f q → IsBinder xs i (binds (n ∷ ns) (Some f)) q
  typed_binder f q l r = let p = expand g t.Colon l refl refl in let w = next p r in record {
    first = n;
    others = ns;
    of_type = Some f;
    spelled = refl;
    is = again w 1 refl (λ k us. ap (λ v. (n, (part us.0 v, us.1))) (append-nil ns));
  }
    where
      part : BoundPart → List Name → BinderPart
      part b vs = record { names = vs; of_type = Some f; bound = b }

  pub untyped_binder : same t.Lident (terminal_at xs j) ≡ false → same t.Colon (terminal_at xs j) ≡ false → IsBinder xs i (binds (n ∷ ns) None) j
  untyped_binder l o = let p = extended_due g s.Binders [] (λ v vs. record { names = []; of_type = None; bound = v }) binder_own refl refl (none_own l o) in record {
    first = n;
    others = ns;
    of_type = None;
    spelled = refl;
    is = again p 1 refl (λ k us. ap (λ v. (n, (part us.0 v, us.1))) (append-nil ns));
  }
    where
      part : BoundPart → List Name → BinderPart
      part b vs = record { names = vs; of_type = None; bound = b }

      none_own : same t.Lident (terminal_at xs j) ≡ false → same t.Colon (terminal_at xs j) ≡ false → find binder_own (terminal_at xs j) ≡ None
      none_own l o = missed (row s.Binder t.Lident (s.Binder ∷ []) (λ i w vs. record { names = name i w ∷ vs.0.names; of_type = vs.0.of_type; bound = vs.0.bound })) (row s.Binder t.Colon (s.TypeOf ∷ s.Binders ∷ []) (λ i w vs. record { names = []; of_type = Some vs.0; bound = vs.1.0 }) ∷ []) (terminal_at xs j) l (missed (row s.Binder t.Colon (s.TypeOf ∷ s.Binders ∷ []) (λ i w vs. record { names = []; of_type = Some vs.0; bound = vs.1.0 })) [] (terminal_at xs j) o refl)

-- quantifiers
abbrev pub Quantified : List Lexeme → ℕ → ℕ → Bool → List TypedBinder → ℕ → Type 0
Quantified xs m i all bs j = Begun xs 1 (λ k. s.Expr m ∷ k) i (λ k. s.Binders ∷ k) (λ k us. (quantified (at i) all (bs ++ us.0.others) us.0.trigger us.0.body, us.1)) j

module _ {xs : List Lexeme} {m i : ℕ} (c : CanRead xs (s.Expr m) i) (all : Bool) (e : same (quantifier all) (terminal_at xs i) ≡ true) where
  quantifier_some : (b : Bool) → same (quantifier b) t.OtherWord ≡ false
  quantifier_some true = refl
  quantifier_some false = refl

  pub quantified_start : Begun xs 1 (λ k. s.Expr m ∷ k) i (λ k. s.Take t.Lident ∷ s.Binder ∷ k) (λ k us. (quantified (at i) all (binder_with us.0 us.1.0 ∷ us.1.0.bound.others) us.1.0.bound.trigger us.1.0.bound.body, us.1.1)) (i + 1)
  quantified_start = let p = expand (start c) (quantifier all) e (quantifier_some all) (expr_quantifier m (nat_le m 3) all) in again p 1 refl (λ k us. refl)

module _ (xs : List Lexeme) (m i : ℕ) (all : Bool) (bs : List TypedBinder) (j : ℕ) (g : Quantified xs m i all bs j) where
  pub quantified_body : (h : SyntaxTrigger) (q : ℕ) → IsReadTrigger xs j h q → Begun xs 1 (λ k. s.Expr m ∷ k) i (λ k. s.Expr 0 ∷ s.Seal ∷ k) (λ k us. (quantified (at i) all bs h us.0, us.1.1)) q
  quantified_body h q r = let p = follow r g in again p 1 refl (λ k us. ap (λ v. (quantified (at i) all v h us.0, us.1.1)) (append-nil bs))

  pub quantified_read : (h : SyntaxTrigger) (q : ℕ) → IsReadTrigger xs j h q → {b : SyntaxTree} {r : ℕ} → IsExpr xs 0 q b r → Climb xs m i (quantified (at i) all bs h b) 0 r
  quantified_read h q t' {b} {r} rb = sealed_expr (quantified_body h q t') rb (quantified (at i) all bs h b) (λ k us. refl) refl refl

-- triggers
abbrev pub Triggering : List Lexeme → ℕ → List SyntaxTree → List Bool → ℕ → Type 0
Triggering xs i ts bars j = Begun xs 1 (λ k. s.Binders ∷ k) i (λ k. s.Trigger ∷ k) (λ k us. (record { others = []; trigger = triggered (many more ts us.0.terms) (bars ++ us.0.bars); body = us.0.body }, us.1)) j

module _ {xs : List Lexeme} {i : ℕ} (c : CanRead xs s.Binders i) where
  pub trigger_start : same t.LBrack (terminal_at xs i) ≡ true → Begun xs 1 (λ k. s.Binders ∷ k) i (λ k. s.Expr 0 ∷ s.Trigger ∷ k) (λ k us. (record { others = []; trigger = triggered (more us.0 us.1.0.terms) us.1.0.bars; body = us.1.0.body }, us.1.1)) (i + 1)
  trigger_start l = let p = expand (start c) t.LBrack l refl refl in again p 1 refl (λ k us. refl)

module _ (xs : List Lexeme) (i : ℕ) (ts : List SyntaxTree) (bars : List Bool) (j : ℕ) (g : Triggering xs i ts bars j) where
  pub comma_start : same t.Comma (terminal_at xs j) ≡ true → Begun xs 1 (λ k. s.Binders ∷ k) i (λ k. s.Expr 0 ∷ s.Trigger ∷ k) (λ k us. (record { others = []; trigger = triggered (many more ts (more us.0 us.1.0.terms)) (bars ++ false ∷ us.1.0.bars); body = us.1.0.body }, us.1.1)) (j + 1)
  comma_start l = let p = expand g t.Comma l refl refl in again p 1 refl (λ k us. refl)

  pub bar_start : same t.Bar (terminal_at xs j) ≡ true → Begun xs 1 (λ k. s.Binders ∷ k) i (λ k. s.Expr 0 ∷ s.Trigger ∷ k) (λ k us. (record { others = []; trigger = triggered (many more ts (more us.0 us.1.0.terms)) (bars ++ true ∷ us.1.0.bars); body = us.1.0.body }, us.1.1)) (j + 1)
  bar_start l = let p = expand g t.Bar l refl refl in again p 1 refl (λ k us. refl)

  pub triggering_more : (b : Bool) (e : SyntaxTree) (q : ℕ) → Begun xs 1 (λ k. s.Binders ∷ k) i (λ k. s.Expr 0 ∷ s.Trigger ∷ k) (λ k us. (record { others = []; trigger = triggered (many more ts (more us.0 us.1.0.terms)) (bars ++ b ∷ us.1.0.bars); body = us.1.0.body }, us.1.1)) (j + 1) → IsExpr xs 0 (j + 1) e q → Triggering xs i (ts ++ e ∷ []) (bars ++ b ∷ []) q
  triggering_more b e q h r = let p = next_expr h refl r in
      again p 1 refl (λ k us. ap (λ v. (body_by us.0.body v (bars ++ b ∷ us.0.bars), us.1)) (many_more more ts e us.0.terms) ∙ ap (λ v. (body_by us.0.body (many more (ts ++ e ∷ []) us.0.terms) v, us.1)) (sym (append_assoc bars (b ∷ []) us.0.bars)))
    where
      body_by : SyntaxTree → SyntaxTrees → List Bool → BoundPart
      body_by f es vs = record { others = []; trigger = triggered es vs; body = f }

  module _ (o : same t.Comma (terminal_at xs j) ≡ false) (n : same t.Bar (terminal_at xs j) ≡ false) where
    pub trigger_done : IsReadTrigger xs i (triggered (trees ts) bars) (j + 1 + 1)
    trigger_done = let p = expand g t.RBrack (only g t.RBrack (t.Comma ∷ t.Bar ∷ []) refl refl (o, (n, tt))) refl refl in let q = take p in
        again q 1 refl (λ k us. ap (λ v. (body_by us.0 v (bars ++ []), us.1.1)) (trees_many ts) ∙ ap (λ v. (body_by us.0 (trees ts) v, us.1.1)) (append-nil bars))
      where
        body_by : SyntaxTree → SyntaxTrees → List Bool → BoundPart
        body_by f es vs = record { others = []; trigger = triggered es vs; body = f }
