-- What follows where declarations of symbols and propositions are read.
use Rattle.parser.proofs.parse_decls.Common.{◌≡◌, ℕ, ◌+◌, true, false, List, ◌∷◌, ◌++◌, Option, refl, same, Lexeme, at, Called, SyntaxForm, SyntaxTree, Inductive, ParamGroup, constant_decl, function_decl, inductive_decl, more_decls, predicate_decl, prop_decl, prop_word, new_inductive, Begun, CanRead, IsExpr, IsRead, terminal_at, again, expand, follow, next, next_expr, start, take, IsDecl, IsReadValue}
use Rattle.tokens_why.specs.declared.terminal.Terminal.TheVariants as t
use Rattle.grammar.specs.declared.symbols.Symbol.TheVariants as s
use Rattle.surface.specs.declared.declarations.PropKind.{PropKind}
use Rattle.surface.specs.declared.declarations.PropKind.TheVariants as pk

-- constants
module _ {xs : List Lexeme} {i : ℕ} (c : CanRead xs s.Decls i) (e : same t.ConstantWord (terminal_at xs i) ≡ true) where
  pub constant_start : Begun xs 1 (λ k. s.Decls ∷ k) i (λ k. s.Op ∷ s.Take t.Colon ∷ s.TypeOf ∷ s.Value ∷ s.Decls ∷ k) (λ k us. (more_decls (constant_decl (at i) us.0 us.1.1.0 us.1.1.1.0) us.1.1.1.1.0, us.1.1.1.1.1)) (i + 1)
  constant_start = let p = expand (start c) t.ConstantWord e refl refl in again p 1 refl (λ k us. refl)

  module _ {n : Called} {j : ℕ} (rn : IsRead xs s.Op (i + 1) n j) where
    pub constant_type : Begun xs 1 (λ k. s.Decls ∷ k) i (λ k. s.TypeOf ∷ s.Value ∷ s.Decls ∷ k) (λ k us. (more_decls (constant_decl (at i) n us.0 us.1.0) us.1.1.0, us.1.1.1)) (j + 1)
    constant_type = let p = take (next constant_start rn) in again p 1 refl (λ k us. refl)

    module _ {f : SyntaxForm} {m : ℕ} (rf : IsRead xs s.TypeOf (j + 1) f m) where
      pub constant_value : Begun xs 1 (λ k. s.Decls ∷ k) i (λ k. s.Value ∷ s.Decls ∷ k) (λ k us. (more_decls (constant_decl (at i) n f us.0) us.1.0, us.1.1)) m
      constant_value = let p = next constant_type rf in again p 1 refl (λ k us. refl)

      pub constant_read : {v : Option SyntaxTree} {q : ℕ} → IsReadValue xs m v q → IsDecl xs i (constant_decl (at i) n f v) q
      constant_read {v} {q} rv = let p = follow rv constant_value in again p 1 refl (λ k us. refl)

-- functions
module _ {xs : List Lexeme} {i : ℕ} (c : CanRead xs s.Decls i) (e : same t.FunctionWord (terminal_at xs i) ≡ true) where
  pub function_start : Begun xs 1 (λ k. s.Decls ∷ k) i (λ k. s.Op ∷ s.Params ∷ s.Take t.Colon ∷ s.TypeOf ∷ s.Body ∷ s.Decls ∷ k) (λ k us. (more_decls (function_decl (at i) us.0 us.1.0 us.1.1.1.0 us.1.1.1.1.0.definition us.1.1.1.1.0.members) us.1.1.1.1.1.0, us.1.1.1.1.1.1)) (i + 1)
  function_start = let p = expand (start c) t.FunctionWord e refl refl in again p 1 refl (λ k us. refl)

  module _ {n : Called} {j : ℕ} (rn : IsRead xs s.Op (i + 1) n j) where
    pub function_params : Begun xs 1 (λ k. s.Decls ∷ k) i (λ k. s.Params ∷ s.Take t.Colon ∷ s.TypeOf ∷ s.Body ∷ s.Decls ∷ k) (λ k us. (more_decls (function_decl (at i) n us.0 us.1.1.0 us.1.1.1.0.definition us.1.1.1.0.members) us.1.1.1.1.0, us.1.1.1.1.1)) j
    function_params = let p = next function_start rn in again p 1 refl (λ k us. refl)

    module _ {ps : List ParamGroup} {m : ℕ} (rp : IsRead xs s.Params j ps m) where
      pub function_type : Begun xs 1 (λ k. s.Decls ∷ k) i (λ k. s.TypeOf ∷ s.Body ∷ s.Decls ∷ k) (λ k us. (more_decls (function_decl (at i) n ps us.0 us.1.0.definition us.1.0.members) us.1.1.0, us.1.1.1)) (m + 1)
      function_type = let p = take (next function_params rp) in again p 1 refl (λ k us. refl)

      module _ {f : SyntaxForm} {q : ℕ} (rf : IsRead xs s.TypeOf (m + 1) f q) where
        pub function_body : Begun xs 1 (λ k. s.Decls ∷ k) i (λ k. s.Body ∷ s.Decls ∷ k) (λ k us. (more_decls (function_decl (at i) n ps f us.0.definition us.0.members) us.1.0, us.1.1)) q
        function_body = let p = next function_type rf in again p 1 refl (λ k us. refl)

-- predicates
module _ {xs : List Lexeme} {i : ℕ} (c : CanRead xs s.Decls i) (e : same t.PredicateWord (terminal_at xs i) ≡ true) where
  pub predicate_start : Begun xs 1 (λ k. s.Decls ∷ k) i (λ k. s.Op ∷ s.Params ∷ s.Body ∷ s.Decls ∷ k) (λ k us. (more_decls (predicate_decl (at i) us.0 us.1.0 us.1.1.0.definition us.1.1.0.members) us.1.1.1.0, us.1.1.1.1)) (i + 1)
  predicate_start = let p = expand (start c) t.PredicateWord e refl refl in again p 1 refl (λ k us. refl)

  module _ {n : Called} {j : ℕ} (rn : IsRead xs s.Op (i + 1) n j) where
    pub predicate_params : Begun xs 1 (λ k. s.Decls ∷ k) i (λ k. s.Params ∷ s.Body ∷ s.Decls ∷ k) (λ k us. (more_decls (predicate_decl (at i) n us.0 us.1.0.definition us.1.0.members) us.1.1.0, us.1.1.1)) j
    predicate_params = let p = next predicate_start rn in again p 1 refl (λ k us. refl)

    module _ {ps : List ParamGroup} {m : ℕ} (rp : IsRead xs s.Params j ps m) where
      pub predicate_body : Begun xs 1 (λ k. s.Decls ∷ k) i (λ k. s.Body ∷ s.Decls ∷ k) (λ k us. (more_decls (predicate_decl (at i) n ps us.0.definition us.0.members) us.1.0, us.1.1)) m
      predicate_body = let p = next predicate_params rp in again p 1 refl (λ k us. refl)

-- inductive predicates
pub record Inductives (xs : List Lexeme) (i : ℕ) (ds : List Inductive) (j : ℕ) : Type 0 where
  pub last : same t.Bar (terminal_at xs j) ≡ false
  pub is : Begun xs 1 (λ k. s.Decls ∷ k) i (λ k. s.Clauses ∷ s.Decls ∷ k) (λ k us. (more_decls (inductive_decl (at i) (ds ++ us.0.others)) us.1.0, us.1.1)) j

module _ {xs : List Lexeme} {i : ℕ} (c : CanRead xs s.Decls i) (e : same t.InductiveWord (terminal_at xs i) ≡ true) where
  pub inductive_start : Begun xs 1 (λ k. s.Decls ∷ k) i (λ k. s.Op ∷ s.Params ∷ s.Take t.Equal ∷ s.Clause ∷ s.Decls ∷ k) (λ k us. (more_decls (inductive_decl (at i) (new_inductive us.0 us.1.0 us.1.1.1.0 ∷ us.1.1.1.0.rest.others)) us.1.1.1.1.0, us.1.1.1.1.1)) (i + 1)
  inductive_start = let p = expand (start c) t.InductiveWord e refl refl in again p 1 refl (λ k us. refl)

module _ (xs : List Lexeme) (i : ℕ) (ds : List Inductive) (j : ℕ) (g : Inductives xs i ds j) where
  pub with_start : same t.WithWord (terminal_at xs j) ≡ true → Begun xs 1 (λ k. s.Decls ∷ k) i (λ k. s.Op ∷ s.Params ∷ s.Take t.Equal ∷ s.Clause ∷ s.Decls ∷ k) (λ k us. (more_decls (inductive_decl (at i) (ds ++ new_inductive us.0 us.1.0 us.1.1.1.0 ∷ us.1.1.1.0.rest.others)) us.1.1.1.1.0, us.1.1.1.1.1)) (j + 1)
  with_start e = let p = expand g.is t.WithWord e refl refl in again p 1 refl (λ k us. refl)

-- propositions
module _ {xs : List Lexeme} {i : ℕ} (c : CanRead xs s.Decls i) (q : PropKind) (e : same (prop_word q) (terminal_at xs i) ≡ true) where
  pub prop_start : Begun xs 1 (λ k. s.Decls ∷ k) i (λ k. s.Ident ∷ s.Take t.Colon ∷ s.Expr 0 ∷ s.Decls ∷ k) (λ k us. (more_decls (prop_decl (at i) q us.0 us.1.1.0) us.1.1.1.0, us.1.1.1.1)) (i + 1)
  prop_start = by_kind q e
    where
      by_kind : (q : PropKind) → same (prop_word q) (terminal_at xs i) ≡ true → Begun xs 1 (λ k. s.Decls ∷ k) i (λ k. s.Ident ∷ s.Take t.Colon ∷ s.Expr 0 ∷ s.Decls ∷ k) (λ k us. (more_decls (prop_decl (at i) q us.0 us.1.1.0) us.1.1.1.0, us.1.1.1.1)) (i + 1)
      by_kind pk.Axiom e = let p = expand (start c) t.AxiomWord e refl refl in again p 1 refl (λ k us. refl)
      by_kind pk.Lemma e = let p = expand (start c) t.LemmaWord e refl refl in again p 1 refl (λ k us. refl)
      by_kind pk.Goal e = let p = expand (start c) t.GoalWord e refl refl in again p 1 refl (λ k us. refl)

  module _ {n : Called} (rn : IsRead xs s.Ident (i + 1) n (i + 1 + 1)) where
    pub prop_expr : Begun xs 1 (λ k. s.Decls ∷ k) i (λ k. s.Expr 0 ∷ s.Decls ∷ k) (λ k us. (more_decls (prop_decl (at i) q n us.0) us.1.0, us.1.1)) (i + 1 + 1 + 1)
    prop_expr = let p = take (next prop_start rn) in again p 1 refl (λ k us. refl)

    pub prop_read : {v : SyntaxTree} {m : ℕ} → IsExpr xs 0 (i + 1 + 1 + 1) v m → IsDecl xs i (prop_decl (at i) q n v) m
    prop_read {v} {m} r = let p = next_expr prop_expr refl r in again p 1 refl (λ k us. refl)
