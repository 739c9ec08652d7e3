-- What follows where declarations, theories and files are read.
use Rattle.parser.proofs.parse_decls.Common.{◌≡◌, ℕ, ◌+◌, ◌<◌, Bool, true, false, not, ◌||◌, List, [], ◌∷◌, ◌++◌, length, Some, refl, sym, ap, ◌∙◌, subst, arith, append-nil, Terminal, same, same_true, Name, Lexeme, at, SyntaxDeclaration, SyntaxDeclarations, SyntaxTheory, more_decls, no_decls, prop_word, scope_decl, decls, read, Begun, CanRead, IsRead, terminal_at, again, done, expand, many, next_within, none_of, only, pass, start, prop_kind, IsReadFile, begins_theory}
use Rattle.tokens_why.specs.declared.terminal.Terminal.TheVariants as t
use Rattle.grammar.specs.declared.symbols.Symbol.TheVariants as s
use Rattle.parser.proofs.parse_terms.ChoicesRead.{neither}

pub decls_many : (ds : List SyntaxDeclaration) → many more_decls ds no_decls ≡ decls ds
decls_many [] = refl
decls_many (d ∷ ds) = ap (more_decls d) (decls_many ds)

affirmed : (b : Bool) → not b ≡ false → b ≡ true
affirmed true h = refl
affirmed false h = cc

pub is_end : (x : Terminal) (b : Bool) → b ≡ not (same t.EndWord x) → b ≡ false → same t.EndWord x ≡ true
is_end x b e h = affirmed (same t.EndWord x) (sym e ∙ h)

-- declarations up to their end
abbrev pub Declared : List Lexeme → ℕ → List SyntaxDeclaration → ℕ → Type 0
Declared xs i ds j = Begun xs 0 (λ k. s.Decls ∷ k) i (λ k. s.Decls ∷ k) (λ k us. (many more_decls ds us.0, us.1)) j

-- a scope, and which word is left
module _ {xs : List Lexeme} {i : ℕ} (c : CanRead xs s.Decls i) where
  module _ (e : same t.ScopeWord (terminal_at xs i) ≡ true) where
    pub scope_start : Begun xs 1 (λ k. s.Decls ∷ k) i (λ k. s.Take t.Uident ∷ s.Decls ∷ s.Decls ∷ k) (λ k us. (more_decls (scope_decl (at i) us.0 us.1.0) us.1.1.0, us.1.1.1)) (i + 1)
    scope_start = expand (start c) t.ScopeWord e refl refl

    pub scope_within : i + 1 < length xs
    scope_within = next_within scope_start refl

  pub prop_left : same t.EndWord (terminal_at xs i) ≡ false → same t.ScopeWord (terminal_at xs i) ≡ false → same t.TypeWord (terminal_at xs i) ≡ false → same t.UseWord (terminal_at xs i) ≡ false → same t.CloneWord (terminal_at xs i) ≡ false → same t.FunctionWord (terminal_at xs i) ≡ false → same t.PredicateWord (terminal_at xs i) ≡ false → same t.ConstantWord (terminal_at xs i) ≡ false → same t.InductiveWord (terminal_at xs i) ≡ false → same (prop_word (prop_kind (terminal_at xs i))) (terminal_at xs i) ≡ true
  prop_left h1 h2 h3 h4 h5 h6 h7 h8 h9 = by_axiom (same t.AxiomWord (terminal_at xs i)) refl
    where
      by_lemma : (b : Bool) → same t.AxiomWord (terminal_at xs i) ≡ false → same t.LemmaWord (terminal_at xs i) ≡ b → same (prop_word (prop_kind (terminal_at xs i))) (terminal_at xs i) ≡ true
      by_lemma true a e = subst (λ x. same (prop_word (prop_kind x)) x ≡ true) (same_true t.LemmaWord (terminal_at xs i) e) refl
      by_lemma false a e = subst (λ x. same (prop_word (prop_kind x)) x ≡ true) (same_true t.GoalWord (terminal_at xs i) (only (start c) t.GoalWord (t.EndWord ∷ t.ScopeWord ∷ t.TypeWord ∷ t.UseWord ∷ t.CloneWord ∷ t.FunctionWord ∷ t.PredicateWord ∷ t.ConstantWord ∷ t.InductiveWord ∷ t.AxiomWord ∷ t.LemmaWord ∷ []) refl refl (h1, (h2, (h3, (h4, (h5, (h6, (h7, (h8, (h9, (a, (e, tt))))))))))))) refl

      by_axiom : (b : Bool) → same t.AxiomWord (terminal_at xs i) ≡ b → same (prop_word (prop_kind (terminal_at xs i))) (terminal_at xs i) ≡ true
      by_axiom true e = subst (λ x. same (prop_word (prop_kind x)) x ≡ true) (same_true t.AxiomWord (terminal_at xs i) e) refl
      by_axiom false e = by_lemma (same t.LemmaWord (terminal_at xs i)) e refl

-- theories
abbrev pub theory_so : ℕ → Bool → Name → SyntaxDeclarations → SyntaxTheory
theory_so i b n ds = record { at = at i; is_module = b; name = n; decls = ds }

module _ {xs : List Lexeme} {i : ℕ} (c : CanRead xs s.File i) (b : begins_theory (terminal_at xs i) ≡ true) where
  pub theory_start : Begun xs 1 (λ k. s.File ∷ k) i (λ k. s.Take t.Uident ∷ s.Decls ∷ s.File ∷ k) (λ k us. (theory_so i (same t.ModuleWord (terminal_at xs i)) us.0 us.1.0 ∷ us.1.1.0, us.1.1.1)) (i + 1)
  theory_start = by_module (same t.ModuleWord (terminal_at xs i)) refl
    where
      no_module : (x y : Bool) → (x || y) ≡ true → y ≡ false → x ≡ true
      no_module true y h n = refl
      no_module false true h n = cc
      no_module false false h n = cc

      by_module : (d : Bool) → same t.ModuleWord (terminal_at xs i) ≡ d → Begun xs 1 (λ k. s.File ∷ k) i (λ k. s.Take t.Uident ∷ s.Decls ∷ s.File ∷ k) (λ k us. (theory_so i (same t.ModuleWord (terminal_at xs i)) us.0 us.1.0 ∷ us.1.1.0, us.1.1.1)) (i + 1)
      by_module true e = again (expand (start c) t.ModuleWord e refl refl) 1 refl (λ k us. ap (λ v. (theory_so i v us.0 us.1.0 ∷ us.1.1.0, us.1.1.1)) (sym e))
      by_module false e = again (expand (start c) t.TheoryWord (no_module (same t.TheoryWord (terminal_at xs i)) (same t.ModuleWord (terminal_at xs i)) b e) refl refl) 1 refl (λ k us. ap (λ v. (theory_so i v us.0 us.1.0 ∷ us.1.1.0, us.1.1.1)) (sym e))

abbrev pub Theories : List Lexeme → List SyntaxTheory → ℕ → Type 0
Theories xs ts j = Begun xs 0 (λ k. s.File ∷ k) 0 (λ k. s.File ∷ k) (λ k us. (ts ++ us.0, us.1)) j

pub can_file : {xs : List Lexeme} → IsReadFile xs → CanRead xs s.File 0
can_file f = record { within = omega arith; following = []; values = f.value; reads = f.reads }

module _ (xs : List Lexeme) (ts : List SyntaxTheory) (j : ℕ) (g : Theories xs ts j) where
  pub theories_done : begins_theory (terminal_at xs j) ≡ false → IsReadFile xs → read xs 0 false (s.File ∷ []) ≡ Some (ts, tt)
  theories_done n f = f.reads ∙ ap (λ v. Some (v, tt)) ((file_read n).reads [] f.value f.reads).0
    where
      file_read : begins_theory (terminal_at xs j) ≡ false → IsRead xs s.File 0 ts j
      file_read n = let q = neither (same t.TheoryWord (terminal_at xs j)) (same t.ModuleWord (terminal_at xs j)) n in
          done (pass g refl refl (none_of s.File (t.TheoryWord ∷ t.ModuleWord ∷ []) (terminal_at xs j) refl (q.0, (q.1, tt)))) ts refl (λ k us. ap (λ w. (w, us)) (append-nil ts))
