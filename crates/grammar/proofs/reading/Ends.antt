-- What comes after a declaration, and what no part of the declaration takes.
use Rattle.grammar.proofs.reading.Common.{same, ◌≡◌, Bool, true, List, [], ◌∷◌, ◌++◌, refl, no_false, Terminal, Lexeme, lx, mark, write_called, write_form, write, PropKind, SyntaxDeclarations, algebraic_decl, algebraic_list, clone_decl, constant_decl, definition, function_decl, inductive_decl, inductive_list, link_words, more_decls, no_decls, other_members, param_row, predicate_decl, prop_decl, prop_word, renamed, scope_decl, substitution, type_decl, type_equation, use_decl, variable_row, write_decls, write_path}
use Rattle.std.specs.List.{list_any}
use Rattle.tokens_why.specs.declared.terminal.Terminal.TheVariants as t
use Rattle.grammar.specs.declared.symbols.Symbol.TheVariants as s
use Rattle.surface.specs.declared.declarations.PropKind.TheVariants as pk
use Rattle.grammar.proofs.reading.Reading.{Stops}
use Rattle.grammar.proofs.reading.Operators.{Follow}

pub record Ends (zs : List Lexeme) : Type 0 where
  pub follow : Follow 0 zs
  pub no_targs : Stops s.Targs zs
  pub no_fields : Stops s.Fields zs
  pub no_algs : Stops s.Algs zs
  pub no_tvars : Stops s.Tvars zs
  pub no_upper : Stops s.Upper zs
  pub no_params : Stops s.Params zs
  pub no_body : Stops s.Body zs
  pub no_members : Stops s.Members zs
  pub no_value : Stops s.Value zs
  pub no_clauses : Stops s.Clauses zs
  pub no_renamed : Stops s.Renamed zs
  pub no_subst : Stops s.Subst zs
  pub no_elems : Stops s.Elems zs
  pub no_qids : Stops s.Qids zs

abbrev pub ends_decl : Terminal → Bool
ends_decl x = list_any (same x) (t.EndWord ∷ t.ScopeWord ∷ t.TypeWord ∷ t.FunctionWord ∷ t.PredicateWord ∷ t.ConstantWord ∷ t.InductiveWord ∷ t.AxiomWord ∷ t.LemmaWord ∷ t.GoalWord ∷ t.UseWord ∷ t.CloneWord ∷ [])

pub ends_at : (x : Terminal) (zs : List Lexeme) → ends_decl x ≡ true → Ends (mark x ∷ zs)
ends_at t.EndWord zs h = record { follow = record { args = refl; dots = refl; ops = λ i. absurd (no_false i) }; no_targs = refl; no_fields = refl; no_algs = refl; no_tvars = refl; no_upper = refl; no_params = refl; no_body = refl; no_members = refl; no_value = refl; no_clauses = refl; no_renamed = refl; no_subst = refl; no_elems = refl; no_qids = refl }
ends_at t.ScopeWord zs h = record { follow = record { args = refl; dots = refl; ops = λ i. absurd (no_false i) }; no_targs = refl; no_fields = refl; no_algs = refl; no_tvars = refl; no_upper = refl; no_params = refl; no_body = refl; no_members = refl; no_value = refl; no_clauses = refl; no_renamed = refl; no_subst = refl; no_elems = refl; no_qids = refl }
ends_at t.TypeWord zs h = record { follow = record { args = refl; dots = refl; ops = λ i. absurd (no_false i) }; no_targs = refl; no_fields = refl; no_algs = refl; no_tvars = refl; no_upper = refl; no_params = refl; no_body = refl; no_members = refl; no_value = refl; no_clauses = refl; no_renamed = refl; no_subst = refl; no_elems = refl; no_qids = refl }
ends_at t.FunctionWord zs h = record { follow = record { args = refl; dots = refl; ops = λ i. absurd (no_false i) }; no_targs = refl; no_fields = refl; no_algs = refl; no_tvars = refl; no_upper = refl; no_params = refl; no_body = refl; no_members = refl; no_value = refl; no_clauses = refl; no_renamed = refl; no_subst = refl; no_elems = refl; no_qids = refl }
ends_at t.PredicateWord zs h = record { follow = record { args = refl; dots = refl; ops = λ i. absurd (no_false i) }; no_targs = refl; no_fields = refl; no_algs = refl; no_tvars = refl; no_upper = refl; no_params = refl; no_body = refl; no_members = refl; no_value = refl; no_clauses = refl; no_renamed = refl; no_subst = refl; no_elems = refl; no_qids = refl }
ends_at t.ConstantWord zs h = record { follow = record { args = refl; dots = refl; ops = λ i. absurd (no_false i) }; no_targs = refl; no_fields = refl; no_algs = refl; no_tvars = refl; no_upper = refl; no_params = refl; no_body = refl; no_members = refl; no_value = refl; no_clauses = refl; no_renamed = refl; no_subst = refl; no_elems = refl; no_qids = refl }
ends_at t.InductiveWord zs h = record { follow = record { args = refl; dots = refl; ops = λ i. absurd (no_false i) }; no_targs = refl; no_fields = refl; no_algs = refl; no_tvars = refl; no_upper = refl; no_params = refl; no_body = refl; no_members = refl; no_value = refl; no_clauses = refl; no_renamed = refl; no_subst = refl; no_elems = refl; no_qids = refl }
ends_at t.AxiomWord zs h = record { follow = record { args = refl; dots = refl; ops = λ i. absurd (no_false i) }; no_targs = refl; no_fields = refl; no_algs = refl; no_tvars = refl; no_upper = refl; no_params = refl; no_body = refl; no_members = refl; no_value = refl; no_clauses = refl; no_renamed = refl; no_subst = refl; no_elems = refl; no_qids = refl }
ends_at t.LemmaWord zs h = record { follow = record { args = refl; dots = refl; ops = λ i. absurd (no_false i) }; no_targs = refl; no_fields = refl; no_algs = refl; no_tvars = refl; no_upper = refl; no_params = refl; no_body = refl; no_members = refl; no_value = refl; no_clauses = refl; no_renamed = refl; no_subst = refl; no_elems = refl; no_qids = refl }
ends_at t.GoalWord zs h = record { follow = record { args = refl; dots = refl; ops = λ i. absurd (no_false i) }; no_targs = refl; no_fields = refl; no_algs = refl; no_tvars = refl; no_upper = refl; no_params = refl; no_body = refl; no_members = refl; no_value = refl; no_clauses = refl; no_renamed = refl; no_subst = refl; no_elems = refl; no_qids = refl }
ends_at t.UseWord zs h = record { follow = record { args = refl; dots = refl; ops = λ i. absurd (no_false i) }; no_targs = refl; no_fields = refl; no_algs = refl; no_tvars = refl; no_upper = refl; no_params = refl; no_body = refl; no_members = refl; no_value = refl; no_clauses = refl; no_renamed = refl; no_subst = refl; no_elems = refl; no_qids = refl }
ends_at t.CloneWord zs h = record { follow = record { args = refl; dots = refl; ops = λ i. absurd (no_false i) }; no_targs = refl; no_fields = refl; no_algs = refl; no_tvars = refl; no_upper = refl; no_params = refl; no_body = refl; no_members = refl; no_value = refl; no_clauses = refl; no_renamed = refl; no_subst = refl; no_elems = refl; no_qids = refl }
ends_at _ zs h = absurd (no_false h)

pub next_ends : (ds : SyntaxDeclarations) (zs : List Lexeme) → Ends ((write_decls ds ++ (mark t.EndWord ∷ [])) ++ zs)
next_ends no_decls zs = ends_at t.EndWord zs refl
next_ends (more_decls (type_decl a n vs f) ds) zs = ends_at t.TypeWord (lx t.Lident n.text ∷ ((((variable_row vs ++ type_equation f) ++ write_decls ds) ++ (mark t.EndWord ∷ [])) ++ zs)) refl
next_ends (more_decls (algebraic_decl a as_) ds) zs = ends_at t.TypeWord (((algebraic_list as_ ++ write_decls ds) ++ (mark t.EndWord ∷ [])) ++ zs) refl
next_ends (more_decls (function_decl a c ps f e ms) ds) zs = ends_at t.FunctionWord ((((write_called c ++ (param_row ps ++ (mark t.Colon ∷ (write_form f ++ (definition e ++ other_members ms))))) ++ write_decls ds) ++ (mark t.EndWord ∷ [])) ++ zs) refl
next_ends (more_decls (predicate_decl a c ps e ms) ds) zs = ends_at t.PredicateWord ((((write_called c ++ (param_row ps ++ (definition e ++ other_members ms))) ++ write_decls ds) ++ (mark t.EndWord ∷ [])) ++ zs) refl
next_ends (more_decls (constant_decl a c f e) ds) zs = ends_at t.ConstantWord ((((write_called c ++ (mark t.Colon ∷ (write_form f ++ definition e))) ++ write_decls ds) ++ (mark t.EndWord ∷ [])) ++ zs) refl
next_ends (more_decls (inductive_decl a is) ds) zs = ends_at t.InductiveWord (((inductive_list is ++ write_decls ds) ++ (mark t.EndWord ∷ [])) ++ zs) refl
next_ends (more_decls (prop_decl a q c e) ds) zs = ends_at (prop_word q) ((((write_called c ++ (mark t.Colon ∷ write e)) ++ write_decls ds) ++ (mark t.EndWord ∷ [])) ++ zs) (ends_prop q)
  where
    ends_prop : (q : PropKind) → ends_decl (prop_word q) ≡ true
    ends_prop pk.Axiom = refl
    ends_prop pk.Lemma = refl
    ends_prop pk.Goal = refl
next_ends (more_decls (use_decl a l p n) ds) zs = ends_at t.UseWord ((((link_words l ++ (write_path p.parts ++ renamed n)) ++ write_decls ds) ++ (mark t.EndWord ∷ [])) ++ zs) refl
next_ends (more_decls (clone_decl a l p n es) ds) zs = ends_at t.CloneWord ((((link_words l ++ (write_path p.parts ++ (renamed n ++ substitution es))) ++ write_decls ds) ++ (mark t.EndWord ∷ [])) ++ zs) refl
next_ends (more_decls (scope_decl a n es) ds) zs = ends_at t.ScopeWord (lx t.Uident n.text ∷ ((((write_decls es ++ (mark t.EndWord ∷ [])) ++ write_decls ds) ++ (mark t.EndWord ∷ [])) ++ zs)) refl
