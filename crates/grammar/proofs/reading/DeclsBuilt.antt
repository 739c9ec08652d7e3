-- What is read as clauses, links, substitutions, declarations and files is right.
use Rattle.grammar.proofs.reading.Common.{◌≡◌, ℕ, ◌+◌, Bool, true, false, List, [], ◌∷◌, ◌++◌, Option, Some, None, refl, sym, ap, ◌∙◌, subst, append_assoc, append-nil, Symbol, Name, Lexeme, Word, at, lx, mark, Called, called, lower, past, scoped, upper, write_called, write_form, IsLevel, IsPlacedTree, SyntaxTree, bar_before, write, PropKind, SyntaxDeclaration, SyntaxDeclarations, Element, ParamGroup, clause_list, clause_tail, clone_decl, constant_decl, definition, element_tail, function_decl, heading, inductive_decl, inductive_tail, link_words, more_decls, param_row, predicate_decl, prop_decl, prop_word, renamed, scope_decl, substitution, symbol_word, use_decl, write_decl, write_decls, write_element, write_file, write_inductive, write_path, AreInductive, AreLevelDecls, AreParams, IsElement, IsLevelDecl, IsNewProp, IsNewSymbol, PlacedClauses, PlacedDecl, PlacedDecls, PlacedElement, PlacedInductives, PlacedParams, PlacedRenamed, ClausePart, ClausesPart, TypePart, UsedPart, is_algebraic, is_alias, new_inductive, path_on, typed_as, with_clause, Vals, axioms_of, cloned, file_row, path_end, prop_row, symbol_row, use_part, rows}
use Rattle.tokens_why.specs.declared.terminal.Terminal.TheVariants as t
use Rattle.grammar.specs.declared.symbols.Symbol.TheVariants as s
use Rattle.surface.specs.declared.declarations.SymbolWord.{SymbolWord}
use Rattle.surface.specs.declared.declarations.PropKind.TheVariants as pk
use Rattle.surface.specs.declared.declarations.Link.TheVariants as lk
use Rattle.surface.specs.declared.declarations.SymbolWord.TheVariants as sw
use Rattle.grammar.proofs.reading.Reading.{past-append}
use Rattle.grammar.proofs.reading.Operands.{past_op}
use Rattle.grammar.proofs.reading.DeclsRight.{ArePredicates, IsAxioms, IsClausePart, IsClauseRest, IsClauses, IsSubst, IsTvars, IsUsed, write_axioms, write_body, write_clause_part, write_clauses, write_cloned, write_tvars, write_used, write_vars}
use Rattle.grammar.proofs.reading.Good.{◌▸◌, AllRows, Good, Proper, RowOk}
use Rattle.grammar.proofs.reading.OpenBuilt.{list_past, list_tokens}
use Rattle.grammar.proofs.reading.DeclTokens.{begins, clause_row, clone_row, constant_past, constant_row, function_past, function_row, marked_tokens, path_row, three_row, two_tokens}
use Rattle.grammar.proofs.reading.PartsBuilt.{alg_levels, alg_tokens}

-- clauses, from a name on
pub clause_levels : (i : ℕ) (c : Called) (e : SyntaxTree) (p : ClausesPart) → c.at ≡ i → IsNewProp c → IsLevel e → IsPlacedTree (past i (write_called c) + 1) e → IsClauses (past (past i (write_called c) + 1) (write e)) p → IsClauseRest i (with_clause c e p)
clause_levels i c e p a m l q n = (tt, (m, l, n.0), (a, q, subst (λ j. PlacedClauses (j + 1) p.clauses) (sym (past-append (write_called c) (mark t.Colon ∷ write e) i)) n.1), subst (λ j. ArePredicates j p.others) (sym (past-append (write_called c ++ (mark t.Colon ∷ write e)) (clause_tail p.clauses) i ∙ ap (λ j. past j (clause_tail p.clauses)) (past-append (write_called c) (mark t.Colon ∷ write e) i))) n.2)

pub clause_whole : (c : Called) (e : SyntaxTree) (p : ClausesPart) → write_called c ++ (mark t.Colon ∷ (write e ++ write_clauses p)) ≡ clause_list (with_clause c e p).clauses ++ inductive_tail p.others
clause_whole c e p = clause_row (write_called c) (write e) (clause_tail p.clauses) (inductive_tail p.others) (mark t.Colon)

pub clause_tokens : (c : Called) (e : SyntaxTree) (p : ClausesPart) (w : Word) (xs y1 y2 zs : List Lexeme) → xs ≡ lx t.Colon w ∷ y1 → w ≡ [] → y1 ≡ write e ++ y2 → y2 ≡ write_clauses p ++ zs → write_called c ++ xs ≡ (clause_list (with_clause c e p).clauses ++ inductive_tail p.others) ++ zs
clause_tokens c e p w xs y1 y2 zs e1 n e2 e3 = ap (λ v. write_called c ++ v) (marked_tokens t.Colon w xs y1 ((write e ++ write_clauses p) ++ zs) e1 n (two_tokens (write e) (write_clauses p) y1 y2 zs e2 e3)) ∙ sym (append_assoc (write_called c) (mark t.Colon ∷ (write e ++ write_clauses p)) zs) ∙ ap (λ v. v ++ zs) (clause_whole c e p)

pub clause_past : (c : Called) (e : SyntaxTree) (p : ClausesPart) (i : ℕ) → past (past (past i (write_called c) + 1) (write e)) (write_clauses p) ≡ past i (clause_list (with_clause c e p).clauses ++ inductive_tail p.others)
clause_past c e p i = sym (past-append (write_called c) (mark t.Colon ∷ (write e ++ write_clauses p)) i ∙ past-append (write e) (write_clauses p) (past i (write_called c) + 1)) ∙ ap (past i) (clause_whole c e p)

pub ind_levels : (i : ℕ) (c : Called) (ps : List ParamGroup) (p : ClausePart) → c.at ≡ i → IsNewSymbol c → AreParams ps → PlacedParams (past i (write_called c)) ps → IsClausePart (past (past i (write_called c)) (param_row ps) + 1) p → AreInductive (new_inductive c ps p ∷ p.rest.others) × PlacedInductives i (new_inductive c ps p ∷ p.rest.others)
ind_levels i c ps p a m n np q = ((m, n, q.0, q.1, q.3.0), ((a, np, q.2), subst (λ j. PlacedInductives (j + 1) p.rest.others) (sym (function_past (write_called c) (param_row ps) (bar_before p.bar) (clause_list p.rest.clauses) (mark t.Equal) i)) q.3.1))

pub ind_row : (c : Called) (ps : List ParamGroup) (p : ClausePart) → write_called c ++ (param_row ps ++ (mark t.Equal ∷ write_clause_part p)) ≡ write_inductive (new_inductive c ps p) ++ inductive_tail p.rest.others
ind_row c ps p = function_row (write_called c) (param_row ps) (bar_before p.bar) (clause_list p.rest.clauses) (inductive_tail p.rest.others) (mark t.Equal)

pub ind_tokens : (c : Called) (ps : List ParamGroup) (p : ClausePart) (w : Word) (xs y1 y2 y3 zs : List Lexeme) → xs ≡ write_called c ++ y1 → y1 ≡ param_row ps ++ y2 → y2 ≡ lx t.Equal w ∷ y3 → w ≡ [] → y3 ≡ write_clause_part p ++ zs → xs ≡ (write_inductive (new_inductive c ps p) ++ inductive_tail p.rest.others) ++ zs
ind_tokens c ps p w xs y1 y2 y3 zs e1 e2 e3 n e4 = two_tokens (write_called c) (param_row ps ++ (mark t.Equal ∷ write_clause_part p)) xs y1 zs e1 (two_tokens (param_row ps) (mark t.Equal ∷ write_clause_part p) y1 y2 zs e2 (marked_tokens t.Equal w y2 y3 (write_clause_part p ++ zs) e3 n e4)) ∙ ap (λ v. v ++ zs) (ind_row c ps p)

pub ind_past : (c : Called) (ps : List ParamGroup) (p : ClausePart) (i : ℕ) → past (past (past i (write_called c)) (param_row ps) + 1) (write_clause_part p) ≡ past i (write_inductive (new_inductive c ps p) ++ inductive_tail p.rest.others)
ind_past c ps p i = sym (three_row (write_called c) (param_row ps) (mark t.Equal ∷ write_clause_part p) i) ∙ ap (past i) (ind_row c ps p)

pub clause_ok : AllRows s.Clause (rows s.Clause)
clause_ok = (λ k i w xs vs p (y1, m, e1, (y2, q, e2, (zs, n, e3, g))). (zs, clause_levels i (called i [] (lower w)) vs.1.0 vs.1.1.0 refl (refl, tt) q.0 q.1 n, clause_tokens (called i [] (lower w)) vs.1.0 vs.1.1.0 vs.0.text xs y1 y2 zs e1 m.1 e2 e3, subst (λ j. Good false k j zs vs.1.1.1) (clause_past (called i [] (lower w)) vs.1.0 vs.1.1.0 i) g))
    ▸ (λ k i w xs vs p (y1, m, e1, (y2, q, e2, (zs, n, e3, g))). (zs, clause_levels i (called i [] (upper w)) vs.1.0 vs.1.1.0 refl (refl, tt) q.0 q.1 n, clause_tokens (called i [] (upper w)) vs.1.0 vs.1.1.0 vs.0.text xs y1 y2 zs e1 m.1 e2 e3, subst (λ j. Good false k j zs vs.1.1.1) (clause_past (called i [] (upper w)) vs.1.0 vs.1.1.0 i) g))
    ▸ (λ k i w xs vs p (y0, c, e0, (y1, m, e1, (y2, q, e2, (zs, n, e3, g)))). (zs, clause_levels (i + 1) vs.0 vs.1.1.0 vs.1.1.1.0 c.0 c.1 q.0 q.1 n, begins t.Bar w xs ((clause_list (with_clause vs.0 vs.1.1.0 vs.1.1.1.0).clauses ++ inductive_tail vs.1.1.1.0.others) ++ zs) p (e0 ∙ clause_tokens vs.0 vs.1.1.0 vs.1.1.1.0 vs.1.0.text y0 y1 y2 zs e1 m.1 e2 e3), subst (λ j. Good false k j zs vs.1.1.1.1) (clause_past vs.0 vs.1.1.0 vs.1.1.1.0 (i + 1)) g))
    ▸ tt

pub clauses_ok : AllRows s.Clauses (rows s.Clauses)
clauses_ok = (λ k i w xs vs p (y0, c, e0, (y1, m, e1, (y2, q, e2, (zs, n, e3, g)))). (let l = clause_levels (i + 1) vs.0 vs.1.1.0 vs.1.1.1.0 c.0 c.1 q.0 q.1 n in (zs, (l.1, l.2, l.3), begins t.Bar w xs ((clause_list (with_clause vs.0 vs.1.1.0 vs.1.1.1.0).clauses ++ inductive_tail vs.1.1.1.0.others) ++ zs) p (e0 ∙ clause_tokens vs.0 vs.1.1.0 vs.1.1.1.0 vs.1.0.text y0 y1 y2 zs e1 m.1 e2 e3), subst (λ j. Good false k j zs vs.1.1.1.1) (clause_past vs.0 vs.1.1.0 vs.1.1.1.0 (i + 1)) g)))
    ▸ (λ k i w xs vs p (y1, m, e1, (y2, n, e2, (y3, o, e3, (zs, q, e4, g)))). (zs, (tt, tt, ind_levels (i + 1) vs.0 vs.1.0 vs.1.1.1.0 m.0 m.1 n.0 n.1 q), begins t.WithWord w xs ((write_inductive (new_inductive vs.0 vs.1.0 vs.1.1.1.0) ++ inductive_tail vs.1.1.1.0.rest.others) ++ zs) p (ind_tokens vs.0 vs.1.0 vs.1.1.1.0 vs.1.1.0.text xs y1 y2 y3 zs e1 e2 e3 o.1 e4), subst (λ j. Good false k j zs vs.1.1.1.1) (ind_past vs.0 vs.1.0 vs.1.1.1.0 (i + 1)) g))
    ▸ tt

-- links
pub path_ok : AllRows s.Path (rows s.Path)
path_ok = (λ k i w xs vs p (ys, m, e, (zs, n, d, g)). (zs, (refl, tt), ap (λ v. lx t.Lident w ∷ v) (marked_tokens t.Dot vs.0.text xs ys (write_path vs.1.0.parts ++ zs) e m.1 d) ∙ ap (λ v. v ++ zs) (sym (path_row w vs.1.0.parts n.1)), subst (λ v. Good false k (past i v) zs vs.1.1) (sym (path_row w vs.1.0.parts n.1)) g))
    ▸ (λ k i w xs vs p g. (xs, (refl, tt), refl, g))
    ▸ tt

pub renamed_ok : AllRows s.Renamed (rows s.Renamed)
renamed_ok = (λ k i w xs vs p (ys, m, e, g). (ys, m.0, begins t.AsWord w xs (lx t.Uident vs.0.text ∷ ys) p e, g), tt)

pub used_ok : AllRows s.Used (rows s.Used)
used_ok = (λ k i w xs vs p (ys, m, e, g). (ys, (m.1, tt, m.0, tt), begins t.ExportWord w xs ((write_path vs.0.parts ++ []) ++ ys) p (e ∙ ap (λ v. v ++ ys) (sym (append-nil (write_path vs.0.parts)))), subst (λ v. Good false k (past (i + 1) v) ys vs.1) (sym (append-nil (write_path vs.0.parts))) g))
    ▸ (λ k i w xs vs p (ys, m, e, (zs, n, d, g)). (zs, (m.1, tt, m.0, n), begins t.ImportWord w xs ((write_path vs.0.parts ++ renamed vs.1.0) ++ zs) p (two_tokens (write_path vs.0.parts) (renamed vs.1.0) xs ys zs e d), subst (λ j. Good false k j zs vs.1.1) (sym (past-append (write_path vs.0.parts) (renamed vs.1.0) (i + 1))) g))
    ▸ (λ k i w xs vs p (y1, m, e1, (y2, n, e2, (zs, o, e3, g))). (
      zs,
      (tt, tt, refl, subst (λ v. PlacedRenamed (past i v) vs.1.1.0) (sym (path_row w vs.1.0.parts n.1)) o),
      ap (λ v. lx t.Lident w ∷ v) (marked_tokens t.Dot vs.0.text xs y1 ((write_path vs.1.0.parts ++ renamed vs.1.1.0) ++ zs) e1 m.1 (two_tokens (write_path vs.1.0.parts) (renamed vs.1.1.0) y1 y2 zs e2 e3)) ∙ ap (λ v. (v ++ renamed vs.1.1.0) ++ zs) (sym (path_row w vs.1.0.parts n.1)),
      subst (λ v. Good false k (past i (v ++ renamed vs.1.1.0)) zs vs.1.1.1) (sym (path_row w vs.1.0.parts n.1)) (subst (λ j. Good false k j zs vs.1.1.1) (sym (past-append (write_path vs.1.0.parts) (renamed vs.1.1.0) (i + 1 + 1))) g),
    ))
    ▸ (λ k i w xs vs p (ys, n, e, g). (ys, (tt, tt, refl, n), ap (λ v. lx t.Uident w ∷ v) e, g))
    ▸ tt

-- `clone` goes on with a substitution where `use` ends
pub cloned_by : (k : List Symbol) (i : ℕ) (xs ys zs : List Lexeme) (u : UsedPart) (es : List Element) (vs : Vals k) → IsUsed i u → IsSubst (past i (write_used u)) es → xs ≡ write_used u ++ ys → ys ≡ substitution es ++ zs → Good false k (past (past i (write_used u)) (substitution es)) zs vs → Good false (s.Cloned ∷ k) i xs (cloned u es, vs)
cloned_by k i xs ys zs u es vs m n e d g = (zs, (m, subst (λ j. IsSubst j es) (three_row (link_words u.link) (write_path u.path.parts) (renamed u.name) i) n), two_tokens (write_used u) (substitution es) xs ys zs e d, subst (λ j. Good false k j zs vs) (sym (past-append (write_used u) (substitution es) i)) g)

pub cloned_ok : AllRows s.Cloned (rows s.Cloned)
cloned_ok = (λ k i w xs vs p (ys, m, e, (zs, n, d, g)). cloned_by k i (lx t.ExportWord w ∷ xs) ys zs (use_part lk.Export vs.0 None) vs.1.0 vs.1.1 (m.1, tt, m.0, tt) (subst (λ v. IsSubst (past (i + 1) v) vs.1.0) (sym (append-nil (write_path vs.0.parts))) n) (begins t.ExportWord w xs ((write_path vs.0.parts ++ []) ++ ys) p (e ∙ ap (λ v. v ++ ys) (sym (append-nil (write_path vs.0.parts))))) d (subst (λ v. Good false k (past (past (i + 1) v) (substitution vs.1.0)) zs vs.1.1) (sym (append-nil (write_path vs.0.parts))) g))
    ▸ (λ k i w xs vs p (y1, m, e1, (y2, n, e2, (zs, o, e3, g))). cloned_by k i (lx t.ImportWord w ∷ xs) y2 zs (use_part lk.Import vs.0 vs.1.0) vs.1.1.0 vs.1.1.1 (m.1, tt, m.0, n) (subst (λ j. IsSubst j vs.1.1.0) (sym (past-append (write_path vs.0.parts) (renamed vs.1.0) (i + 1))) o) (begins t.ImportWord w xs ((write_path vs.0.parts ++ renamed vs.1.0) ++ y2) p (two_tokens (write_path vs.0.parts) (renamed vs.1.0) xs y1 y2 e1 e2)) e3 (subst (λ j. Good false k (past j (substitution vs.1.1.0)) zs vs.1.1.1) (sym (past-append (write_path vs.0.parts) (renamed vs.1.0) (i + 1))) g))
    ▸ (λ k i w xs vs p (y1, m, e1, (y2, n, e2, (y3, o, e3, (zs, q, e4, g)))). (let r = sym (ap (past i) (ap (λ v. v ++ renamed vs.1.1.0) (path_row w vs.1.0.parts n.1)) ∙ past-append (write_path vs.1.0.parts) (renamed vs.1.1.0) (i + 1 + 1)) in cloned_by k i (lx t.Lident w ∷ xs) y3 zs (use_part lk.Bare (path_on i w vs.1.0) vs.1.1.0) vs.1.1.1.0 vs.1.1.1.1 (tt, tt, refl, subst (λ v. PlacedRenamed (past i v) vs.1.1.0) (sym (path_row w vs.1.0.parts n.1)) o) (subst (λ j. IsSubst j vs.1.1.1.0) r q)
    (ap (λ v. lx t.Lident w ∷ v) (marked_tokens t.Dot vs.0.text xs y1 ((write_path vs.1.0.parts ++ renamed vs.1.1.0) ++ y3) e1 m.1 (two_tokens (write_path vs.1.0.parts) (renamed vs.1.1.0) y1 y2 y3 e2 e3)) ∙ ap (λ v. (v ++ renamed vs.1.1.0) ++ y3) (sym (path_row w vs.1.0.parts n.1))) e4 (subst (λ j. Good false k (past j (substitution vs.1.1.1.0)) zs vs.1.1.1.1) r g)))
    ▸ (λ k i w xs vs p (ys, n, e, (zs, o, d, g)). cloned_by k i (lx t.Uident w ∷ xs) ys zs (use_part lk.Bare (path_end i w) vs.0) vs.1.0 vs.1.1 (tt, tt, refl, n) o (ap (λ v. lx t.Uident w ∷ v) e) d g)
    ▸ tt

-- substitutions
pub subst_ok : AllRows s.Subst (rows s.Subst)
subst_ok = (λ k i w xs vs p (ys, m, e, (zs, n, d, g)). (zs, ((m.0, n.0), (m.1, n.1)), begins t.WithWord w xs ((write_element vs.0 ++ element_tail vs.1.0) ++ zs) p (two_tokens (write_element vs.0) (element_tail vs.1.0) xs ys zs e d), subst (λ j. Good false k j zs vs.1.1) (sym (past-append (write_element vs.0) (element_tail vs.1.0) (i + 1))) g), tt)

pub elems_ok : AllRows s.Elems (rows s.Elems)
elems_ok = (λ k i w xs vs p (ys, m, e, (zs, n, d, g)). (zs, ((m.0, n.0), (m.1, n.1)), begins t.Comma w xs ((write_element vs.0 ++ element_tail vs.1.0) ++ zs) p (two_tokens (write_element vs.0) (element_tail vs.1.0) xs ys zs e d), subst (λ j. Good false k j zs vs.1.1) (sym (past-append (write_element vs.0) (element_tail vs.1.0) (i + 1))) g), tt)

pub elvars_ok : AllRows s.Elvars (rows s.Elvars)
elvars_ok = (λ k i w xs vs p (ys, n, e, g). (ys, ((refl, n.0), n.1), ap (λ v. lx t.TyVar w ∷ v) e, g))
    ▸ (λ k i w xs vs p (ys, m, e, g). (ys, (tt, m), begins t.Equal w xs (write_form vs.0 ++ ys) p e, g))
    ▸ tt

pub axioms_is : (i : ℕ) (c : Option Called) → IsAxioms (i + 1) c → IsElement (axioms_of i c) × PlacedElement i (axioms_of i c) × (write_element (axioms_of i c) ≡ mark t.AxiomWord ∷ write_axioms c)
axioms_is i None h = (tt, refl, refl)
axioms_is i (Some c) h = (h.1, (refl, h.0), refl)

pub elem_ok : AllRows s.Elem (rows s.Elem)
elem_ok = (λ k i w xs vs p (ys, m, e, (zs, n, d, g)). (zs, ((tt, n.1.0), (refl, refl, n.0, n.1.1)), begins t.TypeWord w xs (((scoped vs.0.scopes ++ (lx t.Lident vs.0.last ∷ [])) ++ write_vars vs.1.0) ++ zs) p (two_tokens (scoped vs.0.scopes ++ (lx t.Lident vs.0.last ∷ [])) (write_vars vs.1.0) xs ys zs e d), subst (λ j. Good false k j zs vs.1.1) (sym (past-append (scoped vs.0.scopes ++ (lx t.Lident vs.0.last ∷ [])) (write_vars vs.1.0) (i + 1))) g))
    ▸ symbol_ok sw.Function
    ▸ symbol_ok sw.Constant
    ▸ symbol_ok sw.Predicate
    ▸ (λ k i w xs vs p (ys, m, e, g). (ys, (m.1, (refl, m.0)), begins t.LemmaWord w xs (write_called vs.0 ++ ys) p e, g))
    ▸ (λ k i w xs vs p (ys, m, e, g). (ys, (m.1, (refl, m.0)), begins t.GoalWord w xs (write_called vs.0 ++ ys) p e, g))
    ▸ (λ k i w xs vs p (ys, m, e, g). (let r = axioms_is i vs.0 m in (ys, (r.0, r.1), begins t.AxiomWord w xs (write_axioms vs.0 ++ ys) p e ∙ ap (λ v. v ++ ys) (sym r.2), subst (λ v. Good false k (past i v) ys vs.1) (sym r.2) g)))
    ▸ tt
  where
    bare : {w : Word} (q : SymbolWord) → Proper (symbol_word q) w → w ≡ []
    bare sw.Function p = p
    bare sw.Constant p = p
    bare sw.Predicate p = p

    symbol_ok : (q : SymbolWord) → RowOk s.Elem (symbol_row (symbol_word q) q)
    symbol_ok q k i w xs vs p (y1, m, e1, (y2, n, e2, (zs, o, e3, g))) = (zs, ((m.1, o.1), (refl, m.0, o.0)), begins (symbol_word q) w xs ((write_called vs.0 ++ (mark t.Equal ∷ write_called vs.1.1.0)) ++ zs) (bare q p) (two_tokens (write_called vs.0) (mark t.Equal ∷ write_called vs.1.1.0) xs y1 zs e1 (marked_tokens t.Equal vs.1.0.text y1 y2 (write_called vs.1.1.0 ++ zs) e2 n.1 e3)), subst (λ j. Good false k j zs vs.1.1.1) (sym (past_op (write_called vs.0) (mark t.Equal) (write_called vs.1.1.0) (i + 1))) g)

-- A declaration and others after it.
pub decl_good : (k : List Symbol) (i j : ℕ) (d : SyntaxDeclaration) (ds : SyntaxDeclarations) (xs ys zs : List Lexeme) (vs : Vals k) → IsLevelDecl d → PlacedDecl i d → past i (write_decl d) ≡ j → xs ≡ write_decl d ++ ys → AreLevelDecls ds × PlacedDecls j ds → ys ≡ (write_decls ds ++ (mark t.EndWord ∷ [])) ++ zs → Good false k (past j (write_decls ds ++ (mark t.EndWord ∷ []))) zs vs → Good false (s.Decls ∷ k) i xs (more_decls d ds, vs)
decl_good k i j d ds xs ys zs vs l p a e n h g = (zs, ((l, n.0), (p, subst (λ m. PlacedDecls m ds) (sym a) n.1)), e ∙ ap (λ v. write_decl d ++ v) h ∙ list_tokens (write_decl d) (write_decls ds) (mark t.EndWord ∷ []) zs, subst (λ m. Good false k m zs vs) (sym (list_past (write_decl d) (write_decls ds) (mark t.EndWord ∷ []) i ∙ ap (λ m. past m (write_decls ds ++ (mark t.EndWord ∷ []))) a)) g)

-- what a type is declared to be
pub typed_is : (i : ℕ) (n : Name) (vars : List Name) (d : Option TypePart) → n.at ≡ i + 1 → IsTvars (i + 1 + 1) (record { vars = vars; equation = d }) → IsLevelDecl (typed_as (at i) n vars d) × PlacedDecl i (typed_as (at i) n vars d) × (write_decl (typed_as (at i) n vars d) ≡ mark t.TypeWord ∷ lx t.Lident n.text ∷ write_tvars (record { vars = vars; equation = d }))
typed_is i n vars None a h = (tt, (refl, a, h.0, tt), refl)
typed_is i n vars (Some (is_alias f)) a h = (h.1.0, (refl, a, h.0, h.1.1), refl)
typed_is i n vars (Some (is_algebraic c)) a h = let r = alg_levels (i + 1) n (record { vars = vars; con = c }) a (h.0, h.1) in ((tt, r.0), (refl, r.1), ap (λ v. mark t.TypeWord ∷ v) (alg_tokens n (record { vars = vars; con = c })))

pub decls_ok : AllRows s.Decls (rows s.Decls)
decls_ok = (λ k i w xs vs p g. (xs, (tt, tt), ap (λ v. lx t.EndWord v ∷ xs) p, g))
    ▸ (λ k i w xs vs p (y1, m, e1, (y2, n, e2, (zs, o, e3, g))). decl_good k i (past (i + 1 + 1) (write_decls vs.1.0 ++ (mark t.EndWord ∷ []))) (scope_decl (at i) vs.0 vs.1.0) vs.1.1.0 (lx t.ScopeWord w ∷ xs) y2 zs vs.1.1.1 n.0 (refl, m.0, n.1) refl (begins t.ScopeWord w xs (lx t.Uident vs.0.text ∷ ((write_decls vs.1.0 ++ (mark t.EndWord ∷ [])) ++ y2)) p (e1 ∙ ap (λ v. lx t.Uident vs.0.text ∷ v) e2)) o e3 g)
    ▸ (λ k i w xs vs p (y1, m, e1, (y2, n, e2, (zs, o, e3, g))). (let r = typed_is i vs.0 vs.1.0.vars vs.1.0.equation m.0 n in decl_good k i (past (i + 1 + 1) (write_tvars vs.1.0)) (typed_as (at i) vs.0 vs.1.0.vars vs.1.0.equation) vs.1.1.0 (lx t.TypeWord w ∷ xs) y2 zs vs.1.1.1 r.0 r.1 (ap (past i) r.2) (begins t.TypeWord w xs (lx t.Lident vs.0.text ∷ (write_tvars vs.1.0 ++ y2)) p (e1 ∙ ap (λ v. lx t.Lident vs.0.text ∷ v) e2) ∙ ap (λ v. v ++ y2) (sym r.2)) o e3 g))
    ▸ (λ k i w xs vs p (y1, m1, e1, (y2, m2, e2, (y3, m3, e3, (y4, m4, e4, (y5, m5, e5, (zs, o, e6, g)))))). decl_good k i (past (past (past (past (i + 1) (write_called vs.0)) (param_row vs.1.0) + 1) (write_form vs.1.1.1.0)) (write_body vs.1.1.1.1.0)) (function_decl (at i) vs.0 vs.1.0 vs.1.1.1.0 vs.1.1.1.1.0.definition vs.1.1.1.1.0.members) vs.1.1.1.1.1.0 (lx t.FunctionWord w ∷ xs) y5 zs vs.1.1.1.1.1.1 (m1.1, m2.0, m4.0, m5.0) (refl, m1.0, m2.1, m4.1, m5.1, m5.2)
    (function_past (write_called vs.0) (param_row vs.1.0) (write_form vs.1.1.1.0) (write_body vs.1.1.1.1.0) (mark t.Colon) (i + 1))
    (begins t.FunctionWord w xs ((write_called vs.0 ++ (param_row vs.1.0 ++ (mark t.Colon ∷ (write_form vs.1.1.1.0 ++ write_body vs.1.1.1.1.0)))) ++ y5) p (e1 ∙ ap (λ v. write_called vs.0 ++ v) (e2 ∙ ap (λ v. param_row vs.1.0 ++ v) (marked_tokens t.Colon vs.1.1.0.text y2 y3 (write_form vs.1.1.1.0 ++ (write_body vs.1.1.1.1.0 ++ y5)) e3 m3.1 (e4 ∙ ap (λ v. write_form vs.1.1.1.0 ++ v) e5))) ∙ function_row (write_called vs.0) (param_row vs.1.0) (write_form vs.1.1.1.0) (write_body vs.1.1.1.1.0) y5 (mark t.Colon))) o e6 g)
    ▸ (λ k i w xs vs p (y1, m1, e1, (y2, m2, e2, (y3, m3, e3, (zs, o, e4, g)))). decl_good k i (past (past (past (i + 1) (write_called vs.0)) (param_row vs.1.0)) (write_body vs.1.1.0)) (predicate_decl (at i) vs.0 vs.1.0 vs.1.1.0.definition vs.1.1.0.members) vs.1.1.1.0 (lx t.PredicateWord w ∷ xs) y3 zs vs.1.1.1.1 (m1.1, m2.0, m3.0) (refl, m1.0, m2.1, m3.1, m3.2)
    (three_row (write_called vs.0) (param_row vs.1.0) (write_body vs.1.1.0) (i + 1))
    (begins t.PredicateWord w xs ((write_called vs.0 ++ (param_row vs.1.0 ++ write_body vs.1.1.0)) ++ y3) p (two_tokens (write_called vs.0) (param_row vs.1.0 ++ write_body vs.1.1.0) xs y1 y3 e1 (two_tokens (param_row vs.1.0) (write_body vs.1.1.0) y1 y2 y3 e2 e3))) o e4 g)
    ▸ (λ k i w xs vs p (y1, m1, e1, (y2, m2, e2, (y3, m3, e3, (y4, m4, e4, (zs, o, e5, g))))). decl_good k i (past (past (past (i + 1) (write_called vs.0) + 1) (write_form vs.1.1.0)) (definition vs.1.1.1.0)) (constant_decl (at i) vs.0 vs.1.1.0 vs.1.1.1.0) vs.1.1.1.1.0 (lx t.ConstantWord w ∷ xs) y4 zs vs.1.1.1.1.1 (m1.1, m3.0, m4.0) (refl, m1.0, m3.1, m4.1)
    (constant_past (write_called vs.0) (write_form vs.1.1.0) (definition vs.1.1.1.0) (mark t.Colon) (i + 1))
    (begins t.ConstantWord w xs ((write_called vs.0 ++ (mark t.Colon ∷ (write_form vs.1.1.0 ++ definition vs.1.1.1.0))) ++ y4) p (e1 ∙ ap (λ v. write_called vs.0 ++ v) (marked_tokens t.Colon vs.1.0.text y1 y2 (write_form vs.1.1.0 ++ (definition vs.1.1.1.0 ++ y4)) e2 m2.1 (e3 ∙ ap (λ v. write_form vs.1.1.0 ++ v) e4)) ∙ constant_row (write_called vs.0) (write_form vs.1.1.0) (definition vs.1.1.1.0) y4 (mark t.Colon))) o e5 g)
    ▸ (λ k i w xs vs p (y1, m1, e1, (y2, m2, e2, (y3, m3, e3, (y4, m4, e4, (zs, o, e5, g))))). (let r = ind_levels (i + 1) vs.0 vs.1.0 vs.1.1.1.0 m1.0 m1.1 m2.0 m2.1 m4 in decl_good k i (past (past (past (i + 1) (write_called vs.0)) (param_row vs.1.0) + 1) (write_clause_part vs.1.1.1.0)) (inductive_decl (at i) (new_inductive vs.0 vs.1.0 vs.1.1.1.0 ∷ vs.1.1.1.0.rest.others)) vs.1.1.1.1.0 (lx t.InductiveWord w ∷ xs) y4 zs vs.1.1.1.1.1 (tt, r.0) (refl, r.1)
    (sym (ind_past vs.0 vs.1.0 vs.1.1.1.0 (i + 1)))
    (begins t.InductiveWord w xs ((write_inductive (new_inductive vs.0 vs.1.0 vs.1.1.1.0) ++ inductive_tail vs.1.1.1.0.rest.others) ++ y4) p (ind_tokens vs.0 vs.1.0 vs.1.1.1.0 vs.1.1.0.text xs y1 y2 y3 y4 e1 e2 e3 m3.1 e4)) o e5 g))
    ▸ prop_ok pk.Axiom
    ▸ prop_ok pk.Lemma
    ▸ prop_ok pk.Goal
    ▸ (λ k i w xs vs p (y1, m, e1, (zs, o, e2, g)). decl_good k i (past (i + 1) (write_used vs.0)) (use_decl (at i) vs.0.link vs.0.path vs.0.name) vs.1.0 (lx t.UseWord w ∷ xs) y1 zs vs.1.1 (m.0, m.1) (refl, m.2, m.3) refl (begins t.UseWord w xs (write_used vs.0 ++ y1) p e1) o e2 g)
    ▸ (λ k i w xs vs p (y1, m, e1, (zs, o, e2, g)). decl_good k i (past (i + 1) (write_cloned vs.0)) (clone_decl (at i) vs.0.used.link vs.0.used.path vs.0.used.name vs.0.elements) vs.1.0 (lx t.CloneWord w ∷ xs) y1 zs vs.1.1 (m.0.0, m.0.1, m.1.0) (refl, m.0.2, m.0.3, m.1.1) (sym (ap (past (i + 1)) (clone_row (link_words vs.0.used.link) (write_path vs.0.used.path.parts) (renamed vs.0.used.name) (substitution vs.0.elements)))) (begins t.CloneWord w xs (write_cloned vs.0 ++ y1) p e1 ∙ ap (λ v. mark t.CloneWord ∷ (v ++ y1)) (clone_row (link_words vs.0.used.link) (write_path vs.0.used.path.parts) (renamed vs.0.used.name) (substitution vs.0.elements))) o e2 g)
    ▸ tt
  where
    bare : {w : Word} (q : PropKind) → Proper (prop_word q) w → w ≡ []
    bare pk.Axiom p = p
    bare pk.Lemma p = p
    bare pk.Goal p = p

    prop_ok : (q : PropKind) → RowOk s.Decls (prop_row (prop_word q) q)
    prop_ok q k i w xs vs p (y1, m1, e1, (y2, m2, e2, (y3, m3, e3, (zs, o, e4, g)))) = decl_good k i (past (past (i + 1) (write_called vs.0) + 1) (write vs.1.1.0)) (prop_decl (at i) q vs.0 vs.1.1.0) vs.1.1.1.0 (lx (prop_word q) w ∷ xs) y3 zs vs.1.1.1.1 (m1.1, m3.0) (refl, m1.0, m3.1) (past_op (write_called vs.0) (mark t.Colon) (write vs.1.1.0) (i + 1))
        (begins (prop_word q) w xs ((write_called vs.0 ++ (mark t.Colon ∷ write vs.1.1.0)) ++ y3) (bare q p) (two_tokens (write_called vs.0) (mark t.Colon ∷ write vs.1.1.0) xs y1 y3 e1 (marked_tokens t.Colon vs.1.0.text y1 y2 (write vs.1.1.0 ++ y3) e2 m2.1 e3))) o e4 g

pub file_ok : AllRows s.File (rows s.File)
file_ok = (theory_ok false, (theory_ok true, tt))
  where
    bare : {w : Word} (b : Bool) → Proper (heading b) w → w ≡ []
    bare true p = p
    bare false p = p

    theory_ok : (b : Bool) → RowOk s.File (file_row (heading b) b)
    theory_ok b k i w xs vs p (y1, m, e1, (y2, n, e2, (zs, o, e3, g))) = (zs, ((n.0, o.0), (refl, m.0, n.1, o.1)), begins (heading b) w xs (lx t.Uident vs.0.text ∷ (((write_decls vs.1.0 ++ (mark t.EndWord ∷ [])) ++ write_file vs.1.1.0) ++ zs)) (bare b p) (e1 ∙ ap (λ v. lx t.Uident vs.0.text ∷ v) (two_tokens (write_decls vs.1.0 ++ (mark t.EndWord ∷ [])) (write_file vs.1.1.0) y1 y2 zs e2 e3)), subst (λ j. Good false k j zs vs.1.1.1) (sym (past-append (write_decls vs.1.0 ++ (mark t.EndWord ∷ [])) (write_file vs.1.1.0) (i + 1 + 1))) g)
