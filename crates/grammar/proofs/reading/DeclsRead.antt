-- The tokens of links, substitutions, declarations and files are read as them.
use Rattle.grammar.proofs.reading.Common.{◌≡◌, ℕ, ◌+◌, Bool, true, false, List, [], ◌∷◌, ◌++◌, Option, Some, None, refl, sym, ap, ◌∙◌, subst, append_assoc, Terminal, Symbol, Name, Lexeme, Word, at, lx, mark, name, Called, SyntaxForm, IsForm, IsHead, IsPlaced, Own, called, lower, past, scoped, type_forms, write_called, write_form, write_own, HasSome, IsLevel, IsPlacedTree, IsTypePart, PlacedNames, PlacedPart, SyntaxTree, bar_before, write, Link, SyntaxDeclaration, SyntaxDeclarations, Element, Member, SyntaxTheory, algebraic_decl, algebraic_tail, all_axioms, clause_list, clone_decl, constant_decl, definition, element_tail, function_decl, heading, inductive_decl, inductive_tail, link_words, more_decls, no_decls, other_members, param_row, path_from, predicate_decl, prop_decl, prop_element, renamed, scope_decl, substitution, symbol_element, type_decl, type_element, type_equation, use_decl, variable_row, write_decl, write_decls, write_element, write_file, write_inductive, write_path, AreElements, AreLevelDecls, IsElement, IsLevelDecl, IsLevelFile, IsLink, IsNewProp, IsSymbolName, PlacedDecl, PlacedDecls, PlacedElement, PlacedElements, PlacedFile, PlacedInductives, PlacedRenamed, is_algebraic, is_alias, ReadingRow, Vals, axioms_own, cloned, use_part, rows, find, read, write_type_body}
use Rattle.tokens_why.specs.declared.terminal.Terminal.TheVariants as t
use Rattle.grammar.specs.declared.symbols.Symbol.TheVariants as s
use Rattle.surface.specs.declared.declarations.PropKind.TheVariants as pk
use Rattle.surface.specs.declared.declarations.Link.TheVariants as lk
use Rattle.surface.specs.declared.declarations.SymbolWord.TheVariants as sw
use Rattle.grammar.proofs.reading.Reading.{Extends, Reads, Stops, extended, passed, past-append}
use Rattle.grammar.proofs.reading.FormsRead.{reads_qlid, reads_type, regroup}
use Rattle.grammar.proofs.reading.Operands.{both_right, past_op, reads_mark}
use Rattle.grammar.proofs.reading.OpenBuilt.{list_past}
use Rattle.grammar.proofs.reading.DeclTokens.{alg_whole, constant_past, function_past, three_row, clone_row}
use Rattle.grammar.proofs.reading.Ends.{Ends, next_ends}
use Rattle.grammar.proofs.reading.PartsRead.{others_read, elem_vars, reads_id, reads_op, reads_params, reads_path, reads_qid, reads_qop, reads_renamed}
use Rattle.grammar.proofs.reading.BodiesRead.{expr_then, ind_follow, ind_tail, ind_tokens_of, reads_body, reads_inductive, reads_tvars, reads_value, typedef_alias, typedef_body}

-- links
used_named : (l : Link) (w : Word) (ws : List Word) (n : Option Name) (zs : List Lexeme) (i : ℕ) (k : List Symbol) (vs : Vals k) → IsLink l n → PlacedRenamed (past (past i (link_words l)) (path_from w ws)) n → Stops s.Renamed zs → Reads k zs (past (past (past i (link_words l)) (path_from w ws)) (renamed n)) vs → Reads (s.Used ∷ k) (link_words l ++ (path_from w ws ++ (renamed n ++ zs))) i (use_part l (record { at = past i (link_words l); parts = w ∷ ws }) n, vs)
used_named lk.Export w ws None zs i k vs l p m h = rw (reads_path w ws zs (i + 1) k vs h) refl
used_named lk.Export w ws (Some n) zs i k vs l p m h = elim l [ ]
used_named lk.Import w ws n zs i k vs l p m h = rw (reads_path w ws (renamed n ++ zs) (i + 1) (s.Renamed ∷ k) (n, vs) (reads_renamed n zs (past (i + 1) (path_from w ws)) k vs p m h)) refl
used_named lk.Bare w [] n zs i k vs l p m h = rw (reads_renamed n zs (i + 1) k vs p m h) refl
used_named lk.Bare w (v ∷ ws) n zs i k vs l p m h = rw (reads_path v ws (renamed n ++ zs) (i + 1 + 1) (s.Renamed ∷ k) (n, vs) (reads_renamed n zs (past (i + 1 + 1) (path_from v ws)) k vs p m h)) refl

cloned_named : (l : Link) (w : Word) (ws : List Word) (n : Option Name) (es : List Element) (zs : List Lexeme) (i : ℕ) (k : List Symbol) (vs : Vals k) → IsLink l n → PlacedRenamed (past (past i (link_words l)) (path_from w ws)) n → Stops s.Renamed zs → Reads (s.Subst ∷ k) zs (past (past (past i (link_words l)) (path_from w ws)) (renamed n)) (es, vs) → Reads (s.Cloned ∷ k) (link_words l ++ (path_from w ws ++ (renamed n ++ zs))) i (cloned (use_part l (record { at = past i (link_words l); parts = w ∷ ws }) n) es, vs)
cloned_named lk.Export w ws None es zs i k vs l p m h = rw (reads_path w ws zs (i + 1) (s.Subst ∷ k) (es, vs) h) refl
cloned_named lk.Export w ws (Some n) es zs i k vs l p m h = elim l [ ]
cloned_named lk.Import w ws n es zs i k vs l p m h = rw (reads_path w ws (renamed n ++ zs) (i + 1) (s.Renamed ∷ s.Subst ∷ k) (n, (es, vs)) (reads_renamed n zs (past (i + 1) (path_from w ws)) (s.Subst ∷ k) (es, vs) p m h)) refl
cloned_named lk.Bare w [] n es zs i k vs l p m h = rw (reads_renamed n zs (i + 1) (s.Subst ∷ k) (es, vs) p m h) refl
cloned_named lk.Bare w (v ∷ ws) n es zs i k vs l p m h = rw (reads_path v ws (renamed n ++ zs) (i + 1 + 1) (s.Renamed ∷ s.Subst ∷ k) (n, (es, vs)) (reads_renamed n zs (past (i + 1 + 1) (path_from v ws)) (s.Subst ∷ k) (es, vs) p m h)) refl

-- substitutions
elem_typed : (qs : List Word) (o : Own) (ns : List Name) (f : SyntaxForm) (zs : List Lexeme) (i : ℕ) (k : List Symbol) (vs : Vals k) → IsHead type_forms o → PlacedNames (past (i + 1) (scoped qs ++ write_own o)) ns → IsForm type_forms f → IsPlaced (past (past (i + 1) (scoped qs ++ write_own o)) (variable_row ns) + 1) f → Stops s.Targs zs → Reads k zs (past (past (past (i + 1) (scoped qs ++ write_own o)) (variable_row ns) + 1) (write_form f)) vs → Reads (s.Elem ∷ k) (mark t.TypeWord ∷ ((scoped qs ++ write_own o) ++ (variable_row ns ++ (mark t.Equal ∷ (write_form f ++ zs))))) i (type_element i (called (i + 1) qs o) ns f, vs)
elem_typed qs (lower w) ns f zs i k vs l p m q n h = rw (reads_qlid qs w (variable_row ns ++ (mark t.Equal ∷ (write_form f ++ zs))) (i + 1) (s.Elvars ∷ k) (record { vars = ns; type = f }, vs) (elem_vars ns f zs (past (i + 1) (scoped qs ++ (lx t.Lident w ∷ []))) k vs p m q n h)) refl
elem_typed qs _ ns f zs i k vs l p m q n h = elim l [ ]

axioms_apart : (x : Terminal) (r : ReadingRow s.Qid) → find (rows s.Qid) x ≡ Some r → find axioms_own x ≡ None
axioms_apart t.Dot r h = cc
axioms_apart _ r h = refl

axioms_extend : Extends s.Axioms s.Qid [] (λ v vs. Some v) axioms_own
axioms_extend = record { is = refl; due = refl; apart = axioms_apart }

two_names : (c d : Called) (zs : List Lexeme) (i : ℕ) (k : List Symbol) (vs : Vals k) → IsSymbolName c.own → IsSymbolName d.own → c.at ≡ i → d.at ≡ past i (write_called c) + 1 → Reads k zs (past (past i (write_called c) + 1) (write_called d)) vs → Reads (s.Qop ∷ s.Take t.Equal ∷ s.Qop ∷ k) (write_called c ++ (mark t.Equal ∷ (write_called d ++ zs))) i (c, (name (past i (write_called c)) [], (d, vs)))
two_names c d zs i k vs l m a b h = reads_qop c (mark t.Equal ∷ (write_called d ++ zs)) i (s.Take t.Equal ∷ s.Qop ∷ k) (name (past i (write_called c)) [], (d, vs)) l a (reads_mark t.Equal (write_called d ++ zs) (past i (write_called c)) (s.Qop ∷ k) (d, vs) (reads_qop d zs (past i (write_called c) + 1) k vs m b h))

pub reads_elem : (e : Element) (zs : List Lexeme) (i : ℕ) (k : List Symbol) (vs : Vals k) → IsElement e → PlacedElement i e → Stops s.Targs zs → Stops s.Qids zs → Reads k zs (past i (write_element e)) vs → Reads (s.Elem ∷ k) (write_element e ++ zs) i (e, vs)
reads_elem (type_element j c ns f) zs i k vs l p n m h = rw (elem_tokens (write_called c) (variable_row ns) (write_form f) zs, p.0, p.1) (elem_typed c.scopes c.own ns f zs i k vs l.0 p.2 l.1 p.3 n (rw (three_row (write_called c) (variable_row ns) (mark t.Equal ∷ write_form f) (i + 1)) at h))
  where
    elem_tokens : (a b c ys : List Lexeme) → (a ++ (b ++ (mark t.Equal ∷ c))) ++ ys ≡ a ++ (b ++ (mark t.Equal ∷ (c ++ ys)))
    elem_tokens a b c ys = simp append_assoc
reads_elem (symbol_element j sw.Function c d) zs i k vs l p n m h = rw (both_right (write_called c) (mark t.Equal) (write_called d) zs, p.0, two_names c d zs (i + 1) k vs l.0 l.1 p.1 p.2 (rw past_op at h)) refl
reads_elem (symbol_element j sw.Constant c d) zs i k vs l p n m h = rw (both_right (write_called c) (mark t.Equal) (write_called d) zs, p.0, two_names c d zs (i + 1) k vs l.0 l.1 p.1 p.2 (rw past_op at h)) refl
reads_elem (symbol_element j sw.Predicate c d) zs i k vs l p n m h = rw (both_right (write_called c) (mark t.Equal) (write_called d) zs, p.0, two_names c d zs (i + 1) k vs l.0 l.1 p.1 p.2 (rw past_op at h)) refl
reads_elem (prop_element j pk.Axiom c) zs i k vs l p n m h = rw (p.0, extended s.Axioms s.Qid [] (λ v vs. Some v) axioms_own axioms_extend (write_called c ++ zs) (i + 1) k c vs (reads_qid c zs (i + 1) k vs l p.1 m h)) refl
reads_elem (prop_element j pk.Lemma c) zs i k vs l p n m h = rw (p.0, reads_qid c zs (i + 1) k vs l p.1 m h) refl
reads_elem (prop_element j pk.Goal c) zs i k vs l p n m h = rw (p.0, reads_qid c zs (i + 1) k vs l p.1 m h) refl
reads_elem (all_axioms j) zs i k vs l p n m h = rw (h, p) refl

elems_targs : (es : List Element) (zs : List Lexeme) → Ends zs → Stops s.Targs (element_tail es ++ zs)
elems_targs [] zs n = n.no_targs
elems_targs (e ∷ es) zs n = refl

elems_qids : (es : List Element) (zs : List Lexeme) → Ends zs → Stops s.Qids (element_tail es ++ zs)
elems_qids [] zs n = n.no_qids
elems_qids (e ∷ es) zs n = refl

pub reads_elems : (es : List Element) (zs : List Lexeme) (i : ℕ) (k : List Symbol) (vs : Vals k) → AreElements es → PlacedElements (i + 1) es → Ends zs → Reads k zs (past i (element_tail es)) vs → Reads (s.Elems ∷ k) (element_tail es ++ zs) i (es, vs)
reads_elems [] zs i k vs l p n h = passed s.Elems [] k zs i vs refl refl n.no_elems h
reads_elems (e ∷ es) zs i k vs l p n h = rw (append_assoc (write_element e) (element_tail es) zs, reads_elem e (element_tail es ++ zs) (i + 1) (s.Elems ∷ k) (es, vs) l.0 p.0 (elems_targs es zs n) (elems_qids es zs n) (reads_elems es zs (past (i + 1) (write_element e)) k vs l.1 p.1 n (rw past-append at h))) refl

pub reads_subst : (es : List Element) (zs : List Lexeme) (i : ℕ) (k : List Symbol) (vs : Vals k) → AreElements es → PlacedElements (i + 1) es → Ends zs → Reads k zs (past i (substitution es)) vs → Reads (s.Subst ∷ k) (substitution es ++ zs) i (es, vs)
reads_subst [] zs i k vs l p n h = passed s.Subst [] k zs i vs refl refl n.no_subst h
reads_subst (e ∷ es) zs i k vs l p n h = rw (append_assoc (write_element e) (element_tail es) zs, reads_elem e (element_tail es ++ zs) (i + 1) (s.Elems ∷ k) (es, vs) l.0 p.0 (elems_targs es zs n) (elems_qids es zs n) (reads_elems es zs (past (i + 1) (write_element e)) k vs l.1 p.1 n (rw past-append at h))) refl

subst_stop : (es : List Element) (zs : List Lexeme) → Ends zs → Stops s.Renamed (substitution es ++ zs)
subst_stop [] zs n = n.no_renamed
subst_stop (e ∷ es) zs n = refl

-- declarations
body_targs : (e : Option SyntaxTree) (ms : List Member) (zs : List Lexeme) → Ends zs → Stops s.Targs (definition e ++ (other_members ms ++ zs))
body_targs None [] zs n = n.no_targs
body_targs None (d ∷ ms) zs n = refl
body_targs (Some e) ms zs n = refl

body_params : (e : Option SyntaxTree) (ms : List Member) (zs : List Lexeme) → Ends zs → Stops s.Params (definition e ++ (other_members ms ++ zs))
body_params None [] zs n = n.no_params
body_params None (d ∷ ms) zs n = refl
body_params (Some e) ms zs n = refl

value_targs : (e : Option SyntaxTree) (zs : List Lexeme) → Ends zs → Stops s.Targs (definition e ++ zs)
value_targs None zs n = n.no_targs
value_targs (Some e) zs n = refl

function_tokens : (a b c d e ys : List Lexeme) → (a ++ (b ++ (mark t.Colon ∷ (c ++ (d ++ e))))) ++ ys ≡ a ++ (b ++ (mark t.Colon ∷ (c ++ (d ++ (e ++ ys)))))
function_tokens a b c d e ys = simp append_assoc

predicate_tokens : (a b c d ys : List Lexeme) → (a ++ (b ++ (c ++ d))) ++ ys ≡ a ++ (b ++ (c ++ (d ++ ys)))
predicate_tokens a b c d ys = simp append_assoc

constant_tokens : (a b c ys : List Lexeme) → (a ++ (mark t.Colon ∷ (b ++ c))) ++ ys ≡ a ++ (mark t.Colon ∷ (b ++ (c ++ ys)))
constant_tokens a b c ys = simp append_assoc

pub decl_equation : (n : Name) (ns : List Name) (f : Option SyntaxForm) (zs : List Lexeme) (i : ℕ) (k : List Symbol) (vs : Vals (s.Decls ∷ k)) → IsTypePart f → n.at ≡ i + 1 → PlacedNames (i + 1 + 1) ns → PlacedPart (past (i + 1 + 1) (variable_row ns)) f → Ends zs → Reads (s.Decls ∷ k) zs (past (past (i + 1 + 1) (variable_row ns)) (type_equation f)) vs → Reads (s.Decls ∷ k) (mark t.TypeWord ∷ lx t.Lident n.text ∷ (variable_row ns ++ (type_equation f ++ zs))) i (more_decls (type_decl (at i) n ns f) vs.0, vs.1)
decl_equation n ns None zs i k vs l a p q m h = rw (reads_tvars ns None zs (i + 1 + 1) (s.Decls ∷ k) vs p (passed s.Tvars (record { vars = []; equation = None }) (s.Decls ∷ k) zs (past (i + 1 + 1) (variable_row ns)) vs refl refl m.no_tvars h)) (ap (λ v. Some (more_decls (type_decl (at i) (name v n.text) ns None) vs.0, vs.1)) (sym a))
decl_equation n ns (Some f) zs i k vs l a p q m h = rw (reads_tvars ns (Some (is_alias f)) (mark t.Equal ∷ (write_form f ++ zs)) (i + 1 + 1) (s.Decls ∷ k) vs p (rw (typedef_alias f zs (past (i + 1 + 1) (variable_row ns) + 1) (s.Decls ∷ k) vs l q m.no_targs h) refl)) (ap (λ v. Some (more_decls (type_decl (at i) (name v n.text) ns (Some f)) vs.0, vs.1)) (sym a))

used_path : (l : Link) (ps : List Word) (n : Option Name) (zs : List Lexeme) (i : ℕ) (k : List Symbol) (vs : Vals k) → HasSome ps → IsLink l n → PlacedRenamed (past (past i (link_words l)) (write_path ps)) n → Stops s.Renamed zs → Reads k zs (past (past (past i (link_words l)) (write_path ps)) (renamed n)) vs → Reads (s.Used ∷ k) (link_words l ++ (write_path ps ++ (renamed n ++ zs))) i (use_part l (record { at = past i (link_words l); parts = ps }) n, vs)
used_path l [] n zs i k vs e q p m h = elim e [ ]
used_path l (w ∷ ws) n zs i k vs e q p m h = used_named l w ws n zs i k vs q p m h

cloned_path : (l : Link) (ps : List Word) (n : Option Name) (es : List Element) (zs : List Lexeme) (i : ℕ) (k : List Symbol) (vs : Vals k) → HasSome ps → IsLink l n → PlacedRenamed (past (past i (link_words l)) (write_path ps)) n → Stops s.Renamed zs → Reads (s.Subst ∷ k) zs (past (past (past i (link_words l)) (write_path ps)) (renamed n)) (es, vs) → Reads (s.Cloned ∷ k) (link_words l ++ (write_path ps ++ (renamed n ++ zs))) i (cloned (use_part l (record { at = past i (link_words l); parts = ps }) n) es, vs)
cloned_path l [] n es zs i k vs e q p m h = elim e [ ]
cloned_path l (w ∷ ws) n es zs i k vs e q p m h = cloned_named l w ws n es zs i k vs q p m h

prop_rest : (c : Called) (e : SyntaxTree) (ds : SyntaxDeclarations) (zs : List Lexeme) (i : ℕ) (k : List Symbol) (vs : Vals k) → IsNewProp c → IsLevel e → c.at ≡ i + 1 → IsPlacedTree (past (i + 1) (write_called c) + 1) e → Ends zs → Reads (s.Decls ∷ k) zs (past (past (i + 1) (write_called c) + 1) (write e)) (ds, vs) → Reads (s.Ident ∷ s.Take t.Colon ∷ s.Expr 0 ∷ s.Decls ∷ k) (write_called c ++ (mark t.Colon ∷ (write e ++ zs))) (i + 1) (c, (name (past (i + 1) (write_called c)) [], (e, (ds, vs))))
prop_rest c e ds zs i k vs l m a p n h = reads_id c (mark t.Colon ∷ (write e ++ zs)) (i + 1) (s.Take t.Colon ∷ s.Expr 0 ∷ s.Decls ∷ k) (name (past (i + 1) (write_called c)) [], (e, (ds, vs))) l a (reads_mark t.Colon (write e ++ zs) (past (i + 1) (write_called c)) (s.Expr 0 ∷ s.Decls ∷ k) (e, (ds, vs)) (expr_then e zs (past (i + 1) (write_called c) + 1) s.Decls k (ds, vs) refl m p n.follow h))

mutual
  pub reads_decl : (d : SyntaxDeclaration) (ds : SyntaxDeclarations) (zs : List Lexeme) (i : ℕ) (k : List Symbol) (vs : Vals k) → IsLevelDecl d → PlacedDecl i d → Ends zs → Reads (s.Decls ∷ k) zs (past i (write_decl d)) (ds, vs) → Reads (s.Decls ∷ k) (write_decl d ++ zs) i (more_decls d ds, vs)
  reads_decl (type_decl a n ns f) ds zs i k vs l p m h = rw (append_assoc (variable_row ns) (type_equation f) zs, p.0) (decl_equation n ns f zs i k (ds, vs) l p.1 p.2 p.3 m (rw past-append at h))
  reads_decl (algebraic_decl a []) ds zs i k vs l p m h = elim l.0 [ ]
  reads_decl (algebraic_decl a (b ∷ as_)) ds zs i k vs l p m h = let r = others_read as_ zs (past (past (i + 1 + 1) (variable_row b.vars) + 1) (write_type_body b.bar b.constructors b.fields b.semi)) (s.Decls ∷ k) (ds, vs) l.1.1 (rw past-append at p.1.1) m.no_fields m.no_algs (rw (past-append, past-append) at h) in rw (
    alg_whole (variable_row b.vars) (write_type_body b.bar b.constructors b.fields b.semi) (algebraic_tail as_) zs,
    p.0,
    reads_tvars b.vars (Some (is_algebraic (record { bar = b.bar; constructors = b.constructors; fields = b.fields; semi = b.semi; others = as_ }))) (mark t.Equal ∷ (write_type_body b.bar b.constructors b.fields b.semi ++ (algebraic_tail as_ ++ zs))) (i + 1 + 1) (s.Decls ∷ k) (ds, vs) p.1.0.1
        (rw (typedef_body b.bar b.constructors b.fields b.semi as_ (algebraic_tail as_ ++ zs) (past (i + 1 + 1) (variable_row b.vars) + 1) k (ds, vs) l.1.0 p.1.0.2 r.0 r.1) refl),
  )
      (ap (λ v. Some (more_decls (algebraic_decl (at i) (record { name = name v b.name.text; vars = b.vars; bar = b.bar; constructors = b.constructors; fields = b.fields; semi = b.semi } ∷ as_)) ds, vs)) (sym p.1.0.0))
  reads_decl (function_decl a c ps f e ms) ds zs i k vs l p m h = rw (
    function_tokens (write_called c) (param_row ps) (write_form f) (definition e) (other_members ms) zs,
    p.0,
    reads_op c (param_row ps ++ (mark t.Colon ∷ (write_form f ++ (definition e ++ (other_members ms ++ zs))))) (i + 1) (s.Params ∷ s.Take t.Colon ∷ s.TypeOf ∷ s.Body ∷ s.Decls ∷ k) (ps, (name (past (past (i + 1) (write_called c)) (param_row ps)) [], (f, (record { definition = e; members = ms }, (ds, vs))))) l.0 p.1
        (reads_params ps (mark t.Colon ∷ (write_form f ++ (definition e ++ (other_members ms ++ zs)))) (past (i + 1) (write_called c)) (s.Take t.Colon ∷ s.TypeOf ∷ s.Body ∷ s.Decls ∷ k) (name (past (past (i + 1) (write_called c)) (param_row ps)) [], (f, (record { definition = e; members = ms }, (ds, vs)))) l.1 p.2 refl
        (reads_mark t.Colon (write_form f ++ (definition e ++ (other_members ms ++ zs))) (past (past (i + 1) (write_called c)) (param_row ps)) (s.TypeOf ∷ s.Body ∷ s.Decls ∷ k) (f, (record { definition = e; members = ms }, (ds, vs)))
        (reads_type f (definition e ++ (other_members ms ++ zs)) (past (past (i + 1) (write_called c)) (param_row ps) + 1) (s.Body ∷ s.Decls ∷ k) (record { definition = e; members = ms }, (ds, vs)) l.2 p.3 (body_targs e ms zs m)
        (reads_body e ms zs (past (past (past (i + 1) (write_called c)) (param_row ps) + 1) (write_form f)) (s.Decls ∷ k) (ds, vs) l.3 p.4 p.5 m
        (subst (λ j. Reads (s.Decls ∷ k) zs j (ds, vs)) (function_past (write_called c) (param_row ps) (write_form f) (definition e ++ other_members ms) (mark t.Colon) (i + 1) ∙ past-append (definition e) (other_members ms) (past (past (past (i + 1) (write_called c)) (param_row ps) + 1) (write_form f))) h))))),
  ) refl
  reads_decl (predicate_decl a c ps e ms) ds zs i k vs l p m h = rw (
    predicate_tokens (write_called c) (param_row ps) (definition e) (other_members ms) zs,
    p.0,
    reads_op c (param_row ps ++ (definition e ++ (other_members ms ++ zs))) (i + 1) (s.Params ∷ s.Body ∷ s.Decls ∷ k) (ps, (record { definition = e; members = ms }, (ds, vs))) l.0 p.1
        (reads_params ps (definition e ++ (other_members ms ++ zs)) (past (i + 1) (write_called c)) (s.Body ∷ s.Decls ∷ k) (record { definition = e; members = ms }, (ds, vs)) l.1 p.2 (body_params e ms zs m)
        (reads_body e ms zs (past (past (i + 1) (write_called c)) (param_row ps)) (s.Decls ∷ k) (ds, vs) l.2 p.3 p.4 m
        (subst (λ j. Reads (s.Decls ∷ k) zs j (ds, vs)) (three_row (write_called c) (param_row ps) (definition e ++ other_members ms) (i + 1) ∙ past-append (definition e) (other_members ms) (past (past (i + 1) (write_called c)) (param_row ps))) h))),
  ) refl
  reads_decl (constant_decl a c f e) ds zs i k vs l p m h = rw (
    constant_tokens (write_called c) (write_form f) (definition e) zs,
    p.0,
    reads_op c (mark t.Colon ∷ (write_form f ++ (definition e ++ zs))) (i + 1) (s.Take t.Colon ∷ s.TypeOf ∷ s.Value ∷ s.Decls ∷ k) (name (past (i + 1) (write_called c)) [], (f, (e, (ds, vs)))) l.0 p.1
        (reads_mark t.Colon (write_form f ++ (definition e ++ zs)) (past (i + 1) (write_called c)) (s.TypeOf ∷ s.Value ∷ s.Decls ∷ k) (f, (e, (ds, vs)))
        (reads_type f (definition e ++ zs) (past (i + 1) (write_called c) + 1) (s.Value ∷ s.Decls ∷ k) (e, (ds, vs)) l.1 p.2 (value_targs e zs m)
        (reads_value e zs (past (past (i + 1) (write_called c) + 1) (write_form f)) k (ds, vs) l.2 p.3 m (subst (λ j. Reads (s.Decls ∷ k) zs j (ds, vs)) (constant_past (write_called c) (write_form f) (definition e) (mark t.Colon) (i + 1)) h)))),
  ) refl
  reads_decl (inductive_decl a []) ds zs i k vs l p m h = elim l.0 [ ]
  reads_decl (inductive_decl a (d ∷ is)) ds zs i k vs l p m h = rw (
    ind_tokens_of (write_called d.name) (param_row d.params) (bar_before d.bar) (clause_list d.clauses) (inductive_tail is) zs,
    p.0,
    reads_inductive d is (inductive_tail is ++ zs) (i + 1) (s.Decls ∷ k) (ds, vs) l.1.0 l.1.1 l.1.2 l.1.3 p.1.0 (ind_follow is zs m) (ind_tail is zs (past (past (past (past (i + 1) (write_called d.name)) (param_row d.params) + 1) (bar_before d.bar)) (clause_list d.clauses)) (s.Decls ∷ k) (ds, vs) l.1.4 (subst (λ j. PlacedInductives (j + 1) is) (function_past (write_called d.name) (param_row d.params) (bar_before d.bar) (clause_list d.clauses) (mark t.Equal) (i + 1)) p.1.1) m
        (subst (λ j. Reads (s.Decls ∷ k) zs j (ds, vs)) (past-append (write_inductive d) (inductive_tail is) (i + 1) ∙ ap (λ j. past j (inductive_tail is)) (function_past (write_called d.name) (param_row d.params) (bar_before d.bar) (clause_list d.clauses) (mark t.Equal) (i + 1))) h)),
  ) refl
  reads_decl (prop_decl a pk.Axiom c e) ds zs i k vs l p m h = rw (both_right (write_called c) (mark t.Colon) (write e) zs, p.0, prop_rest c e ds zs i k vs l.0 l.1 p.1 p.2 m (rw past_op at h)) refl
  reads_decl (prop_decl a pk.Lemma c e) ds zs i k vs l p m h = rw (both_right (write_called c) (mark t.Colon) (write e) zs, p.0, prop_rest c e ds zs i k vs l.0 l.1 p.1 p.2 m (rw past_op at h)) refl
  reads_decl (prop_decl a pk.Goal c e) ds zs i k vs l p m h = rw (both_right (write_called c) (mark t.Colon) (write e) zs, p.0, prop_rest c e ds zs i k vs l.0 l.1 p.1 p.2 m (rw past_op at h)) refl
  reads_decl (use_decl a l p n) ds zs i k vs q u m h = rw (clone_row (link_words l) (write_path p.parts) (renamed n) zs, u.0, used_path l p.parts n zs (i + 1) (s.Decls ∷ k) (ds, vs) q.0 q.1 u.2 m.no_renamed (subst (λ j. Reads (s.Decls ∷ k) zs j (ds, vs)) (three_row (link_words l) (write_path p.parts) (renamed n) (i + 1)) h)) (ap (λ v. Some (more_decls (use_decl (at i) l (record { at = v; parts = p.parts }) n) ds, vs)) (sym u.1))
  reads_decl (clone_decl a l p n es) ds zs i k vs q u m h = rw (predicate_tokens (link_words l) (write_path p.parts) (renamed n) (substitution es) zs, u.0, cloned_path l p.parts n es (substitution es ++ zs) (i + 1) (s.Decls ∷ k) (ds, vs) q.0 q.1 u.2 (subst_stop es zs m) (reads_subst es zs (past (past (past (i + 1) (link_words l)) (write_path p.parts)) (renamed n)) (s.Decls ∷ k) (ds, vs) q.2 u.3 m (subst (λ j. Reads (s.Decls ∷ k) zs j (ds, vs)) (three_row (link_words l) (write_path p.parts) (renamed n ++ substitution es) (i + 1) ∙ past-append (renamed n) (substitution es) (past (past (i + 1) (link_words l)) (write_path p.parts))) h))) (ap (λ v. Some (more_decls (clone_decl (at i) l (record { at = v; parts = p.parts }) n es) ds, vs)) (sym u.1))
  reads_decl (scope_decl a n es) ds zs i k vs l p m h = rw (p.0, reads_decls es zs (i + 1 + 1) (s.Decls ∷ k) (ds, vs) l p.2 h) (ap (λ v. Some (more_decls (scope_decl (at i) (name v n.text) es) ds, vs)) (sym p.1))

  pub reads_decls : (ds : SyntaxDeclarations) (ys : List Lexeme) (i : ℕ) (k : List Symbol) (vs : Vals k) → AreLevelDecls ds → PlacedDecls i ds → Reads k ys (past i (write_decls ds ++ (mark t.EndWord ∷ []))) vs → Reads (s.Decls ∷ k) ((write_decls ds ++ (mark t.EndWord ∷ [])) ++ ys) i (ds, vs)
  reads_decls no_decls ys i k vs l p h = rw h refl
  reads_decls (more_decls d ds) ys i k vs l p h = rw (regroup (write_decl d) (write_decls ds) (mark t.EndWord ∷ []) ys) (reads_decl d ds ((write_decls ds ++ (mark t.EndWord ∷ [])) ++ ys) i k vs l.0 p.0 (next_ends ds ys) (reads_decls ds ys (past i (write_decl d)) k vs l.1 p.1 (subst (λ j. Reads k ys j vs) (list_past (write_decl d) (write_decls ds) (mark t.EndWord ∷ []) i) h)))

pub reads_file : (hs : List SyntaxTheory) (i : ℕ) → IsLevelFile hs → PlacedFile i hs → Reads (s.File ∷ []) (write_file hs) i (hs, tt)
reads_file [] i l p = refl
reads_file (h ∷ hs) i l p = by_heading h.is_module refl (reads_file hs (past (i + 1 + 1) (write_decls h.decls ++ (mark t.EndWord ∷ []))) l.1 p.3)
  where
    rest_read : Reads (s.File ∷ []) (write_file hs) (past (i + 1 + 1) (write_decls h.decls ++ (mark t.EndWord ∷ []))) (hs, tt) → Reads (s.Decls ∷ s.File ∷ []) ((write_decls h.decls ++ (mark t.EndWord ∷ [])) ++ write_file hs) (i + 1 + 1) (h.decls, (hs, tt))
    rest_read g = reads_decls h.decls (write_file hs) (i + 1 + 1) (s.File ∷ []) (hs, tt) l.0 p.2 g

    theory_is : (b : Bool) → h.is_module ≡ b → ◌≡◌ {A = Option (List SyntaxTheory × Unit {0})} (Some (record { at = at i; is_module = b; name = name (i + 1) h.name.text; decls = h.decls } ∷ hs, tt)) (Some (h ∷ hs, tt))
    theory_is b e = ap (λ v. Some (record { at = v; is_module = b; name = name (i + 1) h.name.text; decls = h.decls } ∷ hs, tt)) (sym p.0) ∙ ap (λ v. Some (record { at = h.at; is_module = v; name = name (i + 1) h.name.text; decls = h.decls } ∷ hs, tt)) (sym e) ∙ ap (λ v. Some (record { at = h.at; is_module = h.is_module; name = name v h.name.text; decls = h.decls } ∷ hs, tt)) (sym p.1)

    by_heading : (b : Bool) → h.is_module ≡ b → Reads (s.File ∷ []) (write_file hs) (past (i + 1 + 1) (write_decls h.decls ++ (mark t.EndWord ∷ []))) (hs, tt) → Reads (s.File ∷ []) (write_file (h ∷ hs)) i (h ∷ hs, tt)
    by_heading true e g = subst (λ b. read (mark (heading b) ∷ lx t.Uident h.name.text ∷ ((write_decls h.decls ++ (mark t.EndWord ∷ [])) ++ write_file hs)) i false (s.File ∷ []) ≡ Some (h ∷ hs, tt)) (sym e) (rw (rest_read g) (theory_is true e))
    by_heading false e g = subst (λ b. read (mark (heading b) ∷ lx t.Uident h.name.text ∷ ((write_decls h.decls ++ (mark t.EndWord ∷ [])) ++ write_file hs)) i false (s.File ∷ []) ≡ Some (h ∷ hs, tt)) (sym e) (rw (rest_read g) (theory_is false e))
