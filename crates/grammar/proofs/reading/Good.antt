-- Values that are right, with their places and tokens.
use Rattle.grammar.proofs.reading.Common.{◌≡◌, ℕ, ◌+◌, Bool, true, false, ◌&&◌, List, [], ◌∷◌, ◌++◌, Option, Some, None, ◌≤◌, ⊤, Terminal, Symbol, is_tail, Name, Lexeme, Word, lx, mark, AreForms, AreParts, IsForm, IsFormPart, IsPlaced, PlacedList, PlacedRow, form_list, form_row, form_tail, past, pattern_forms, scoped, type_forms, write_called, write_form, write_own, is_infix, is_operator, prec, need, right, AreAtoms, AreBranches, AreLevel, HasSome, IsAtom, IsLevel, IsOwn, IsPlacedTree, MayBeMarked, OperatorToken, PlacedBranches, PlacedCommas, PlacedTrees, ends_open, none, tight, write, write_op, write_others, write_row, write_tail, definition, element_tail, other_members, param_row, renamed, substitution, write_decls, write_element, write_file, write_path, AreLevelDecls, AreMembers, AreParams, IsOptionalDefinition, IsElement, IsLevelFile, IsNewProp, IsNewSymbol, IsSymbolName, PlacedDecls, PlacedDefinition, PlacedElement, PlacedFile, PlacedMembers, PlacedParams, PlacedRenamed, Scoped, NameRest, IsLowerName, Own, UpperRest, SyntaxTrees, args_rest, dots_rest, scopes_name, unscoped, Chain, Closing, Dotted, Minus, Paren, Headed, cast_to, closes_group, holds, link, named_operator, named_by, nothing, operand, stop, ReadingRow, Val, Vals, back, extend, front, blank, write_param, IsTypedParam, PlacedTyped, algebraic_tail, write_field}
use Rattle.tokens_why.specs.declared.terminal.Terminal.TheVariants as t
use Rattle.grammar.specs.declared.symbols.Symbol.TheVariants as s
use Rattle.grammar.proofs.reading.TermsRight.{IsFormNext, IsFormRest, IsTreeNext, IsTreeRest, next_forms, next_trees, write_form_rest, write_tree_rest, AreDots, IsArm, IsBound, IsBranch, IsCases, IsLet, IsNames, IsTerms, write_arm, write_bound, write_branch, write_cases, write_dots, write_let, write_names, write_terms_part}
use Rattle.grammar.proofs.reading.DeclsRight.{IsAlg, IsAxioms, IsBody, IsClausePart, IsClauses, IsCloned, IsCon, IsFields, IsMemberPart, IsPname, IsPparen, IsPropAt, IsQids, IsSubst, IsTvars, IsType, IsUpper, IsUsed, IsVars, value_open, write_alg, write_axioms, write_body, write_clause_part, write_clauses, write_cloned, write_con, write_fields, write_member_part, write_pname, write_pparen, write_qids, write_tvars, write_type, write_upper, write_used, write_vars, AreOthers, IsField, IsRecordNext, IsRecordRest, write_record_next, write_record_rest}

infixr 5 ◌▸◌
-- A token has a text where its terminal has several.
abbrev pub Proper : Terminal → Word → Type 0
Proper t.Lident w = ⊤
Proper t.Uident w = ⊤
Proper t.TyVar w = ⊤
Proper t.Int w = ⊤
Proper t.Operator1 w = ⊤
Proper t.Operator2 w = ⊤
Proper t.Operator3 w = ⊤
Proper t.Operator4 w = ⊤
Proper t.PrefixOperator w = ⊤
Proper _ w = w ≡ []

abbrev pub AllProper : List Lexeme → Type 0
AllProper [] = ⊤
AllProper (x ∷ xs) = Proper x.terminal x.text × AllProper xs

abbrev pub dots : Option Dotted → List Lexeme
dots None = []
dots (Some d) = mark t.Dot ∷ (scoped d.scopes ++ (lx t.Uident d.last ∷ []))

abbrev pub as_part : Option Name → List Lexeme
as_part None = []
as_part (Some n) = mark t.AsWord ∷ lx t.Lident n.text ∷ []

abbrev pub write_chain : Chain → List Lexeme
write_chain stop = []
write_chain (link o f c) = write_op o ∷ (write f ++ write_chain c)

abbrev pub write_applied : NameRest → List Lexeme
write_applied (args_rest ts) = write_row ts
write_applied (dots_rest cs) = write_dots cs

abbrev pub write_headed : Headed → List Lexeme
write_headed d = (scoped d.scopes ++ write_own d.own) ++ write_applied d.rest

abbrev pub write_head_rest : UpperRest → List Lexeme
write_head_rest (unscoped ts) = write_row ts
write_head_rest (scopes_name d) = mark t.Dot ∷ write_headed d

abbrev pub write_scoped : Scoped → List Lexeme
write_scoped d = scoped d.scopes ++ write_own d.own

abbrev pub own_dots : Option Scoped → List Lexeme
own_dots None = []
own_dots (Some d) = mark t.Dot ∷ write_scoped d

abbrev pub opend : Bool → List Lexeme
opend false = mark t.RParen ∷ []
opend true = mark t.Wild ∷ mark t.RParen ∷ []

abbrev pub write_closing : Closing → List Lexeme
write_closing (closes_group es cs) = (write_tail es ++ (mark t.RParen ∷ [])) ++ write_dots cs
write_closing (cast_to f cs) = mark t.Colon ∷ ((write_form f ++ (mark t.RParen ∷ [])) ++ write_dots cs)

abbrev pub write_paren : Paren → List Lexeme
write_paren (nothing cs) = mark t.RParen ∷ write_dots cs
write_paren (named_operator o b ts) = write_op o ∷ (opend b ++ write_row ts)
write_paren (holds e z) = write e ++ write_closing z

abbrev pub write_minus : Minus → List Lexeme
write_minus (named_by b ts) = opend b ++ write_row ts
write_minus (operand e c z) = write e ++ (write_chain c ++ write_closing z)

-- the tokens of a value
abbrev pub writes : (s : Symbol) → Val s → List Lexeme
writes (s.Take x) n = lx x n.text ∷ []
writes s.Qlid d = scoped d.scopes ++ (lx t.Lident d.last ∷ [])
writes s.TypeOf f = write_form f
writes s.Atype f = write_form f
writes s.Targs ts = form_row ts
writes s.Ttuple ts = form_list ts ++ (mark t.RParen ∷ [])
writes s.Tmore ts = form_tail ts ++ (mark t.RParen ∷ [])
writes s.Quids d = dots d
writes s.Pat f = write_form f
writes s.Patom f = write_form f
writes s.Patoms ts = form_row ts
writes s.Ptuple ts = form_list ts ++ (mark t.RParen ∷ [])
writes s.Pmore ts = form_tail ts ++ (mark t.RParen ∷ [])
writes s.AsPart m = as_part m
writes (s.Expr m) e = write e
writes (s.Tail m u) c = write_chain c
writes s.Prim e = write e
writes s.Atom e = write e
writes s.Args ts = write_row ts
writes (s.HeadRest b) d = write_head_rest d
writes (s.Head b) d = write_headed d
writes s.Scoped d = own_dots d
writes s.Qhead d = write_scoped d
writes s.Applied r = write_applied r
writes s.Dots cs = write_dots cs
writes s.PatFields r = write_form_rest r
writes s.PatField r = next_forms r.names r.forms r.semi
writes s.ExprFields r = write_tree_rest r
writes s.ExprField r = next_trees r.names r.trees r.semi
writes s.Opname n = write_op n.op ∷ opend n.prefix
writes s.Opend b = opend b
writes s.Hparen p = write_paren p
writes s.Aparen p = write_paren p
writes s.Hminus n = write_minus n
writes s.Aminus n = write_minus n
writes s.GroupRest z = write_closing z
writes s.More es = write_tail es ++ (mark t.RParen ∷ [])
writes s.OpenForm e = write e
writes s.Scrutinees c = write_cases c
writes s.Branch b = write_branch b
writes s.Arm a = write_arm a
writes s.Branches bs = write_others bs ++ (mark t.EndWord ∷ [])
writes s.Letpats l = write_let l
writes s.Binder b = write_names b
writes s.Binders b = write_bound b
writes s.Trigger p = write_terms_part p
writes s.File hs = write_file hs
writes s.Decls ds = write_decls ds ++ (mark t.EndWord ∷ [])
writes s.Tvars v = write_tvars v
writes s.Typedef d = write_type d
writes s.Upper u = write_upper u
writes s.Fields p = write_fields p
writes s.Algvars a = write_alg a
writes s.Con c = write_con c
writes s.RecordField p = write_field p
writes s.RecordRest r = write_record_rest r
writes s.RecordNext r = write_record_next r
writes s.Algs as_ = algebraic_tail as_
writes s.Op c = write_called c
writes s.Ident c = write_called c
writes s.Param p = write_param p
writes s.Params ps = param_row ps
writes s.Pparen p = write_pparen p
writes s.Pname p = write_pname p
writes s.Body b = write_body b
writes s.Members ds = other_members ds
writes s.Member p = write_member_part p
writes s.Value v = definition v
writes s.Clause p = write_clause_part p
writes s.Clauses p = write_clauses p
writes s.Used u = write_used u
writes s.Cloned c = write_cloned c
writes s.Path p = write_path p.parts
writes s.Renamed n = renamed n
writes s.Subst es = substitution es
writes s.Elems es = element_tail es
writes s.Elem e = write_element e
writes s.Axioms c = write_axioms c
writes s.Elvars v = write_vars v
writes s.Qop c = write_called c
writes s.Qid c = write_called c
writes s.Qids c = write_qids c
writes s.Seal v = []

abbrev pub NamedAt : ℕ → Option Name → Type 0
NamedAt i None = ⊤
NamedAt i (Some n) = n.at ≡ i + 1

abbrev pub chain_open : Chain → Bool
chain_open stop = false
chain_open (link o f stop) = ends_open f
chain_open (link o f c) = chain_open c

-- Operators that may come after a tree that binds as tightly as u, each with its operand.
abbrev pub IsLast : Bool → Chain → Type 0 → Type 0
IsLast true c p = c ≡ stop
IsLast false c p = p

abbrev pub IsChain : ℕ → ℕ → ℕ → Chain → Type 0
IsChain m u i stop = ⊤
IsChain m u i (link o f c) = (is_infix o.terminal ≡ true) × MayBeMarked o.terminal o.text × (m ≤ prec o.terminal) × (need o.terminal ≤ u) × (o.at ≡ i) × IsLevel f × IsPlacedTree (i + 1) f × (right o.terminal ≤ tight f) × IsLast (ends_open f) c (IsChain m (prec o.terminal) (past (i + 1) (write f)) c)

abbrev pub ChainAfter : Bool → ℕ → ℕ → ℕ → Chain → Type 0
ChainAfter true m u i c = c ≡ stop
ChainAfter false m u i c = IsChain m u i c

abbrev pub IsApplied : ℕ → NameRest → Type 0
IsApplied i (args_rest ts) = AreAtoms ts × PlacedTrees i ts
IsApplied i (dots_rest cs) = AreDots i cs

-- arguments where they may stand
abbrev pub IsRow : Bool → ℕ → SyntaxTrees → Type 0
IsRow true i ts = AreAtoms ts × PlacedTrees i ts
IsRow false i ts = ts ≡ none

abbrev pub IsRest : Bool → Own → ℕ → NameRest → Type 0
IsRest b o i (args_rest ts) = IsRow b i ts
IsRest b o i (dots_rest cs) = IsLowerName o × AreDots i cs

abbrev pub IsScoped : Option Scoped → Type 0
IsScoped None = ⊤
IsScoped (Some d) = IsOwn d.own

-- a name and what comes after it
abbrev pub IsHeaded : Bool → ℕ → Headed → Type 0
IsHeaded b i d = IsOwn d.own × IsRest b d.own (past i (scoped d.scopes ++ write_own d.own)) d.rest

abbrev pub IsHeadRest : Bool → ℕ → UpperRest → Type 0
IsHeadRest b i (unscoped ts) = IsRow b i ts
IsHeadRest b i (scopes_name d) = IsHeaded b (i + 1) d

abbrev pub IsNamer : ℕ → OperatorToken → Type 0
IsNamer i o = (o.at ≡ i) × (is_operator o.terminal ≡ true) × MayBeMarked o.terminal o.text

abbrev pub IsClosing : ℕ → Closing → Type 0
IsClosing i (closes_group es cs) = AreLevel es × PlacedCommas (i + 1) es × AreDots (past i (write_tail es ++ (mark t.RParen ∷ []))) cs
IsClosing i (cast_to f cs) = IsForm type_forms f × IsPlaced (i + 1) f × AreDots (past (i + 1) (write_form f ++ (mark t.RParen ∷ []))) cs

abbrev pub IsParen : ℕ → Paren → Type 0
IsParen i (nothing cs) = AreDots (i + 1) cs
IsParen i (named_operator o b ts) = IsNamer i o × AreAtoms ts × PlacedTrees (past (i + 1) (opend b)) ts
IsParen i (holds e z) = IsLevel e × IsPlacedTree i e × IsClosing (past i (write e)) z

abbrev pub HasNoArgs : Paren → Type 0
HasNoArgs (named_operator o b ts) = ts ≡ none
HasNoArgs _ = ⊤

abbrev pub IsMinus : ℕ → Minus → Type 0
IsMinus i (named_by b ts) = AreAtoms ts × PlacedTrees (past i (opend b)) ts
IsMinus i (operand e c z) = IsLevel e × IsPlacedTree i e × (8 ≤ tight e) × ChainAfter (ends_open e) 0 8 (past i (write e)) c × IsClosing (past (past i (write e)) (write_chain c)) z

abbrev pub HasNoneBy : Minus → Type 0
HasNoneBy (named_by b ts) = ts ≡ none
HasNoneBy _ = ⊤

-- the values that a symbol has where it begins at token i
abbrev pub Is : (s : Symbol) → ℕ → Val s → Type 0
Is (s.Take x) i n = (n.at ≡ i) × Proper x n.text
Is s.TypeOf i f = IsForm type_forms f × IsPlaced i f
Is s.Atype i f = IsFormPart f × IsForm type_forms f × IsPlaced i f
Is s.Targs i ts = AreParts type_forms ts × PlacedRow i ts
Is s.Ttuple i ts = AreForms type_forms ts × PlacedList i ts
Is s.Tmore i ts = AreForms type_forms ts × PlacedList (i + 1) ts
Is s.Pat i f = IsForm pattern_forms f × IsPlaced i f
Is s.Patom i f = IsFormPart f × IsForm pattern_forms f × IsPlaced i f
Is s.Patoms i ts = AreParts pattern_forms ts × PlacedRow i ts
Is s.Ptuple i ts = AreForms pattern_forms ts × PlacedList i ts
Is s.Pmore i ts = AreForms pattern_forms ts × PlacedList (i + 1) ts
Is s.AsPart i m = NamedAt i m
Is (s.Expr m) i e = IsLevel e × IsPlacedTree i e × (m ≤ 8 → m ≤ tight e)
Is (s.Tail m u) i c = IsChain m u i c
Is s.Prim i e = IsLevel e × IsPlacedTree i e × (tight e ≡ 9) × (ends_open e ≡ false)
Is s.Atom i e = IsAtom e × IsLevel e × IsPlacedTree i e
Is s.Args i ts = AreAtoms ts × PlacedTrees i ts
Is (s.HeadRest b) i d = IsHeadRest b i d
Is (s.Head b) i d = IsHeaded b i d
Is s.Scoped i d = IsScoped d
Is s.Qhead i d = IsOwn d.own
Is s.Applied i r = IsApplied i r
Is s.Dots i cs = AreDots i cs
Is s.PatFields i r = IsFormRest i r.names r.forms
Is s.PatField i r = IsFormNext i r.names r.forms r.semi
Is s.ExprFields i r = IsTreeRest i r.names r.trees
Is s.ExprField i r = IsTreeNext i r.names r.trees r.semi
Is s.Opname i n = IsNamer i n.op
Is s.Hparen i p = IsParen i p
Is s.Aparen i p = IsParen i p × HasNoArgs p
Is s.Hminus i n = IsMinus i n
Is s.Aminus i n = IsMinus i n × HasNoneBy n
Is s.GroupRest i z = IsClosing i z
Is s.More i es = AreLevel es × PlacedCommas (i + 1) es
Is s.OpenForm i e = IsLevel e × IsPlacedTree i e
Is s.Scrutinees i c = IsCases i c
Is s.Branch i b = IsBranch i b
Is s.Arm i a = IsArm i a
Is s.Branches i bs = AreBranches bs × PlacedBranches (i + 1) bs
Is s.Letpats i l = IsLet i l
Is s.Binder i b = IsNames i b
Is s.Binders i b = IsBound i b
Is s.Trigger i p = IsTerms i p
Is s.File i hs = IsLevelFile hs × PlacedFile i hs
Is s.Decls i ds = AreLevelDecls ds × PlacedDecls i ds
Is s.Tvars i v = IsTvars i v
Is s.Typedef i d = IsType i d
Is s.Upper i u = IsUpper i u
Is s.Fields i p = IsFields i p
Is s.Algvars i a = IsAlg i a
Is s.Con i c = IsCon i c
Is s.RecordField i p = IsField i p
Is s.RecordRest i r = IsRecordRest i r
Is s.RecordNext i r = IsRecordNext i r
Is s.Algs i as_ = AreOthers i as_
Is s.Op i c = (c.at ≡ i) × IsNewSymbol c
Is s.Ident i c = (c.at ≡ i) × IsNewProp c
Is s.Param i p = IsTypedParam p.names p.of_type × PlacedTyped i p.names p.of_type
Is s.Params i ps = AreParams ps × PlacedParams i ps
Is s.Pparen i p = IsPparen i p
Is s.Pname i p = IsPname i p
Is s.Body i b = IsBody i b
Is s.Members i ds = AreMembers ds × PlacedMembers i ds
Is s.Member i p = IsMemberPart i p
Is s.Value i v = IsOptionalDefinition v × PlacedDefinition i v
Is s.Clause i p = IsClausePart i p
Is s.Clauses i p = IsClauses i p
Is s.Used i u = IsUsed i u
Is s.Cloned i c = IsCloned i c
Is s.Path i p = (p.at ≡ i) × HasSome p.parts
Is s.Renamed i n = PlacedRenamed i n
Is s.Subst i es = IsSubst i es
Is s.Elems i es = IsSubst i es
Is s.Elem i e = IsElement e × PlacedElement i e
Is s.Axioms i c = IsAxioms i c
Is s.Elvars i v = IsVars i v
Is s.Qop i c = (c.at ≡ i) × IsSymbolName c.own
Is s.Qid i c = IsPropAt i c
Is s.Qids i c = IsQids i c
Is _ i v = ⊤

-- whether a value ends in an open form
abbrev pub flag : (s : Symbol) → Val s → Bool
flag (s.Expr m) e = ends_open e
flag (s.Tail m u) c = chain_open c
flag s.Seal v = true
flag s.OpenForm e = ends_open e
flag s.Letpats l = true
flag s.Binder b = true
flag s.Binders b = true
flag s.Trigger p = true
flag s.Value v = value_open v
flag _ v = false

abbrev pub Piece : Bool → (s : Symbol) → (Bool → ℕ → List Lexeme → Type 0) → ℕ → List Lexeme → Val s → Type 0
Piece true s next i xs v = (blank s ≡ Some v) × next true i xs
Piece false s next i xs v = (ys : List Lexeme) × Is s i v × (xs ≡ writes s v ++ ys) × next (flag s v) (past i (writes s v)) ys

-- After a seal tails are silent. (`sealed`, and it computes where the symbol is no tail.)
abbrev pub hushed : Bool → Symbol → Bool
hushed b s = is_tail s && b

-- The tokens are those of the values, and nothing else.
abbrev pub Good : Bool → (k : List Symbol) → ℕ → List Lexeme → Vals k → Type 0
Good b [] i xs vs = xs ≡ []
Good b (s ∷ k) i xs vs = Piece (hushed b s) s (λ c j ys. Good c k j ys vs.1) i xs vs.0

abbrev pub RowOk : (s : Symbol) → ReadingRow s → Type 0
RowOk s r = (k : List Symbol) (i : ℕ) (w : Word) (xs : List Lexeme) (vs : Vals (r.following k)) → Proper r.first w → Good false (r.following k) (i + 1) xs vs → Good false (s ∷ k) i (lx r.first w ∷ xs) (r.act k i w vs)

abbrev pub AllRows : (s : Symbol) → List (ReadingRow s) → Type 0
AllRows s [] = ⊤
AllRows s (r ∷ rs) = RowOk s r × AllRows s rs

-- one row, and others
abbrev pub ◌▸◌ : {A B : Type 0} → A → B → A × B
◌▸◌ a b = (a, b)

pub extend_ok : (s a : Symbol) (ss : List Symbol) (f : Val a → Vals ss → Val s) (rs : List (ReadingRow a)) → ((k : List Symbol) (i : ℕ) (xs : List Lexeme) (v : Val a) (vs : Vals (ss ++ k)) → Good false (a ∷ (ss ++ k)) i xs (v, vs) → Good false (s ∷ k) i xs (f v (front ss k vs), back ss k vs)) → AllRows a rs → AllRows s (extend s a ss f rs)
extend_ok s a ss f [] j h = tt
extend_ok s a ss f (r ∷ rs) j h = (λ k i w xs vs p g. j k i (lx r.first w ∷ xs) (r.act (ss ++ k) i w vs).0 (r.act (ss ++ k) i w vs).1 (h.0 (ss ++ k) i w xs vs p g), extend_ok s a ss f rs j h.1)
