-- The rows of the grammar, each with what it makes of what its symbols are read as.
use Rattle.std.specs.Prelude.{◌&&◌, ◌++◌, ◌+◌}
use Rattle.grammar.specs.reading.Common.{Bool, true, cond, nat_le, Option, Terminal, Symbol, at, name, Word, called, composed, enclosed, lower, more_forms, no_forms, star, type_variable, variable, wild, Called, upper, SyntaxTree, apply, binding, cases, choice, falsity, literal, more, negation, no_branch, none, op, prefixed, quantified, triggered, truth, untriggered, Name, Link, Path, Element, all_axioms, clone_decl, constant_decl, function_decl, inductive_decl, more_decls, no_decls, predicate_decl, prop_decl, prop_element, scope_decl, symbol_element, type_element, use_decl, operators}
use Rattle.std.proofs.Common.{ℕ, false, List, [], ◌∷◌, Some, None}
use Rattle.tokens_why.specs.Operators.{prec, need, right}
use Rattle.grammar.specs.reading.Parts.{next_form, next_field_tree, record_form, record_tree, scope_own, accessed, with_rest, args_rest, attach, after_minus, dots_rest, headed_tree, scopes_name, lower_called, unscoped, binder_with, branch_of, link, named_operator, named_at, named_by, next_alternative, next_pattern, next_term, nothing, own_op, paren, upper_head, upper_called, cast_to, closes_group, holds, operand, scope_on}
use Rattle.grammar.specs.reading.Row.{ReadingRow, Val, extend, row}
use Rattle.surface.specs.declared.declarations.PropKind.{PropKind}
use Rattle.surface.specs.declared.declarations.SymbolWord.{SymbolWord}
use Rattle.grammar.specs.reading.DeclParts.{ClonedPart, UsedPart, name_before, after_paren, fields_of, is_algebraic, is_alias, name_names, name_types, new_algebraic, new_constructor, new_inductive, new_member, param, path_on, prop_called, scope_called, scope_of, typed_as, upper_type, with_clause, with_constructor, param_types, record_field, next_field, with_fields}
use Rattle.tokens_why.specs.declared.terminal.Terminal.TheVariants as t
use Rattle.grammar.specs.declared.symbols.Symbol.TheVariants as s
use Rattle.surface.specs.declared.declarations.PropKind.TheVariants as pk
use Rattle.surface.specs.declared.declarations.Link.TheVariants as lk
use Rattle.surface.specs.declared.declarations.SymbolWord.TheVariants as sw

abbrev pub atype_rows : List (ReadingRow s.Atype)
atype_rows = row s.Atype t.TyVar [] (λ i w vs. type_variable (at i) w)
    ∷ row s.Atype t.Lident [] (λ i w vs. composed (at i) (called i [] (lower w)) no_forms)
    ∷ row s.Atype t.Uident (s.Take t.Dot ∷ s.Qlid ∷ [])
    (λ i w vs. composed (at i) (called i (w ∷ vs.1.0.scopes) (lower vs.1.0.last)) no_forms)
    ∷ row s.Atype t.LParen (s.Ttuple ∷ []) (λ i w vs. enclosed (at i) vs.0) ∷ []

abbrev pub type_rows : List (ReadingRow s.TypeOf)
type_rows = row s.TypeOf t.TyVar [] (λ i w vs. type_variable (at i) w)
    ∷ row s.TypeOf t.Lident (s.Targs ∷ []) (λ i w vs. composed (at i) (called i [] (lower w)) vs.0)
    ∷ row s.TypeOf t.Uident (s.Take t.Dot ∷ s.Qlid ∷ s.Targs ∷ [])
    (λ i w vs. composed (at i) (called i (w ∷ vs.1.0.scopes) (lower vs.1.0.last)) vs.1.1.0)
    ∷ row s.TypeOf t.LParen (s.Ttuple ∷ []) (λ i w vs. enclosed (at i) vs.0) ∷ []

abbrev pub ttuple_rows : List (ReadingRow s.Ttuple)
ttuple_rows = row s.Ttuple t.RParen [] (λ i w vs. no_forms)
    ∷ extend s.Ttuple s.TypeOf (s.Tmore ∷ []) (λ v vs. more_forms v vs.0) type_rows

abbrev pub tmore_rows : List (ReadingRow s.Tmore)
tmore_rows = row s.Tmore t.RParen [] (λ i w vs. no_forms)
    ∷ row s.Tmore t.Comma (s.TypeOf ∷ s.Tmore ∷ []) (λ i w vs. more_forms vs.0 vs.1.0) ∷ []

abbrev pub patom_rows : List (ReadingRow s.Patom)
patom_rows = row s.Patom t.Wild [] (λ i w vs. wild (at i))
    ∷ row s.Patom t.Lident [] (λ i w vs. variable (at i) (name i w))
    ∷ row s.Patom t.Uident (s.Quids ∷ [])
    (λ i w vs. composed (at i) (upper_called i w vs.0) no_forms)
    ∷ row s.Patom t.LParen (s.Ptuple ∷ []) (λ i w vs. enclosed (at i) vs.0)
    ∷ row s.Patom t.LBrace (s.Qlid ∷ s.Take t.Equal ∷ s.Pat ∷ s.PatFields ∷ [])
    (λ i w vs. record_form i (lower_called (i + 1) vs.0) vs.1.1.0 vs.1.1.1.0) ∷ []

abbrev pub pat_rows : List (ReadingRow s.Pat)
pat_rows = row s.Pat t.Wild (s.AsPart ∷ []) (λ i w vs. named_at i (wild (at i)) vs.0)
    ∷ row s.Pat t.Lident (s.AsPart ∷ []) (λ i w vs. named_at i (variable (at i) (name i w)) vs.0)
    ∷ row s.Pat t.Uident (s.Quids ∷ s.Patoms ∷ s.AsPart ∷ [])
    (λ i w vs. named_at i (composed (at i) (upper_called i w vs.0) vs.1.0) vs.1.1.0)
    ∷ row s.Pat t.LParen (s.Ptuple ∷ s.AsPart ∷ [])
    (λ i w vs. named_at i (enclosed (at i) vs.0) vs.1.0)
    ∷ row s.Pat t.LBrace (s.Qlid ∷ s.Take t.Equal ∷ s.Pat ∷ s.PatFields ∷ s.AsPart ∷ [])
    (λ i w vs. named_at i
    (record_form i (lower_called (i + 1) vs.0) vs.1.1.0 vs.1.1.1.0) vs.1.1.1.1.0) ∷ []

abbrev pub prim_rows : List (ReadingRow s.Prim)
prim_rows =
    row s.Prim t.Lident (s.Applied ∷ []) (λ i w vs. with_rest i (called i [] (lower w)) vs.0)
    ∷ row s.Prim t.Uident (s.HeadRest true ∷ []) (λ i w vs. headed_tree i (upper_head w vs.0))
    ∷ row s.Prim t.StarName (s.Args ∷ []) (λ i w vs. apply (at i) (called i [] star) vs.0)
    ∷ row s.Prim t.LParen (s.Hparen ∷ []) (λ i w vs. paren i vs.0)
    ∷ row s.Prim t.Int [] (λ i w vs. literal (at i) w)
    ∷ row s.Prim t.TrueWord [] (λ i w vs. truth (at i))
    ∷ row s.Prim t.FalseWord [] (λ i w vs. falsity (at i))
    ∷ row s.Prim t.MatchWord (s.Expr 0 ∷ s.Scrutinees ∷ s.Dots ∷ [])
    (λ i w vs. accessed i
    (cases (at i) (more vs.0 vs.1.0.others) vs.1.0.bar vs.1.0.branches) vs.1.1.0)
    ∷ row s.Prim t.LBrace (s.Qlid ∷ s.Take t.Equal ∷ s.Expr 0 ∷ s.ExprFields ∷ s.Dots ∷ [])
    (λ i w vs. accessed i
    (record_tree i (lower_called (i + 1) vs.0) vs.1.1.0 vs.1.1.1.0) vs.1.1.1.1.0) ∷ []

abbrev pub atom_rows : List (ReadingRow s.Atom)
atom_rows = row s.Atom t.Lident (s.Dots ∷ [])
    (λ i w vs. accessed i (apply (at i) (called i [] (lower w)) none) vs.0)
    ∷ row s.Atom t.Uident (s.HeadRest false ∷ []) (λ i w vs. headed_tree i (upper_head w vs.0))
    ∷ row s.Atom t.StarName [] (λ i w vs. apply (at i) (called i [] star) none)
    ∷ row s.Atom t.LParen (s.Aparen ∷ []) (λ i w vs. paren i vs.0)
    ∷ row s.Atom t.Int [] (λ i w vs. literal (at i) w)
    ∷ row s.Atom t.TrueWord [] (λ i w vs. truth (at i))
    ∷ row s.Atom t.FalseWord [] (λ i w vs. falsity (at i))
    ∷ row s.Atom t.MatchWord (s.Expr 0 ∷ s.Scrutinees ∷ s.Dots ∷ [])
    (λ i w vs. accessed i
    (cases (at i) (more vs.0 vs.1.0.others) vs.1.0.bar vs.1.0.branches) vs.1.1.0)
    ∷ row s.Atom t.LBrace (s.Qlid ∷ s.Take t.Equal ∷ s.Expr 0 ∷ s.ExprFields ∷ s.Dots ∷ [])
    (λ i w vs. accessed i
    (record_tree i (lower_called (i + 1) vs.0) vs.1.1.0 vs.1.1.1.0) vs.1.1.1.1.0) ∷ []

abbrev pub args_rows : List (ReadingRow s.Args)
args_rows = extend s.Args s.Atom (s.Args ∷ []) (λ v vs. more v vs.0) atom_rows

abbrev pub applied_own : List (ReadingRow s.Applied)
applied_own = row s.Applied t.Dot (s.Qlid ∷ s.Dots ∷ [])
    (λ i w vs. dots_rest (lower_called (i + 1) vs.0 ∷ vs.1.0)) ∷ []

abbrev pub head_rest_own : (b : Bool) → List (ReadingRow (s.HeadRest b))
head_rest_own b = row (s.HeadRest b) t.Dot (s.Head b ∷ []) (λ i w vs. scopes_name vs.0) ∷ []

abbrev pub head_rest_rows : (b : Bool) → List (ReadingRow (s.HeadRest b))
head_rest_rows true =
    head_rest_own true ++ extend (s.HeadRest true) s.Args [] (λ v vs. unscoped v) args_rows
head_rest_rows false = head_rest_own false

abbrev pub head_rows : (b : Bool) → List (ReadingRow (s.Head b))
head_rows true = row (s.Head true) t.Lident (s.Applied ∷ [])
    (λ i w vs. record { scopes = []; own = lower w; rest = vs.0 })
    ∷ row (s.Head true) t.Uident (s.HeadRest true ∷ []) (λ i w vs. upper_head w vs.0)
    ∷ row (s.Head true) t.StarName (s.Args ∷ [])
    (λ i w vs. record { scopes = []; own = star; rest = args_rest vs.0 })
    ∷ row (s.Head true) t.LParen (s.Opname ∷ s.Args ∷ [])
    (λ i w vs. record {
      scopes = [];
      own = own_op vs.0.prefix vs.0.op;
      rest =
          args_rest vs.1.0;
    }) ∷ []
head_rows false = row (s.Head false) t.Lident (s.Dots ∷ [])
    (λ i w vs. record { scopes = []; own = lower w; rest = dots_rest vs.0 })
    ∷ row (s.Head false) t.Uident (s.HeadRest false ∷ []) (λ i w vs. upper_head w vs.0)
    ∷ row (s.Head false) t.StarName []
    (λ i w vs. record { scopes = []; own = star; rest = args_rest none })
    ∷ row (s.Head false) t.LParen (s.Opname ∷ [])
    (λ i w vs. record {
      scopes = [];
      own = own_op vs.0.prefix vs.0.op;
      rest =
          args_rest none;
    }) ∷ []

abbrev pub opname_row : Terminal → ReadingRow s.Opname
opname_row o = row s.Opname o (s.Opend ∷ []) (λ i w vs. record { op = op i o w; prefix = vs.0 })

abbrev pub opname_rows : List (ReadingRow s.Opname)
opname_rows = opname_row t.Equal ∷ opname_row t.Minus ∷ opname_row t.Operator1
    ∷ opname_row t.Operator2 ∷ opname_row t.Operator3 ∷ opname_row t.Operator4
    ∷ opname_row t.PrefixOperator ∷ []

abbrev pub link_row : (m u : ℕ) → Terminal → ReadingRow (s.Tail m u)
link_row m u o = row (s.Tail m u) o (s.Expr (right o) ∷ s.Tail m (prec o) ∷ [])
    (λ i w vs. link (op i o w) vs.0 vs.1.0)

abbrev pub takes_op : ℕ → ℕ → Terminal → Bool
takes_op m u o = nat_le m (prec o) && nat_le (need o) u

abbrev pub tail_rows : (m u : ℕ) → List Terminal → List (ReadingRow (s.Tail m u))
tail_rows m u [] = []
tail_rows m u (o ∷ os) =
    cond (takes_op m u o) (link_row m u o ∷ tail_rows m u os) (tail_rows m u os)

abbrev pub not_rows : (m : ℕ) → Bool → List (ReadingRow (s.Expr m))
not_rows m true = row (s.Expr m) t.NotWord (s.Expr 3 ∷ s.Tail m 3 ∷ [])
    (λ i w vs. attach (negation (at i) vs.0) vs.1.0) ∷ []
not_rows m false = []

abbrev pub prefix_row : (m : ℕ) → Terminal → ReadingRow (s.Expr m)
prefix_row m o = row (s.Expr m) o (s.Expr 8 ∷ s.Tail m 8 ∷ [])
    (λ i w vs. attach (prefixed (at i) (op i o w) vs.0) vs.1.0)

-- a row of an open form, for each symbol that is read as a tree
abbrev pub open_rows : (top : Symbol) → (SyntaxTree → Val top) → List (ReadingRow top)
open_rows top f = row top t.IfWord
    (s.Expr 0 ∷ s.Take t.ThenWord ∷ s.Expr 0 ∷ s.Take t.ElseWord ∷ s.Expr 0 ∷ s.Seal ∷ [])
    (λ i w vs. f (choice (at i) vs.0 vs.1.1.0 vs.1.1.1.1.0))
    ∷ row top t.LetWord (s.Pat ∷ s.Letpats ∷ [])
    (λ i w vs. f (binding (at i) (more_forms vs.0 vs.1.0.patterns) vs.1.0.value vs.1.0.body))
    ∷ row top t.ForallWord (s.Take t.Lident ∷ s.Binder ∷ [])
    (λ i w vs. f (quantified (at i) true (binder_with vs.0 vs.1.0 ∷ vs.1.0.bound.others)
    vs.1.0.bound.trigger vs.1.0.bound.body))
    ∷ row top t.ExistsWord (s.Take t.Lident ∷ s.Binder ∷ [])
    (λ i w vs. f (quantified (at i) false (binder_with vs.0 vs.1.0 ∷ vs.1.0.bound.others)
    vs.1.0.bound.trigger vs.1.0.bound.body)) ∷ []

abbrev pub expr_own : (m : ℕ) → Bool → List (ReadingRow (s.Expr m))
expr_own m b = not_rows m b ++ (prefix_row m t.Minus ∷ prefix_row m t.PrefixOperator
    ∷ open_rows (s.Expr m) (λ e. e))

abbrev pub expr_rows : (m : ℕ) → List (ReadingRow (s.Expr m))
expr_rows m = expr_own m (nat_le m 3)
    ++ extend (s.Expr m) s.Prim (s.Tail m 9 ∷ []) (λ v vs. attach v vs.0) prim_rows

abbrev pub hop_row : Terminal → ReadingRow s.Hparen
hop_row o = row s.Hparen o (s.Opend ∷ s.Args ∷ []) (λ i w vs. named_operator (op i o w) vs.0 vs.1.0)

abbrev pub hminus_row : Terminal → ReadingRow s.Hparen
hminus_row o = row s.Hparen o (s.Hminus ∷ []) (λ i w vs. after_minus (op i o w) vs.0)

abbrev pub hparen_own : List (ReadingRow s.Hparen)
hparen_own = row s.Hparen t.RParen (s.Dots ∷ []) (λ i w vs. nothing vs.0) ∷ hop_row t.Equal
    ∷ hop_row t.Operator1
    ∷ hop_row t.Operator2 ∷ hop_row t.Operator3 ∷ hop_row t.Operator4 ∷ hminus_row t.Minus
    ∷ hminus_row t.PrefixOperator ∷ []

abbrev pub hminus_own : List (ReadingRow s.Hminus)
hminus_own = row s.Hminus t.RParen (s.Args ∷ []) (λ i w vs. named_by false vs.0)
    ∷ row s.Hminus t.Wild (s.Take t.RParen ∷ s.Args ∷ []) (λ i w vs. named_by true vs.1.0) ∷ []

abbrev pub aop_row : Terminal → ReadingRow s.Aparen
aop_row o = row s.Aparen o (s.Opend ∷ []) (λ i w vs. named_operator (op i o w) vs.0 none)

abbrev pub aminus_row : Terminal → ReadingRow s.Aparen
aminus_row o = row s.Aparen o (s.Aminus ∷ []) (λ i w vs. after_minus (op i o w) vs.0)

abbrev pub aparen_own : List (ReadingRow s.Aparen)
aparen_own = row s.Aparen t.RParen (s.Dots ∷ []) (λ i w vs. nothing vs.0) ∷ aop_row t.Equal
    ∷ aop_row t.Operator1
    ∷ aop_row t.Operator2 ∷ aop_row t.Operator3 ∷ aop_row t.Operator4 ∷ aminus_row t.Minus
    ∷ aminus_row t.PrefixOperator ∷ []

abbrev pub aminus_own : List (ReadingRow s.Aminus)
aminus_own = row s.Aminus t.RParen [] (λ i w vs. named_by false none)
    ∷ row s.Aminus t.Wild (s.Take t.RParen ∷ []) (λ i w vs. named_by true none) ∷ []

abbrev pub branch_own : List (ReadingRow s.Branch)
branch_own = row s.Branch t.Bar (s.Pat ∷ s.Arm ∷ [])
    (λ i w vs. record { bar = true; branches = branch_of vs.0 vs.1.0 }) ∷ []

abbrev pub binders_rows : List (ReadingRow s.Binders)
binders_rows = row s.Binders t.Comma (s.Take t.Lident ∷ s.Binder ∷ [])
    (λ i w vs. record {
      others = binder_with vs.0 vs.1.0 ∷ vs.1.0.bound.others;
      trigger =
          vs.1.0.bound.trigger;
      body = vs.1.0.bound.body;
    })
    ∷ row s.Binders t.LBrack (s.Expr 0 ∷ s.Trigger ∷ [])
    (λ i w vs. record {
      others = [];
      trigger =
          triggered (more vs.0 vs.1.0.terms) vs.1.0.bars;
      body = vs.1.0.body;
    })
    ∷ row s.Binders t.Dot (s.Expr 0 ∷ s.Seal ∷ [])
    (λ i w vs. record { others = []; trigger = untriggered; body = vs.0 }) ∷ []

abbrev pub binder_own : List (ReadingRow s.Binder)
binder_own = row s.Binder t.Lident (s.Binder ∷ [])
    (λ i w vs. record { names = name i w ∷ vs.0.names; of_type = vs.0.of_type; bound = vs.0.bound })
    ∷ row s.Binder t.Colon (s.TypeOf ∷ s.Binders ∷ [])
    (λ i w vs. record { names = []; of_type = Some vs.0; bound = vs.1.0 }) ∷ []

abbrev pub file_row : Terminal → Bool → ReadingRow s.File
file_row x b = row s.File x (s.Take t.Uident ∷ s.Decls ∷ s.File ∷ [])
    (λ i w vs. record { at = at i; is_module = b; name = vs.0; decls = vs.1.0 } ∷ vs.1.1.0)

abbrev pub prop_row : Terminal → PropKind → ReadingRow s.Decls
prop_row x q = row s.Decls x (s.Ident ∷ s.Take t.Colon ∷ s.Expr 0 ∷ s.Decls ∷ [])
    (λ i w vs. more_decls (prop_decl (at i) q vs.0 vs.1.1.0) vs.1.1.1.0)

abbrev pub param_own : List (ReadingRow s.Param)
param_own = row s.Param t.LParen (s.Pparen ∷ []) (λ i w vs. param i vs.0) ∷ []

abbrev pub param_rows : List (ReadingRow s.Param)
param_rows = param_own
    ++ extend s.Param s.Atype [] (λ v vs. record { names = []; of_type = v }) atype_rows

abbrev pub fields_own : List (ReadingRow s.Fields)
fields_own = row s.Fields t.Bar (s.Take t.Uident ∷ s.Fields ∷ [])
    (λ i w vs. record {
      fields = [];
      constructors =
          new_constructor vs.0 vs.1.0 ∷ vs.1.0.constructors;
      others = vs.1.0.others;
    })
    ∷ row s.Fields t.WithWord (s.Take t.Lident ∷ s.Algvars ∷ [])
    (λ i w vs. record {
      fields = [];
      constructors = [];
      others =
          new_algebraic vs.0 vs.1.0.vars vs.1.0.con ∷ vs.1.0.con.others;
    }) ∷ []

abbrev pub fields_rows : List (ReadingRow s.Fields)
fields_rows = fields_own ++ extend s.Fields s.Param (s.Fields ∷ [])
    (λ v vs. record {
      fields = v ∷ vs.0.fields;
      constructors = vs.0.constructors;
      others =
          vs.0.others;
    }) param_rows

abbrev pub record_field_rows : List (ReadingRow s.RecordField)
record_field_rows = row s.RecordField t.Lident (s.Take t.Colon ∷ s.TypeOf ∷ [])
    (λ i w vs. record_field (name i w) vs.1.0) ∷ []

abbrev pub record_next_own : List (ReadingRow s.RecordNext)
record_next_own = row s.RecordNext t.RBrace (s.Algs ∷ [])
    (λ i w vs. record { fields = []; semi = true; others = vs.0 }) ∷ []

abbrev pub upper_own : List (ReadingRow s.Upper)
upper_own = row s.Upper t.Dot (s.Qlid ∷ s.Targs ∷ []) (λ i w vs. scope_of vs.0 vs.1.0) ∷ []

abbrev pub op_rows : List (ReadingRow s.Op)
op_rows = row s.Op t.Lident [] (λ i w vs. called i [] (lower w))
    ∷ row s.Op t.StarName [] (λ i w vs. called i [] star)
    ∷ row s.Op t.LParen (s.Opname ∷ []) (λ i w vs. called i [] (own_op vs.0.prefix vs.0.op)) ∷ []

abbrev pub pparen_own : List (ReadingRow s.Pparen)
pparen_own = row s.Pparen t.Lident (s.Pname ∷ []) (λ i w vs. after_paren i w vs.0) ∷ []

abbrev pub pname_own : List (ReadingRow s.Pname)
pname_own = row s.Pname t.Colon (s.TypeOf ∷ s.Take t.RParen ∷ []) (λ i w vs. name_names [] vs.0)
    ∷ row s.Pname t.Lident (s.Pname ∷ []) (λ i w vs. name_before i w vs.0) ∷ []

abbrev pub pname_args : List (ReadingRow s.Pname)
pname_args = pname_own ++ extend s.Pname s.Atype (s.Targs ∷ s.Tmore ∷ [])
    (λ v vs. name_types (more_forms v vs.0) vs.1.0) atype_rows

abbrev pub use_part : Link → Path → Option Name → UsedPart
use_part l p n = record { link = l; path = p; name = n }

abbrev pub path_end : ℕ → Word → Path
path_end i w = record { at = i; parts = w ∷ [] }

abbrev pub cloned : UsedPart → List Element → ClonedPart
cloned u es = record { used = u; elements = es }

abbrev pub symbol_row : Terminal → SymbolWord → ReadingRow s.Elem
symbol_row x q =
    row s.Elem x (s.Qop ∷ s.Take t.Equal ∷ s.Qop ∷ []) (λ i w vs. symbol_element i q vs.0 vs.1.1.0)

abbrev pub axioms_of : ℕ → Option Called → Element
axioms_of i None = all_axioms i
axioms_of i (Some c) = prop_element i pk.Axiom c

abbrev pub qid_rows : List (ReadingRow s.Qid)
qid_rows = row s.Qid t.Lident [] (λ i w vs. called i [] (lower w))
    ∷ row s.Qid t.Uident (s.Qids ∷ []) (λ i w vs. prop_called i w vs.0) ∷ []

abbrev pub axioms_own : List (ReadingRow s.Axioms)
axioms_own = row s.Axioms t.Dot [] (λ i w vs. None) ∷ []

abbrev pub qop_own : List (ReadingRow s.Qop)
qop_own = row s.Qop t.Uident (s.Take t.Dot ∷ s.Qop ∷ []) (λ i w vs. scope_called i w vs.1.0) ∷ []

abbrev pub rows : (s : Symbol) → List (ReadingRow s)
rows (s.Take x) = row (s.Take x) x [] (λ i w vs. name i w) ∷ []
rows s.Qlid = row s.Qlid t.Lident [] (λ i w vs. record { scopes = []; last = w })
    ∷ row s.Qlid t.Uident (s.Take t.Dot ∷ s.Qlid ∷ [])
    (λ i w vs. record { scopes = w ∷ vs.1.0.scopes; last = vs.1.0.last }) ∷ []
rows s.TypeOf = type_rows
rows s.Atype = atype_rows
rows s.Targs = extend s.Targs s.Atype (s.Targs ∷ []) (λ v vs. more_forms v vs.0) atype_rows
rows s.Ttuple = ttuple_rows
rows s.Tmore = tmore_rows
rows s.Quids = row s.Quids t.Dot (s.Take t.Uident ∷ s.Quids ∷ [])
    (λ i w vs. Some (scope_on vs.0.text vs.1.0)) ∷ []
rows s.Pat = pat_rows
rows s.Patom = patom_rows
rows s.Patoms = extend s.Patoms s.Patom (s.Patoms ∷ []) (λ v vs. more_forms v vs.0) patom_rows
rows s.Ptuple = row s.Ptuple t.RParen [] (λ i w vs. no_forms)
    ∷ extend s.Ptuple s.Pat (s.Pmore ∷ []) (λ v vs. more_forms v vs.0) pat_rows
rows s.Pmore = row s.Pmore t.RParen [] (λ i w vs. no_forms)
    ∷ row s.Pmore t.Comma (s.Pat ∷ s.Pmore ∷ []) (λ i w vs. more_forms vs.0 vs.1.0) ∷ []
rows s.AsPart = row s.AsPart t.AsWord (s.Take t.Lident ∷ []) (λ i w vs. Some vs.0) ∷ []
rows (s.Expr m) = expr_rows m
rows (s.Tail m u) = tail_rows m u operators
rows s.Prim = prim_rows
rows s.Atom = atom_rows
rows s.Args = args_rows
rows s.PatFields = row s.PatFields t.RBrace []
    (λ i w vs. record { names = []; forms = no_forms; semi = false })
    ∷ row s.PatFields t.Semi (s.PatField ∷ []) (λ i w vs. vs.0) ∷ []
rows s.PatField = row s.PatField t.RBrace []
    (λ i w vs. record { names = []; forms = no_forms; semi = true })
    ∷ row s.PatField t.Lident (s.Take t.Equal ∷ s.Pat ∷ s.PatFields ∷ [])
    (λ i w vs. next_form (called i [] (lower w)) vs.1.0 vs.1.1.0)
    ∷ row s.PatField t.Uident
    (s.Take t.Dot ∷ s.Qlid ∷ s.Take t.Equal ∷ s.Pat ∷ s.PatFields ∷ [])
    (λ i w vs. next_form
    (called i (w ∷ vs.1.0.scopes) (lower vs.1.0.last)) vs.1.1.1.0 vs.1.1.1.1.0) ∷ []
rows s.ExprFields = row s.ExprFields t.RBrace []
    (λ i w vs. record { names = []; trees = none; semi = false })
    ∷ row s.ExprFields t.Semi (s.ExprField ∷ []) (λ i w vs. vs.0) ∷ []
rows s.ExprField = row s.ExprField t.RBrace []
    (λ i w vs. record { names = []; trees = none; semi = true })
    ∷ row s.ExprField t.Lident (s.Take t.Equal ∷ s.Expr 0 ∷ s.ExprFields ∷ [])
    (λ i w vs. next_field_tree (called i [] (lower w)) vs.1.0 vs.1.1.0)
    ∷ row s.ExprField t.Uident
    (s.Take t.Dot ∷ s.Qlid ∷ s.Take t.Equal ∷ s.Expr 0 ∷ s.ExprFields ∷ [])
    (λ i w vs. next_field_tree
    (called i (w ∷ vs.1.0.scopes) (lower vs.1.0.last)) vs.1.1.1.0 vs.1.1.1.1.0) ∷ []
rows s.Dots = row s.Dots t.Dot (s.Qlid ∷ s.Dots ∷ [])
    (λ i w vs. lower_called (i + 1) vs.0 ∷ vs.1.0) ∷ []
rows s.Applied = applied_own ++ extend s.Applied s.Args [] (λ v vs. args_rest v) args_rows
rows (s.HeadRest b) = head_rest_rows b
rows (s.Head b) = head_rows b
rows s.Scoped = row s.Scoped t.Dot (s.Qhead ∷ []) (λ i w vs. Some vs.0) ∷ []
rows s.Qhead = row s.Qhead t.Lident [] (λ i w vs. record { scopes = []; own = lower w })
    ∷ row s.Qhead t.Uident (s.Scoped ∷ []) (λ i w vs. scope_own w vs.0)
    ∷ row s.Qhead t.StarName [] (λ i w vs. record { scopes = []; own = star })
    ∷ row s.Qhead t.LParen (s.Opname ∷ [])
    (λ i w vs. record { scopes = []; own = own_op vs.0.prefix vs.0.op }) ∷ []
rows s.Opname = opname_rows
rows s.Opend = row s.Opend t.RParen [] (λ i w vs. false)
    ∷ row s.Opend t.Wild (s.Take t.RParen ∷ []) (λ i w vs. true) ∷ []
rows s.Hparen =
    hparen_own ++ extend s.Hparen (s.Expr 0) (s.GroupRest ∷ []) (λ v vs. holds v vs.0) (expr_rows 0)
rows s.Aparen =
    aparen_own ++ extend s.Aparen (s.Expr 0) (s.GroupRest ∷ []) (λ v vs. holds v vs.0) (expr_rows 0)
rows s.Hminus = hminus_own ++ extend s.Hminus (s.Expr 8) (s.Tail 0 8 ∷ s.GroupRest ∷ [])
    (λ v vs. operand v vs.0 vs.1.0) (expr_rows 8)
rows s.Aminus = aminus_own ++ extend s.Aminus (s.Expr 8) (s.Tail 0 8 ∷ s.GroupRest ∷ [])
    (λ v vs. operand v vs.0 vs.1.0) (expr_rows 8)
rows s.GroupRest = row s.GroupRest t.RParen (s.Dots ∷ []) (λ i w vs. closes_group none vs.0)
    ∷ row s.GroupRest t.Comma (s.Expr 0 ∷ s.More ∷ s.Dots ∷ [])
    (λ i w vs. closes_group (more vs.0 vs.1.0) vs.1.1.0)
    ∷ row s.GroupRest t.Colon (s.TypeOf ∷ s.Take t.RParen ∷ s.Dots ∷ [])
    (λ i w vs. cast_to vs.0 vs.1.1.0) ∷ []
rows s.More = row s.More t.RParen [] (λ i w vs. none)
    ∷ row s.More t.Comma (s.Expr 0 ∷ s.More ∷ []) (λ i w vs. more vs.0 vs.1.0) ∷ []
rows s.OpenForm = open_rows s.OpenForm (λ e. e)
rows s.Scrutinees = row s.Scrutinees t.Comma (s.Expr 0 ∷ s.Scrutinees ∷ [])
    (λ i w vs. record {
      others = more vs.0 vs.1.0.others;
      bar = vs.1.0.bar;
      branches =
          vs.1.0.branches;
    })
    ∷ row s.Scrutinees t.WithWord (s.Branch ∷ [])
    (λ i w vs. record { others = none; bar = vs.0.bar; branches = vs.0.branches }) ∷ []
rows s.Branch = branch_own ++ extend s.Branch s.Pat (s.Arm ∷ [])
    (λ v vs. record { bar = false; branches = branch_of v vs.0 }) pat_rows
rows s.Arm = row s.Arm t.Comma (s.Pat ∷ s.Arm ∷ []) (λ i w vs. next_pattern vs.0 vs.1.0)
    ∷ row s.Arm t.Bar (s.Pat ∷ s.Arm ∷ []) (λ i w vs. next_alternative vs.0 vs.1.0)
    ∷ row s.Arm t.Arrow (s.Expr 0 ∷ s.Branches ∷ [])
    (λ i w vs. record {
      patterns = no_forms;
      alternatives = [];
      body = vs.0;
      others =
          vs.1.0;
    }) ∷ []
rows s.Branches = row s.Branches t.Bar (s.Pat ∷ s.Arm ∷ []) (λ i w vs. branch_of vs.0 vs.1.0)
    ∷ row s.Branches t.EndWord [] (λ i w vs. no_branch) ∷ []
rows s.Letpats = row s.Letpats t.Comma (s.Pat ∷ s.Letpats ∷ [])
    (λ i w vs. record {
      patterns = more_forms vs.0 vs.1.0.patterns;
      value = vs.1.0.value;
      body =
          vs.1.0.body;
    })
    ∷ row s.Letpats t.Equal (s.Expr 0 ∷ s.Take t.InWord ∷ s.Expr 0 ∷ s.Seal ∷ [])
    (λ i w vs. record { patterns = no_forms; value = vs.0; body = vs.1.1.0 }) ∷ []
rows s.Binder = binder_own ++ extend s.Binder s.Binders []
    (λ v vs. record { names = []; of_type = None; bound = v }) binders_rows
rows s.Binders = binders_rows
rows s.Trigger =
    row s.Trigger t.Comma (s.Expr 0 ∷ s.Trigger ∷ []) (λ i w vs. next_term false vs.0 vs.1.0)
    ∷ row s.Trigger t.Bar (s.Expr 0 ∷ s.Trigger ∷ []) (λ i w vs. next_term true vs.0 vs.1.0)
    ∷ row s.Trigger t.RBrack (s.Take t.Dot ∷ s.Expr 0 ∷ s.Seal ∷ [])
    (λ i w vs. record { terms = none; bars = []; body = vs.1.0 }) ∷ []
rows s.File = file_row t.TheoryWord false ∷ file_row t.ModuleWord true ∷ []
rows s.Decls = row s.Decls t.EndWord [] (λ i w vs. no_decls)
    ∷ row s.Decls t.ScopeWord (s.Take t.Uident ∷ s.Decls ∷ s.Decls ∷ [])
    (λ i w vs. more_decls (scope_decl (at i) vs.0 vs.1.0) vs.1.1.0)
    ∷ row s.Decls t.TypeWord (s.Take t.Lident ∷ s.Tvars ∷ s.Decls ∷ [])
    (λ i w vs. more_decls (typed_as (at i) vs.0 vs.1.0.vars vs.1.0.equation) vs.1.1.0)
    ∷ row s.Decls t.FunctionWord
    (s.Op ∷ s.Params ∷ s.Take t.Colon ∷ s.TypeOf ∷ s.Body ∷ s.Decls ∷ [])
    (λ i w vs. more_decls
    (function_decl (at i) vs.0 vs.1.0 vs.1.1.1.0 vs.1.1.1.1.0.definition vs.1.1.1.1.0.members)
    vs.1.1.1.1.1.0)
    ∷ row s.Decls t.PredicateWord (s.Op ∷ s.Params ∷ s.Body ∷ s.Decls ∷ [])
    (λ i w vs. more_decls
    (predicate_decl (at i) vs.0 vs.1.0 vs.1.1.0.definition vs.1.1.0.members) vs.1.1.1.0)
    ∷ row s.Decls t.ConstantWord (s.Op ∷ s.Take t.Colon ∷ s.TypeOf ∷ s.Value ∷ s.Decls ∷ [])
    (λ i w vs. more_decls (constant_decl (at i) vs.0 vs.1.1.0 vs.1.1.1.0) vs.1.1.1.1.0)
    ∷ row s.Decls t.InductiveWord (s.Op ∷ s.Params ∷ s.Take t.Equal ∷ s.Clause ∷ s.Decls ∷ [])
    (λ i w vs. more_decls
    (inductive_decl (at i) (new_inductive vs.0 vs.1.0 vs.1.1.1.0 ∷ vs.1.1.1.0.rest.others))
    vs.1.1.1.1.0)
    ∷ prop_row t.AxiomWord pk.Axiom
    ∷ prop_row t.LemmaWord pk.Lemma
    ∷ prop_row t.GoalWord pk.Goal
    ∷ row s.Decls t.UseWord (s.Used ∷ s.Decls ∷ [])
    (λ i w vs. more_decls (use_decl (at i) vs.0.link vs.0.path vs.0.name) vs.1.0)
    ∷ row s.Decls t.CloneWord (s.Cloned ∷ s.Decls ∷ [])
    (λ i w vs. more_decls
    (clone_decl (at i) vs.0.used.link vs.0.used.path vs.0.used.name vs.0.elements) vs.1.0) ∷ []
rows s.Tvars = row s.Tvars t.TyVar (s.Tvars ∷ [])
    (λ i w vs. record { vars = name i w ∷ vs.0.vars; equation = vs.0.equation })
    ∷ row s.Tvars t.Equal (s.Typedef ∷ [])
    (λ i w vs. record { vars = []; equation = Some vs.0 }) ∷ []
rows s.Typedef = row s.Typedef t.TyVar [] (λ i w vs. is_alias (type_variable (at i) w))
    ∷ row s.Typedef t.Lident (s.Targs ∷ [])
    (λ i w vs. is_alias (composed (at i) (called i [] (lower w)) vs.0))
    ∷ row s.Typedef t.LParen (s.Ttuple ∷ []) (λ i w vs. is_alias (enclosed (at i) vs.0))
    ∷ row s.Typedef t.Uident (s.Upper ∷ []) (λ i w vs. upper_type i w vs.0)
    ∷ row s.Typedef t.Bar (s.Take t.Uident ∷ s.Fields ∷ [])
    (λ i w vs. is_algebraic (with_constructor true vs.0 vs.1.0))
    ∷ row s.Typedef t.LBrace (s.RecordField ∷ s.RecordRest ∷ [])
    (λ i w vs. is_algebraic (with_fields vs.0 vs.1.0)) ∷ []
rows s.Upper = upper_own ++ extend s.Upper s.Fields [] (λ v vs. fields_of v) fields_rows
rows s.Fields = fields_rows
rows s.Algvars = row s.Algvars t.TyVar (s.Algvars ∷ [])
    (λ i w vs. record { vars = name i w ∷ vs.0.vars; con = vs.0.con })
    ∷ row s.Algvars t.Equal (s.Con ∷ []) (λ i w vs. record { vars = []; con = vs.0 }) ∷ []
rows s.Con = row s.Con t.Uident (s.Fields ∷ []) (λ i w vs. with_constructor false (name i w) vs.0)
    ∷ row s.Con t.Bar (s.Take t.Uident ∷ s.Fields ∷ [])
    (λ i w vs. with_constructor true vs.0 vs.1.0)
    ∷ row s.Con t.LBrace (s.RecordField ∷ s.RecordRest ∷ [])
    (λ i w vs. with_fields vs.0 vs.1.0) ∷ []
rows s.RecordField = record_field_rows
rows s.RecordRest = row s.RecordRest t.RBrace (s.Algs ∷ [])
    (λ i w vs. record { fields = []; semi = false; others = vs.0 })
    ∷ row s.RecordRest t.Semi (s.RecordNext ∷ []) (λ i w vs. vs.0) ∷ []
rows s.RecordNext = record_next_own ++ extend s.RecordNext s.RecordField (s.RecordRest ∷ [])
    (λ v vs. next_field v vs.0) record_field_rows
rows s.Algs = row s.Algs t.WithWord (s.Take t.Lident ∷ s.Algvars ∷ [])
    (λ i w vs. new_algebraic vs.0 vs.1.0.vars vs.1.0.con ∷ vs.1.0.con.others) ∷ []
rows s.Op = op_rows
rows s.Ident = row s.Ident t.Lident [] (λ i w vs. called i [] (lower w))
    ∷ row s.Ident t.Uident [] (λ i w vs. called i [] (upper w)) ∷ []
rows s.Param = param_rows
rows s.Params = extend s.Params s.Param (s.Params ∷ []) (λ v vs. v ∷ vs.0) param_rows
rows s.Pparen = pparen_own ++ extend s.Pparen s.Ttuple [] (λ v vs. param_types v) ttuple_rows
rows s.Pname = pname_args ++ extend s.Pname s.Tmore [] (λ v vs. name_types no_forms v) tmore_rows
rows s.Body = row s.Body t.Equal (s.Expr 0 ∷ s.Members ∷ [])
    (λ i w vs. record { definition = Some vs.0; members = vs.1.0 }) ∷ []
rows s.Members = row s.Members t.WithWord (s.Op ∷ s.Params ∷ s.Member ∷ [])
    (λ i w vs. new_member vs.0 vs.1.0 vs.1.1.0 ∷ vs.1.1.0.others) ∷ []
rows s.Member = row s.Member t.Equal (s.Expr 0 ∷ s.Members ∷ [])
    (λ i w vs. record { result = None; body = vs.0; others = vs.1.0 })
    ∷ row s.Member t.Colon (s.TypeOf ∷ s.Take t.Equal ∷ s.Expr 0 ∷ s.Members ∷ [])
    (λ i w vs. record { result = Some vs.0; body = vs.1.1.0; others = vs.1.1.1.0 }) ∷ []
rows s.Value = row s.Value t.Equal (s.Expr 0 ∷ []) (λ i w vs. Some vs.0) ∷ []
rows s.Clause = row s.Clause t.Lident (s.Take t.Colon ∷ s.Expr 0 ∷ s.Clauses ∷ [])
    (λ i w vs. record { bar = false; rest = with_clause (called i [] (lower w)) vs.1.0 vs.1.1.0 })
    ∷ row s.Clause t.Uident (s.Take t.Colon ∷ s.Expr 0 ∷ s.Clauses ∷ [])
    (λ i w vs. record {
      bar = false;
      rest =
          with_clause (called i [] (upper w)) vs.1.0 vs.1.1.0;
    })
    ∷ row s.Clause t.Bar (s.Ident ∷ s.Take t.Colon ∷ s.Expr 0 ∷ s.Clauses ∷ [])
    (λ i w vs. record { bar = true; rest = with_clause vs.0 vs.1.1.0 vs.1.1.1.0 }) ∷ []
rows s.Clauses = row s.Clauses t.Bar (s.Ident ∷ s.Take t.Colon ∷ s.Expr 0 ∷ s.Clauses ∷ [])
    (λ i w vs. with_clause vs.0 vs.1.1.0 vs.1.1.1.0)
    ∷ row s.Clauses t.WithWord (s.Op ∷ s.Params ∷ s.Take t.Equal ∷ s.Clause ∷ [])
    (λ i w vs. record {
      clauses = [];
      others =
          new_inductive vs.0 vs.1.0 vs.1.1.1.0 ∷ vs.1.1.1.0.rest.others;
    }) ∷ []
rows s.Used = row s.Used t.ExportWord (s.Path ∷ []) (λ i w vs. use_part lk.Export vs.0 None)
    ∷ row s.Used t.ImportWord (s.Path ∷ s.Renamed ∷ []) (λ i w vs. use_part lk.Import vs.0 vs.1.0)
    ∷ row s.Used t.Lident (s.Take t.Dot ∷ s.Path ∷ s.Renamed ∷ [])
    (λ i w vs. use_part lk.Bare (path_on i w vs.1.0) vs.1.1.0)
    ∷ row s.Used t.Uident (s.Renamed ∷ []) (λ i w vs. use_part lk.Bare (path_end i w) vs.0) ∷ []
rows s.Cloned = row s.Cloned t.ExportWord (s.Path ∷ s.Subst ∷ [])
    (λ i w vs. cloned (use_part lk.Export vs.0 None) vs.1.0)
    ∷ row s.Cloned t.ImportWord (s.Path ∷ s.Renamed ∷ s.Subst ∷ [])
    (λ i w vs. cloned (use_part lk.Import vs.0 vs.1.0) vs.1.1.0)
    ∷ row s.Cloned t.Lident (s.Take t.Dot ∷ s.Path ∷ s.Renamed ∷ s.Subst ∷ [])
    (λ i w vs. cloned (use_part lk.Bare (path_on i w vs.1.0) vs.1.1.0) vs.1.1.1.0)
    ∷ row s.Cloned t.Uident (s.Renamed ∷ s.Subst ∷ [])
    (λ i w vs. cloned (use_part lk.Bare (path_end i w) vs.0) vs.1.0) ∷ []
rows s.Path = row s.Path t.Lident (s.Take t.Dot ∷ s.Path ∷ []) (λ i w vs. path_on i w vs.1.0)
    ∷ row s.Path t.Uident [] (λ i w vs. path_end i w) ∷ []
rows s.Renamed = row s.Renamed t.AsWord (s.Take t.Uident ∷ []) (λ i w vs. Some vs.0) ∷ []
rows s.Subst = row s.Subst t.WithWord (s.Elem ∷ s.Elems ∷ []) (λ i w vs. vs.0 ∷ vs.1.0) ∷ []
rows s.Elems = row s.Elems t.Comma (s.Elem ∷ s.Elems ∷ []) (λ i w vs. vs.0 ∷ vs.1.0) ∷ []
rows s.Elem = row s.Elem t.TypeWord (s.Qlid ∷ s.Elvars ∷ [])
    (λ i w vs. type_element i (called (i + 1) vs.0.scopes (lower vs.0.last)) vs.1.0.vars
    vs.1.0.type)
    ∷ symbol_row t.FunctionWord sw.Function
    ∷ symbol_row t.ConstantWord sw.Constant
    ∷ symbol_row t.PredicateWord sw.Predicate
    ∷ row s.Elem t.LemmaWord (s.Qid ∷ []) (λ i w vs. prop_element i pk.Lemma vs.0)
    ∷ row s.Elem t.GoalWord (s.Qid ∷ []) (λ i w vs. prop_element i pk.Goal vs.0)
    ∷ row s.Elem t.AxiomWord (s.Axioms ∷ []) (λ i w vs. axioms_of i vs.0) ∷ []
rows s.Axioms = axioms_own ++ extend s.Axioms s.Qid [] (λ v vs. Some v) qid_rows
rows s.Elvars = row s.Elvars t.TyVar (s.Elvars ∷ [])
    (λ i w vs. record { vars = name i w ∷ vs.0.vars; type = vs.0.type })
    ∷ row s.Elvars t.Equal (s.TypeOf ∷ []) (λ i w vs. record { vars = []; type = vs.0 }) ∷ []
rows s.Qop = qop_own ++ extend s.Qop s.Op [] (λ v vs. v) op_rows
rows s.Qid = qid_rows
rows s.Qids = row s.Qids t.Dot (s.Qid ∷ []) (λ i w vs. Some vs.0) ∷ []
rows s.Seal = []
