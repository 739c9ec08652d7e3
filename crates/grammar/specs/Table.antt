-- The grammar (Why3 manual, "Syntax"): for each rule the terminals with which it begins, and the
-- symbols that each leaves.
use Rattle.std.specs.Prelude.{ℕ, Bool, true, false, ◌&&◌, nat_le, if◌then◌else◌, List, [], ◌∷◌, ◌++◌}
use Rattle.grammar.specs.Common.{Terminal, Symbol, prec, need, right}
use Rattle.tokens_why.specs.declared.terminal.Terminal.TheVariants as t
use Rattle.grammar.specs.declared.symbols.Symbol.TheVariants as s
use Rattle.tokens_why.specs.Alphabet.{operators}

pub record Production : Type 0 where
  pub first : Terminal
  pub following : List Symbol

abbrev pub production : Terminal → List Symbol → Production
production x ss = record { first = x; following = ss }

-- the same with symbols after
abbrev pub with_symbols_after : List Production → List Symbol → List Production
with_symbols_after [] ss = []
with_symbols_after (r ∷ rs) ss = production r.first (r.following ++ ss) ∷ with_symbols_after rs ss

-- the operators that a tail takes
abbrev pub tail_of : ℕ → ℕ → List Terminal → List Production
tail_of m u [] = []
tail_of m u (o ∷ os) = if nat_le m (prec o)
    && nat_le (need o) u then production o (s.Expr (right o) ∷ s.Tail m (prec o) ∷ [])
    ∷ tail_of m u os else tail_of m u os

abbrev pub not_productions : ℕ → List Production
not_productions m =
    if nat_le m 3 then production t.NotWord (s.Expr 3 ∷ s.Tail m 3 ∷ []) ∷ [] else []

abbrev pub atype_productions : List Production
atype_productions = production t.TyVar [] ∷ production t.Lident []
    ∷ production t.Uident (s.Take t.Dot ∷ s.Qlid ∷ []) ∷ production t.LParen (s.Ttuple ∷ []) ∷ []

-- After a parenthesis stand names and their type, or types.
abbrev pub param_productions : List Production
param_productions =
    (production t.LParen (s.Pparen ∷ []) ∷ []) ++ with_symbols_after atype_productions []

abbrev pub fields_productions : List Production
fields_productions = (production t.Bar (s.Take t.Uident ∷ s.Fields ∷ [])
    ∷ production t.WithWord (s.Take t.Lident ∷ s.Algvars ∷ []) ∷ [])
    ++ with_symbols_after param_productions (s.Fields ∷ [])

-- a field of a record with its type
abbrev pub record_field_productions : List Production
record_field_productions = production t.Lident (s.Take t.Colon ∷ s.TypeOf ∷ []) ∷ []

abbrev pub op_productions : List Production
op_productions =
    production t.Lident [] ∷ production t.StarName [] ∷ production t.LParen (s.Opname ∷ []) ∷ []

abbrev pub type_productions : List Production
type_productions = production t.TyVar [] ∷ production t.Lident (s.Targs ∷ [])
    ∷ production t.Uident (s.Take t.Dot ∷ s.Qlid ∷ s.Targs ∷ [])
    ∷ production t.LParen (s.Ttuple ∷ []) ∷ []

abbrev pub ttuple_productions : List Production
ttuple_productions =
    (production t.RParen [] ∷ []) ++ with_symbols_after type_productions (s.Tmore ∷ [])

abbrev pub tmore_productions : List Production
tmore_productions = production t.RParen [] ∷ production t.Comma (s.TypeOf ∷ s.Tmore ∷ []) ∷ []

abbrev pub qid_productions : List Production
qid_productions = production t.Lident [] ∷ production t.Uident (s.Qids ∷ []) ∷ []

abbrev pub qlid_productions : List Production
qlid_productions = production t.Lident [] ∷ production t.Uident (s.Take t.Dot ∷ s.Qlid ∷ []) ∷ []

-- a field of a record and what comes after it, or the end after a semicolon
abbrev pub field_productions : List Symbol → List Production
field_productions ss = production t.RBrace [] ∷ with_symbols_after qlid_productions ss

abbrev pub fields_end : Symbol → List Production
fields_end next = production t.RBrace [] ∷ production t.Semi (next ∷ []) ∷ []

abbrev pub pat_productions : List Production
pat_productions = production t.Wild (s.AsPart ∷ []) ∷ production t.Lident (s.AsPart ∷ [])
    ∷ production t.Uident (s.Quids ∷ s.Patoms ∷ s.AsPart ∷ [])
    ∷ production t.LParen (s.Ptuple ∷ s.AsPart ∷ [])
    ∷ production t.LBrace (s.Qlid ∷ s.Take t.Equal ∷ s.Pat ∷ s.PatFields ∷ s.AsPart ∷ []) ∷ []

abbrev pub patom_productions : List Production
patom_productions = production t.Wild [] ∷ production t.Lident []
    ∷ production t.Uident (s.Quids ∷ []) ∷ production t.LParen (s.Ptuple ∷ [])
    ∷ production t.LBrace (s.Qlid ∷ s.Take t.Equal ∷ s.Pat ∷ s.PatFields ∷ []) ∷ []

abbrev pub binders_productions : List Production
binders_productions = production t.Comma (s.Take t.Lident ∷ s.Binder ∷ [])
    ∷ production t.LBrack (s.Expr 0 ∷ s.Trigger ∷ [])
    ∷ production t.Dot (s.Expr 0 ∷ s.Seal ∷ []) ∷ []

abbrev pub open_productions : List Production
open_productions = production t.IfWord
    (s.Expr 0 ∷ s.Take t.ThenWord ∷ s.Expr 0 ∷ s.Take t.ElseWord ∷ s.Expr 0 ∷ s.Seal ∷ [])
    ∷ production t.LetWord (s.Pat ∷ s.Letpats ∷ [])
    ∷ production t.ForallWord (s.Take t.Lident ∷ s.Binder ∷ [])
    ∷ production t.ExistsWord (s.Take t.Lident ∷ s.Binder ∷ []) ∷ []

abbrev pub prim_productions : List Production
prim_productions = production t.Lident (s.Applied ∷ []) ∷ production t.Uident (s.HeadRest true ∷ [])
    ∷ production t.StarName (s.Args ∷ []) ∷ production t.LParen (s.Hparen ∷ [])
    ∷ production t.Int [] ∷ production t.TrueWord [] ∷ production t.FalseWord []
    ∷ production t.MatchWord (s.Expr 0 ∷ s.Scrutinees ∷ s.Dots ∷ [])
    ∷ production t.LBrace (s.Qlid ∷ s.Take t.Equal ∷ s.Expr 0 ∷ s.ExprFields ∷ s.Dots ∷ []) ∷ []

abbrev pub atom_productions : List Production
atom_productions = production t.Lident (s.Dots ∷ []) ∷ production t.Uident (s.HeadRest false ∷ [])
    ∷ production t.StarName [] ∷ production t.LParen (s.Aparen ∷ []) ∷ production t.Int []
    ∷ production t.TrueWord [] ∷ production t.FalseWord []
    ∷ production t.MatchWord (s.Expr 0 ∷ s.Scrutinees ∷ s.Dots ∷ [])
    ∷ production t.LBrace (s.Qlid ∷ s.Take t.Equal ∷ s.Expr 0 ∷ s.ExprFields ∷ s.Dots ∷ []) ∷ []

abbrev pub args_productions : List Production
args_productions = with_symbols_after atom_productions (s.Args ∷ [])

-- the fields of a term, one after the other
abbrev pub dots_productions : List Production
dots_productions = production t.Dot (s.Qlid ∷ s.Dots ∷ []) ∷ []

-- After a word in upper case: a name in it as a scope, or, where they may stand, the arguments of
-- its constructor.
abbrev pub head_rest_productions : Bool → List Production
head_rest_productions true = production t.Dot (s.Head true ∷ []) ∷ args_productions
head_rest_productions false = production t.Dot (s.Head false ∷ []) ∷ []

-- a name in a scope, and what may come after it
abbrev pub head_productions : Bool → List Production
head_productions true =
    production t.Lident (s.Applied ∷ []) ∷ production t.Uident (s.HeadRest true ∷ [])
    ∷ production t.StarName (s.Args ∷ []) ∷ production t.LParen (s.Opname ∷ s.Args ∷ []) ∷ []
head_productions false =
    production t.Lident (s.Dots ∷ []) ∷ production t.Uident (s.HeadRest false ∷ [])
    ∷ production t.StarName [] ∷ production t.LParen (s.Opname ∷ []) ∷ []

abbrev pub expr_productions : ℕ → List Production
expr_productions m = not_productions m
    ++ ((production t.Minus (s.Expr 8 ∷ s.Tail m 8 ∷ [])
    ∷ production t.PrefixOperator (s.Expr 8 ∷ s.Tail m 8 ∷ []) ∷ [])
    ++ (open_productions ++ with_symbols_after prim_productions (s.Tail m 9 ∷ [])))

abbrev pub productions : Symbol → List Production
productions (s.Take x) = production x [] ∷ []
productions (s.Expr m) = expr_productions m
productions (s.Tail m u) = tail_of m u operators
productions s.Seal = []
productions s.File = production t.TheoryWord (s.Take t.Uident ∷ s.Decls ∷ s.File ∷ [])
    ∷ production t.ModuleWord (s.Take t.Uident ∷ s.Decls ∷ s.File ∷ []) ∷ []
productions s.Decls = production t.EndWord []
    ∷ production t.ScopeWord (s.Take t.Uident ∷ s.Decls ∷ s.Decls ∷ [])
    ∷ production t.TypeWord (s.Take t.Lident ∷ s.Tvars ∷ s.Decls ∷ [])
    ∷ production t.FunctionWord
    (s.Op ∷ s.Params ∷ s.Take t.Colon ∷ s.TypeOf ∷ s.Body ∷ s.Decls ∷ [])
    ∷ production t.PredicateWord (s.Op ∷ s.Params ∷ s.Body ∷ s.Decls ∷ [])
    ∷ production t.ConstantWord (s.Op ∷ s.Take t.Colon ∷ s.TypeOf ∷ s.Value ∷ s.Decls ∷ [])
    ∷ production t.InductiveWord (s.Op ∷ s.Params ∷ s.Take t.Equal ∷ s.Clause ∷ s.Decls ∷ [])
    ∷ production t.AxiomWord (s.Ident ∷ s.Take t.Colon ∷ s.Expr 0 ∷ s.Decls ∷ [])
    ∷ production t.LemmaWord (s.Ident ∷ s.Take t.Colon ∷ s.Expr 0 ∷ s.Decls ∷ [])
    ∷ production t.GoalWord (s.Ident ∷ s.Take t.Colon ∷ s.Expr 0 ∷ s.Decls ∷ [])
    ∷ production t.UseWord (s.Used ∷ s.Decls ∷ [])
    ∷ production t.CloneWord (s.Cloned ∷ s.Decls ∷ []) ∷ []
productions s.Tvars = production t.TyVar (s.Tvars ∷ []) ∷ production t.Equal (s.Typedef ∷ []) ∷ []
productions s.Typedef = production t.TyVar [] ∷ production t.Lident (s.Targs ∷ [])
    ∷ production t.LParen (s.Ttuple ∷ []) ∷ production t.Uident (s.Upper ∷ [])
    ∷ production t.Bar (s.Take t.Uident ∷ s.Fields ∷ [])
    ∷ production t.LBrace (s.RecordField ∷ s.RecordRest ∷ []) ∷ []
productions s.Upper =
    (production t.Dot (s.Qlid ∷ s.Targs ∷ []) ∷ []) ++ with_symbols_after fields_productions []
productions s.Algvars = production t.TyVar (s.Algvars ∷ []) ∷ production t.Equal (s.Con ∷ []) ∷ []
productions s.Con =
    production t.Uident (s.Fields ∷ []) ∷ production t.Bar (s.Take t.Uident ∷ s.Fields ∷ [])
    ∷ production t.LBrace (s.RecordField ∷ s.RecordRest ∷ []) ∷ []
productions s.RecordField = record_field_productions
productions s.RecordRest =
    production t.RBrace (s.Algs ∷ []) ∷ production t.Semi (s.RecordNext ∷ []) ∷ []
productions s.RecordNext = (production t.RBrace (s.Algs ∷ []) ∷ [])
    ++ with_symbols_after record_field_productions (s.RecordRest ∷ [])
productions s.Algs = production t.WithWord (s.Take t.Lident ∷ s.Algvars ∷ []) ∷ []
productions s.Op = op_productions
productions s.Opname = production t.Equal (s.Opend ∷ []) ∷ production t.Minus (s.Opend ∷ [])
    ∷ production t.Operator1 (s.Opend ∷ []) ∷ production t.Operator2 (s.Opend ∷ [])
    ∷ production t.Operator3 (s.Opend ∷ []) ∷ production t.Operator4 (s.Opend ∷ [])
    ∷ production t.PrefixOperator (s.Opend ∷ []) ∷ []
productions s.Opend = production t.RParen [] ∷ production t.Wild (s.Take t.RParen ∷ []) ∷ []
productions s.Ident = production t.Lident [] ∷ production t.Uident [] ∷ []
productions s.Param = param_productions
productions s.Params = with_symbols_after param_productions (s.Params ∷ [])
productions s.Pparen =
    (production t.Lident (s.Pname ∷ []) ∷ []) ++ with_symbols_after ttuple_productions []
productions s.Pname = ((production t.Colon (s.TypeOf ∷ s.Take t.RParen ∷ [])
    ∷ production t.Lident (s.Pname ∷ []) ∷ [])
    ++ with_symbols_after atype_productions (s.Targs ∷ s.Tmore ∷ []))
    ++ with_symbols_after tmore_productions []
productions s.Body = production t.Equal (s.Expr 0 ∷ s.Members ∷ []) ∷ []
productions s.Members = production t.WithWord (s.Op ∷ s.Params ∷ s.Member ∷ []) ∷ []
productions s.Member = production t.Equal (s.Expr 0 ∷ s.Members ∷ [])
    ∷ production t.Colon (s.TypeOf ∷ s.Take t.Equal ∷ s.Expr 0 ∷ s.Members ∷ []) ∷ []
productions s.Value = production t.Equal (s.Expr 0 ∷ []) ∷ []
productions s.Clause = production t.Lident (s.Take t.Colon ∷ s.Expr 0 ∷ s.Clauses ∷ [])
    ∷ production t.Uident (s.Take t.Colon ∷ s.Expr 0 ∷ s.Clauses ∷ [])
    ∷ production t.Bar (s.Ident ∷ s.Take t.Colon ∷ s.Expr 0 ∷ s.Clauses ∷ []) ∷ []
productions s.Clauses = production t.Bar (s.Ident ∷ s.Take t.Colon ∷ s.Expr 0 ∷ s.Clauses ∷ [])
    ∷ production t.WithWord (s.Op ∷ s.Params ∷ s.Take t.Equal ∷ s.Clause ∷ []) ∷ []
productions s.Used = production t.ExportWord (s.Path ∷ [])
    ∷ production t.ImportWord (s.Path ∷ s.Renamed ∷ [])
    ∷ production t.Lident (s.Take t.Dot ∷ s.Path ∷ s.Renamed ∷ [])
    ∷ production t.Uident (s.Renamed ∷ []) ∷ []
productions s.Cloned = production t.ExportWord (s.Path ∷ s.Subst ∷ [])
    ∷ production t.ImportWord (s.Path ∷ s.Renamed ∷ s.Subst ∷ [])
    ∷ production t.Lident (s.Take t.Dot ∷ s.Path ∷ s.Renamed ∷ s.Subst ∷ [])
    ∷ production t.Uident (s.Renamed ∷ s.Subst ∷ []) ∷ []
productions s.Path = production t.Lident (s.Take t.Dot ∷ s.Path ∷ []) ∷ production t.Uident [] ∷ []
productions s.Renamed = production t.AsWord (s.Take t.Uident ∷ []) ∷ []
productions s.Subst = production t.WithWord (s.Elem ∷ s.Elems ∷ []) ∷ []
productions s.Elems = production t.Comma (s.Elem ∷ s.Elems ∷ []) ∷ []
productions s.Elem = production t.TypeWord (s.Qlid ∷ s.Elvars ∷ [])
    ∷ production t.FunctionWord (s.Qop ∷ s.Take t.Equal ∷ s.Qop ∷ [])
    ∷ production t.ConstantWord (s.Qop ∷ s.Take t.Equal ∷ s.Qop ∷ [])
    ∷ production t.PredicateWord (s.Qop ∷ s.Take t.Equal ∷ s.Qop ∷ [])
    ∷ production t.LemmaWord (s.Qid ∷ []) ∷ production t.GoalWord (s.Qid ∷ [])
    ∷ production t.AxiomWord (s.Axioms ∷ []) ∷ []
productions s.Axioms = (production t.Dot [] ∷ []) ++ with_symbols_after qid_productions []
productions s.Elvars = production t.TyVar (s.Elvars ∷ []) ∷ production t.Equal (s.TypeOf ∷ []) ∷ []
productions s.Qlid = qlid_productions
productions s.Qop =
    (production t.Uident (s.Take t.Dot ∷ s.Qop ∷ []) ∷ []) ++ with_symbols_after op_productions []
productions s.Qid = qid_productions
productions s.Qids = production t.Dot (s.Qid ∷ []) ∷ []
productions s.TypeOf = type_productions
productions s.Atype = atype_productions
productions s.Targs = with_symbols_after atype_productions (s.Targs ∷ [])
productions s.Ttuple = ttuple_productions
productions s.Tmore = tmore_productions
productions s.Pat = pat_productions
productions s.AsPart = production t.AsWord (s.Take t.Lident ∷ []) ∷ []
productions s.Quids = production t.Dot (s.Take t.Uident ∷ s.Quids ∷ []) ∷ []
productions s.Ptuple =
    (production t.RParen [] ∷ []) ++ with_symbols_after pat_productions (s.Pmore ∷ [])
productions s.Pmore = production t.RParen [] ∷ production t.Comma (s.Pat ∷ s.Pmore ∷ []) ∷ []
productions s.Patoms = with_symbols_after patom_productions (s.Patoms ∷ [])
productions s.GroupRest = production t.RParen (s.Dots ∷ [])
    ∷ production t.Comma (s.Expr 0 ∷ s.More ∷ s.Dots ∷ [])
    ∷ production t.Colon (s.TypeOf ∷ s.Take t.RParen ∷ s.Dots ∷ []) ∷ []
productions s.More = production t.RParen [] ∷ production t.Comma (s.Expr 0 ∷ s.More ∷ []) ∷ []
productions s.Scrutinees =
    production t.Comma (s.Expr 0 ∷ s.Scrutinees ∷ []) ∷ production t.WithWord (s.Branch ∷ []) ∷ []
productions s.Branch =
    (production t.Bar (s.Pat ∷ s.Arm ∷ []) ∷ []) ++ with_symbols_after pat_productions (s.Arm ∷ [])
productions s.Arm = production t.Comma (s.Pat ∷ s.Arm ∷ []) ∷ production t.Bar (s.Pat ∷ s.Arm ∷ [])
    ∷ production t.Arrow (s.Expr 0 ∷ s.Branches ∷ []) ∷ []
productions s.Branches = production t.Bar (s.Pat ∷ s.Arm ∷ []) ∷ production t.EndWord [] ∷ []
productions s.Letpats = production t.Comma (s.Pat ∷ s.Letpats ∷ [])
    ∷ production t.Equal (s.Expr 0 ∷ s.Take t.InWord ∷ s.Expr 0 ∷ s.Seal ∷ []) ∷ []
productions s.Binder = (production t.Lident (s.Binder ∷ [])
    ∷ production t.Colon (s.TypeOf ∷ s.Binders ∷ []) ∷ [])
    ++ with_symbols_after binders_productions []
productions s.Binders = binders_productions
productions s.Trigger = production t.Comma (s.Expr 0 ∷ s.Trigger ∷ [])
    ∷ production t.Bar (s.Expr 0 ∷ s.Trigger ∷ [])
    ∷ production t.RBrack (s.Take t.Dot ∷ s.Expr 0 ∷ s.Seal ∷ []) ∷ []
productions s.OpenForm = open_productions
productions s.Fields = fields_productions
productions s.Patom = patom_productions
productions s.Prim = prim_productions
productions s.PatFields = fields_end s.PatField
productions s.PatField = field_productions (s.Take t.Equal ∷ s.Pat ∷ s.PatFields ∷ [])
productions s.ExprFields = fields_end s.ExprField
productions s.ExprField = field_productions (s.Take t.Equal ∷ s.Expr 0 ∷ s.ExprFields ∷ [])
productions s.Dots = dots_productions
productions s.Applied = dots_productions ++ args_productions
productions (s.HeadRest b) = head_rest_productions b
productions (s.Head b) = head_productions b
productions s.Scoped = production t.Dot (s.Qhead ∷ []) ∷ []
productions s.Qhead = production t.Lident [] ∷ production t.Uident (s.Scoped ∷ [])
    ∷ production t.StarName [] ∷ production t.LParen (s.Opname ∷ []) ∷ []
productions s.Args = args_productions
productions s.Atom = atom_productions
productions s.Hparen =
    (production t.RParen (s.Dots ∷ []) ∷ production t.Equal (s.Opend ∷ s.Args ∷ [])
    ∷ production t.Operator1 (s.Opend ∷ s.Args ∷ [])
    ∷ production t.Operator2 (s.Opend ∷ s.Args ∷ [])
    ∷ production t.Operator3 (s.Opend ∷ s.Args ∷ [])
    ∷ production t.Operator4 (s.Opend ∷ s.Args ∷ []) ∷ production t.Minus (s.Hminus ∷ [])
    ∷ production t.PrefixOperator (s.Hminus ∷ []) ∷ [])
    ++ with_symbols_after (expr_productions 0) (s.GroupRest ∷ [])
productions s.Hminus = (production t.RParen (s.Args ∷ [])
    ∷ production t.Wild (s.Take t.RParen ∷ s.Args ∷ []) ∷ [])
    ++ with_symbols_after (expr_productions 8) (s.Tail 0 8 ∷ s.GroupRest ∷ [])
productions s.Aparen = (production t.RParen (s.Dots ∷ []) ∷ production t.Equal (s.Opend ∷ [])
    ∷ production t.Operator1 (s.Opend ∷ []) ∷ production t.Operator2 (s.Opend ∷ [])
    ∷ production t.Operator3 (s.Opend ∷ []) ∷ production t.Operator4 (s.Opend ∷ [])
    ∷ production t.Minus (s.Aminus ∷ []) ∷ production t.PrefixOperator (s.Aminus ∷ []) ∷ [])
    ++ with_symbols_after (expr_productions 0) (s.GroupRest ∷ [])
productions s.Aminus = (production t.RParen [] ∷ production t.Wild (s.Take t.RParen ∷ []) ∷ [])
    ++ with_symbols_after (expr_productions 8) (s.Tail 0 8 ∷ s.GroupRest ∷ [])

-- a shortest string
abbrev pub shortest : Symbol → List Terminal
shortest (s.Take x) = x ∷ []
shortest (s.Expr m) = t.StarName ∷ []
shortest s.Decls = t.EndWord ∷ []
shortest s.Typedef = t.Lident ∷ []
shortest s.Algvars = t.Equal ∷ t.Uident ∷ []
shortest s.Con = t.Uident ∷ []
shortest s.RecordField = t.Lident ∷ t.Colon ∷ t.Lident ∷ []
shortest s.RecordRest = t.RBrace ∷ []
shortest s.RecordNext = t.RBrace ∷ []
shortest s.PatFields = t.RBrace ∷ []
shortest s.PatField = t.RBrace ∷ []
shortest s.ExprFields = t.RBrace ∷ []
shortest s.ExprField = t.RBrace ∷ []
shortest s.Op = t.StarName ∷ []
shortest s.Opname = t.Minus ∷ t.RParen ∷ []
shortest s.Opend = t.RParen ∷ []
shortest s.Ident = t.Lident ∷ []
shortest s.Param = t.Lident ∷ []
shortest s.Pparen = t.RParen ∷ []
shortest s.Pname = t.RParen ∷ []
shortest s.Member = t.Equal ∷ t.StarName ∷ []
shortest s.Clause = t.Lident ∷ t.Colon ∷ t.StarName ∷ []
shortest s.Used = t.Uident ∷ []
shortest s.Cloned = t.Uident ∷ []
shortest s.Path = t.Uident ∷ []
shortest s.Elem = t.AxiomWord ∷ t.Dot ∷ []
shortest s.Axioms = t.Dot ∷ []
shortest s.Elvars = t.Equal ∷ t.Lident ∷ []
shortest s.Qlid = t.Lident ∷ []
shortest s.Qop = t.StarName ∷ []
shortest s.Qid = t.Lident ∷ []
shortest s.TypeOf = t.Lident ∷ []
shortest s.Atype = t.Lident ∷ []
shortest s.Ttuple = t.RParen ∷ []
shortest s.Tmore = t.RParen ∷ []
shortest s.Pat = t.Lident ∷ []
shortest s.Ptuple = t.RParen ∷ []
shortest s.Pmore = t.RParen ∷ []
shortest s.GroupRest = t.RParen ∷ []
shortest s.More = t.RParen ∷ []
shortest s.Scrutinees = t.WithWord ∷ t.Lident ∷ t.Arrow ∷ t.StarName ∷ t.EndWord ∷ []
shortest s.Branch = t.Lident ∷ t.Arrow ∷ t.StarName ∷ t.EndWord ∷ []
shortest s.Arm = t.Arrow ∷ t.StarName ∷ t.EndWord ∷ []
shortest s.Branches = t.EndWord ∷ []
shortest s.Letpats = t.Equal ∷ t.StarName ∷ t.InWord ∷ t.StarName ∷ []
shortest s.Binder = t.Dot ∷ t.StarName ∷ []
shortest s.Binders = t.Dot ∷ t.StarName ∷ []
shortest s.Trigger = t.RBrack ∷ t.Dot ∷ t.StarName ∷ []
shortest s.OpenForm = t.ExistsWord ∷ t.Lident ∷ t.Dot ∷ t.StarName ∷ []
shortest s.Patom = t.Lident ∷ []
shortest s.Prim = t.StarName ∷ []
shortest (s.Head b) = t.StarName ∷ []
shortest s.Qhead = t.StarName ∷ []
shortest s.Atom = t.StarName ∷ []
shortest s.Hparen = t.RParen ∷ []
shortest s.Hminus = t.RParen ∷ []
shortest s.Aparen = t.RParen ∷ []
shortest s.Aminus = t.RParen ∷ []
shortest _ = []

abbrev pub has_no_terminal : List Terminal → Bool
has_no_terminal [] = true
has_no_terminal _ = false

-- a rule may be empty where its shortest string is
abbrev pub optional : Symbol → Bool
optional s = has_no_terminal (shortest s)

-- what may be left of a rule on the stack when its tokens are taken
abbrev pub leftovers : Symbol → List Symbol
leftovers (s.Expr m) = s.Applied ∷ s.Tail 0 9 ∷ []
leftovers (s.Tail m u) = s.Applied ∷ s.Tail 0 9 ∷ []
leftovers s.File = s.File ∷ []
leftovers s.Tvars = s.Algs ∷ s.Fields ∷ s.Targs ∷ s.Tvars ∷ s.Upper ∷ []
leftovers s.Typedef = s.Algs ∷ s.Fields ∷ s.Targs ∷ s.Upper ∷ []
leftovers s.Upper = s.Algs ∷ s.Fields ∷ s.Targs ∷ s.Upper ∷ []
leftovers s.Algvars = s.Algs ∷ s.Fields ∷ []
leftovers s.Con = s.Algs ∷ s.Fields ∷ []
leftovers s.RecordField = s.Targs ∷ []
leftovers s.RecordRest = s.Algs ∷ s.Fields ∷ []
leftovers s.RecordNext = s.Algs ∷ s.Fields ∷ s.Targs ∷ []
leftovers s.Algs = s.Algs ∷ s.Fields ∷ []
leftovers s.Params = s.Params ∷ []
leftovers s.Body = s.Applied ∷ s.Body ∷ s.Members ∷ s.Tail 0 9 ∷ []
leftovers s.Members = s.Applied ∷ s.Members ∷ s.Tail 0 9 ∷ []
leftovers s.Member = s.Applied ∷ s.Members ∷ s.Tail 0 9 ∷ []
leftovers s.Value = s.Applied ∷ s.Tail 0 9 ∷ s.Value ∷ []
leftovers s.Clause = s.Applied ∷ s.Clauses ∷ s.Tail 0 9 ∷ []
leftovers s.Clauses = s.Applied ∷ s.Clauses ∷ s.Tail 0 9 ∷ []
leftovers s.Used = s.Renamed ∷ []
leftovers s.Cloned = s.Elems ∷ s.Qids ∷ s.Renamed ∷ s.Subst ∷ s.Targs ∷ []
leftovers s.Renamed = s.Renamed ∷ []
leftovers s.Subst = s.Elems ∷ s.Qids ∷ s.Subst ∷ s.Targs ∷ []
leftovers s.Elems = s.Elems ∷ s.Qids ∷ s.Targs ∷ []
leftovers s.Elem = s.Qids ∷ s.Targs ∷ []
leftovers s.Axioms = s.Qids ∷ []
leftovers s.Elvars = s.Targs ∷ []
leftovers s.Qid = s.Qids ∷ []
leftovers s.Qids = s.Qids ∷ []
leftovers s.TypeOf = s.Targs ∷ []
leftovers s.Targs = s.Targs ∷ []
leftovers s.Pat = s.AsPart ∷ s.Patoms ∷ s.Quids ∷ []
leftovers s.AsPart = s.AsPart ∷ []
leftovers s.Quids = s.Quids ∷ []
leftovers s.Patoms = s.Patoms ∷ s.Quids ∷ []
leftovers s.Letpats = s.Applied ∷ s.Tail 0 9 ∷ []
leftovers s.Binder = s.Applied ∷ s.Tail 0 9 ∷ []
leftovers s.Binders = s.Applied ∷ s.Tail 0 9 ∷ []
leftovers s.Trigger = s.Applied ∷ s.Tail 0 9 ∷ []
leftovers s.OpenForm = s.Applied ∷ s.Tail 0 9 ∷ []
leftovers s.Fields = s.Algs ∷ s.Fields ∷ []
leftovers s.Patom = s.Quids ∷ []
leftovers s.Prim = s.Applied ∷ []
leftovers s.Dots = s.Dots ∷ []
leftovers s.Applied = s.Applied ∷ []
leftovers (s.HeadRest b) = s.HeadRest b ∷ []
leftovers (s.Head b) = s.HeadRest b ∷ []
leftovers s.Scoped = s.Scoped ∷ []
leftovers s.Qhead = s.Scoped ∷ []
leftovers s.Args = s.Args ∷ s.Dots ∷ []
leftovers s.Atom = s.Dots ∷ []
leftovers s.Hparen = s.Applied ∷ []
leftovers s.Hminus = s.Applied ∷ []
leftovers s.Aparen = s.Dots ∷ []
leftovers s.Aminus = s.Dots ∷ []
leftovers s.GroupRest = s.Dots ∷ []
leftovers _ = []
