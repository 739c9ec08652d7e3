-- What each symbol is read as, and the rows that read it.
use Rattle.std.specs.Prelude.{◌++◌}
use Rattle.grammar.specs.reading.Common.{Algebraic, Bool, Option, refl, sym, ◌∙◌, append_assoc, Terminal, Symbol, Name, Word, Called, SyntaxForm, SyntaxForms, Branches, SyntaxTree, SyntaxTrees, Path, SyntaxDeclarations, Element, Member, ParamGroup, SyntaxTheory}
use Rattle.std.proofs.Common.{◌≡◌, ℕ, List, [], ◌∷◌}
use Rattle.grammar.specs.declared.symbols.Symbol.TheVariants as s
use Rattle.grammar.specs.reading.Parts.{FormFields, TreeFields, NameRest, ArmPart, BinderPart, BoundPart, BranchPart, CasesPart, Chain, Closing, Dotted, Headed, LetPart, Minus, OperatorName, Paren, Scoped, TermsPart, UpperRest}
use Rattle.grammar.specs.reading.DeclParts.{AlgPart, BodyPart, ClausePart, ClausesPart, ClonedPart, ConPart, FieldsPart, MemberPart, NamePart, ParamPart, TvarsPart, TypePart, UpperPart, UsedPart, VarsPart, RecordPart}

-- what a symbol is read as
abbrev pub Val : Symbol → Type 0
Val (s.Take x) = Name
Val s.Qlid = Dotted
Val s.TypeOf = SyntaxForm
Val s.Atype = SyntaxForm
Val s.Targs = SyntaxForms
Val s.Ttuple = SyntaxForms
Val s.Tmore = SyntaxForms
Val s.Quids = Option Dotted
Val s.Pat = SyntaxForm
Val s.Patom = SyntaxForm
Val s.Patoms = SyntaxForms
Val s.Ptuple = SyntaxForms
Val s.Pmore = SyntaxForms
Val s.AsPart = Option Name
Val (s.Expr m) = SyntaxTree
Val (s.Tail m u) = Chain
Val s.Prim = SyntaxTree
Val s.Atom = SyntaxTree
Val s.Args = SyntaxTrees
Val (s.HeadRest b) = UpperRest
Val (s.Head b) = Headed
Val s.Scoped = Option Scoped
Val s.Qhead = Scoped
Val s.Applied = NameRest
Val s.Dots = List Called
Val s.PatFields = FormFields
Val s.PatField = FormFields
Val s.ExprFields = TreeFields
Val s.ExprField = TreeFields
Val s.Opname = OperatorName
Val s.Opend = Bool
Val s.Hparen = Paren
Val s.Aparen = Paren
Val s.Hminus = Minus
Val s.Aminus = Minus
Val s.GroupRest = Closing
Val s.More = SyntaxTrees
Val s.OpenForm = SyntaxTree
Val s.Scrutinees = CasesPart
Val s.Branch = BranchPart
Val s.Arm = ArmPart
Val s.Branches = Branches
Val s.Letpats = LetPart
Val s.Binder = BinderPart
Val s.Binders = BoundPart
Val s.Trigger = TermsPart
Val s.File = List SyntaxTheory
Val s.Decls = SyntaxDeclarations
Val s.Tvars = TvarsPart
Val s.Typedef = TypePart
Val s.Upper = UpperPart
Val s.Fields = FieldsPart
Val s.Algvars = AlgPart
Val s.Con = ConPart
Val s.RecordField = ParamGroup
Val s.RecordRest = RecordPart
Val s.RecordNext = RecordPart
Val s.Algs = List Algebraic
Val s.Op = Called
Val s.Ident = Called
Val s.Param = ParamGroup
Val s.Params = List ParamGroup
Val s.Pparen = ParamPart
Val s.Pname = NamePart
Val s.Body = BodyPart
Val s.Members = List Member
Val s.Member = MemberPart
Val s.Value = Option SyntaxTree
Val s.Clause = ClausePart
Val s.Clauses = ClausesPart
Val s.Used = UsedPart
Val s.Cloned = ClonedPart
Val s.Path = Path
Val s.Renamed = Option Name
Val s.Subst = List Element
Val s.Elems = List Element
Val s.Elem = Element
Val s.Axioms = Option Called
Val s.Elvars = VarsPart
Val s.Qop = Called
Val s.Qid = Called
Val s.Qids = Option Called
Val s.Seal = Unit {0}

abbrev pub Vals : List Symbol → Type 0
Vals [] = Unit {0}
Vals (s ∷ k) = Val s × Vals k

abbrev pub front : (ss k : List Symbol) → Vals (ss ++ k) → Vals ss
front [] k vs = tt
front (s ∷ ss) k vs = (vs.0, front ss k vs.1)

abbrev pub back : (ss k : List Symbol) → Vals (ss ++ k) → Vals k
back [] k vs = vs
back (s ∷ ss) k vs = back ss k vs.1

-- A row reads its token, number i, and the values of what comes after it as a value of the rule.
pub record ReadingRow (s : Symbol) : Type 0 where
  pub first : Terminal
  pub following : List Symbol → List Symbol
  pub symbols : List Symbol
  pub flat : (k : List Symbol) → following k ≡ symbols ++ k
  pub act : (k : List Symbol) → ℕ → Word → Vals (following k) → Val s × Vals k

abbrev pub row : (s : Symbol) → Terminal → (ss : List Symbol) → (ℕ → Word → Vals ss → Val s)
    → ReadingRow s
row s x ss f = record {
  first = x;
  following = λ k. ss ++ k;
  symbols = ss;
  flat = λ k. refl;
  act =
      λ k i w vs. (f i w (front ss k vs), back ss k vs);
}

-- What another rule reads, and symbols after it.
abbrev pub then_row : (s a : Symbol) (ss : List Symbol) → (Val a → Vals ss → Val s) → ReadingRow a
    → ReadingRow s
then_row s a ss f r = record {
  first = r.first;
  following = λ k. r.following (ss ++ k);
  symbols =
      r.symbols ++ ss;
  flat = λ k. r.flat (ss ++ k) ∙ sym (append_assoc r.symbols ss k);
  act =
      λ k i w vs. joined k (r.act (ss ++ k) i w vs);
}
  where
    joined : (k : List Symbol) → Val a × Vals (ss ++ k) → Val s × Vals k
    joined k v = (f v.0 (front ss k v.1), back ss k v.1)

abbrev pub extend : (s a : Symbol) (ss : List Symbol) → (Val a → Vals ss → Val s)
    → List (ReadingRow a) → List (ReadingRow s)
extend s a ss f [] = []
extend s a ss f (r ∷ rs) = then_row s a ss f r ∷ extend s a ss f rs
